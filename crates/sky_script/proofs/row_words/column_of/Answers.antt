use Rattle.std.proofs.Common.{sym, ap, ◌∙◌, arith}
use Rattle.sky_model.specs.Kinds as kind
use Rattle.sky_script.proofs.TextLemmas.{cut_at, cut_behind}
use Rattle.sky_script.proofs.WordLemmas.{slice_front}
use Rattle.sky_script.proofs.row_words.column_of.Goals as goal

pub range-requires-clause-end_boundary : goal.range-requires-clause-end_boundary
range-requires-clause-end_boundary c =
    let found = ap (kind.first_place 58) (sym c.as_bytes.ensures.value) ∙ sym c.first_place.ensures ∙ c.in-Some.is in
    cut_at 58 c.args.word.now c.in-Some.colon (omega arith) found

pub range_from-requires : goal.range_from-requires
range_from-requires c = λ _.
    let found = ap (kind.first_place 58) (sym c.as_bytes.ensures.value) ∙ sym c.first_place.ensures ∙ c.in-Some.is in
    cut_behind 58 c.args.word.now c.in-Some.colon (omega arith) c.utf8.word found

pub returns-in-Some : goal.returns-in-Some
returns-in-Some c =
    let found = ap (kind.first_place 58) (sym c.as_bytes.ensures.value) ∙ sym c.first_place.ensures ∙ c.in-Some.is in
    rw found (rw (c.range.ensures.value ∙ slice_front c.args.word.now c.in-Some.colon, c.column_kind.ensures, c.range_from.ensures.value) at c.column_as.ensures)
