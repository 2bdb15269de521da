use Rattle.std.proofs.Common.{◌≡◌, true, ℕ, List, [], ◌+◌, take, refl, subst, sym, ap, ◌∙◌, arith}
use Rattle.std.specs.List.{list_all}
use Rattle.sky_model.specs.Kinds.{continues_name, is_name}
use Rattle.sky_script.proofs.SessionLemmas.{first_named}
use Rattle.sky_script.proofs.TextLemmas.{byte_at, place_within, next_within, all_before, cut_byte, cut_after, two_more, rest_shorter}
use Rattle.sky_script.proofs.WordLemmas.{slice_front, ends_line, ends_word}
use Rattle.sky_script.proofs.words.split_session.Goals as goal

pub range-requires-clause-end_boundary : goal.range-requires-clause-end_boundary
range-requires-clause-end_boundary c =
    let text : List ℕ = c.args.text.now in
    let bytes : List ℕ = c.as_bytes-bytes.result.now in
    let same : bytes ≡ text = c.as_bytes-bytes.ensures.value in
    let end : ℕ = c.name_end-end.result in
    let within = place_within bytes text end same c.name_end-end.ensures.within c.if-end-bytes.false in
    let colon = byte_at bytes text end 58 same c.if-bytes-end-ne58.false in
    cut_byte text end 58 within colon (omega arith)

pub returns-then-end-bytes-2-clause-split : goal.returns-then-end-bytes-2-clause-split
returns-then-end-bytes-2-clause-split c =
    let text : List ℕ = c.args.text.now in
    let bytes : List ℕ = c.as_bytes-bytes.result.now in
    let same : bytes ≡ text = c.as_bytes-bytes.ensures.value in
    let end : ℕ = c.name_end-end.result in
    let all : list_all continues_name (take end text) ≡ true = subst (λ bs. list_all continues_name (take end bs) ≡ true) same c.name_end-end.ensures.before in
    let within = place_within bytes text end same c.name_end-end.ensures.within c.if-end-bytes.false in
    let colon = byte_at bytes text end 58 same c.if-bytes-end-ne58.false in
    rw (c.range.ensures.value ∙ slice_front text end) (first_named text end [] all within colon (ends_line text (end + 1) (all_before bytes text (end + 1) same c.if-end-bytes-2.true)))

pub range-requires-2-clause-end_boundary : goal.range-requires-2-clause-end_boundary
range-requires-2-clause-end_boundary c =
    let text : List ℕ = c.args.text.now in
    let bytes : List ℕ = c.as_bytes-bytes.result.now in
    let same : bytes ≡ text = c.as_bytes-bytes.ensures.value in
    let end : ℕ = c.name_end-end.result in
    let within = place_within bytes text end same c.name_end-end.ensures.within c.if-end-bytes.false in
    let colon = byte_at bytes text end 58 same c.if-bytes-end-ne58.false in
    cut_byte text end 58 within colon (omega arith)

pub range_from-requires : goal.range_from-requires
range_from-requires c = λ _.
    let text : List ℕ = c.args.text.now in
    let bytes : List ℕ = c.as_bytes-bytes.result.now in
    let same : bytes ≡ text = c.as_bytes-bytes.ensures.value in
    let end : ℕ = c.name_end-end.result in
    let next = next_within bytes text end same c.name_end-end.ensures.within c.if-end-bytes.false c.if-end-bytes-2.false in
    let space = byte_at bytes text (end + 1) 32 same c.if-bytes-end-ne32.false in
    cut_after text end 32 c.utf8.text next space (omega arith)

pub returns-clause-split : goal.returns-clause-split
returns-clause-split c =
    let text : List ℕ = c.args.text.now in
    let bytes : List ℕ = c.as_bytes-bytes.result.now in
    let same : bytes ≡ text = c.as_bytes-bytes.ensures.value in
    let end : ℕ = c.name_end-end.result in
    let all : list_all continues_name (take end text) ≡ true = subst (λ bs. list_all continues_name (take end bs) ≡ true) same c.name_end-end.ensures.before in
    let within = place_within bytes text end same c.name_end-end.ensures.within c.if-end-bytes.false in
    let next = next_within bytes text end same c.name_end-end.ensures.within c.if-end-bytes.false c.if-end-bytes-2.false in
    let colon = byte_at bytes text end 58 same c.if-bytes-end-ne58.false in
    let space = byte_at bytes text (end + 1) 32 same c.if-bytes-end-ne32.false in
    rw (c.range-2.ensures.value ∙ slice_front text end, c.range_from.ensures.value) (first_named text end _ all within colon (ends_word text (end + 1) (end + 2) (two_more end) next space))

pub is_whole_name-requires : goal.is_whole_name-requires
is_whole_name-requires c = c.name_end-end.ensures.before

pub returns-then-end-bytes-2-clause-name : goal.returns-then-end-bytes-2-clause-name
returns-then-end-bytes-2-clause-name c =
    let end = c.name_end-end.result in
    ap is_name (c.range.ensures.value ∙ slice_front c.args.text.now end ∙ ap (take end) (sym c.as_bytes-bytes.ensures.value)) ∙ sym c.is_whole_name.ensures ∙ c.if-not-is_whole_name.false

pub returns-clause-name : goal.returns-clause-name
returns-clause-name c =
    let end = c.name_end-end.result in
    ap is_name (c.range-2.ensures.value ∙ slice_front c.args.text.now end ∙ ap (take end) (sym c.as_bytes-bytes.ensures.value)) ∙ sym c.is_whole_name.ensures ∙ c.if-not-is_whole_name.false

pub bounds-bytes-end-2 : goal.bounds-bytes-end-2
bounds-bytes-end-2 c =
    let bytes = c.as_bytes-bytes.result.now in
    next_within bytes bytes c.name_end-end.result refl c.name_end-end.ensures.within c.if-end-bytes.false c.if-end-bytes-2.false

pub returns-clause-shorter : goal.returns-clause-shorter
returns-clause-shorter c =
    let text : List ℕ = c.args.text.now in
    let next = next_within c.as_bytes-bytes.result.now text c.name_end-end.result c.as_bytes-bytes.ensures.value c.name_end-end.ensures.within c.if-end-bytes.false c.if-end-bytes-2.false in
    rest_shorter text _ c.name_end-end.result c.range_from.ensures.value next
