use Rattle.std.proofs.Common.{◌≡◌, ◌==◌, ◌&&◌, not, true, ℕ, List, [], ◌+◌, take, refl, sym, ap, subst, ◌∙◌, arith}
use Rattle.std.specs.List.{list_all}
use Rattle.sky_model.specs.Kinds.{is_text_byte}
use Rattle.sky_script.proofs.KindLemmas.{as_written, in_characters_utf8}
use Rattle.sky_script.proofs.TextLemmas.{cut_first, byte_at, place_within, next_within, all_before, cut_byte, cut_after, two_more}
use Rattle.sky_script.proofs.WordLemmas.{slice_front, after_first, first_in_quotes, ends_line, ends_word}
use Rattle.sky_script.proofs.words.split_text.Goals as goal

pub range_from-inside-requires : goal.range_from-inside-requires
range_from-inside-requires c = λ _.
    let first = c.in-Some-eq39-default in
    let begins = sym c.as_bytes.ensures.value ∙ first.ensures.cases.0 in
    cut_first first.field-0-0.now first.field-0-1.now c.args.text.now begins (omega (arith, first.field-0-0-test)) c.utf8.text

pub range-requires-clause-end_boundary : goal.range-requires-clause-end_boundary
range-requires-clause-end_boundary c =
    let inside : List ℕ = c.range_from-inside.result.now in
    let bytes : List ℕ = c.as_bytes-bytes.result.now in
    let same : bytes ≡ inside = c.as_bytes-bytes.ensures.value in
    let end : ℕ = c.text_end-end.result in
    let within = place_within bytes inside end same c.text_end-end.ensures.within c.if-end-bytes.false in
    let closes = byte_at bytes inside end 39 same c.if-bytes-end-ne39.false in
    cut_byte inside end 39 within closes (omega arith)

pub returns-then-end-bytes-2-clause-split : goal.returns-then-end-bytes-2-clause-split
returns-then-end-bytes-2-clause-split c =
    let first = c.in-Some-eq39-default in
    let inside : List ℕ = c.range_from-inside.result.now in
    let bytes : List ℕ = c.as_bytes-bytes.result.now in
    let same : bytes ≡ inside = c.as_bytes-bytes.ensures.value in
    let end : ℕ = c.text_end-end.result in
    let begins = after_first c.args.text.now first.field-0-1.now inside first.field-0-0.now 39 (sym c.as_bytes.ensures.value ∙ first.ensures.cases.0) first.field-0-0-test c.range_from-inside.ensures.value in
    let all : list_all (λ b. not (b == 39) && is_text_byte b) (take end inside) ≡ true = subst (λ bs. list_all (λ b. not (b == 39) && is_text_byte b) (take end bs) ≡ true) same c.text_end-end.ensures.before in
    let within = place_within bytes inside end same c.text_end-end.ensures.within c.if-end-bytes.false in
    let closes = byte_at bytes inside end 39 same c.if-bytes-end-ne39.false in
    rw (c.range.ensures.value ∙ slice_front inside end) (first_in_quotes c.args.text.now inside end [] begins all within closes (ends_line inside (end + 1) (all_before bytes inside (end + 1) same c.if-end-bytes-2.true)))

pub returns-then-end-bytes-2-clause-text : goal.returns-then-end-bytes-2-clause-text
returns-then-end-bytes-2-clause-text c =
    let inside : List ℕ = c.range_from-inside.result.now in
    let bytes : List ℕ = c.as_bytes-bytes.result.now in
    let same : bytes ≡ inside = c.as_bytes-bytes.ensures.value in
    let end : ℕ = c.text_end-end.result in
    let is = c.range.ensures.value ∙ slice_front inside end in
    let all : list_all (λ b. not (b == 39) && is_text_byte b) c.range.result.now ≡ true = ap (list_all (λ b. not (b == 39) && is_text_byte b)) (is ∙ ap (take end) (sym same)) ∙ c.text_end-end.ensures.before in
    rw (as_written c.range.result.now all) (in_characters_utf8 c.range.result.now c.range.utf8)

pub bounds-bytes-end-2 : goal.bounds-bytes-end-2
bounds-bytes-end-2 c =
    let bytes = c.as_bytes-bytes.result.now in
    next_within bytes bytes c.text_end-end.result refl c.text_end-end.ensures.within c.if-end-bytes.false c.if-end-bytes-2.false

pub range-requires-2-clause-end_boundary : goal.range-requires-2-clause-end_boundary
range-requires-2-clause-end_boundary c =
    let inside : List ℕ = c.range_from-inside.result.now in
    let bytes : List ℕ = c.as_bytes-bytes.result.now in
    let same : bytes ≡ inside = c.as_bytes-bytes.ensures.value in
    let end : ℕ = c.text_end-end.result in
    let within = place_within bytes inside end same c.text_end-end.ensures.within c.if-end-bytes.false in
    let closes = byte_at bytes inside end 39 same c.if-bytes-end-ne39.false in
    cut_byte inside end 39 within closes (omega arith)

pub range_from-requires : goal.range_from-requires
range_from-requires c = λ _.
    let inside : List ℕ = c.range_from-inside.result.now in
    let bytes : List ℕ = c.as_bytes-bytes.result.now in
    let same : bytes ≡ inside = c.as_bytes-bytes.ensures.value in
    let end : ℕ = c.text_end-end.result in
    let next = next_within bytes inside end same c.text_end-end.ensures.within c.if-end-bytes.false c.if-end-bytes-2.false in
    let space = byte_at bytes inside (end + 1) 32 same c.if-bytes-end-ne32.false in
    cut_after inside end 32 c.range_from-inside.utf8 next space (omega arith)

pub returns-clause-split : goal.returns-clause-split
returns-clause-split c =
    let first = c.in-Some-eq39-default in
    let inside : List ℕ = c.range_from-inside.result.now in
    let bytes : List ℕ = c.as_bytes-bytes.result.now in
    let same : bytes ≡ inside = c.as_bytes-bytes.ensures.value in
    let end : ℕ = c.text_end-end.result in
    let begins = after_first c.args.text.now first.field-0-1.now inside first.field-0-0.now 39 (sym c.as_bytes.ensures.value ∙ first.ensures.cases.0) first.field-0-0-test c.range_from-inside.ensures.value in
    let all : list_all (λ b. not (b == 39) && is_text_byte b) (take end inside) ≡ true = subst (λ bs. list_all (λ b. not (b == 39) && is_text_byte b) (take end bs) ≡ true) same c.text_end-end.ensures.before in
    let within = place_within bytes inside end same c.text_end-end.ensures.within c.if-end-bytes.false in
    let next = next_within bytes inside end same c.text_end-end.ensures.within c.if-end-bytes.false c.if-end-bytes-2.false in
    let closes = byte_at bytes inside end 39 same c.if-bytes-end-ne39.false in
    let space = byte_at bytes inside (end + 1) 32 same c.if-bytes-end-ne32.false in
    rw (c.range-2.ensures.value ∙ slice_front inside end, c.range_from.ensures.value) (first_in_quotes c.args.text.now inside end _ begins all within closes (ends_word inside (end + 1) (end + 2) (two_more end) next space))

pub returns-clause-text : goal.returns-clause-text
returns-clause-text c =
    let inside : List ℕ = c.range_from-inside.result.now in
    let bytes : List ℕ = c.as_bytes-bytes.result.now in
    let same : bytes ≡ inside = c.as_bytes-bytes.ensures.value in
    let end : ℕ = c.text_end-end.result in
    let is = c.range-2.ensures.value ∙ slice_front inside end in
    let all : list_all (λ b. not (b == 39) && is_text_byte b) c.range-2.result.now ≡ true = ap (list_all (λ b. not (b == 39) && is_text_byte b)) (is ∙ ap (take end) (sym same)) ∙ c.text_end-end.ensures.before in
    rw (as_written c.range-2.result.now all) (in_characters_utf8 c.range-2.result.now c.range-2.utf8)
