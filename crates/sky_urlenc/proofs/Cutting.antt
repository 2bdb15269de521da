-- The first piece of a text, and those after it.
use Rattle.std.proofs.Common.{◌≡◌, inl, inr, ℕ, ◌+◌, ◌-◌, ◌<◌, cond, List, [], ◌∷◌, length, take, drop, Some, None, sym, subst, ◌∙◌, ap, arith, length-drop}
use Rattle.std.specs.Prelude.{◌==◌, filter}
use Rattle.std.specs.List.{slice_split, position_or_len}
use Rattle.std.proofs.lemmas.Bool.{cond-true, cond-false, cases_lt, lt-ltb, le-ltb}
use Rattle.std.proofs.lemmas.List.{length-take}
use Rattle.std.proofs.lemmas.List.Sums.{fails_before_first}
use Rattle.std.proofs.lemmas.List.Splits.{slice_split_first, slice_split_none}
use Rattle.form_urlencoded.specs.Form.{ampersand, is_nonempty}
use Rattle.sky_urlenc.specs.Cuts.{first_piece, first_piece_at}
use Rattle.sky_urlenc.specs.ReadRow.{in_places, pieces_from}

-- the pieces of a text are its first one, if that isn't empty, and those after it
abbrev StartsWith : ℕ → List ℕ → List ℕ × List ℕ → Type 0
StartsWith start text cut =
    let behind = pieces_from (start + (length text - length cut.1)) cut.1 in
    pieces_from start text ≡ cond (is_nonempty cut.0) (record { start = start; bytes = cut.0 } ∷ behind) behind

cut_at : (start : ℕ) (text : List ℕ) (place : ℕ) → place < length text → slice_split (λ b. b == ampersand) text ≡ take place text ∷ slice_split (λ b. b == ampersand) (drop (place + 1) text)
    → StartsWith start text (take place text, drop (place + 1) text)
cut_at start text place within split =
    let behind : start + length (take place text) + 1 ≡ start + (length text - length (drop (place + 1) text)) = omega (arith, length-take place text, length-drop (place + 1) text) in
    ap (λ parts. filter (λ piece. is_nonempty piece.bytes) (in_places start parts)) split
    ∙ ap (λ n. cond (is_nonempty (take place text)) (record { start = start; bytes = take place text } ∷ pieces_from n (drop (place + 1) text)) (pieces_from n (drop (place + 1) text))) behind

uncut : (start : ℕ) (text : List ℕ) → slice_split (λ b. b == ampersand) text ≡ text ∷ [] → StartsWith start text (text, [])
uncut start text whole = ap (λ parts. filter (λ piece. is_nonempty piece.bytes) (in_places start parts)) whole

starts_with_first : (start : ℕ) (text : List ℕ) → StartsWith start text (first_piece text)
starts_with_first start text =
    let place = position_or_len (λ b. b == ampersand) text in
    elim (cases_lt place (length text)) [
      | inl within ↦
          subst (λ found. StartsWith start text (first_piece_at found text)) (sym (cond-true _ (Some place) None (lt-ltb place (length text) within)))
          (cut_at start text place within (slice_split_first (λ b. b == ampersand) text 0 within))
      | inr behind ↦
          subst (λ found. StartsWith start text (first_piece_at found text)) (sym (cond-false _ (Some place) None (le-ltb place (length text) behind)))
          (uncut start text (slice_split_none (λ b. b == ampersand) text (λ k d inside. fails_before_first (λ b. b == ampersand) text k d (omega arith))))
    ]

pub pieces_first : (start : ℕ) (text before behind : List ℕ) → (before, behind) ≡ first_piece text → 0 < length before
    → pieces_from start text ≡ record { start = start; bytes = before } ∷ pieces_from (start + (length text - length behind)) behind
pieces_first start text before behind cut some =
    subst (StartsWith start text) (sym cut) (starts_with_first start text) ∙ cond-true _ _ _ (lt-ltb 0 (length before) some)
