-- The bytes of names.
use Rattle.std.proofs.Common.{◌≡◌, ℕ, ◌+◌, ◌==◌, true, List, [], ◌∷◌, ◌++◌, take, drop, get_or, Some, refl, sym, ap, ◌∙◌, arith}
use Rattle.std.proofs.lemmas.Bool.{eqb-true}
use Rattle.std.proofs.lemmas.List.{drop_more, take-append-drop}
use Rattle.std.proofs.lemmas.List.Quantifiers.{position-Some}
use Rattle.std.specs.List.{list_all}
use Rattle.sky_model.specs.Kinds.{begins_name, continues_name, is_identifier, first_place}

begins_name-continues : (b : ℕ) → begins_name b ≡ true → continues_name b ≡ true
begins_name-continues b so = rw so refl

-- every byte of a name is allowed further on in one
pub list_all-is_identifier : (w : List ℕ) → is_identifier w ≡ true → list_all continues_name w ≡ true
list_all-is_identifier [] so = refl
list_all-is_identifier (b ∷ bs) so = grind (arith, begins_name-continues b)

-- what is around the first byte of this kind, and that byte, are the word
pub around_first : (mark : ℕ) (w : List ℕ) (at : ℕ) → first_place mark w ≡ Some at → take at w ++ (mark ∷ drop (at + 1) w) ≡ w
around_first mark w at is =
    let found = position-Some (λ b. b == mark) w at 0 is in
    let here : get_or w at 0 ≡ mark = eqb-true (get_or w at 0) mark found.1 in
    ap (λ b. take at w ++ (b ∷ drop (at + 1) w)) (sym here) ∙ ap (λ bs. take at w ++ bs) (sym (drop_more w at 0 found.0)) ∙ take-append-drop at w
