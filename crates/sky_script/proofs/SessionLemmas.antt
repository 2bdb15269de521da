-- The word that a line begins with if it is a session's: the name and a colon.
use Rattle.std.proofs.Common.{◌≡◌, ◌==◌, ℕ, ◌+◌, ◌-◌, ◌<◌, true, false, List, [], ◌∷◌, ◌++◌, length, take, drop, get_or, refl, sym, ap, ◌∙◌, arith}
use Rattle.std.proofs.lemmas.Bool.{and_parts, ne_eqb, false≢true}
use Rattle.std.proofs.lemmas.List.{drop_more, take-append-drop}
use Rattle.std.specs.List.{list_all}
use Rattle.sky_model.specs.Kinds.{continues_name}
use Rattle.sky_model.specs.Words.{with_first, pieces, words}

-- a byte that may be in a name is none that may not
continues_other : (b c : ℕ) → continues_name b ≡ true → continues_name c ≡ false → (b == c) ≡ false
continues_other b c may not = ne_eqb b c (λ same. false≢true (sym not ∙ ap continues_name (sym same) ∙ may))

-- such bytes and the colon after them are in one word
pieces_named : (name tail : List ℕ) (rest : List (List ℕ)) → list_all continues_name name ≡ true → pieces false tail ≡ [] ∷ rest
    → pieces false (name ++ 58 ∷ tail) ≡ (name ++ 58 ∷ []) ∷ rest
pieces_named [] tail rest all ends = ap (with_first 58) ends
pieces_named (b ∷ bs) tail rest all ends =
    let here = and_parts (continues_name b) (list_all continues_name bs) all in
    rw (continues_other b 32 here.0 refl, continues_other b 39 here.0 refl) (ap (with_first b) (pieces_named bs tail rest here.1 ends))

-- and are the first word if the colon is the last byte or a space follows it
pub first_named : (line : List ℕ) (end : ℕ) (rest : List (List ℕ)) → list_all continues_name (take end line) ≡ true → end < length line → get_or line end 0 ≡ 58
    → pieces false (drop (end + 1) line) ≡ [] ∷ rest → words line ≡ (take end line ++ 58 ∷ []) ∷ rest
first_named line end rest all within colon ends =
    let parts : line ≡ take end line ++ 58 ∷ drop (end + 1) line =
    sym (take-append-drop end line) ∙ ap (λ bs. take end line ++ bs) (drop_more line end 0 within ∙ ap (λ b. b ∷ drop (end + 1) line) colon) in
    ap words parts ∙ pieces_named (take end line) (drop (end + 1) line) rest all ends

count : (name : List ℕ) → length (name ++ 58 ∷ []) ≡ length name + 1
count [] = refl
count (b ∷ bs) = omega (arith, count bs)

last_of : (name : List ℕ) → drop (length name) (name ++ 58 ∷ []) ≡ 58 ∷ []
last_of [] = refl
last_of (b ∷ bs) = last_of bs
