-- Whether an event of some table passes a test, whichever table is the oldest.
use Rattle.std.proofs.Common.{◌≡◌, ℕ, ◌+◌, Bool, true, false, List, [], ◌∷◌, ◌++◌, take, drop, refl, sym, ◌∙◌, ap}
use Rattle.std.specs.Prelude.{◌||◌, flat_map}
use Rattle.std.specs.List.{list_any}
use Rattle.std.proofs.lemmas.List.{take-append-drop}
use Rattle.pgq_tables.specs.Tables.{Stored, Tables, by_age}

or_assoc : (a b c : Bool) → (a || (b || c)) ≡ ((a || b) || c)
or_assoc true b c = refl
or_assoc false b c = refl

or_swap : (a b : Bool) → (a || b) ≡ (b || a)
or_swap true true = refl
or_swap true false = refl
or_swap false true = refl
or_swap false false = refl

any-append : {X : Type 0} (p : X → Bool) (xs ys : List X) → list_any p (xs ++ ys) ≡ (list_any p xs || list_any p ys)
any-append p [] ys = refl
any-append p (x ∷ xs) ys = ap (λ b. p x || b) (any-append p xs ys) ∙ or_assoc (p x) (list_any p xs) (list_any p ys)

any-flat : {X : Type 0} (p : X → Bool) (lists : List (List X)) → list_any p (flat_map (λ list. list) lists) ≡ list_any (λ list. list_any p list) lists
any-flat p [] = refl
any-flat p (list ∷ lists) = any-append p list (flat_map (λ list. list) lists) ∙ ap (λ b. list_any p list || b) (any-flat p lists)

any-turned : {X : Type 0} (p : X → Bool) (n : ℕ) (xs : List X) → list_any p (drop n xs ++ take n xs) ≡ list_any p xs
any-turned p n xs =
    any-append p (drop n xs) (take n xs)
    ∙ or_swap (list_any p (drop n xs)) (list_any p (take n xs))
    ∙ sym (any-append p (take n xs) (drop n xs))
    ∙ ap (list_any p) (take-append-drop n xs)

pub any-by_age : (p : Stored → Bool) (ts : Tables) → list_any p (by_age ts) ≡ list_any (λ list. list_any p list) ts.lists
any-by_age p ts = any-flat p (drop (ts.current + 1) ts.lists ++ take (ts.current + 1) ts.lists) ∙ any-turned (λ list. list_any p list) (ts.current + 1) ts.lists
