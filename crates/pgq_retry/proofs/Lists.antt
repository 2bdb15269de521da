-- Lists seen through a function, and tests of their elements.
use Rattle.std.proofs.Common.{◌≡◌, Bool, true, false, cond, List, [], ◌∷◌, ◌++◌, map, refl, ◌∙◌, ap}
use Rattle.std.specs.Prelude.{◌||◌, filter}
use Rattle.std.specs.List.{list_any}

pub any-map : {A B : Type 0} (f : A → B) (p : B → Bool) (xs : List A) → list_any p (map f xs) ≡ list_any (λ x. p (f x)) xs
any-map f p [] = refl
any-map f p (x ∷ xs) = ap (λ b. p (f x) || b) (any-map f p xs)

pub or-swapped : (a b c : Bool) → (a || (b || c)) ≡ (b || (a || c))
or-swapped true true c = refl
or-swapped true false c = refl
or-swapped false b c = refl

pub any-append : {A : Type 0} (p : A → Bool) (xs : List A) (x : A) → list_any p (xs ++ x ∷ []) ≡ (p x || list_any p xs)
any-append p [] x = refl
any-append p (y ∷ xs) x = ap (λ b. p y || b) (any-append p xs x) ∙ or-swapped (p y) (p x) (list_any p xs)

pub filter-map : {A B : Type 0} (f : A → B) (p : B → Bool) (xs : List A) → filter p (map f xs) ≡ map f (filter (λ x. p (f x)) xs)
filter-map f p [] = refl
filter-map f p (x ∷ xs) = elim (p (f x)) as (λ b. cond b (f x ∷ filter p (map f xs)) (filter p (map f xs)) ≡ map f (cond b (x ∷ filter (λ x. p (f x)) xs) (filter (λ x. p (f x)) xs))) [
  | true ↦ ap (λ ys. f x ∷ ys) (filter-map f p xs)
  | false ↦ filter-map f p xs
]
