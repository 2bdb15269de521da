-- The place of a name in a list of names, and which item of a list has a name.
use Rattle.std.specs.Prelude.{ℕ, ◌+◌, List, [], ◌∷◌, Option, Some, None, if◌then◌else◌, option_map, find, bytes_eq}
use Rattle.std.specs.List.{IsDistinct}

-- the first place of the name
abbrev pub place_of : List ℕ → List (List ℕ) → Option ℕ
place_of name [] = None
place_of name (first ∷ names) = if bytes_eq name first then Some 0 else option_map (λ place. place + 1) (place_of name names)

-- no name is at two places
abbrev pub Distinct : List (List ℕ) → Type 0
Distinct names = IsDistinct bytes_eq names

-- the first of the items with this name
abbrev pub named : {A : Type 0} → (A → List ℕ) → List ℕ → List A → Option A
named name key items = find (λ item. bytes_eq key (name item)) items
