-- What contracts see of values that are kept under names.
use Rattle.std.specs.Prelude.{ℕ, List, Option, option_and_then, slice_get, slice_set}
use Rattle.sky_names.specs.Places.{place_of}

-- the names, and the values, each at its name's place
pub record NamedView (V : Type 0) : Type 0 where
  pub names : List (List ℕ)
  pub values : List V

-- the same with another value at a place
abbrev pub with_value : {V : Type 0} → NamedView V → ℕ → V → NamedView V
with_value n place value = record n { values = slice_set n.values place value }

-- the value of a name
abbrev pub value_of : {V : Type 0} → List ℕ → NamedView V → Option V
value_of name n = option_and_then (slice_get n.values) (place_of name n.names)
