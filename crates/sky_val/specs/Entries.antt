-- What is at each key, as a plain list in the order of the keys.
use Rattle.std.specs.Prelude.{Bool, List, Option}
use Rattle.std.specs.FinMap as maps
use Rattle.sky_val.specs.declared.val.Val.{Val}
use Rattle.sky_val.specs.Order.{key_cmp}

-- keys, and what is at each
abbrev pub Entries : Type 0 → Type 0
Entries X = List (List Val × X)

-- what is at a key
abbrev pub at : {X : Type 0} → List Val → Entries X → Option X
at key entries = maps.find key_cmp key entries

-- the entries with this at the key, and all else unchanged
abbrev pub put : {X : Type 0} → List Val → X → Entries X → Entries X
put key item entries = maps.put key_cmp key item entries

-- whether the keys rise
abbrev pub is_in_order : {X : Type 0} → Entries X → Bool
is_in_order entries = maps.is_sorted key_cmp entries
