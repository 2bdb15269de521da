-- What is kept of each key, by the slot that the key has.
use Rattle.std.specs.Prelude.{◌≡◌, ◌≢◌, ℕ, List, [], ◌∷◌, map, Option, None, Some, option_map}
use Rattle.std.specs.Option.{unwrap_or}
use Rattle.std.specs.List.Sorted.{IsStrictlySortedBy}
use Rattle.std.specs.Map.{keys_of, lookup}
use Rattle.std.specs.BTreeMap.{is_at}
use Rattle.slab.specs.Slab.{Slab, get as slab_get}
use Rattle.sky_val.specs.declared.val.Val.{Val}
use Rattle.sky_val.specs.Order.{key_cmp}
use Rattle.sky_val.specs.Entries.{Entries}
use Rattle.sky_rows.specs.declared.kept.Kept.{Kept}
use Rattle.sky_rows.specs.declared.rows.Slot.{Slot}

-- the place of each key's slot, in the order of the keys
abbrev pub Places : Type 0
Places = Entries ℕ

abbrev pub place_at : Places → List Val → Option ℕ
place_at places key = lookup (is_at (key_cmp key)) places

-- the slots, and their places
pub record RowsView : Type 0 where
  pub slots : Slab Slot
  pub places : Places

-- the key whose slot is at a place
abbrev pub key_at : Slab Slot → ℕ → Option (List Val)
key_at slots place = option_map (λ (s : Slot). s.key) (slab_get slots place)

-- what is kept there
abbrev pub kept_at : Slab Slot → ℕ → Option Kept
kept_at slots place = option_map (λ (s : Slot). s.kept) (slab_get slots place)

-- what is kept of a key of which nothing is kept
abbrev pub nothing : Kept
nothing = record { newest = None; list = None }

-- what is kept at the places of some keys
abbrev pub rows_of : Slab Slot → Places → Entries Kept
rows_of slots es = map (λ e. (e.0, unwrap_or (kept_at slots e.1) nothing)) es

-- what is kept of each key
abbrev pub rows_in : RowsView → Entries Kept
rows_in rows = rows_of rows.slots rows.places

-- keys have other places than this one
abbrev pub Lack : ℕ → Places → Type 0
Lack place [] = Unit {0}
Lack place (e ∷ es) = (e.1 ≢ place) × Lack place es

-- at the place of each key is its slot, and no two have the same
abbrev pub AreThere : Slab Slot → Places → Type 0
AreThere slots [] = Unit {0}
AreThere slots (e ∷ es) = (key_at slots e.1 ≡ Some e.0) × Lack e.1 es × AreThere slots es

-- they are, in the order of the keys, and no other key has a slot
pub record IsPlaced (slots : Slab Slot) (places : Places) : Type 0 where
  pub there : AreThere slots places
  pub order : IsStrictlySortedBy key_cmp (keys_of places)
  pub only : (q : List Val) (p : ℕ) → key_at slots p ≡ Some q → place_at places q ≡ Some p
