-- The waiting events as the code keeps them: each at a place, places in the order of asking, with two indexes.
use Rattle.std.specs.Prelude.{◌≡◌, ℕ, ◌<◌, ℤ, List, Option, Some, None}
use Rattle.std.specs.declared.cmp.Ordering.{Ordering}
use Rattle.std.specs.List.{AllByRecursion, list_any}
use Rattle.std.specs.List.Sorted.{IsStrictlySortedBy}
use Rattle.std.specs.Ordering.{nat_cmp, int_cmp, ordering_then, eq_by_cmp}
use Rattle.std.specs.Map.{keys_of, lookup}
use Rattle.std.specs.BTreeMap.{BTreeMap, is_at, get}
use Rattle.std.specs.BTreeSet.{BTreeSet, contains, IsOrdered}
use Rattle.pgq_retry.specs.declared.retry.Retry.{Retry}

-- ---- those that wait, by place

-- those that wait, each with its place
abbrev pub Entries : Type 0
Entries = List (ℕ × Retry)

-- places that rise
abbrev pub InOrder : Entries → Type 0
InOrder entries = IsStrictlySortedBy nat_cmp (keys_of entries)

-- what waits at a place
abbrev pub at : ℕ → Entries → Option Retry
at place entries = lookup (is_at (nat_cmp place)) entries

-- all places are below one
abbrev pub AreBelow : ℕ → Entries → Type 0
AreBelow place entries = AllByRecursion (λ p. p < place) (keys_of entries)

-- ---- the index by due moment

-- a due moment with a place: by moment, and then by place
abbrev pub due_cmp : ℤ × ℕ → ℤ × ℕ → Ordering
due_cmp x y = ordering_then (int_cmp x.0 y.0) (nat_cmp x.1 y.1)

-- what the index has of an entry
abbrev pub due_key : ℕ × Retry → ℤ × ℕ
due_key entry = (entry.1.due, entry.0)

-- the index has the key of each entry, and no other one
pub record IsListed (entries : Entries) (dues : BTreeSet (ℤ × ℕ)) : Type 0 where
  pub in_order : InOrder entries
  pub by_moment : IsOrdered due_cmp dues
  pub listed : (q : ℤ × ℕ) → contains due_cmp dues q ≡ list_any (λ e. eq_by_cmp due_cmp q (due_key e)) entries

-- ---- the index by subscription and event id

-- the place of each event id of each subscription
abbrev pub PlacesBySub : Type 0
PlacesBySub = BTreeMap ℕ (BTreeMap ℕ ℕ)

-- the place of an event id
abbrev pub place_in : Option (BTreeMap ℕ ℕ) → ℕ → Option ℕ
place_in None ev_id = None
place_in (Some places) ev_id = get nat_cmp places ev_id

-- the place of a subscription's event
abbrev pub place_of : PlacesBySub → ℕ → ℕ → Option ℕ
place_of places sub ev_id = place_in (get nat_cmp places sub) ev_id

-- at a place waits this subscription's event of this id
pub record IsAt (entries : Entries) (sub ev_id place : ℕ) : Type 0 where
  pub waiting : Retry
  pub found : at place entries ≡ Some waiting
  pub sub_is : waiting.sub ≡ sub
  pub ev_id_is : waiting.event.ev_id ≡ ev_id

-- the index has the place of each, so no two are the same subscription's event of the same id
pub record IsPlaced (entries : Entries) (places : PlacesBySub) : Type 0 where
  pub in_order : InOrder entries
  pub kept : (place : ℕ) (w : Retry) → at place entries ≡ Some w → place_of places w.sub w.event.ev_id ≡ Some place
  pub told : (sub ev_id place : ℕ) → place_of places sub ev_id ≡ Some place → IsAt entries sub ev_id place
