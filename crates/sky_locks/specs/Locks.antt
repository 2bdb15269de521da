-- What row locks are seen as, and what happens when a session asks for a key.
use Rattle.std.specs.Prelude.{◌≡◌, ℕ, List, [], ◌∷◌, ◌++◌, None, Some, Option}
use Rattle.std.specs.Map.{lookup}
use Rattle.std.specs.BTreeMap.{is_at}
use Rattle.sky_val.specs.declared.val.Val.{Val}
use Rattle.sky_keys.specs.Waits.{Waiting, other_holder, taken, waits_for, LeadsBack}
pub use Rattle.sky_lock_table.specs.declared.lock_key.LockKey.{LockKey}
use Rattle.sky_lock_table.specs.Order.{lock_cmp}
use Rattle.sky_lock_table.specs.Slots.{Places, place_at}
use Rattle.sky_locks.specs.declared.taken.Taken.{Taken}
use Rattle.sky_locks.specs.declared.taken.Taken.TheVariants.{Got, Waits, Cycle}

-- the keys that are held, in order, each with its holder, the wait queue in order of arrival, and the place of each key's slot
pub record LocksView : Type 0 where
  pub held : List (LockKey × ℕ)
  pub waiting : List Waiting
  pub places : Places

-- where a key's slot is, if it has one: each key does that is held or waited for
abbrev pub slot_place : LocksView → ℕ → List Val → Option ℕ
slot_place locks table key = place_at locks.places (record { table = table; key = key })

-- the holder of a key
abbrev pub holder : LocksView → ℕ → List Val → Option ℕ
holder locks table key = lookup (is_at (lock_cmp (record { table = table; key = key }))) locks.held

-- whom a session waits for
abbrev pub waits_for_in : LocksView → ℕ → Option ℕ
waits_for_in locks = waits_for (holder locks) locks.waiting

-- no other session holds the key, and now the asking one does
pub record TakesKey (old : LocksView) (who table : ℕ) (key : List Val) (new : LocksView) : Type 0 where
  pub free : other_holder (holder old) who table key ≡ None
  pub held : holder new ≡ taken who table key (holder old)
  pub waiting : new.waiting ≡ old.waiting

-- another one holds it, no path leads back from that one, and the asking one is the last that waits
pub record WaitsForKey (old : LocksView) (who table : ℕ) (key : List Val) (other : ℕ) (new : LocksView) : Type 0 where
  pub holds : other_holder (holder old) who table key ≡ Some other
  pub apart : (way : List ℕ) → LeadsBack (waits_for_in old) who other way → ⊥
  pub held : holder new ≡ holder old
  pub waiting : new.waiting ≡ old.waiting ++ record { who = who; table = table; key = key } ∷ []

-- another one holds it, a path leads back from that one, and nothing changes: the deadlock cycle is the asking one, and the path
pub record ClosesRing (old : LocksView) (who table : ℕ) (key : List Val) (other : ℕ) (ring : List ℕ) (new : LocksView) : Type 0 where
  pub way : List ℕ
  pub holds : other_holder (holder old) who table key ≡ Some other
  pub leads : LeadsBack (waits_for_in old) who other way
  pub closed : ring ≡ who ∷ way
  pub same : new ≡ old

-- what an answer of `try_key` says of the locks before and after
abbrev pub Takes : LocksView → ℕ → ℕ → List Val → Taken → LocksView → Type 0
Takes old who table key Got new = TakesKey old who table key new
Takes old who table key (Waits other) new = WaitsForKey old who table key other new
Takes old who table key (Cycle ring) new = (other : ℕ) × ClosesRing old who table key other ring new

-- an entry with its key as one
abbrev pub entry : ℕ → LockKey → Waiting
entry who key = record { who = who; table = key.table; key = key.key }
