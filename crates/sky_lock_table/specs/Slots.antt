-- Who holds each key and who waits for it, by the slot that the key has.
use Rattle.std.specs.Prelude.{◌≡◌, ℕ, Bool, false, ◌==◌, not, if◌then◌else◌, List, [], ◌∷◌, ◌++◌, filter, Option, None, Some, option_and_then}
use Rattle.std.specs.Ordering.{eq_by_cmp}
use Rattle.std.specs.Map.{lookup, keys_of}
use Rattle.std.specs.BTreeMap.{is_at}
use Rattle.slab.specs.Slab.{Slab, get as slab_get}
use Rattle.sky_lock_table.specs.declared.lock_key.LockKey.{LockKey}
use Rattle.sky_lock_table.specs.declared.slots.Slot.{Slot}
use Rattle.sky_lock_table.specs.Order.{lock_cmp}
use Rattle.sky_lock_table.specs.Holders.{Held, is_holder}

-- the place of each key's slot, in the order of the keys
abbrev pub Places : Type 0
Places = List (LockKey × ℕ)

abbrev pub place_at : Places → LockKey → Option ℕ
place_at places key = lookup (is_at (lock_cmp key)) places

-- the slots, and their places
pub record SlotsView : Type 0 where
  pub slots : Slab Slot
  pub places : Places

-- whether what is at a place is a key's slot
abbrev pub is_slot_of : LockKey → Option Slot → Bool
is_slot_of key None = false
is_slot_of key (Some s) = eq_by_cmp lock_cmp key s.key

-- a key has a place exactly if its slot is there
abbrev pub IsPlaced : Places → Slab Slot → Type 0
IsPlaced places slots = (q : LockKey) (p : ℕ) → is_holder p (place_at places q) ≡ is_slot_of q (slab_get slots p)

-- a key's slot
abbrev pub slot_at : SlotsView → LockKey → Option Slot
slot_at s key = option_and_then (slab_get s.slots) (place_at s.places key)

-- ---- who holds a key

abbrev pub slot_holder : Option Slot → Option ℕ
slot_holder None = None
slot_holder (Some s) = s.holder

abbrev pub holder_at : SlotsView → LockKey → Option ℕ
holder_at s key = slot_holder (slot_at s key)

-- those of some keys that are held, each with its holder
abbrev pub held_also : LockKey → Option ℕ → Held → Held
held_also key None held = held
held_also key (Some s) held = (key, s) ∷ held

abbrev pub held_among : List LockKey → (LockKey → Option ℕ) → Held
held_among [] holder = []
held_among (k ∷ ks) holder = held_also k (holder k) (held_among ks holder)

abbrev pub held_in : SlotsView → Held
held_in s = held_among (keys_of s.places) (holder_at s)

-- all are held as before
abbrev pub SameHolders : SlotsView → SlotsView → Type 0
SameHolders old new = (q : LockKey) → holder_at new q ≡ holder_at old q

-- they are, and are so listed, and each slot has the place that it had
pub record SameHeld (old new : SlotsView) : Type 0 where
  pub held : held_in new ≡ held_in old
  pub holders : SameHolders old new
  pub places : new.places ≡ old.places

-- the key has this holder, and the others are held as before
abbrev pub HoldsAs : SlotsView → Option ℕ → LockKey → SlotsView → Type 0
HoldsAs old holder key new = (q : LockKey) → holder_at new q ≡ (if eq_by_cmp lock_cmp key q then holder else holder_at old q)

-- a session holds it, or nobody does
abbrev pub Holds : SlotsView → ℕ → LockKey → SlotsView → Type 0
Holds old who key new = HoldsAs old (Some who) key new

abbrev pub IsFree : SlotsView → LockKey → SlotsView → Type 0
IsFree old key new = HoldsAs old None key new

-- ---- who waits for a key

abbrev pub slot_queue : Option Slot → List ℕ
slot_queue None = []
slot_queue (Some s) = s.queue.items

abbrev pub queue_at : SlotsView → LockKey → List ℕ
queue_at s key = slot_queue (slot_at s key)

-- the key has this queue, and the other queues are as before
abbrev pub HasQueue : SlotsView → List ℕ → LockKey → SlotsView → Type 0
HasQueue old queue key new = (q : LockKey) → queue_at new q ≡ (if eq_by_cmp lock_cmp key q then queue else queue_at old q)

-- the sessions that wait for each key
abbrev pub Queues : Type 0
Queues = LockKey → List ℕ

abbrev pub SameQueues : SlotsView → SlotsView → Type 0
SameQueues old new = (q : LockKey) → queue_at new q ≡ queue_at old q

-- a session is the last in the queue of a key
abbrev pub Joins : Queues → ℕ → LockKey → Queues → Type 0
Joins old who key new = (q : LockKey) → new q ≡ (if eq_by_cmp lock_cmp key q then old q ++ who ∷ [] else old q)

-- it is in the queue no more
abbrev pub Leaves : Queues → ℕ → LockKey → Queues → Type 0
Leaves old who key new = (q : LockKey) → new q ≡ (if eq_by_cmp lock_cmp key q then filter (λ s. not (s == who)) (old q) else old q)
