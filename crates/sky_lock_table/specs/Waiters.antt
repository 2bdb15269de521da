-- The wait queue as the code keeps it: entries by arrival, with two indexes.
use Rattle.std.specs.Prelude.{◌≡◌, ℕ, ◌==◌, Bool, false, List, [], ◌∷◌, map, filter, find, min, is_some, Option, None, Some}
use Rattle.std.specs.List.{list_any}
use Rattle.std.specs.Ordering.{eq_by_cmp}
use Rattle.sky_keys.specs.Waits.{Waiting}
use Rattle.sky_lock_table.specs.declared.lock_key.LockKey.{LockKey}
use Rattle.sky_lock_table.specs.declared.entries.Waiter.{Waiter}
use Rattle.sky_lock_table.specs.Order.{lock_cmp}
use Rattle.sky_lock_table.specs.Slots.{Queues}
use Rattle.sky_lock_table.specs.Sessions.{at_number, arrival_of}
use Rattle.sky_lock_table.specs.Holders.{is_holder}

-- a session's entry
abbrev pub entry : ℕ → LockKey → Waiting
entry who key = record { who = who; table = key.table; key = key.key }

-- who came at an arrival, if it is still there
abbrev pub entry_at : List (Option Waiter) → ℕ → Option Waiter
entry_at entries a = at_number (λ (w : Option Waiter). w) None entries a

-- the wait queue of entries
abbrev pub waiting_in : List (Option Waiter) → List Waiting
waiting_in [] = []
waiting_in (None ∷ es) = waiting_in es
waiting_in (Some w ∷ es) = entry w.who w.key ∷ waiting_in es

-- without the arrivals of those that have left
abbrev pub packed : List (Option Waiter) → List (Option Waiter)
packed entries = filter (λ e. is_some e) entries

-- the key of an entry
abbrev pub key_of : Waiting → LockKey
key_of w = record { table = w.table; key = w.key }

-- whether a key is among others
abbrev pub is_among : List LockKey → LockKey → Bool
is_among keys key = list_any (λ k. eq_by_cmp lock_cmp key k) keys

-- whether anyone waits for a key
abbrev pub is_waited : List Waiting → LockKey → Bool
is_waited waiting key = is_some (find (λ w. eq_by_cmp lock_cmp (key_of w) key) waiting)

-- those that wait for a key
abbrev pub queue_in : LockKey → List Waiting → List ℕ
queue_in key waiting = map (λ w. w.who) (filter (λ w. eq_by_cmp lock_cmp (key_of w) key) waiting)

-- whether what is at an arrival is the session's entry
abbrev pub is_of : ℕ → Option Waiter → Bool
is_of who None = false
is_of who (Some w) = w.who == who

-- both indexes record the entries: the arrival of each session, and the queue of each key
pub record IsKept (entries : List (Option Waiter)) (arrivals : List (Option ℕ)) (queues : Queues) : Type 0 where
  pub sessions : (s a : ℕ) → is_holder a (arrival_of arrivals s) ≡ is_of s (entry_at entries a)
  pub queued : (q : LockKey) → queues q ≡ queue_in q (waiting_in entries)

-- the earlier of two arrivals
abbrev pub earlier : Option ℕ → Option ℕ → Option ℕ
earlier None b = b
earlier (Some a) None = Some a
earlier (Some a) (Some b) = Some (min a b)
