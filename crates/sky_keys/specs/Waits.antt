-- Sessions that wait for keys that others hold: who waits for whom, who is ready to resume, and which wait would close a deadlock cycle.
use Rattle.std.specs.Prelude.{◌≡◌, ◌≢◌, ℕ, zero, suc, ◌==◌, Bool, not, ◌&&◌, if◌then◌else◌, List, [], ◌∷◌, Option, None, Some, is_none, option_map, filter, find}
use Rattle.std.specs.Option.{option_and_then}
use Rattle.std.specs.List.{list_any}
use Rattle.std.specs.Ordering.{eq_by_cmp}
use Rattle.sky_val.specs.declared.val.Val.{Val}
use Rattle.sky_val.specs.Order.{key_cmp}

-- ---- who holds a key

-- the session that holds each key of each table
abbrev pub Holders : Type 0
Holders = ℕ → List Val → Option ℕ

-- whether it is the same key of the same table
abbrev pub is_same_key : ℕ → List Val → ℕ → List Val → Bool
is_same_key table key t k = table == t && eq_by_cmp key_cmp key k

-- a session, unless it is this one
abbrev pub other_than : ℕ → Option ℕ → Option ℕ
other_than who None = None
other_than who (Some s) = if s == who then None else Some s

-- the holder of a key, if it is another session
abbrev pub other_holder : Holders → ℕ → ℕ → List Val → Option ℕ
other_holder holder who table key = other_than who (holder table key)

-- the holders after a session has taken a key
abbrev pub taken : ℕ → ℕ → List Val → Holders → Holders
taken who table key holder t k = if is_same_key table key t k then Some who else holder t k

-- the holders after it has given a key back
abbrev pub given_back : ℕ → ℕ → List Val → Holders → Holders
given_back who table key holder t k = if is_same_key table key t k then other_than who (holder t k) else holder t k

-- the holders after all its keys were freed
abbrev pub released : ℕ → Holders → Holders
released who holder t k = other_than who (holder t k)

-- ---- who waits

-- an entry of the wait queue: a session, and the key that it waits for
pub record Waiting : Type 0 where
  pub who : ℕ
  pub table : ℕ
  pub key : List Val

-- whether a session waits
abbrev pub is_waiting : ℕ → List Waiting → Bool
is_waiting who waiting = list_any (λ w. w.who == who) waiting

-- a session's entry
abbrev pub entry_of : ℕ → List Waiting → Option Waiting
entry_of who waiting = find (λ w. w.who == who) waiting

-- the list without a session's entry
abbrev pub without : ℕ → List Waiting → List Waiting
without who waiting = filter (λ w. not (w.who == who)) waiting

-- the first session that waits for a key
abbrev pub first_waiter : ℕ → List Val → List Waiting → Option ℕ
first_waiter table key waiting = option_map (λ w. w.who) (find (λ w. is_same_key table key w.table w.key) waiting)

-- the first entry whose key nobody holds
abbrev pub ready : Holders → List Waiting → Option Waiting
ready holder waiting = find (λ w. is_none (holder w.table w.key)) waiting

-- ---- who waits for whom

-- whom a session waits for: the other session that holds the key that it waits for
abbrev pub waits_for : Holders → List Waiting → ℕ → Option ℕ
waits_for holder waiting who = option_and_then (λ w. other_holder holder who w.table w.key) (entry_of who waiting)

-- a path from a session back to `who`: each session on it waits for the next, and only the last waits for `who`
pub data LeadsBack (whom : ℕ → Option ℕ) (who : ℕ) : ℕ → List ℕ → Type 0 where
  last : {s : ℕ} → whom s ≡ Some who → LeadsBack whom who s (s ∷ [])
  next : {s t : ℕ} {way : List ℕ} → whom s ≡ Some t → t ≢ who → LeadsBack whom who t way → LeadsBack whom who s (s ∷ way)

-- a path with a session before it
abbrev pub along : ℕ → ℕ → Option ℕ → (ℕ → Option (List ℕ)) → Option (List ℕ)
along who s None way = None
along who s (Some t) way = if t == who then Some (s ∷ []) else option_map (λ rest. s ∷ rest) (way t)

-- the path from a session back to `who`, if it has at most so many sessions
abbrev pub way_back : (ℕ → Option ℕ) → ℕ → ℕ → ℕ → Option (List ℕ)
way_back whom who zero s = None
way_back whom who (suc most) s = along who s (whom s) (way_back whom who most)
