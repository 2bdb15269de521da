-- The laws on the order in which transactions write a key, at each place of each history that calls make.
use Rattle.std.specs.Prelude.{◌≡◌, ◌≢◌, ℕ, ◌<◌, ℤ, All, Contains, List, [], ◌∷◌, ◌++◌, Bool, true, false, ◌&&◌, ◌||◌, ◌==◌, Option, Some, None, IfSome, Ok, if◌then◌else◌}
use Rattle.sky_val.specs.declared.event.Event.{Event}
use Rattle.sky_val.specs.declared.val.Val.{Val}
use Rattle.sky_val.specs.declared.column.Column.{Column}
use Rattle.sky_val.specs.Entries.{at}
use Rattle.sky_val.specs.Schemas.{row_fault, key_of}
use Rattle.sky_keys.specs.Waits.{is_same_key}
use Rattle.sky_txid.specs.Ids.{contains}
use Rattle.sky_txid.specs.Snapshot.{sees}
use Rattle.sky_model.specs.History.{Mark, Whose, of_session, tabled, wrote, queued, put, History}
use Rattle.sky_model.specs.Transactions.{has_ended, has_committed, has_rolled_back, snapshot}
use Rattle.sky_model.specs.Rows.{columns_of, committed, writes, rows, rows_standing, has_written}
use Rattle.sky_model.specs.Queues.{events}
use Rattle.sky_model.specs.State.{database_of}
use Rattle.sky_model.specs.Telling.{told_of}
use Rattle.sky_model.specs.Settling.{marked}
use Rattle.sky_model.specs.Promises.{after_all}
use Rattle.sky_model.specs.DatabaseCalls.{DatabaseCall, database_part}
use Rattle.sky_model.specs.HistoryPlaces.{IsPlace}

-- the transactions that wrote a key, one for each write, in order
abbrev pub writers : ℕ → List Val → History → List ℕ
writers table key [] = []
writers table key (tabled (wrote whose t n k old new) ∷ h) = if is_same_key n k table key then writers table key h ++ t ∷ [] else writers table key h
writers table key (_ ∷ h) = writers table key h

-- whether a transaction comes somewhere before another one in a list
abbrev pub is_before : ℕ → ℕ → List ℕ → Bool
is_before t u [] = false
is_before t u (v ∷ vs) = (t == v && contains u vs) || is_before t u vs

-- transactions write a key one after another: the one that writes it hasn't ended, and each other one that has written it has
abbrev pub KeysAreWrittenInTurn : Type 0
KeysAreWrittenInTurn = (p : History) (whose : Whose) (u table : ℕ) (key : List Val) (old new : Option (List Val)) → IsPlace (tabled (wrote whose u table key old new) ∷ p)
    → (has_ended p u ≡ false) × ((t : ℕ) → t ≢ u → has_written key (writes table t p) ≡ true → has_ended p t ≡ true)

-- of two transactions that have written a key, one that hasn't rolled back and one that has committed, the one wrote the key before the other if and
-- only if it committed before the other
abbrev pub WritesAndCommitsHaveOneOrder : Type 0
WritesAndCommitsHaveOneOrder = (p : History) → IsPlace p → (table : ℕ) (key : List Val) (t u : ℕ) → t ≢ u
    → has_written key (writes table t p) ≡ true → has_rolled_back p t ≡ false → has_written key (writes table u p) ≡ true → has_committed p u ≡ true
    → is_before t u (writers table key p) ≡ is_before t u (committed p)

-- if a transaction wrote a key before another one, no snapshot, of this place or of an earlier one, sees the other one without it
abbrev pub SnapshotsSeeEarlierWriters : Type 0
SnapshotsSeeEarlierWriters = (later : List Mark) (p : History) → IsPlace (later ++ p) → (table : ℕ) (key : List Val) (t u : ℕ)
    → is_before t u (writers table key (later ++ p)) ≡ true → sees (snapshot p) u ≡ true → sees (snapshot p) t ≡ true

-- the ids of a queue's events rise in the order in which they are put, but for those that are retried, each of which is for
-- one subscription: each is above those of all earlier ones of the queue
abbrev pub EventIdsRise : Type 0
EventIdsRise = (p : History) (queue : ℕ) (event : Event) → IsPlace (queued (put queue event) ∷ p) → event.ev_owner ≡ None → All (λ e. e.ev_id < event.ev_id) (events queue p)

-- a row that a table of these columns may have under a key: it fits them, and the key is its own
abbrev pub IsRowOf : List Column → List Val → List Val → Type 0
IsRowOf columns key row = (row_fault columns row ≡ None) × (key_of columns row ≡ key)

-- the old row that a session's write names is the one that was there for the session: the one that its own transaction wrote last, or else that of
-- the newest committed write
abbrev pub WritesNameWhatStands : Type 0
WritesNameWhatStands = (p : History) (who t table : ℕ) (key : List Val) (old new : Option (List Val))
    → IsPlace (tabled (wrote (of_session who) t table key old new) ∷ p) → at key (rows_standing who table p) ≡ old

-- the new row of a write, if there is one, is one that its table may have under the key
abbrev pub WrittenRowsFit : Type 0
WrittenRowsFit = (p : History) (whose : Whose) (t table : ℕ) (key : List Val) (old new : Option (List Val))
    → IsPlace (tabled (wrote whose t table key old new) ∷ p) → IfSome new (IsRowOf (columns_of table p) key)

-- each row of a table, at whatever key, is one that the table may have there
abbrev pub StandingRowsFit : Type 0
StandingRowsFit = (p : History) → IsPlace p → (table : ℕ) (key row : List Val) → at key (rows table p) ≡ Some row → IsRowOf (columns_of table p) key row

-- after a write come the events that record it, each taking the next id of its queue, and then what came later
pub record IsTold (h : History) (write : Mark) (p : History) : Type 0 where
  pub time : ℤ
  pub events : List Mark
  pub told : told_of (database_of (write ∷ p)) time write ≡ Ok events
  pub later : List Mark
  pub stands : h ≡ later ++ marked (write ∷ p) events

-- each write of each history that calls make is so recorded, with nothing between the write and its events
abbrev pub WritesAreTold : Type 0
WritesAreTold = (calls : List DatabaseCall) (later : List Mark) (p : History) (whose : Whose) (t table : ℕ) (key : List Val) (old new : Option (List Val))
    → after_all database_part calls ≡ later ++ tabled (wrote whose t table key old new) ∷ p
    → IsTold (after_all database_part calls) (tabled (wrote whose t table key old new)) p

-- this event records the write: the marks that record the write put it into this queue
pub record IsToldBy (h : History) (write : Mark) (p : History) (queue : ℕ) (event : Event) : Type 0 where
  pub is_told : IsTold h write p
  pub is_put : Contains is_told.events (queued (put queue event))

-- of two writes, of whatever keys and transactions, each event that records the first one has a smaller id than each of the same queue that records
-- the second one (no events record marks other than writes)
abbrev pub EventIdsFollowWrites : Type 0
EventIdsFollowWrites = (h : History) → IsPlace h → (later middle : List Mark) (p : History) (first second : Mark) (queue : ℕ) (e f : Event)
    → h ≡ later ++ second ∷ middle ++ first ∷ p
    → IsToldBy h first p queue e → IsToldBy h second (middle ++ first ∷ p) queue f → e.ev_id < f.ev_id
