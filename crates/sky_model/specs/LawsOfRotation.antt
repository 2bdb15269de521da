-- The laws on the rotation of event tables, at each place of each history that calls make.
use Rattle.std.specs.Prelude.{◌≡◌, ℕ, ◌+◌, ◌%◌, ◌<◌, ◌≤◌, ℤ, ◌≤ℤ◌, List, [], ◌∷◌, ◌++◌, Bool, true, false, not, ◌&&◌, ◌||◌, ◌==◌, Option, Some, None, map, filter, length, slice_get, slice_index_or, is_some, All, Contains, if◌then◌else◌}
use Rattle.sky_val.specs.declared.event.Event.{Event}
use Rattle.pgq_tables.specs.Tables.{Stored, Tables}
use Rattle.sky_model.specs.History.{Batch, Mark, queued, put, switching, switched, History}
use Rattle.sky_model.specs.Transactions.{has_ended, has_committed, has_rolled_back}
use Rattle.sky_model.specs.Queues.{events, event_tables, ticks, tick, newest_tick, kept_ticks, at_tick, is_above, second_step_of}
use Rattle.sky_model.specs.Consumers.{subscription_id, position, active_batch}
use Rattle.sky_model.specs.Batches.{batch_events}
use Rattle.sky_model.specs.Selection.{selected_in}
use Rattle.sky_model.specs.State.{queue_of}
use Rattle.sky_model.specs.StepConsumer.{floor}
use Rattle.sky_model.specs.StepRotation.{period_ends, held_by_second_step}
use Rattle.sky_model.specs.Reader.{database_by_history}
use Rattle.sky_model.specs.Settling.{marked}
use Rattle.sky_model.specs.DatabaseCalls.{DatabaseCall, database_does, database_part}
use Rattle.sky_model.specs.LawsOfRetries.{moment_of}
use Rattle.sky_model.specs.LawsOfQueues.{QueueStands}
use Rattle.sky_model.specs.HistoryPlaces.{IsPlace}

-- ---- what the tables have

-- how often the event tables of a queue were switched
abbrev pub switches : ℕ → History → ℕ
switches queue [] = 0
switches queue (queued (switched q time) ∷ h) = if q == queue then switches queue h + 1 else switches queue h
switches queue (_ ∷ h) = switches queue h

-- the events that were put into a queue while the table of a number was the current one, since that was last emptied
abbrev pub put_while : (queue table : ℕ) → History → List Event
put_while queue table [] = []
put_while queue table (queued (put q event) ∷ h) =
    if q == queue && switches queue h % 3 == table then put_while queue table h ++ event ∷ [] else put_while queue table h
put_while queue table (queued (switched q time) ∷ h) =
    if q == queue && (switches queue h + 1) % 3 == table then [] else put_while queue table h
put_while queue table (_ ∷ h) = put_while queue table h

-- an event is stored, dead if its transaction has rolled back
abbrev pub as_stored : History → Event → Stored
as_stored p e = record { event = e; dead = has_rolled_back p e.ev_txid }

-- there are three tables, of which each switch makes the next one the current one; and each has the events that were put while it was current
pub record HoldsWhatWasPut (p : History) (queue : ℕ) : Type 0 where
  pub three : length (event_tables queue p).lists ≡ 3
  pub current : (event_tables queue p).current ≡ switches queue p % 3
  pub lists : (table : ℕ) → table < 3 → slice_get (event_tables queue p).lists table ≡ Some (map (as_stored p) (put_while queue table p))

abbrev pub TablesHoldWhatWasPut : Type 0
TablesHoldWhatWasPut = (p : History) → IsPlace p → (queue : ℕ) → QueueStands p queue → HoldsWhatWasPut p queue

-- ---- what rotation leaves

-- an event of a queue is needed: its transaction hasn't ended, or it has committed, and hadn't when the least tick was made at which a consumer may
-- register
abbrev pub is_needed : History → ℕ → Event → Bool
is_needed p queue e =
    not (has_ended p e.ev_txid)
    || (has_committed p e.ev_txid && not (has_committed (at_tick queue (floor (queue_of p queue)) p) e.ev_txid))

-- the events of the current table, and those of the one before it
abbrev pub current_events : Tables → List Stored
current_events ts = slice_index_or ts.lists ts.current []

abbrev pub previous_events : Tables → List Stored
previous_events ts = slice_index_or ts.lists ((ts.current + 2) % 3) []

-- each event that is needed is in the current table or in the one before it, and isn't dead
abbrev pub NeededEventsAreStored : Type 0
NeededEventsAreStored = (p : History) → IsPlace p → (queue : ℕ) → QueueStands p queue
    → All (λ e. is_needed p queue e ≡ true → Contains (previous_events (event_tables queue p) ++ current_events (event_tables queue p)) (record { event = e; dead = false })) (events queue p)

-- what the two kept ticks of an active batch select of the tables are the batch's events, of all that were ever put
abbrev pub ActiveBatchesAreStored : Type 0
ActiveBatchesAreStored = (p : History) → IsPlace p → (id : ℕ) (b : Batch) → active_batch id p ≡ Some b → selected_in (queue_of p b.queue) b ≡ batch_events p b

-- the position of each consumer is a tick that is kept, and isn't below the least one at which a consumer may register; each later tick is kept too
pub record IsKept (p : History) (queue : ℕ) (consumer : List ℕ) : Type 0 where
  pub kept : is_some (tick (position queue consumer p) (kept_ticks queue p)) ≡ true
  pub above : floor (queue_of p queue) ≤ position queue consumer p
  pub later : (id : ℕ) → position queue consumer p ≤ id → tick id (kept_ticks queue p) ≡ tick id (ticks queue p)

abbrev pub PositionsAreKept : Type 0
PositionsAreKept = (p : History) → IsPlace p → (queue : ℕ) (consumer : List ℕ) (sub : ℕ) → subscription_id queue consumer p ≡ Some sub → IsKept p queue consumer

-- the newest tick is kept
abbrev pub NewestTicksAreKept : Type 0
NewestTicksAreKept = (p : History) → IsPlace p → (queue : ℕ) → QueueStands p queue → newest_tick (kept_ticks queue p) ≡ newest_tick (ticks queue p)

-- a switch drops the ticks that aren't above the second step of the one before, and no others
abbrev pub SwitchesDropTicks : Type 0
SwitchesDropTicks = (p : History) (queue : ℕ) (time : ℤ) → IsPlace (queued (switched queue time) ∷ p)
    → kept_ticks queue (queued (switched queue time) ∷ p) ≡ filter (is_above (second_step_of (event_tables queue p))) (kept_ticks queue p)

-- ---- pending switches

-- a switch begins to be pending for a transaction that hasn't ended, if none is pending yet, and neither the second step of the one before, nor a
-- consumer, nor the newest tick holds it back
pub record BeginsFree (p : History) (queue t : ℕ) : Type 0 where
  pub unended : has_ended p t ≡ false
  pub none : (event_tables queue p).pending ≡ None
  pub free : held_by_second_step (queue_of p queue) (event_tables queue p).second_step ≡ None

abbrev pub SwitchesBeginFree : Type 0
SwitchesBeginFree = (p : History) (queue t : ℕ) → IsPlace (queued (switching queue t) ∷ p) → BeginsFree p queue t

-- one that is made was pending
abbrev pub SwitchesWerePending : Type 0
SwitchesWerePending = (p : History) (queue : ℕ) (time : ℤ) → IsPlace (queued (switched queue time) ∷ p) → is_some (event_tables queue p).pending ≡ true

-- and the transaction of one that is pending hasn't ended
abbrev pub PendingSwitchesRun : Type 0
PendingSwitchesRun = (p : History) → IsPlace p → (queue t : ℕ) → (event_tables queue p).pending ≡ Some t → has_ended p t ≡ false

-- ---- switches and calls

-- at the moment of a call, the rotation period of a queue is over, which began when the queue was made or last switched
pub record IsOver (p : History) (queue : ℕ) (moment : Option ℤ) : Type 0 where
  pub now : ℤ
  pub called : moment ≡ Some now
  pub over : period_ends (queue_of p queue) ≤ℤ now

-- this holds at each place of a call at which a switch begins to be pending
abbrev pub SwitchesBeginAfterPeriods : Type 0
SwitchesBeginAfterPeriods = (h : History) (call : DatabaseCall) (earlier later : List Mark) (queue t : ℕ)
    → (database_does database_by_history h call).marks ≡ earlier ++ queued (switching queue t) ∷ later → IsOver (marked h earlier) queue (moment_of call)

-- a switch of a queue was made by a call, at its moment; after the call the transaction for which it was pending has committed
pub record IsMadeBy (h : History) (call : DatabaseCall) (p : History) (queue : ℕ) (time : ℤ) : Type 0 where
  pub called : moment_of call ≡ Some time
  pub committed : (t : ℕ) → (event_tables queue p).pending ≡ Some t → has_committed (database_part.after h call) t ≡ true

-- this holds of each switch that a call makes
abbrev pub SwitchesAreCommitted : Type 0
SwitchesAreCommitted = (h : History) (call : DatabaseCall) (earlier later : List Mark) (queue : ℕ) (time : ℤ)
    → (database_does database_by_history h call).marks ≡ earlier ++ queued (switched queue time) ∷ later → IsMadeBy h call (marked h earlier) queue time
