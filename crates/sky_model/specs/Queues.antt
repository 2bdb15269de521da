-- Queues: their names, settings, sequences, events, event tables and ticks.
use Rattle.std.specs.Prelude.{ℕ, ◌+◌, ℤ, Bool, false, List, [], ◌∷◌, ◌++◌, not, Option, Some, None, ◌==◌, ◌&&◌, ◌||◌, nat_lt, filter, find, option_map, unwrap_or, if◌then◌else◌}
use Rattle.sky_val.specs.declared.event.Event.{Event}
use Rattle.sky_txid.specs.Snapshot.{SnapshotView}
use Rattle.sky_names.specs.Places.{named}
use Rattle.pgq_tables.specs.Tables as tables_of
use Rattle.pgq_tables.specs.Tables.{Tables, no_tables, new_tables, with_stored, with_dead, with_pending, without_pending, with_second_step}
use Rattle.sky_model.specs.History.{ended, queued, made, raised, put, ticked, switching, switched, second_step, configured, dropped, History}
use Rattle.sky_model.specs.Config.{Config, default_config}
use Rattle.sky_model.specs.Transactions.{snapshot}

-- a queue that exists: its number and its name
pub record NamedQueue : Type 0 where
  pub number : ℕ
  pub name : List ℕ

-- how many queues were made: the number of the next one
abbrev pub queues_made : History → ℕ
queues_made [] = 0
queues_made (queued (made name t time) ∷ h) = queues_made h + 1
queues_made (_ ∷ h) = queues_made h

-- the other queues among some
abbrev pub others_than : ℕ → List NamedQueue → List NamedQueue
others_than queue queues = filter (λ q. not (q.number == queue)) queues

-- the queues that exist, in the order of making
abbrev pub queues : History → List NamedQueue
queues [] = []
queues (queued (dropped queue) ∷ h) = others_than queue (queues h)
queues (queued (made name t time) ∷ h) = queues h ++ record { number = queues_made h; name = name } ∷ []
queues (_ ∷ h) = queues h

-- the number of the queue of a name among some
abbrev pub queue_number : List ℕ → List NamedQueue → Option ℕ
queue_number name queues = option_map NamedQueue.number (named NamedQueue.name name queues)

-- the name of the queue of a number, empty if that queue doesn't exist
abbrev pub queue_name : ℕ → List NamedQueue → List ℕ
queue_name number queues = unwrap_or (option_map NamedQueue.name (find (λ q. q.number == number) queues)) []

-- the settings of a queue
abbrev pub config : ℕ → History → Config
config queue [] = default_config
config queue (queued (configured q c) ∷ h) = if q == queue then c else config queue h
config queue (queued (dropped q) ∷ h) = if q == queue then default_config else config queue h
config queue (_ ∷ h) = config queue h

-- the value of a queue's event sequence
abbrev pub sequence : ℕ → History → ℕ
sequence queue [] = 0
sequence queue (queued (dropped q) ∷ h) = if q == queue then 0 else sequence queue h
sequence queue (queued (raised q value) ∷ h) = if q == queue then value else sequence queue h
sequence queue (_ ∷ h) = sequence queue h

-- the events that were ever stored in a queue, in the order of storing
abbrev pub events : ℕ → History → List Event
events queue [] = []
events queue (queued (put q event) ∷ h) = if q == queue then events queue h ++ event ∷ [] else events queue h
events queue (_ ∷ h) = events queue h

-- whether the pending switch is one that the commit of this transaction makes
abbrev pub is_pending : ℕ → Tables → Bool
is_pending t ts = unwrap_or (option_map (λ u. u == t) ts.pending) false

-- event tables once a transaction was rolled back: its events are dead, and its switch isn't pending any more
abbrev pub without_transaction : ℕ → Tables → Tables
without_transaction t ts = with_dead t (if is_pending t ts then without_pending ts else ts)

-- the event tables of a queue
abbrev pub event_tables : ℕ → History → Tables
event_tables queue [] = no_tables
event_tables queue (queued (made name t time) ∷ h) = if queues_made h == queue then new_tables t time else event_tables queue h
event_tables queue (queued (put q event) ∷ h) = if q == queue then with_stored event (event_tables queue h) else event_tables queue h
event_tables queue (queued (switching q t) ∷ h) = if q == queue then with_pending t (event_tables queue h) else event_tables queue h
event_tables queue (queued (switched q time) ∷ h) = if q == queue then tables_of.with_switch time (event_tables queue h) else event_tables queue h
event_tables queue (queued (second_step q t) ∷ h) = if q == queue then with_second_step t (event_tables queue h) else event_tables queue h
event_tables queue (queued (dropped q) ∷ h) = if q == queue then no_tables else event_tables queue h
event_tables queue (ended whose t false ∷ h) = without_transaction t (event_tables queue h)
event_tables queue (_ ∷ h) = event_tables queue h

-- a tick
pub record Tick : Type 0 where
  pub id : ℕ
  pub time : ℤ
  pub snapshot : SnapshotView
  pub seq : ℕ

-- the first tick of a queue that is made at a place
abbrev pub new_tick : ℤ → History → Tick
new_tick time h = record { id = 1; time = time; snapshot = snapshot h; seq = 0 }

-- the ticks that were ever made of a queue, in the order of making, each with the snapshot at its place
abbrev pub ticks : ℕ → History → List Tick
ticks queue [] = []
ticks queue (queued (made name t time) ∷ h) = if queues_made h == queue then ticks queue h ++ new_tick time h ∷ [] else ticks queue h
ticks queue (queued (ticked q id time seq) ∷ h) =
    if q == queue
    then ticks queue h ++ record { id = id; time = time; snapshot = snapshot h; seq = seq } ∷ []
    else ticks queue h
ticks queue (_ ∷ h) = ticks queue h

-- the newest tick
abbrev pub newest_tick : List Tick → Option Tick
newest_tick [] = None
newest_tick (t ∷ []) = Some t
newest_tick (t ∷ u ∷ ts) = newest_tick (u ∷ ts)

-- the id of a tick, or 0
abbrev pub id_of : Option Tick → ℕ
id_of None = 0
id_of (Some t) = t.id

-- whether the lower bound of a tick's snapshot is above a transaction id: then that transaction had ended, and each below it
abbrev pub is_above : ℕ → Tick → Bool
is_above txid t = nat_lt txid t.snapshot.xmin

-- the ticks above a transaction id, and the newest one
abbrev pub ticks_above : ℕ → List Tick → List Tick
ticks_above txid ts = filter (λ t. is_above txid t || t.id == id_of (newest_tick ts)) ts

-- the transaction of the second step of a switch, 0 if that is missing
abbrev pub second_step_of : Tables → ℕ
second_step_of ts = unwrap_or ts.second_step 0

-- those that it keeps: a switch drops the ticks that aren't above the second step of the one before; none is kept once the queue is dropped
abbrev pub kept_ticks : ℕ → History → List Tick
kept_ticks queue [] = []
kept_ticks queue (queued (made name t time) ∷ h) = if queues_made h == queue then kept_ticks queue h ++ new_tick time h ∷ [] else kept_ticks queue h
kept_ticks queue (queued (ticked q id time seq) ∷ h) =
    if q == queue
    then kept_ticks queue h ++ record { id = id; time = time; snapshot = snapshot h; seq = seq } ∷ []
    else kept_ticks queue h
kept_ticks queue (queued (switched q time) ∷ h) = if q == queue then ticks_above (second_step_of (event_tables queue h)) (kept_ticks queue h) else kept_ticks queue h
kept_ticks queue (queued (dropped q) ∷ h) = if q == queue then [] else kept_ticks queue h
kept_ticks queue (_ ∷ h) = kept_ticks queue h

-- a tick by its id
abbrev pub tick : ℕ → List Tick → Option Tick
tick id ts = find (λ t. t.id == id) ts

-- the value of the sequence when a tick was made, 0 if there is none
abbrev pub seq_at : Option Tick → ℕ
seq_at None = 0
seq_at (Some t) = t.seq

-- the history as it was when a tick was made; the empty one if it isn't made
abbrev pub at_tick : ℕ → ℕ → History → History
at_tick queue tick [] = []
at_tick queue tick (queued (made name t time) ∷ h) = if queues_made h == queue && 1 == tick then h else at_tick queue tick h
at_tick queue tick (queued (ticked q id time seq) ∷ h) = if q == queue && id == tick then h else at_tick queue tick h
at_tick queue tick (_ ∷ h) = at_tick queue tick h
