-- The queues as a gate in front of the writes of rows: they have room for a write if there are ids for the events that record it, and store these
-- after it.
use Rattle.std.specs.Prelude.{ℕ, ℤ, ◌+◌, ◌^◌, Bool, true, not, ◌&&◌, ◌==◌, nat_le, if◌then◌else◌, List, [], ◌∷◌, Option, Some, None, map, slice_set, slice_index_or}
use Rattle.sky_val.specs.declared.val.Val.{Val}
use Rattle.sky_urlenc.specs.RowEvents.{RowEvent, events_of}
use Rattle.sky_model.specs.Triggers.{TableTrigger}
use Rattle.sky_model.specs.State.{changed_at}
use Rattle.sky_model.specs.Gates.{Gate, RowWrite}
use Rattle.pgq_queue.specs.Views.{QueueView}
use Rattle.pgq_queues.specs.Views.{TracedView, QueuesView}
use Rattle.pgq_queue.specs.Seen.{no_queue}
use Rattle.pgq_queue.specs.Changed.{undone_in, telling}
use Rattle.pgq_queues.specs.Traced.{traced_at}

-- the events of triggers that record a write in a table, and those of all its triggers
abbrev pub events_by : TracedView → (old new : Option (List Val)) → List TableTrigger → List RowEvent
events_by t old new triggers =
    events_of (record { table = t.name; columns = t.columns; old = old; new = new }) (map TableTrigger.trigger triggers)

abbrev pub table_events : TracedView → (old new : Option (List Val)) → List RowEvent
table_events t old new = events_by t old new t.triggers

-- the events that record a write in a table, if anything is kept of that
abbrev pub events_at : Option TracedView → RowWrite → List RowEvent
events_at None write = []
events_at (Some t) write = table_events t write.old write.new

-- how many of events are of a queue
abbrev pub count_of : ℕ → List RowEvent → ℕ
count_of queue [] = 0
count_of queue (e ∷ es) = if e.queue == queue then count_of queue es + 1 else count_of queue es

-- the sequences of queues
abbrev pub sequences : List QueueView → ℕ → ℕ
sequences queues n = (slice_index_or queues n no_queue).seq

-- whether there are ids for events, each of which takes the next one of its queue's sequence
abbrev pub ids_left : (ℕ → ℕ) → List RowEvent → Bool
ids_left seq [] = true
ids_left seq (e ∷ es) = not (nat_le (2 ^ 62) (seq e.queue + 1)) && ids_left (changed_at e.queue (λ n. n + 1) seq) es

-- queues with events, each in its own
abbrev pub telling_all : ℤ → ℕ → List RowEvent → List QueueView → List QueueView
telling_all now t [] queues = queues
telling_all now t (e ∷ es) queues = telling_all now t es (slice_set queues e.queue (telling now t e (slice_index_or queues e.queue no_queue)))

-- there is room for a write if there are ids for all its events; then these are stored. Those of a transaction that is rolled back are dead
abbrev pub event_rule : Gate QueuesView
event_rule = record {
  has_room = λ q write. ids_left (sequences q.queues) (events_at (traced_at q write.table) write);
  after = λ q t write. record q { queues = telling_all q.time t (events_at (traced_at q write.table) write) q.queues };
  undone = λ q t. record q { queues = map (undone_in t) q.queues };
}
