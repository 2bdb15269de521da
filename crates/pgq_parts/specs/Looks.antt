-- How many stored events a statement looks at, by queue.
use Rattle.std.specs.Prelude.{◌≡◌, ℕ, ◌+◌, ◌-◌, ◌^◌, ◌<◌, ◌≤◌, ◌==◌, List, length, false, Option, Some, None, if◌then◌else◌, Result, Ok, Err}
use Rattle.sky_val.specs.declared.event.Event.{Event}
use Rattle.sky_model.specs.History.{Batch}
use Rattle.sky_model.specs.declared.reply.Reply.{Reply}
use Rattle.sky_model.specs.declared.reply.Reply.TheVariants.{Events}
use Rattle.sky_model.specs.declared.stmt.DbStmt.{DbStmt}
use Rattle.sky_model.specs.declared.stmt.DbStmt.TheVariants.{Queue}
use Rattle.sky_model.specs.declared.stmt.QueueStmt.TheVariants.{GetBatchEvents, EventRetry}
use Rattle.sky_model.specs.declared.stop.Stop.{Stop}
use Rattle.sky_model.specs.declared.stop.Stop.TheVariants.{Refused, NoMemory}
use Rattle.pgq_queue.specs.Looked.{most_in}
use Rattle.pgq_queues.specs.Seen.{queue_at, batch_at, reads_at}
use Rattle.pgq_queues.specs.Views.{QueuesView}

-- how many of a queue's are looked at for a batch, at most: none of another queue's
abbrev pub most_for : QueuesView → ℕ → Option Batch → ℕ
most_for q n None = 0
most_for q n (Some b) = if b.queue == n then most_in (queue_at q n) b else 0

-- of each queue no more are looked at
abbrev pub LooksFor : QueuesView → QueuesView → ℕ → Type 0
LooksFor old new id = (n : ℕ) → reads_at new.queues n ≤ reads_at old.queues n + most_for old n (batch_at old id)

-- this holds of `get_batch_events N` and `event_retry N N N`; of other statements nothing is said
abbrev pub LooksWithin : QueuesView → QueuesView → DbStmt → Type 0
LooksWithin old new (Queue (GetBatchEvents id)) = LooksFor old new id
LooksWithin old new (Queue (EventRetry again)) = LooksFor old new again.batch
LooksWithin old new _ = Unit {0}

-- whether it is refused or not; out of memory, nothing is said of it
abbrev pub LooksUnlessCut : QueuesView → QueuesView → ℕ → Result (Unit {0}) Stop → Type 0
LooksUnlessCut old new id (Ok _) = LooksFor old new id
LooksUnlessCut old new id (Err (Refused refusal)) = LooksFor old new id
LooksUnlessCut old new id (Err NoMemory) = Unit {0}

abbrev pub RanWithin : QueuesView → QueuesView → DbStmt → Result (Unit {0}) Stop → Type 0
RanWithin old new (Queue (GetBatchEvents id)) result = LooksUnlessCut old new id result
RanWithin old new (Queue (EventRetry again)) result = LooksUnlessCut old new again.batch result
RanWithin old new _ result = Unit {0}

-- nothing is looked at
abbrev pub ReadsNone : QueuesView → QueuesView → Type 0
ReadsNone old new = (n : ℕ) → reads_at new.queues n ≡ reads_at old.queues n

-- for a batch, nothing of another queue is looked at
abbrev pub LooksAtNoOther : QueuesView → QueuesView → Option Batch → Type 0
LooksAtNoOther old new None = ReadsNone old new
LooksAtNoOther old new (Some b) = (n : ℕ) → (b.queue == n) ≡ false → reads_at new.queues n ≡ reads_at old.queues n

-- of a batch's queue as many are looked at as are listed, at least, unless so many were that they are no longer counted
abbrev pub LooksFrom : QueuesView → QueuesView → List Event → Option Batch → Type 0
LooksFrom old new events None = Unit {0}
LooksFrom old new events (Some b) = reads_at new.queues b.queue < 2 ^ 64 - 1 → length events + reads_at old.queues b.queue ≤ reads_at new.queues b.queue

-- for the batch of an id, if its events are answered
abbrev pub ListsFrom : QueuesView → QueuesView → ℕ → Reply → Type 0
ListsFrom old new id (Events events) = LooksFrom old new events (batch_at old id)
ListsFrom old new id _ = Unit {0}

-- this holds of the answer of `get_batch_events N`; of other statements nothing is said
abbrev pub ListsLooked : QueuesView → QueuesView → DbStmt → Reply → Type 0
ListsLooked old new (Queue (GetBatchEvents id)) reply = ListsFrom old new id reply
ListsLooked old new _ reply = Unit {0}
