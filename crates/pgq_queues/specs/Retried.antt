-- What holds of the retries that a database keeps, and of the events that were retried.
use Rattle.std.specs.Prelude.{◌≡◌, ℕ, ◌+◌, List, Option, Some, option_map, slice_index_or}
use Rattle.std.specs.List.{All}
use Rattle.pgq_retry.specs.declared.retry.Retry.{Retry}
use Rattle.sky_model.specs.Moment.{HasMoment}
use Rattle.pgq_sub.specs.Views.{SubView}
use Rattle.pgq_queue.specs.Views.{QueueView}
use Rattle.pgq_queue.specs.Stored.{AllStored, RetriedAtMost}
use Rattle.pgq_queue.specs.Seen.{no_queue}
use Rattle.pgq_queues.specs.Seen.{sub_at, Stands}

-- the id of a consumer's subscription
abbrev pub sub_id : List QueueView → ℕ → List ℕ → Option ℕ
sub_id queues n consumer = option_map SubView.id (sub_at queues n consumer)

-- a consumer of a queue that exists has this subscription
pub record HasConsumer (queues : List QueueView) (queue sub : ℕ) : Type 0 where
  pub stands : Stands queues queue
  pub consumer : List ℕ
  pub its : sub_id queues queue consumer ≡ Some sub

-- a retry is for a consumer of its queue; the time of its event can be printed; and, with this retry, the event was retried at most so often
pub record IsWaiting (rounds : ℕ) (queues : List QueueView) (r : Retry) : Type 0 where
  pub owner : HasConsumer queues r.queue r.sub
  pub moment : HasMoment r.event.ev_time
  pub most : RetriedAtMost rounds r.event

-- this holds of each retry; and no event that is stored was retried more often than retries came back
pub record RetriedWithin (rounds : ℕ) (queues : List QueueView) (retries : List Retry) : Type 0 where
  pub waiting : All (IsWaiting (rounds + 1) queues) retries
  pub stored : (n : ℕ) → AllStored (RetriedAtMost rounds) (slice_index_or queues n no_queue).event_tables.tables
