-- What the statements on consumers and batches do. Each reads the database `d` as it is.
use Rattle.std.specs.Prelude.{ℕ, ◌+◌, ◌^◌, List, [], ◌∷◌, Bool, ◌==◌, ◌||◌, Option, Some, None, nat_lt, nat_le, is_some, length, find, if◌then◌else◌}
use Rattle.std.specs.List.{list_any}
use Rattle.sky_val.specs.declared.event.Event.{Event}
use Rattle.pgq_retry.specs.Retries.{count_of}
use Rattle.sky_model.specs.declared.stmt.ConsumerPosition.{ConsumerPosition}
use Rattle.sky_model.specs.declared.reply.BatchInfo as shown_batch
use Rattle.sky_model.specs.declared.reply.ConsumerInfo as shown_consumer
use Rattle.sky_model.specs.declared.reply.Reply.TheVariants.{Number, Null, Events, BatchInfo, ConsumerInfo}
use Rattle.sky_model.specs.declared.reply.Limit.TheVariants.{Consumers}
use Rattle.sky_model.specs.declared.reply.Refusal.TheVariants.{NoBatch, NoConsumer, NodeConsumer, NoTick, TickTooOld, TooMany, IdsSpent}
use Rattle.sky_model.specs.Limits.{most_of}
use Rattle.sky_model.specs.History.{Batch, queued, registered, moved, unregistered, opened, closed}
use Rattle.sky_model.specs.Queues.{queue_name, Tick, tick, seq_at, id_of, is_above, second_step_of}
use Rattle.sky_model.specs.Consumers.{Subscription}
use Rattle.sky_model.specs.Nodes.{is_leafs}
use Rattle.sky_model.specs.State.{Queue, Database}
use Rattle.sky_model.specs.Outcome.{Outcome, Checked, ◌>>=◌, ◌>>◌, refused_if, found_or, answers, does_marks}
use Rattle.sky_model.specs.StepQueue.{queue_called, newest_id}

-- a name with a dot in it
abbrev pub has_dot : List ℕ → Bool
has_dot name = list_any (λ b. b == 46) name

-- whether a consumer of the queue of a name is a node's, so that no session may use it: such names have a dot, or are leaves'
abbrev pub is_nodes : Database → (queue consumer : List ℕ) → Bool
is_nodes d queue consumer = has_dot consumer || is_leafs queue consumer d.node

-- whether the last subscription id was given
abbrev pub sub_ids_spent : Database → Bool
sub_ids_spent d = nat_le (2 ^ 64) (d.last_sub_id + 1)

-- a new consumer: a subscription with the next id, whose position is a tick
abbrev pub registers : Database → ℕ → List ℕ → ℕ → Checked Outcome
registers d queue consumer tick = do
  refused_if (nat_le (most_of Consumers) (length (d.queue queue).members)) (TooMany Consumers)
  refused_if (sub_ids_spent d) IdsSpent
  does_marks (Number 1) (queued (registered queue consumer (d.last_sub_id + 1) tick) ∷ [])

-- `register_consumer NAME CONSUMER`: a subscription whose position is the newest tick
abbrev pub register_consumer : Database → List ℕ → List ℕ → Checked Outcome
register_consumer d name consumer = do
  queue ← queue_called name d
  refused_if (is_nodes d name consumer) NodeConsumer
  if is_some ((d.queue queue).sub consumer) then answers (Number 0) else registers d queue consumer (newest_id (d.queue queue))

-- the least tick at which a consumer may register: the oldest that is kept, and while a switch is pending, which drops older ones, the oldest that
-- is above its second step
abbrev pub floor : Queue → ℕ
floor q = id_of (find (λ t. is_above (if is_some q.event_tables.pending then second_step_of q.event_tables else 0) t) q.tick_list)

-- `register_consumer_at NAME CONSUMER N`: the same at the tick of this id; one that is registered is moved there
abbrev pub register_consumer_at : Database → ConsumerPosition → Checked Outcome
register_consumer_at d position = do
  queue ← queue_called position.queue d
  refused_if (is_nodes d position.queue position.consumer) NodeConsumer
  refused_if (position.tick == 0 || nat_lt (newest_id (d.queue queue)) position.tick) (NoTick position.tick (newest_id (d.queue queue)))
  refused_if (nat_lt position.tick (floor (d.queue queue))) (TickTooOld position.tick (floor (d.queue queue)))
  if is_some ((d.queue queue).sub position.consumer) then does_marks (Number 0) (queued (moved queue position.consumer position.tick) ∷ []) else registers d queue position.consumer position.tick

-- a consumer leaves, if it is registered
abbrev pub leaves : ℕ → List ℕ → Option Subscription → Checked Outcome
leaves queue consumer None = answers (Number 0)
leaves queue consumer (Some sub) = does_marks (Number 1) (queued (unregistered queue consumer sub.id) ∷ [])

-- `unregister_consumer NAME CONSUMER`
abbrev pub unregister_consumer : Database → (name consumer : List ℕ) → Checked Outcome
unregister_consumer d name consumer = do
  queue ← queue_called name d
  refused_if (is_nodes d name consumer) NodeConsumer
  leaves queue consumer ((d.queue queue).sub consumer)

-- a new batch, from a subscription's position to the tick with the next id, if that is made
abbrev pub opens_batch : Database → ℕ → List ℕ → Subscription → Option Tick → Checked Outcome
opens_batch d queue consumer sub None = answers Null
opens_batch d queue consumer sub (Some next) = do
  refused_if (nat_le (2 ^ 64) (d.last_batch_id + 1)) IdsSpent
  does_marks (Number (d.last_batch_id + 1))
      (queued (opened (record {
        id = d.last_batch_id + 1;
        queue = queue;
        consumer = consumer;
        sub = sub.id;
        prev = sub.position;
        cur = next.id;
      })) ∷ [])

-- the active batch, else a new one
abbrev pub takes_batch : Database → ℕ → List ℕ → Subscription → Option ℕ → Checked Outcome
takes_batch d queue consumer sub (Some batch) = answers (Number batch)
takes_batch d queue consumer sub None = opens_batch d queue consumer sub (tick (sub.position + 1) (d.queue queue).tick_list)

-- `next_batch NAME CONSUMER`
abbrev pub next_batch : Database → List ℕ → List ℕ → Checked Outcome
next_batch d name consumer = do
  queue ← queue_called name d
  refused_if (is_nodes d name consumer) NodeConsumer
  sub ← found_or ((d.queue queue).sub consumer) (NoConsumer consumer)
  takes_batch d queue consumer sub sub.active

-- `get_batch_events N`, by the events of each active batch
abbrev pub get_batch_events : (ℕ → Option (List Event)) → ℕ → Checked Outcome
get_batch_events events_of id = do
  events ← found_or (events_of id) NoBatch
  answers (Events events)

-- what is shown of an active batch
abbrev pub batch_info_of : Database → Batch → shown_batch.BatchInfo
batch_info_of d b = record {
  queue = queue_name b.queue d.queues;
  consumer = b.consumer;
  prev_tick = b.prev;
  tick = b.cur;
  prev_seq = seq_at (tick b.prev (d.queue b.queue).tick_list);
  seq = seq_at (tick b.cur (d.queue b.queue).tick_list);
}

-- `get_batch_info N`
abbrev pub get_batch_info : Database → ℕ → Checked Outcome
get_batch_info d id = do
  batch ← found_or (d.batch id) NoBatch
  answers (BatchInfo (batch_info_of d batch))

-- what is shown of a consumer
abbrev pub consumer_info_of : Database → Subscription → shown_consumer.ConsumerInfo
consumer_info_of d sub = record { sub = sub.id; last_tick = sub.position; batch = sub.active; retries = count_of sub.id d.retries }

-- `consumer_info NAME CONSUMER`
abbrev pub consumer_info : Database → (name consumer : List ℕ) → Checked Outcome
consumer_info d name consumer = do
  queue ← queue_called name d
  sub ← found_or ((d.queue queue).sub consumer) (NoConsumer consumer)
  answers (ConsumerInfo (consumer_info_of d sub))

-- whether a batch is of a node's consumer
abbrev pub is_nodes_batch : Database → Batch → Bool
is_nodes_batch d batch = is_nodes d (queue_name batch.queue d.queues) batch.consumer

-- `finish_batch N`
abbrev pub finishes : Database → Option Batch → Checked Outcome
finishes d None = answers (Number 0)
finishes d (Some batch) = do
  refused_if (is_nodes_batch d batch) NodeConsumer
  does_marks (Number 1) (queued (closed batch) ∷ [])

abbrev pub finish_batch : Database → ℕ → Checked Outcome
finish_batch d id = finishes d (d.batch id)
