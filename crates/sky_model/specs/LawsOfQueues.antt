-- The laws on which queues exist, and on what is kept of a queue: at each place of each history that calls make.
use Rattle.std.specs.Prelude.{◌≡◌, ℕ, List, [], Bool, true, false, ◌==◌, ◌||◌, find, Some, None, All}
use Rattle.std.specs.List.{list_any}
use Rattle.sky_model.specs.History.{History}
use Rattle.sky_model.specs.Transactions.{running, has_ended}
use Rattle.sky_model.specs.Config.{default_config}
use Rattle.pgq_tables.specs.Tables.{no_tables}
use Rattle.sky_model.specs.Queues.{queues_made, queues, config, sequence, events, is_pending, event_tables, ticks, kept_ticks}
use Rattle.sky_model.specs.Consumers.{consumers, subscription_id, subscription}
use Rattle.sky_model.specs.Triggers.{triggers}
use Rattle.sky_model.specs.State.{database_of}
use Rattle.sky_model.specs.StepQueue.{least_producer}
use Rattle.sky_model.specs.HistoryPlaces.{IsPlace}

-- a queue exists: it was made, and not dropped
abbrev pub QueueStands : History → ℕ → Type 0
QueueStands p queue = list_any (λ q. q.number == queue) (queues p) ≡ true

-- a queue exists if a consumer is registered with it
abbrev pub QueuesOfConsumersStand : Type 0
QueuesOfConsumersStand = (p : History) → IsPlace p → (queue : ℕ) (consumer : List ℕ) (sub : ℕ) → subscription_id queue consumer p ≡ Some sub → QueueStands p queue

-- or if a trigger puts events into it
abbrev pub QueuesOfTriggersStand : Type 0
QueuesOfTriggersStand = (p : History) → IsPlace p → All (λ t. QueueStands p t.trigger.queue) (triggers p)

-- or if a transaction that hasn't ended has put one into it
abbrev pub BusyQueuesStand : Type 0
BusyQueuesStand = (p : History) → IsPlace p → (queue : ℕ) → All (λ e. has_ended p e.ev_txid ≡ false → QueueStands p queue) (events queue p)

-- a transaction has put an event into a queue, or has a switch of its tables pending
abbrev pub has_work_in : History → ℕ → ℕ → Bool
has_work_in p queue t = list_any (λ e. e.ev_txid == t) (events queue p) || is_pending t (event_tables queue p)

-- the transaction for which a queue that exists can't be dropped is the least one that has work in it, of those that haven't ended; there is none if
-- and only if none has
abbrev pub ProducersHaveWork : Type 0
ProducersHaveWork = (p : History) → IsPlace p → (queue : ℕ) → QueueStands p queue → least_producer (database_of p) queue ≡ find (has_work_in p queue) (running p)

-- nothing is kept of a queue
pub record KeepsNothing (p : History) (queue : ℕ) : Type 0 where
  pub unset : config queue p ≡ default_config
  pub no_id : sequence queue p ≡ 0
  pub no_event : event_tables queue p ≡ no_tables
  pub no_tick : kept_ticks queue p ≡ []
  pub no_consumer : consumers queue p ≡ []
  pub unsubscribed : (consumer : List ℕ) → subscription queue consumer p ≡ None

abbrev pub OtherQueuesKeepNothing : Type 0
OtherQueuesKeepNothing = (p : History) → IsPlace p → (queue : ℕ) → list_any (λ q. q.number == queue) (queues p) ≡ false → KeepsNothing p queue

-- nothing was ever put into the next queue that is made, and no tick was made of it, whatever name it gets
abbrev pub NewQueuesAreOthers : Type 0
NewQueuesAreOthers = (p : History) → IsPlace p → (events (queues_made p) p ≡ []) × (ticks (queues_made p) p ≡ [])
