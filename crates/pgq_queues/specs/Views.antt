-- What contracts see of a database's queues, as the code keeps them.
use Rattle.std.specs.Prelude.{ℕ, ℤ, List}
use Rattle.sky_val.specs.declared.column.Column.{Column}
use Rattle.sky_names.specs.Named.{NamedView}
use Rattle.pgq_retry.specs.declared.retry.Retry.{Retry}
use Rattle.sky_model.specs.Triggers.{TableTrigger}
use Rattle.pgq_queues.specs.declared.batch.Place.{Place}
use Rattle.pgq_queue.specs.Views.{QueueView}

-- a table with triggers: its name, its columns, and the places of its own among the triggers of all tables
pub record TracedTableView : Type 0 where
  pub name : List ℕ
  pub columns : List Column
  pub places : List ℕ

-- the same with the triggers that are there
pub record TracedView : Type 0 where
  pub name : List ℕ
  pub columns : List Column
  pub triggers : List TableTrigger

-- the queues of a database, and what it keeps with them
pub record QueuesView : Type 0 where
  -- the time of the running statement
  pub time : ℤ
  pub last_batch_id : ℕ
  pub last_sub_id : ℕ
  -- the names of the queues that exist, each with the queue's number, in the order of making
  pub names : NamedView ℕ
  -- the queues by their numbers; one that was dropped is empty
  pub queues : List QueueView
  -- where each active batch is: under its id, its queue and its consumer
  pub batches : List (ℕ × Place)
  -- the triggers, in the order of making
  pub triggers : List TableTrigger
  -- the tables with triggers, each under its number
  pub traced_tables : List (ℕ × TracedTableView)
  -- the retries that wait, in the order of asking
  pub retries : List Retry
  -- how often retries came back: no event was retried more often
  pub rounds : ℕ
