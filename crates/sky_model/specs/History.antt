-- What happened: marks in a database, facts in the world, each in order, the newest first. A place in a history is the history as it was then, so
-- 'before a place' is what is below it in the list.
use Rattle.std.specs.Prelude.{ℕ, ℤ, Bool, List, Option}
use Rattle.sky_val.specs.declared.event.Event.{Event}
use Rattle.sky_val.specs.declared.val.Val.{Val}
use Rattle.sky_val.specs.declared.column.Column.{Column}
use Rattle.sky_urlenc.specs.RowEvents.{Trigger}
use Rattle.pgq_retry.specs.declared.retry.Retry.{Retry}
use Rattle.sky_txid.specs.Snapshot.{SnapshotView}
use Rattle.londiste_state.specs.declared.state.TableState.{TableState}
use Rattle.sky_model.specs.declared.stmt.Attempt.{Attempt}
use Rattle.sky_model.specs.Config.{Config}
use Rattle.sky_model.specs.Hands.{BatchHand, Hand}

-- a batch: a consumer's, from one tick of its queue to another
pub record Batch : Type 0 where
  pub id : ℕ
  pub queue : ℕ
  pub consumer : List ℕ
  pub sub : ℕ
  pub prev : ℕ
  pub cur : ℕ

-- what happened to the queues of a database; a queue is identified by its number in the order of making
pub data QueueMark : Type 0 where
  -- a queue was made, by a transaction that has ended, with its first tick, at a time
  made : (name : List ℕ) (t : ℕ) (time : ℤ) → QueueMark
  -- its event sequence has this value from now on
  raised : (queue value : ℕ) → QueueMark
  -- an event was stored
  put : (queue : ℕ) (event : Event) → QueueMark
  -- a tick was made
  ticked : (queue id : ℕ) (time : ℤ) (seq : ℕ) → QueueMark
  -- a consumer was registered, as a subscription whose position is a tick
  registered : (queue : ℕ) (consumer : List ℕ) (sub tick : ℕ) → QueueMark
  -- the position of a registered consumer was set to a tick, and its batch was given up
  moved : (queue : ℕ) (consumer : List ℕ) (tick : ℕ) → QueueMark
  -- a consumer of this subscription is no longer registered, and its batch was given up
  unregistered : (queue : ℕ) (consumer : List ℕ) (sub : ℕ) → QueueMark
  -- a batch was made
  opened : (batch : Batch) → QueueMark
  -- a batch was finished
  closed : (batch : Batch) → QueueMark
  -- an event is to be retried
  asked : (retry : Retry) → QueueMark
  -- one that waited to be retried came back at this moment: its event was put just before
  returned : (retry : Retry) (moment : ℤ) → QueueMark
  -- a switch of a queue's event tables is pending: the commit of this transaction makes it
  switching : (queue t : ℕ) → QueueMark
  -- the pending switch was made, at a time
  switched : (queue : ℕ) (time : ℤ) → QueueMark
  -- the second step of the last switch was made by a transaction
  second_step : (queue t : ℕ) → QueueMark
  -- a queue has these settings from now on
  configured : (queue : ℕ) (config : Config) → QueueMark
  -- a queue was dropped
  dropped : (queue : ℕ) → QueueMark
  -- a table got a trigger, which may have a name: events of a queue record the table's writes from now on
  traced : (table : ℕ) (name : Option (List ℕ)) (trigger : Trigger) → QueueMark
  -- a table lost its triggers without a name
  untraced : (table : ℕ) → QueueMark

-- whose a transaction is: a session's, a worker's, or that of a worker that copies the rows of a table from another database, which lasts until the
-- copy ends
pub data Whose : Type 0 where
  of_session : (who : ℕ) → Whose
  of_worker : Whose
  of_copy : (table : ℕ) → Whose

-- what happened to the tables of a database; a table is identified by its number in the order of making
pub data TableMark : Type 0 where
  -- a table was made
  table_made : (name : List ℕ) (columns : List Column) → TableMark
  -- a transaction wrote a key of a table: the row that it had, and the row that it has
  wrote : (whose : Whose) (t table : ℕ) (key : List Val) (old new : Option (List Val)) → TableMark
  -- the session waits for a key that another one's transaction has written, and attempts this with the key when it resumes
  waits : (who table : ℕ) (key : List Val) (attempt : Attempt) → TableMark
  -- the session no longer waits
  waited : (who : ℕ) → TableMark
  -- sessions may not write a table from now on, or may again
  read_only : (table : ℕ) (on : Bool) → TableMark

-- which events a worker applies: those of the tables that are in sync, or those of a table that its copy's snapshot doesn't see
pub data Pick : Type 0 where
  of_synced : Pick
  copy_of : (table : List ℕ) → Pick

-- what happened to the node of a database; a table is identified by its name
pub data NodeMark : Type 0 where
  -- the root of a set was made, with the set's queue
  root_made : (name queue : List ℕ) → NodeMark
  -- a table joined the set; it left
  set_added : (table : List ℕ) → NodeMark
  set_removed : (table : List ℕ) → NodeMark
  -- a consumer of the set's queue is a leaf's from now on; it isn't any more
  joined : (consumer : List ℕ) → NodeMark
  parted : (consumer : List ℕ) → NodeMark
  -- a leaf was made, of the root of this name, at a tick of its queue
  leaf_made : (name provider : List ℕ) (tick : ℕ) → NodeMark
  -- a table joined the leaf; it left
  leaf_added : (table : List ℕ) → NodeMark
  leaf_removed : (table : List ℕ) → NodeMark
  -- a table of the leaf is in this state from now on
  state_set : (table : List ℕ) (state : TableState) → NodeMark
  -- the copy ended: the table has the rows under the snapshot
  copied : (table : List ℕ) (snapshot : SnapshotView) (tick : ℕ) → NodeMark
  -- events of a batch were applied, up to a tick
  applied : (pick : Pick) (tick : ℕ) → NodeMark
  -- a copy that ran was given up
  restarted : (table : List ℕ) → NodeMark
  -- the snapshot of this place is held under a number from now on; it isn't any more
  hold_begun : (hold : ℕ) → NodeMark
  hold_ended : (hold : ℕ) → NodeMark

-- what happened in a database
pub data Mark : Type 0 where
  -- a transaction got its id
  began : (whose : Whose) (t : ℕ) → Mark
  -- it ended
  ended : (whose : Whose) (t : ℕ) (committed : Bool) → Mark
  -- the session began a transaction block
  block_begun : (who : ℕ) → Mark
  -- which is repeatable read
  repeats : (who : ℕ) → Mark
  -- the place at which it reads is here
  sight_taken : (who : ℕ) → Mark
  -- a refusal aborted it
  block_failed : (who : ℕ) → Mark
  -- the session ended it
  block_ended : (who : ℕ) → Mark
  -- the session opened the database
  connected : (who : ℕ) → Mark
  -- it closed it
  disconnected : (who : ℕ) → Mark
  tabled : TableMark → Mark
  queued : QueueMark → Mark
  noded : NodeMark → Mark

-- what happened in one database
abbrev pub History : Type 0
History = List Mark

-- what happened in the world; a database is identified by its number in the order of making, a session by its number in the order of appearance
pub data Fact : Type 0 where
  -- a session appeared
  appeared : (name : List ℕ) → Fact
  -- a database was made
  founded : (name : List ℕ) → Fact
  -- a session opened a database
  entered : (who database : ℕ) → Fact
  -- a session left the database that it had open
  left : (who : ℕ) → Fact
  -- something happened in a database
  within : (database : ℕ) (mark : Mark) → Fact
  -- the clock was set to a moment
  clock_at : (moment : ℤ) → Fact
  -- a database's daemon is on, from this moment on; it is off
  daemon_on : (database : ℕ) → Fact
  daemon_off : (database : ℕ) → Fact
  -- a database got its node
  node_made : (database : ℕ) → Fact
  -- the worker that copies a table of a database has this in hand from now on, or nothing
  in_hand : (database : ℕ) (table : List ℕ) (hand : Option Hand) → Fact
  -- the worker of its leaf has this batch in hand, or nothing
  batch_in_hand : (database : ℕ) (batch : Option BatchHand) → Fact

-- what happened everywhere
abbrev pub Past : Type 0
Past = List Fact
