-- What each statement form may do that a database runs by itself: where it is allowed, and which kinds of marks it may leave. A statement that is
-- refused leaves what its refusal does (`or_refused`), and one that takes its session's sight that mark before all others.
use Rattle.std.specs.Prelude.{ℕ, Bool, true, false, not, ◌&&◌, ◌||◌, ◌==◌, Option, Some, None, is_some}
use Rattle.sky_model.specs.declared.stmt.DbStmt.{DbStmt}
use Rattle.sky_model.specs.declared.stmt.DbStmt.TheVariants.{Row, Queue}
use Rattle.sky_model.specs.declared.stmt.RowStmt.{RowStmt}
use Rattle.sky_model.specs.declared.stmt.RowStmt.TheVariants.{OpenDb, Close, Cancel, Begin, BeginRepeatableRead, Commit, Rollback, TxidCurrent, TxidCurrentSnapshot, TxidVisibleInSnapshot, CreateTable, Insert, Update, Delete, Get, Scan}
use Rattle.sky_model.specs.declared.stmt.QueueStmt.{QueueStmt}
use Rattle.sky_model.specs.declared.stmt.QueueStmt.TheVariants.{CreateQueue, DropQueue, SetQueueConfig, QueueInfo, InsertEvent, AddTrigger, Ticker, ForceTick, RegisterConsumer, RegisterConsumerAt, UnregisterConsumer, NextBatch, GetBatchEvents, GetBatchInfo, EventRetry, FinishBatch, MaintRetryEvents, MaintRotateStep1, MaintRotateStep2, ConsumerInfo}
use Rattle.sky_model.specs.declared.stmt.Where.{Where}
use Rattle.sky_model.specs.declared.stmt.Where.TheVariants.{Always, Anywhere, WhenOpen, WhenSound, WhenReading, WhenOutside}
use Rattle.sky_model.specs.History.{Mark, QueueMark, TableMark, of_session, of_worker, of_copy, began, ended, block_begun, repeats, sight_taken, block_failed, block_ended, connected, disconnected, tabled, queued, noded, table_made, wrote, waits, waited, read_only, made, raised, put, ticked, registered, moved, unregistered, opened, closed, asked, returned, switching, switched, second_step, configured, dropped, traced, untraced}
use Rattle.sky_model.specs.Sessions.{Block, is_outside, Session}

-- ---- kinds of marks

-- which kinds of marks a statement may leave
pub record MarkKinds : Type 0 where
  -- its session takes its sight
  pub looks : Bool
  -- it opens the database; it closes it
  pub opens : Bool
  pub closes : Bool
  -- a block begins; it is repeatable read; it ends; it is aborted
  pub begins : Bool
  pub repeatable : Bool
  pub ends : Bool
  pub aborts : Bool
  -- its session's transaction takes an id, and ends with the statement outside blocks
  pub takes_id : Bool
  -- the block's transaction commits; it is rolled back
  pub commits : Bool
  pub rolls_back : Bool
  -- a table is made; a key is written; the session begins to wait; it no longer waits
  pub tables : Bool
  pub writes : Bool
  pub waits_for : Bool
  pub wakes : Bool
  -- a worker's transaction begins and ends
  pub works : Bool
  -- a queue is made; it gets its settings; it is dropped; a table gets a trigger
  pub makes : Bool
  pub configures : Bool
  pub drops : Bool
  pub traces : Bool
  -- event ids are taken; events are stored, without an owner; a tick is made
  pub raises : Bool
  pub puts : Bool
  pub ticks : Bool
  -- a consumer registers; it is moved; it leaves
  pub registers : Bool
  pub moves : Bool
  pub unregisters : Bool
  -- a batch is made; it is finished; an event is to be retried; retries come back, with their owners
  pub takes_batch : Bool
  pub finishes : Bool
  pub asks : Bool
  pub brings_back : Bool
  -- a switch is pending; it is made; second steps are made
  pub rotates : Bool
  pub switches : Bool
  pub second_steps : Bool

-- none
abbrev pub no_more : MarkKinds
no_more = record {
  looks = false;
  opens = false;
  closes = false;
  begins = false;
  repeatable = false;
  ends = false;
  aborts = false;
  takes_id = false;
  commits = false;
  rolls_back = false;
  tables = false;
  writes = false;
  waits_for = false;
  wakes = false;
  works = false;
  makes = false;
  configures = false;
  drops = false;
  traces = false;
  raises = false;
  puts = false;
  ticks = false;
  registers = false;
  moves = false;
  unregisters = false;
  takes_batch = false;
  finishes = false;
  asks = false;
  brings_back = false;
  rotates = false;
  switches = false;
  second_steps = false;
}

-- those of any statement: its session takes its sight before it, and its refusal aborts the session's block
abbrev pub of_any : MarkKinds
of_any = record no_more { looks = true; aborts = true; rolls_back = true }

-- those that aren't of queues or of workers
abbrev pub of_rows : MarkKinds → MarkKinds
of_rows k = record no_more {
  looks = k.looks;
  opens = k.opens;
  closes = k.closes;
  begins = k.begins;
  repeatable = k.repeatable;
  ends = k.ends;
  aborts = k.aborts;
  takes_id = k.takes_id;
  commits = k.commits;
  rolls_back = k.rolls_back;
  tables = k.tables;
  writes = k.writes;
  waits_for = k.waits_for;
  wakes = k.wakes;
}

-- whether a statement may store an event, which may have an owner, if it may leave these kinds
abbrev pub may_put : MarkKinds → Option ℕ → Bool
may_put k None = k.puts
may_put k (Some sub) = k.brings_back

-- whether it may leave a mark of a queue, of a session in or outside a block; a switch is made outside blocks, or by the commit of one
abbrev pub may_leave_queued : MarkKinds → Block → QueueMark → Bool
may_leave_queued k b (made name t time) = k.makes
may_leave_queued k b (raised q value) = k.raises
may_leave_queued k b (put q e) = may_put k e.ev_owner
may_leave_queued k b (ticked q id time seq) = k.ticks
may_leave_queued k b (registered q consumer sub tick) = k.registers
may_leave_queued k b (moved q consumer tick) = k.moves
may_leave_queued k b (unregistered q consumer sub) = k.unregisters
may_leave_queued k b (opened batch) = k.takes_batch
may_leave_queued k b (closed batch) = k.finishes
may_leave_queued k b (asked retry) = k.asks
may_leave_queued k b (returned retry moment) = k.brings_back
may_leave_queued k b (switching q t) = k.rotates
may_leave_queued k b (switched q time) = k.switches && (k.commits || is_outside b)
may_leave_queued k b (second_step q t) = k.second_steps
may_leave_queued k b (configured q config) = k.configures
may_leave_queued k b (dropped q) = k.drops
may_leave_queued k b (traced table name trigger) = is_some name && k.traces
may_leave_queued k b (untraced table) = false

-- whether a session's may leave one of a table
abbrev pub may_leave_tabled : MarkKinds → ℕ → TableMark → Bool
may_leave_tabled k who (table_made name columns) = k.tables
may_leave_tabled k who (wrote (of_session v) t table key old new) = k.writes
may_leave_tabled k who (wrote _ t table key old new) = false
may_leave_tabled k who (waits v table key attempt) = k.waits_for && v == who
may_leave_tabled k who (waited v) = k.wakes
may_leave_tabled k who (read_only table on) = false

-- whether that of a session in this state may leave a mark
abbrev pub may_leave : MarkKinds → Session → ℕ → Mark → Bool
may_leave k s who (began (of_session v) t) = k.takes_id
may_leave k s who (began of_worker t) = k.works
may_leave k s who (began (of_copy table) t) = false
may_leave k s who (ended (of_session v) t true) = (k.takes_id && is_outside s.block || k.commits) && v == who
may_leave k s who (ended (of_session v) t false) = k.rolls_back
may_leave k s who (ended of_worker t committed) = k.works && committed
may_leave k s who (ended (of_copy table) t committed) = false
may_leave k s who (block_begun v) = k.begins && is_outside s.block
may_leave k s who (repeats v) = k.repeatable && is_outside s.block
may_leave k s who (sight_taken v) = k.looks
may_leave k s who (block_failed v) = k.aborts
may_leave k s who (block_ended v) = k.ends
may_leave k s who (connected v) = k.opens && not s.is_open
may_leave k s who (disconnected v) = k.closes
may_leave k s who (tabled mark) = may_leave_tabled k who mark
may_leave k s who (queued mark) = may_leave_queued k s.block mark
may_leave k s who (noded mark) = false

-- ---- the forms

pub record Permit : Type 0 where
  pub place : Where
  pub kinds : MarkKinds

abbrev pub permit : Where → MarkKinds → Permit
permit place kinds = record { place = place; kinds = kinds }

-- an attempt with a key, which may have to wait, and the events that record it
abbrev pub attempt_kinds : Bool → MarkKinds
attempt_kinds held = record no_more { takes_id = true; writes = true; waits_for = held; raises = true; puts = true }

-- those of a statement that resumes, whose refusal may abort its session's block
abbrev pub of_resumed : MarkKinds
of_resumed = record (of_rows (attempt_kinds true)) { looks = true; aborts = true; rolls_back = true }

-- on rows
abbrev pub permit_of_row : RowStmt → Permit
permit_of_row (OpenDb name) = permit Anywhere (record no_more { opens = true })
permit_of_row Close = permit WhenOpen (record no_more { closes = true; ends = true; rolls_back = true })
permit_of_row Cancel = permit Always (record no_more { wakes = true; aborts = true; rolls_back = true })
permit_of_row Begin = permit WhenSound (record no_more { begins = true })
permit_of_row BeginRepeatableRead = permit WhenSound (record no_more { begins = true; repeatable = true })
permit_of_row Commit = permit WhenOpen (record no_more { ends = true; commits = true; rolls_back = true; switches = true })
permit_of_row Rollback = permit WhenOpen (record no_more { ends = true; rolls_back = true })
permit_of_row TxidCurrent = permit WhenReading (record no_more { takes_id = true })
permit_of_row TxidCurrentSnapshot = permit WhenReading no_more
permit_of_row (TxidVisibleInSnapshot txid snapshot) = permit WhenReading no_more
permit_of_row (CreateTable table columns) = permit WhenOutside (record no_more { tables = true })
permit_of_row (Insert table row) = permit WhenReading (attempt_kinds true)
permit_of_row (Update table key sets) = permit WhenReading (attempt_kinds true)
permit_of_row (Delete table key) = permit WhenReading (attempt_kinds true)
permit_of_row (Get table key) = permit WhenReading no_more
permit_of_row (Scan table) = permit WhenReading no_more

-- on queues
abbrev pub permit_of_queue : QueueStmt → Permit
permit_of_queue (CreateQueue queue) = permit WhenOutside (record no_more { takes_id = true; makes = true })
permit_of_queue (DropQueue queue) = permit WhenOutside (record no_more { drops = true })
permit_of_queue (SetQueueConfig setting) = permit WhenOutside (record no_more { configures = true })
permit_of_queue (QueueInfo queue) = permit WhenOutside no_more
permit_of_queue (InsertEvent event) = permit WhenReading (record no_more { takes_id = true; raises = true; puts = true })
permit_of_queue (AddTrigger trigger) = permit WhenOutside (record no_more { traces = true })
permit_of_queue (Ticker queue) = permit WhenOutside (record no_more { ticks = true })
permit_of_queue (ForceTick queue) = permit WhenOutside (record no_more { raises = true })
permit_of_queue (RegisterConsumer queue consumer) = permit WhenOutside (record no_more { registers = true })
permit_of_queue (RegisterConsumerAt position) = permit WhenOutside (record no_more { registers = true; moves = true })
permit_of_queue (UnregisterConsumer queue consumer) = permit WhenOutside (record no_more { unregisters = true })
permit_of_queue (NextBatch queue consumer) = permit WhenOutside (record no_more { takes_batch = true })
permit_of_queue (GetBatchEvents batch) = permit WhenOutside no_more
permit_of_queue (GetBatchInfo batch) = permit WhenOutside no_more
permit_of_queue (EventRetry again) = permit WhenOutside (record no_more { asks = true })
permit_of_queue (FinishBatch batch) = permit WhenOutside (record no_more { finishes = true })
permit_of_queue MaintRetryEvents = permit WhenOutside (record no_more { works = true; puts = true; brings_back = true })
permit_of_queue (MaintRotateStep1 queue) = permit WhenReading (record no_more { takes_id = true; rotates = true; switches = true })
permit_of_queue MaintRotateStep2 = permit WhenOutside (record no_more { works = true; second_steps = true })
permit_of_queue (ConsumerInfo queue consumer) = permit WhenOutside no_more

-- any
abbrev pub permit_of : DbStmt → Permit
permit_of (Row stmt) = permit_of_row stmt
permit_of (Queue stmt) = permit_of_queue stmt
