-- What a call does: a statement of a session, with all that it causes.
use Rattle.std.specs.Prelude.{ℕ, ℤ, Bool, true, false, List, [], ◌∷◌, map, Option, Some, None, not, Ok, Err, nat_le, length, if◌then◌else◌}
use Rattle.sky_model.specs.declared.stmt.Stmt.{Stmt}
use Rattle.sky_model.specs.declared.stmt.RowStmt.{RowStmt}
use Rattle.sky_model.specs.declared.stmt.RowStmt.TheVariants.{OpenDb, Close, Cancel, Begin, BeginRepeatableRead, Commit, Rollback, TxidCurrent, TxidCurrentSnapshot, TxidVisibleInSnapshot, CreateTable, Insert, Update, Delete, Get, Scan}
use Rattle.sky_model.specs.declared.stmt.Stmt.TheVariants.{Db, Node, World as OnWorld}
use Rattle.sky_model.specs.declared.stmt.DbStmt.{DbStmt}
use Rattle.sky_model.specs.declared.stmt.DbStmt.TheVariants.{Row, Queue}
use Rattle.sky_model.specs.declared.stmt.QueueStmt.{QueueStmt}
use Rattle.sky_model.specs.declared.stmt.QueueStmt.TheVariants.{CreateQueue, DropQueue, SetQueueConfig, QueueInfo, InsertEvent, AddTrigger, Ticker, ForceTick, RegisterConsumer, RegisterConsumerAt, UnregisterConsumer, NextBatch, GetBatchEvents, GetBatchInfo, EventRetry, FinishBatch, MaintRetryEvents, MaintRotateStep1, MaintRotateStep2, ConsumerInfo}
use Rattle.sky_model.specs.declared.stmt.WorldStmt.{WorldStmt}
use Rattle.sky_model.specs.declared.stmt.WorldStmt.TheVariants.{Clock, PgqdOn, PgqdOff}
use Rattle.sky_model.specs.declared.stmt.NodeStmt.{NodeStmt}
use Rattle.sky_model.specs.declared.reply.Reply.{Reply}
use Rattle.sky_model.specs.declared.reply.Reply.TheVariants.{Done, NotWaiting, Refused}
use Rattle.sky_model.specs.declared.reply.Limit.TheVariants.{Sessions, Databases}
use Rattle.sky_model.specs.declared.reply.Refusal.{Refusal}
use Rattle.sky_model.specs.declared.reply.Refusal.TheVariants.{TooMany, NotOpen}
use Rattle.sky_model.specs.declared.stmt.Where.TheVariants.{WhenOutside}
use Rattle.sky_keys.specs.Waits.{is_waiting}
use Rattle.sky_names.specs.Places.{place_of}
use Rattle.sky_model.specs.Limits.{most_of}
use Rattle.sky_model.specs.History.{Mark, Fact, entered, left, daemon_on, daemon_off, Past}
use Rattle.sky_model.specs.State.{RowPart, Database}
use Rattle.sky_model.specs.ShownRows.{RowsShown}
use Rattle.sky_model.specs.Outcome.{Outcome, Checked, after_marks_of, aborts}
use Rattle.sky_model.specs.Allowed.{where_of_row, where_of, allowed}
use Rattle.sky_model.specs.Clock.{deed_in, clock, waits_at}
use Rattle.sky_model.specs.Made.{Making, made_by}
use Rattle.sky_model.specs.StepQueue.{create_queue, drop_queue, set_queue_config, queue_info, insert_event, ticker, force_tick}
use Rattle.sky_model.specs.StepSession.{open_db, begin, begin_repeatable_read, commit, rollback, close, cancel, txid_current, txid_current_snapshot, txid_visible_in_snapshot}
use Rattle.sky_model.specs.StepRows.{create_table, insert, update, delete, get, scan}
use Rattle.sky_model.specs.StepTrigger.{add_trigger}
use Rattle.sky_model.specs.Telling.{tells}
use Rattle.sky_model.specs.StepConsumer.{register_consumer, register_consumer_at, unregister_consumer, next_batch, get_batch_events, get_batch_info, finish_batch, consumer_info}
use Rattle.sky_model.specs.StepRetry.{event_retry, maint_retry_events}
use Rattle.sky_model.specs.StepRotation.{maint_rotate_step1, maint_rotate_step2, committed_by, switches_of}
use Rattle.sky_model.specs.NodesOfWorld.{WorldOutcome}
use Rattle.sky_model.specs.WorkersOfWorld.{node_form}
use Rattle.sky_model.specs.World.{World, world_of, on_top}
use Rattle.sky_model.specs.Reader.{Shown, PartReader, DatabaseReader, Reader, within_part, within_database, by_past, Deed, answers_with, refuses, appears, founds, followed}
use Rattle.sky_model.specs.Settling.{Turn, turn_of, rests, with_rest, with_settling}
use Rattle.sky_model.specs.SessionMarks.{failing}
use Rattle.sky_model.specs.Promises.{Part, after_all}

-- what a statement on sessions, transactions, tables and rows does, if its session may make it
abbrev pub row_form : RowPart → RowsShown → ℕ → RowStmt → Checked Outcome
row_form d shown who (OpenDb name) = open_db who (d.session who).is_open
row_form d shown who Close = close who (d.session who).txid (d.session who).block
row_form d shown who Cancel = cancel who (d.session who).txid (d.session who).block (is_waiting who d.waiting)
row_form d shown who Begin = begin who (d.session who).block
row_form d shown who BeginRepeatableRead = begin_repeatable_read who (d.session who).block
row_form d shown who Commit = commit who (d.session who).txid (d.session who).block
row_form d shown who Rollback = rollback who (d.session who).txid (d.session who).block
row_form d shown who TxidCurrent = txid_current d who
row_form d shown who TxidCurrentSnapshot = txid_current_snapshot d who
row_form d shown who (TxidVisibleInSnapshot txid snapshot) = txid_visible_in_snapshot txid snapshot
row_form d shown who (CreateTable table columns) = create_table d table columns
row_form d shown who (Insert table row) = insert d shown who table row
row_form d shown who (Update table key sets) = update d shown who table key sets
row_form d shown who (Delete table key) = delete d shown who table key
row_form d shown who (Get table key) = get d shown who table key
row_form d shown who (Scan table) = scan d shown who table

-- the switches of event tables that a statement on rows makes before all else: `commit` makes those that its transaction has pending, so what it
-- unblocks finds them made
abbrev pub switches_first : Database → ℤ → ℕ → RowStmt → List Mark
switches_first d now who Commit = switches_of d now (committed_by (d.part.session who).block (d.part.session who).txid)
switches_first d now who stmt = []

-- what a statement on queues does, if its session may make it
abbrev pub queue_form : Database → Shown → ℤ → ℕ → QueueStmt → Checked Outcome
queue_form d shown now who (CreateQueue queue) = create_queue d now who queue
queue_form d shown now who (DropQueue queue) = drop_queue d queue
queue_form d shown now who (SetQueueConfig setting) = set_queue_config d setting
queue_form d shown now who (QueueInfo queue) = queue_info d queue
queue_form d shown now who (InsertEvent event) = insert_event d now who event
queue_form d shown now who (AddTrigger trigger) = add_trigger d trigger
queue_form d shown now who (Ticker queue) = ticker d now queue
queue_form d shown now who (ForceTick queue) = force_tick d queue
queue_form d shown now who (RegisterConsumer queue consumer) = register_consumer d queue consumer
queue_form d shown now who (RegisterConsumerAt position) = register_consumer_at d position
queue_form d shown now who (UnregisterConsumer queue consumer) = unregister_consumer d queue consumer
queue_form d shown now who (NextBatch queue consumer) = next_batch d queue consumer
queue_form d shown now who (GetBatchEvents batch) = get_batch_events shown.events batch
queue_form d shown now who (GetBatchInfo batch) = get_batch_info d batch
queue_form d shown now who (EventRetry again) = event_retry d shown.events now again
queue_form d shown now who (FinishBatch batch) = finish_batch d batch
queue_form d shown now who MaintRetryEvents = maint_retry_events d now
queue_form d shown now who (MaintRotateStep1 queue) = maint_rotate_step1 d now who queue
queue_form d shown now who MaintRotateStep2 = maint_rotate_step2 d
queue_form d shown now who (ConsumerInfo queue consumer) = consumer_info d queue consumer

-- what a statement does that a database runs by itself, if its session may make it
abbrev pub form : Database → Shown → ℤ → ℕ → DbStmt → Checked Outcome
form d shown now who (Row stmt) = after_marks_of (switches_first d now who stmt) (tells d now (row_form d.part shown.rows who stmt))
form d shown now who (Queue stmt) = queue_form d shown now who stmt

-- a statement on rows, at a place of its database's row part
abbrev pub row_making : {P : Type 0} → PartReader P → ℕ → RowStmt → Making P
row_making r who stmt = record {
  session = λ p. (r.part p).session who;
  waits = λ p. is_waiting who (r.part p).waiting;
  outcome = λ p. r.tells p (row_form (r.part p) (r.rows p) who stmt);
  behind = r.behind;
}

abbrev pub row_statement : {P : Type 0} → PartReader P → P → ℕ → RowStmt → Outcome
row_statement r p who stmt = made_by (row_making r who stmt) (where_of_row stmt) who p

-- with those that it unblocks
abbrev pub row_turn : {P : Type 0} → PartReader P → P → ℕ → RowStmt → Turn
row_turn r p who stmt = with_settling r p (turn_of who (row_statement r p who stmt))

-- a statement of a session, at a place of a database
abbrev pub making : {P : Type 0} → DatabaseReader P → ℤ → ℕ → DbStmt → Making P
making r now who stmt = record {
  session = λ p. (r.database p).part.session who;
  waits = λ p. is_waiting who (r.database p).part.waiting;
  outcome = λ p. form (r.database p) (r.shown p) now who stmt;
  behind = r.behind;
}

abbrev pub statement : {P : Type 0} → DatabaseReader P → P → ℤ → ℕ → DbStmt → Outcome
statement r p now who stmt = made_by (making r now who stmt) (where_of stmt) who p

-- with those that it unblocks
abbrev pub database_turn : {P : Type 0} → DatabaseReader P → P → ℤ → ℕ → DbStmt → Turn
database_turn r p now who stmt = with_settling (within_part r now) p (turn_of who (statement r p now who stmt))

-- ---- a statement that its session's database runs

-- the name of the database that a statement is to open
abbrev pub opening : DbStmt → Option (List ℕ)
opening (Row (OpenDb name)) = Some name
opening _ = None

-- the answer to a statement that opens none, of a session that has none open
abbrev pub unopened : DbStmt → Reply
unopened (Row Cancel) = NotWaiting
unopened _ = Refused NotOpen

-- `open` of a session that has none open, in this database
abbrev pub opens_in : {P : Type 0} → Reader P → ℕ → DbStmt → ℕ → P → Deed
opens_in r who stmt d p = deed_in d (entered who d ∷ []) (database_turn (within_database r d) p (r.world p).now who stmt)

-- in the one of this name, which is made if it is new
abbrev pub opens : {P : Type 0} → Reader P → P → ℕ → DbStmt → List ℕ → Option ℕ → Deed
opens r p who stmt name (Some d) = opens_in r who stmt d p
opens r p who stmt name None =
    if nat_le (most_of Databases) (length (r.world p).databases) then refuses who (TooMany Databases)
    else followed r p (opens_in r who stmt (length (r.world p).databases)) (founds name)

-- a statement of a session that has none open, by the name of the one that it is to open
abbrev pub outside_does : {P : Type 0} → Reader P → P → ℕ → DbStmt → Option (List ℕ) → Deed
outside_does r p who stmt None = answers_with who (unopened stmt) []
outside_does r p who stmt (Some name) = opens r p who stmt name (place_of name (r.world p).databases)

-- whether a session that waits, or doesn't, leaves its database: it does by `close`, which is refused while it waits
abbrev pub is_leaving : Bool → DbStmt → Bool
is_leaving waits (Row Close) = not waits
is_leaving waits _ = false

-- a session leaves its database, or doesn't
abbrev pub left_if : ℕ → Bool → List Fact
left_if who true = left who ∷ []
left_if who false = []

-- by the database that the session has open, if any
abbrev pub db_stmt_does : {P : Type 0} → Reader P → P → ℕ → DbStmt → Option ℕ → Deed
db_stmt_does r p who stmt None = outside_does r p who stmt (opening stmt)
db_stmt_does r p who stmt (Some d) =
    deed_in d (left_if who (is_leaving (is_waiting who ((r.world p).database d).part.waiting) stmt))
    (database_turn (within_database r d) p (r.world p).now who stmt)

-- ---- a statement on nodes or on the daemon, which is allowed outside blocks

-- whether a session may make such a statement in its database, or why not
abbrev pub allowed_outside : Database → ℕ → Checked (Unit {0})
allowed_outside d who = allowed (is_waiting who d.part.waiting) (d.part.session who).is_open (d.part.session who).block WhenOutside

-- the block of a session is rolled back if the refusal of a statement aborts it, with those that this unblocks
abbrev pub fails_if : {P : Type 0} → DatabaseReader P → P → ℤ → ℕ → Bool → Turn
fails_if r p now who true = with_settling (within_part r now) p (failing (r.database p).part who)
fails_if r p now who false = rests

-- a statement is refused in its session's database
abbrev pub refused_in : {P : Type 0} → Reader P → P → ℕ → ℕ → Refusal → Deed
refused_in r p who d refusal =
    deed_in d [] (with_rest (record { answers = (who, Refused refusal) ∷ []; marks = [] }) (fails_if (within_database r d) p (r.world p).now who (aborts refusal)))

-- a statement does this, unless its session may not make it in its database
abbrev pub if_allowed : {P : Type 0} → Reader P → P → ℕ → ℕ → Checked (Unit {0}) → Deed → Deed
if_allowed r p who d (Ok _) deed = deed
if_allowed r p who d (Err refusal) deed = refused_in r p who d refusal

-- what a statement that is allowed only outside blocks does, by the database that its session has open, if there is one
abbrev pub if_outside : {P : Type 0} → Reader P → P → ℕ → (ℕ → Deed) → Option ℕ → Deed
if_outside r p who deed None = refuses who NotOpen
if_outside r p who deed (Some d) = if_allowed r p who d (allowed_outside ((r.world p).database d) who) (deed d)

-- what a statement on nodes does in the world, or why it is refused
abbrev pub world_does : ℕ → Checked WorldOutcome → Deed
world_does who (Ok outcome) = record { answers = map (λ reply. (who, reply)) outcome.replies; facts = outcome.facts }
world_does who (Err refusal) = refuses who refusal

abbrev pub node_stmt_does : {P : Type 0} → Reader P → P → ℕ → NodeStmt → Option ℕ → Deed
node_stmt_does r p who stmt = if_outside r p who (λ d. world_does who (node_form (r.world p) d stmt))

-- a daemon is switched on, unless it has been on since a moment
abbrev pub on_unless : ℕ → Option ℤ → List Fact
on_unless d None = daemon_on d ∷ []
on_unless d (Some start) = []

-- the daemon of a session's database is switched
abbrev pub switches_daemon : {P : Type 0} → Reader P → P → ℕ → (ℕ → List Fact) → Option ℕ → Deed
switches_daemon r p who facts = if_outside r p who (λ d. answers_with who Done (facts d))

abbrev pub world_stmt_does : {P : Type 0} → Reader P → P → ℕ → WorldStmt → Option ℕ → Deed
world_stmt_does r p who (Clock time) home = clock r p who time (waits_at (r.world p) who home)
world_stmt_does r p who PgqdOn home = switches_daemon r p who (λ d. on_unless d ((r.world p).daemons d)) home
world_stmt_does r p who PgqdOff home = switches_daemon r p who (λ d. daemon_off d ∷ []) home

-- ---- any statement

-- by the database that the session has open, if any
abbrev pub stmt_does : {P : Type 0} → Reader P → P → ℕ → Stmt → Option ℕ → Deed
stmt_does r p who (Db stmt) home = db_stmt_does r p who stmt home
stmt_does r p who (Node stmt) home = node_stmt_does r p who stmt home
stmt_does r p who (OnWorld stmt) home = world_stmt_does r p who stmt home

-- a turn: what a statement of a session does at a place
abbrev pub turn : {P : Type 0} → Reader P → ℕ → Stmt → P → Deed
turn r who stmt p = stmt_does r p who stmt ((r.world p).homes who)

-- a statement, and the name of the session that makes it
pub record Call : Type 0 where
  pub who : List ℕ
  pub stmt : Stmt

-- a call of a session by its number; a new session appears before its first statement is run
abbrev pub called : {P : Type 0} → Reader P → P → Call → Option ℕ → Deed
called r p call (Some who) = turn r who call.stmt p
called r p call None =
    if nat_le (most_of Sessions) (length (r.world p).sessions) then refuses (length (r.world p).sessions) (TooMany Sessions)
    else followed r p (turn r (length (r.world p).sessions) call.stmt) (appears call.who)

-- what a call does at a place
abbrev pub step : {P : Type 0} → Reader P → P → Call → Deed
step r p call = called r p call (place_of call.who (r.world p).sessions)

-- what a call does after what has happened
abbrev pub does : Past → Call → Deed
does past call = step by_past past call

-- what has happened after a call
abbrev pub after : Past → Call → Past
after past call = on_top past (does past call).facts

-- the answers of a call, each with its session: the call's own, and those of statements that it unblocks
abbrev pub answers_of : Past → Call → List (ℕ × Reply)
answers_of past call = (does past call).answers

-- the world, as calls change it
abbrev pub world_part : Part Call Past World (List (ℕ × Reply))
world_part = record { start = []; after = after; answers = answers_of; shows = world_of }

-- what has happened after calls, the last one first
abbrev pub past_of : List Call → Past
past_of calls = after_all world_part calls
