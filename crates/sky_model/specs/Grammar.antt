-- The statement forms as a table, and what a line says by it.
use Rattle.std.specs.Prelude.{ℕ, Bool, true, false, ◌+◌, ◌-◌, ◌^◌, ◌==◌, if◌then◌else◌, List, [], ◌∷◌, ◌++◌, length, take, drop, Option, Some, None, Result, Ok, Err, bytes_eq, codes}
use Rattle.sky_model.specs.declared.stmt.Extra.{Extra}
use Rattle.sky_model.specs.declared.stmt.RowStmt.TheVariants as row
use Rattle.sky_model.specs.declared.stmt.RowStmt.{RowStmt}
use Rattle.sky_model.specs.declared.stmt.QueueStmt.{QueueStmt}
use Rattle.sky_model.specs.declared.stmt.QueueStmt.TheVariants as queues
use Rattle.sky_model.specs.declared.stmt.NodeStmt.TheVariants as node
use Rattle.sky_model.specs.declared.stmt.WorldStmt.TheVariants as world
use Rattle.sky_model.specs.declared.stmt.DbStmt.TheVariants as db
use Rattle.sky_model.specs.declared.stmt.Stmt.{Stmt}
use Rattle.sky_model.specs.declared.stmt.Stmt.TheVariants as stmt
use Rattle.sky_model.specs.declared.line.Line.{Line}
use Rattle.sky_model.specs.declared.line.Line.TheVariants.{Blank, Run}
use Rattle.sky_model.specs.declared.line.Fixed.{Fixed}
use Rattle.sky_model.specs.declared.line.Fixed.TheVariants as fixed
use Rattle.sky_model.specs.Words.{words}
use Rattle.sky_model.specs.Kinds.{Kind, Name, Dotted, Number, OptText, Raw, Value, Column, Set, Ignore, Advance, Of, value}

-- ---- what may follow in a line

-- its end, with the statement; a fixed word, and then more; a word of a kind, and then more by its value; either of two; any words of a kind, and
-- then more by their values
pub data GrammarRow : Type 0 where
  stop : Stmt → GrammarRow
  literal : Fixed → GrammarRow → GrammarRow
  one : (k : Kind) → (Of k → GrammarRow) → GrammarRow
  either : GrammarRow → GrammarRow → GrammarRow
  many : (k : Kind) → (List (Of k) → GrammarRow) → GrammarRow

-- a word of a kind, and the line's end
abbrev pub last : (k : Kind) → (Of k → Stmt) → GrammarRow
last k make = one k (λ v. stop (make v))

-- one or more words of a kind, and then more by their values
abbrev pub some : (k : Kind) → (List (Of k) → GrammarRow) → GrammarRow
some k f = one k (λ v. many k (λ vs. f (v ∷ vs)))

-- one or more words of a kind, and the line's end
abbrev pub some_last : (k : Kind) → (List (Of k) → Stmt) → GrammarRow
some_last k make = some k (λ vs. stop (make vs))

-- one or more words of a kind, a fixed word, and then more by their values
abbrev pub some_until : Fixed → (k : Kind) → (List (Of k) → GrammarRow) → GrammarRow
some_until end k f = some k (λ vs. literal end (f vs))

-- a fixed word or none, and then more by whether it is there
abbrev pub optional : Fixed → (Bool → GrammarRow) → GrammarRow
optional fixed f = either (f false) (literal fixed (f true))

-- the fixed words
abbrev pub text_of : Fixed → List ℕ
text_of fixed.Repeatable = codes "repeatable"
text_of fixed.Read = codes "read"
text_of fixed.Table = codes "table"
text_of fixed.Set = codes "set"
text_of fixed.Backup = codes "backup"
text_of fixed.On = codes "on"
text_of fixed.Off = codes "off"

-- a statement on rows; one on queues
abbrev pub on_rows : RowStmt → Stmt
on_rows s = stmt.Db (db.Row s)

abbrev pub on_queues : QueueStmt → Stmt
on_queues s = stmt.Db (db.Queue s)

-- ---- the statement forms: for each its first word, and what follows it

-- on sessions and transactions
abbrev pub session_forms : List (List ℕ × GrammarRow)
session_forms =
    (codes "open", last Name (λ name. on_rows (row.OpenDb name)))
    ∷ (codes "close", stop (on_rows row.Close))
    ∷ (codes "cancel", stop (on_rows row.Cancel))
    ∷ (codes "begin", either (stop (on_rows row.Begin)) (literal fixed.Repeatable (literal fixed.Read (stop (on_rows row.BeginRepeatableRead)))))
    ∷ (codes "commit", stop (on_rows row.Commit))
    ∷ (codes "rollback", stop (on_rows row.Rollback))
    ∷ (codes "txid_current", stop (on_rows row.TxidCurrent))
    ∷ (codes "txid_current_snapshot", stop (on_rows row.TxidCurrentSnapshot))
    ∷ (codes "txid_visible_in_snapshot", one (Number (2 ^ 64 - 1)) (λ txid. last Raw (λ snapshot. on_rows (row.TxidVisibleInSnapshot txid snapshot))))
    ∷ []

-- on tables and rows
abbrev pub row_forms : List (List ℕ × GrammarRow)
row_forms =
    (codes "create", literal fixed.Table (one Dotted (λ table. some_last Column (λ columns. on_rows (row.CreateTable table columns)))))
    ∷ (codes "insert", one Dotted (λ table. some_last Value (λ values. on_rows (row.Insert table values))))
    ∷ (codes "update", one Dotted (λ table. some_until fixed.Set Value (λ key. some_last Set (λ sets. on_rows (row.Update table key sets)))))
    ∷ (codes "delete", one Dotted (λ table. some_last Value (λ key. on_rows (row.Delete table key))))
    ∷ (codes "get", one Dotted (λ table. some_last Value (λ key. on_rows (row.Get table key))))
    ∷ (codes "scan", last Dotted (λ table. on_rows (row.Scan table)))
    ∷ []

-- an event with these texts
abbrev pub inserted_event : (queue : List ℕ) (ev_type ev_data : Option (List ℕ)) → Option Extra → Stmt
inserted_event queue ev_type ev_data extra = on_queues (queues.InsertEvent (record { queue = queue; ev_type = ev_type; ev_data = ev_data; extra = extra }))

-- the four further texts of an event, to the line's end
abbrev pub extra_row : (queue : List ℕ) (ev_type ev_data : Option (List ℕ)) → GrammarRow
extra_row queue ev_type ev_data =
    one OptText (λ extra1. one OptText (λ extra2. one OptText (λ extra3. last OptText (λ extra4.
    inserted_event queue ev_type ev_data (Some (record { ev_extra1 = extra1; ev_extra2 = extra2; ev_extra3 = extra3; ev_extra4 = extra4 }))))))

-- an event's queue, type and data, and then none or four further texts
abbrev pub insert_event : GrammarRow
insert_event =
    one Name (λ queue. one OptText (λ ev_type. one OptText (λ ev_data.
    either (stop (inserted_event queue ev_type ev_data None)) (extra_row queue ev_type ev_data))))

-- a trigger that is to ignore these columns
abbrev pub added_trigger : (name table queue : List ℕ) → Bool → List (List ℕ) → Stmt
added_trigger name table queue backup columns = on_queues (queues.AddTrigger (record { name = name; table = table; queue = queue; backup = backup; ignored = columns }))

-- the columns to ignore at the end of a trigger's line, or none
abbrev pub ignore_row : (name table queue : List ℕ) → Bool → GrammarRow
ignore_row name table queue backup = either (stop (added_trigger name table queue backup [])) (last Ignore (added_trigger name table queue backup))

-- a trigger's name, its table and its queue, and then none, one or both of `backup` and columns to ignore
abbrev pub add_trigger : GrammarRow
add_trigger =
    one Name (λ name. one Dotted (λ table. one Name (λ queue. optional fixed.Backup (λ backup. ignore_row name table queue backup))))

-- on queues
abbrev pub queue_forms : List (List ℕ × GrammarRow)
queue_forms =
    (codes "create_queue", last Name (λ queue. on_queues (queues.CreateQueue queue)))
    ∷ (codes "drop_queue", last Name (λ queue. on_queues (queues.DropQueue queue)))
    ∷ (codes "set_queue_config", one Name (λ queue. one Raw (λ param. last Raw (λ value. on_queues (queues.SetQueueConfig (record { queue = queue; param = param; value = value }))))))
    ∷ (codes "queue_info", last Name (λ queue. on_queues (queues.QueueInfo queue)))
    ∷ (codes "insert_event", insert_event)
    ∷ (codes "add_trigger", add_trigger)
    ∷ (codes "ticker", last Name (λ queue. on_queues (queues.Ticker queue)))
    ∷ (codes "force_tick", last Name (λ queue. on_queues (queues.ForceTick queue)))
    ∷ (codes "register_consumer", one Name (λ queue. last Dotted (λ consumer. on_queues (queues.RegisterConsumer queue consumer))))
    ∷ (codes "register_consumer_at", one Name (λ queue. one Dotted (λ consumer. last (Number (2 ^ 64 - 1)) (λ tick. on_queues (queues.RegisterConsumerAt (record { queue = queue; consumer = consumer; tick = tick }))))))
    ∷ (codes "unregister_consumer", one Name (λ queue. last Dotted (λ consumer. on_queues (queues.UnregisterConsumer queue consumer))))
    ∷ (codes "next_batch", one Name (λ queue. last Dotted (λ consumer. on_queues (queues.NextBatch queue consumer))))
    ∷ (codes "get_batch_events", last (Number (2 ^ 64 - 1)) (λ batch. on_queues (queues.GetBatchEvents batch)))
    ∷ (codes "get_batch_info", last (Number (2 ^ 64 - 1)) (λ batch. on_queues (queues.GetBatchInfo batch)))
    ∷ (codes "event_retry", one (Number (2 ^ 64 - 1)) (λ batch. one (Number (2 ^ 64 - 1)) (λ event. last (Number 1_000_000_000) (λ seconds. on_queues (queues.EventRetry (record { batch = batch; event = event; seconds = seconds }))))))
    ∷ (codes "finish_batch", last (Number (2 ^ 64 - 1)) (λ batch. on_queues (queues.FinishBatch batch)))
    ∷ (codes "maint_retry_events", stop (on_queues queues.MaintRetryEvents))
    ∷ (codes "maint_rotate_step1", last Name (λ queue. on_queues (queues.MaintRotateStep1 queue)))
    ∷ (codes "maint_rotate_step2", stop (on_queues queues.MaintRotateStep2))
    ∷ (codes "consumer_info", one Name (λ queue. last Dotted (λ consumer. on_queues (queues.ConsumerInfo queue consumer))))
    ∷ []

-- on nodes
abbrev pub node_forms : List (List ℕ × GrammarRow)
node_forms =
    (codes "create_root", one Name (λ name. last Name (λ queue. stmt.Node (node.CreateRoot name queue))))
    ∷ (codes "create_leaf", one Name (λ name. last Name (λ provider. stmt.Node (node.CreateLeaf name provider))))
    ∷ (codes "add_table", one Name (λ name. last Dotted (λ table. stmt.Node (node.AddTable name table))))
    ∷ (codes "remove_table", one Name (λ name. last Dotted (λ table. stmt.Node (node.RemoveTable name table))))
    ∷ (codes "table_state", one Name (λ name. last Dotted (λ table. stmt.Node (node.TableState name table))))
    ∷ (codes "copy_step", one Name (λ name. last Dotted (λ table. stmt.Node (node.CopyStep name table))))
    ∷ (codes "restart", one Name (λ name. either (stop (stmt.Node (node.Restart name))) (last Dotted (λ table. stmt.Node (node.RestartTable name table)))))
    ∷ (codes "londiste_step", last Name (λ name. stmt.Node (node.LondisteStep name)))
    ∷ []

-- on the clock and the daemon
abbrev pub clock_forms : List (List ℕ × GrammarRow)
clock_forms =
    (codes "clock", last Advance (λ time. stmt.World (world.Clock time)))
    ∷ (codes "pgqd", either (literal fixed.On (stop (stmt.World world.PgqdOn))) (literal fixed.Off (stop (stmt.World world.PgqdOff))))
    ∷ []

-- every form
abbrev pub all_forms : List (List ℕ × GrammarRow)
all_forms = session_forms ++ row_forms ++ queue_forms ++ node_forms ++ clock_forms

-- the row of the first form with this first word, in a list of at most one
abbrev pub named_form : List ℕ → List (List ℕ × GrammarRow) → List GrammarRow
named_form w [] = []
named_form w (form ∷ forms) = if bytes_eq w form.0 then form.1 ∷ [] else named_form w forms

-- ---- what the words of a line say

-- the row for a value, if there is one
abbrev pub when : {A : Type 0} → Option A → (A → GrammarRow) → List GrammarRow
when None f = []
when (Some v) f = f v ∷ []

-- the rows with which a row may continue after a word
abbrev pub next : GrammarRow → List ℕ → List GrammarRow
next (stop stmt) w = []
next (literal fixed row) w = if bytes_eq w (text_of fixed) then row ∷ [] else []
next (one k f) w = when (value k w) f
next (either a b) w = next a w ++ next b w
next (many k f) w = next (f []) w ++ when (value k w) (λ v. many k (λ vs. f (v ∷ vs)))

-- the rows with which some of these may continue after a word
abbrev pub all_next : List GrammarRow → List ℕ → List GrammarRow
all_next [] w = []
all_next (row ∷ rows) w = next row w ++ all_next rows w

-- the first statement, or else the other
abbrev pub or_else : Option Stmt → Option Stmt → Option Stmt
or_else None other = other
or_else (Some stmt) other = Some stmt

-- the statement of a row that may end
abbrev pub ended : GrammarRow → Option Stmt
ended (stop stmt) = Some stmt
ended (literal fixed row) = None
ended (one k f) = None
ended (either a b) = or_else (ended a) (ended b)
ended (many k f) = ended (f [])

-- the statement of the first row that may end
abbrev pub all_ended : List GrammarRow → Option Stmt
all_ended [] = None
all_ended (row ∷ rows) = or_else (ended row) (all_ended rows)

-- the statement, or this word is bad
abbrev pub or_bad : ℕ → Option Stmt → Result Stmt ℕ
or_bad n None = Err n
or_bad n (Some stmt) = Ok stmt

-- word n is bad if no row is left
abbrev pub reads_on : List GrammarRow → ℕ → (List GrammarRow → Result Stmt ℕ) → Result Stmt ℕ
reads_on [] n read = Err n
reads_on (row ∷ rows) n read = read (row ∷ rows)

-- the statement of words from the nth on, or the number of the first word with which no row continues
abbrev pub reads : List GrammarRow → ℕ → List (List ℕ) → Result Stmt ℕ
reads rows n [] = or_bad n (all_ended rows)
reads rows n (w ∷ ws) = reads_on (all_next rows w) n (λ left. reads left (n + 1) ws)

-- the statement of a line's words from the second on
abbrev pub statement_of : List (List ℕ) → Result Stmt ℕ
statement_of [] = Err 2
statement_of (w ∷ ws) = reads_on (named_form w all_forms) 2 (λ rows. reads rows 3 ws)

-- the session's name in a line's first word, which is the name and a colon
abbrev pub session_of : List ℕ → Option (List ℕ)
session_of w = if bytes_eq (drop (length w - 1) w) (codes ":") then value Name (take (length w - 1) w) else None

-- the line of a session and a statement
abbrev pub run_of : List ℕ → Result Stmt ℕ → Result Line ℕ
run_of session (Ok stmt) = Ok (Run session stmt)
run_of session (Err n) = Err n

-- what a line says whose first word names this session
abbrev pub session_line : Option (List ℕ) → List (List ℕ) → Result Line ℕ
session_line None ws = Err 1
session_line (Some session) ws = run_of session (statement_of ws)

-- what words say as a line that is not blank, or the number of the bad one
abbrev pub line_of_words : List (List ℕ) → Result Line ℕ
line_of_words [] = Err 1
line_of_words (w ∷ ws) = session_line (session_of w) ws

-- what a line says, or the number of its bad word; an empty line and one that begins with `#` say nothing
abbrev pub line_of : List ℕ → Result Line ℕ
line_of [] = Ok Blank
line_of (b ∷ bs) = if b == 35 then Ok Blank else line_of_words (words (b ∷ bs))
