-- Which values a word of a kind can have, and so which statements a line can have: those in form.
use Rattle.std.specs.Prelude.{◌≡◌, ℕ, ◌-◌, ◌^◌, ◌<◌, ◌≤◌, pos, ◌≤ℤ◌, true, List, length, Option, Some, None, IsUtf8, All, FitsSigned, ⊤}
use Rattle.std.specs.Int.{w64}
use Rattle.sky_val.specs.declared.val.Val.{Val}
use Rattle.sky_val.specs.declared.val.Val.TheVariants.{Null, Int, Text}
use Rattle.sky_model.specs.declared.stmt.Change.{Change}
use Rattle.sky_model.specs.declared.stmt.Change.TheVariants.{To, Add}
use Rattle.sky_model.specs.declared.stmt.Extra.{Extra}
use Rattle.sky_model.specs.declared.stmt.RowStmt.{RowStmt}
use Rattle.sky_model.specs.declared.stmt.RowStmt.TheVariants as row
use Rattle.sky_model.specs.declared.stmt.QueueStmt.{QueueStmt}
use Rattle.sky_model.specs.declared.stmt.QueueStmt.TheVariants as queues
use Rattle.sky_model.specs.declared.stmt.DbStmt.{DbStmt}
use Rattle.sky_model.specs.declared.stmt.DbStmt.TheVariants as db
use Rattle.sky_model.specs.declared.stmt.NodeStmt.{NodeStmt}
use Rattle.sky_model.specs.declared.stmt.NodeStmt.TheVariants as node
use Rattle.sky_model.specs.declared.stmt.WorldStmt.{WorldStmt}
use Rattle.sky_model.specs.declared.stmt.WorldStmt.TheVariants as world
use Rattle.sky_model.specs.declared.stmt.Stmt.{Stmt}
use Rattle.sky_model.specs.declared.stmt.Stmt.TheVariants as stmt
use Rattle.sky_model.specs.declared.line.Line.{Line}
use Rattle.sky_model.specs.declared.line.Line.TheVariants.{Blank, Run}
use Rattle.sky_model.specs.Kinds.{Kind, Name, Dotted, Number, OptText, Raw, Value, Column, Set, Ignore, Advance, Of, is_name, is_dotted, is_text_byte, longest_advance}

-- ---- which values a word of a kind can have

-- a text that can be in quotes: its bytes are UTF-8, and none is a line feed or the zero byte
pub record IsQuotable (text : List ℕ) : Type 0 where
  pub characters : IsUtf8 text
  pub free : All (λ b. is_text_byte b ≡ true) text

-- none, or such a text
abbrev pub IsOptText : Option (List ℕ) → Type 0
IsOptText None = ⊤
IsOptText (Some text) = IsQuotable text

-- Null, a number that fits 64 bits with its sign, or such a text
abbrev pub IsValue : Val → Type 0
IsValue Null = ⊤
IsValue (Int n) = FitsSigned w64 n
IsValue (Text text) = IsQuotable text

-- a change to such a value, or by such a number
abbrev pub IsChange : Change → Type 0
IsChange (To v) = IsValue v
IsChange (Add n) = FitsSigned w64 n

-- which value a word of a kind can have
abbrev pub IsOf : (k : Kind) → Of k → Type 0
IsOf Name name = is_name name ≡ true
IsOf Dotted name = is_dotted name ≡ true
IsOf (Number most) n = n ≤ most
IsOf OptText text = IsOptText text
IsOf Raw text = IsQuotable text
IsOf Value v = IsValue v
IsOf Column column = is_name column.name ≡ true
IsOf Set set = (is_name set.column ≡ true) × IsChange set.change
IsOf Ignore names = (0 < length names) × All (λ name. is_name name ≡ true) names
IsOf Advance time = (pos 1 ≤ℤ time) × (time ≤ℤ pos longest_advance)

-- which values one word or more can have
abbrev pub AreOf : (k : Kind) → List (Of k) → Type 0
AreOf k vs = (0 < length vs) × All (IsOf k) vs

-- ---- the statements in form

-- on sessions, transactions, tables and rows
abbrev pub IsRowInForm : RowStmt → Type 0
IsRowInForm (row.OpenDb name) = IsOf Name name
IsRowInForm row.Close = ⊤
IsRowInForm row.Cancel = ⊤
IsRowInForm row.Begin = ⊤
IsRowInForm row.BeginRepeatableRead = ⊤
IsRowInForm row.Commit = ⊤
IsRowInForm row.Rollback = ⊤
IsRowInForm row.TxidCurrent = ⊤
IsRowInForm row.TxidCurrentSnapshot = ⊤
IsRowInForm (row.TxidVisibleInSnapshot txid snapshot) = IsOf (Number (2 ^ 64 - 1)) txid × IsOf Raw snapshot
IsRowInForm (row.CreateTable table columns) = IsOf Dotted table × AreOf Column columns
IsRowInForm (row.Insert table values) = IsOf Dotted table × AreOf Value values
IsRowInForm (row.Update table key sets) = IsOf Dotted table × AreOf Value key × AreOf Set sets
IsRowInForm (row.Delete table key) = IsOf Dotted table × AreOf Value key
IsRowInForm (row.Get table key) = IsOf Dotted table × AreOf Value key
IsRowInForm (row.Scan table) = IsOf Dotted table

-- none, or four further texts of an event
abbrev pub IsOptExtra : Option Extra → Type 0
IsOptExtra None = ⊤
IsOptExtra (Some extra) = IsOf OptText extra.ev_extra1 × IsOf OptText extra.ev_extra2 × IsOf OptText extra.ev_extra3 × IsOf OptText extra.ev_extra4

-- on queues
abbrev pub IsQueueInForm : QueueStmt → Type 0
IsQueueInForm (queues.CreateQueue queue) = IsOf Name queue
IsQueueInForm (queues.DropQueue queue) = IsOf Name queue
IsQueueInForm (queues.SetQueueConfig setting) = IsOf Name setting.queue × IsOf Raw setting.param × IsOf Raw setting.value
IsQueueInForm (queues.QueueInfo queue) = IsOf Name queue
IsQueueInForm (queues.InsertEvent event) = IsOf Name event.queue × IsOf OptText event.ev_type × IsOf OptText event.ev_data × IsOptExtra event.extra
IsQueueInForm (queues.AddTrigger trigger) = IsOf Name trigger.name × IsOf Dotted trigger.table × IsOf Name trigger.queue × All (IsOf Name) trigger.ignored
IsQueueInForm (queues.Ticker queue) = IsOf Name queue
IsQueueInForm (queues.ForceTick queue) = IsOf Name queue
IsQueueInForm (queues.RegisterConsumer queue consumer) = IsOf Name queue × IsOf Dotted consumer
IsQueueInForm (queues.RegisterConsumerAt position) = IsOf Name position.queue × IsOf Dotted position.consumer × IsOf (Number (2 ^ 64 - 1)) position.tick
IsQueueInForm (queues.UnregisterConsumer queue consumer) = IsOf Name queue × IsOf Dotted consumer
IsQueueInForm (queues.NextBatch queue consumer) = IsOf Name queue × IsOf Dotted consumer
IsQueueInForm (queues.GetBatchEvents batch) = IsOf (Number (2 ^ 64 - 1)) batch
IsQueueInForm (queues.GetBatchInfo batch) = IsOf (Number (2 ^ 64 - 1)) batch
IsQueueInForm (queues.EventRetry again) = IsOf (Number (2 ^ 64 - 1)) again.batch × IsOf (Number (2 ^ 64 - 1)) again.event × IsOf (Number 1_000_000_000) again.seconds
IsQueueInForm (queues.FinishBatch batch) = IsOf (Number (2 ^ 64 - 1)) batch
IsQueueInForm queues.MaintRetryEvents = ⊤
IsQueueInForm (queues.MaintRotateStep1 queue) = IsOf Name queue
IsQueueInForm queues.MaintRotateStep2 = ⊤
IsQueueInForm (queues.ConsumerInfo queue consumer) = IsOf Name queue × IsOf Dotted consumer

-- those that a database runs by itself
abbrev pub IsDbInForm : DbStmt → Type 0
IsDbInForm (db.Row stmt) = IsRowInForm stmt
IsDbInForm (db.Queue stmt) = IsQueueInForm stmt

-- on nodes
abbrev pub IsNodeInForm : NodeStmt → Type 0
IsNodeInForm (node.CreateRoot name queue) = IsOf Name name × IsOf Name queue
IsNodeInForm (node.CreateLeaf name provider) = IsOf Name name × IsOf Name provider
IsNodeInForm (node.AddTable name table) = IsOf Name name × IsOf Dotted table
IsNodeInForm (node.RemoveTable name table) = IsOf Name name × IsOf Dotted table
IsNodeInForm (node.TableState name table) = IsOf Name name × IsOf Dotted table
IsNodeInForm (node.CopyStep name table) = IsOf Name name × IsOf Dotted table
IsNodeInForm (node.Restart name) = IsOf Name name
IsNodeInForm (node.RestartTable name table) = IsOf Name name × IsOf Dotted table
IsNodeInForm (node.LondisteStep name) = IsOf Name name

-- on the clock and the daemon
abbrev pub IsWorldInForm : WorldStmt → Type 0
IsWorldInForm (world.Clock time) = IsOf Advance time
IsWorldInForm world.PgqdOn = ⊤
IsWorldInForm world.PgqdOff = ⊤

-- any
abbrev pub IsInForm : Stmt → Type 0
IsInForm (stmt.Db stmt) = IsDbInForm stmt
IsInForm (stmt.Node stmt) = IsNodeInForm stmt
IsInForm (stmt.World stmt) = IsWorldInForm stmt

-- a line: it says nothing, or names a session by a name and has a statement in form
abbrev pub IsLineInForm : Line → Type 0
IsLineInForm Blank = ⊤
IsLineInForm (Run session stmt) = IsOf Name session × IsInForm stmt
