-- The laws on what sessions are shown of replicated tables, after all calls of the world.
use Rattle.std.specs.Prelude.{◌≡◌, ℕ, Bool, true, is_ok, List, [], ◌∷◌, ◌++◌, Option, Some, None, map, Ok, All, ◌||◌}
use Rattle.sky_val.specs.declared.val.Val.{Val}
use Rattle.sky_val.specs.Entries.{Entries, at}
use Rattle.sky_val.specs.Schemas.{key_columns}
use Rattle.sky_keys.specs.Waits.{is_waiting}
use Rattle.sky_names.specs.Places.{place_of}
use Rattle.londiste_state.specs.Nodes.{of_leaf, Leaf, LeafTable, is_among, table_of}
use Rattle.sky_model.specs.declared.stmt.Stmt.TheVariants.{Db}
use Rattle.sky_model.specs.declared.stmt.DbStmt.{DbStmt}
use Rattle.sky_model.specs.declared.stmt.DbStmt.TheVariants.{Row}
use Rattle.sky_model.specs.declared.stmt.RowStmt.TheVariants.{Get, Scan}
use Rattle.sky_model.specs.declared.reply.Reply.{Reply}
use Rattle.sky_model.specs.declared.reply.Reply.TheVariants as replies
use Rattle.sky_model.specs.History.{History, Past}
use Rattle.sky_model.specs.Sessions.{own_txid, sight, place_of_sight}
use Rattle.sky_model.specs.Rows.{table_names, columns_of, rows, put_all, own_writes, rows_shown}
use Rattle.sky_model.specs.Queues.{at_tick}
use Rattle.sky_model.specs.Nodes.{node, leaf_tables}
use Rattle.sky_model.specs.State.{Database, database_of}
use Rattle.sky_model.specs.Allowed.{where_of, allowed}
use Rattle.sky_model.specs.StepApply.{is_synced}
use Rattle.sky_model.specs.StepRows.{fits}
use Rattle.sky_model.specs.NodesOfWorld.{Located, node_called}
use Rattle.sky_model.specs.World.{world_of, session_names, home, history_in}
use Rattle.sky_model.specs.Calls.{Call, answers_of, past_of}
use Rattle.sky_model.specs.Steps.{IsCallInForm}
use Rattle.sky_laws_changes.specs.Listing.{later_of}
use Rattle.sky_laws_synced.specs.Tables.{has_own_tick, tick_of}
use Rattle.sky_laws_synced.specs.LawsOfSynced.{ShowsProvider}

-- ---- where sessions see a database

-- after calls, a session sees a database as it was after the first of them
pub record SeesAfter (calls : List Call) (d who : ℕ) : Type 0 where
  pub later : List Call
  pub upto : List Call
  pub are : calls ≡ later ++ upto
  pub sees : (let h : History = history_in (past_of calls) d in place_of_sight h (sight who h)) ≡ history_in (past_of upto) d

-- so does each session: its sight is never in the midst of a call
abbrev pub SightsAreAfterCalls : Type 0
SightsAreAfterCalls = (calls : List Call) (d who : ℕ) → SeesAfter calls d who

-- ---- what `scan` and `get` print

-- whether a session may make a statement in a database
abbrev pub may_make : Database → ℕ → DbStmt → Bool
may_make d who stmt = is_ok (allowed (is_waiting who d.part.waiting) (d.part.session who).is_open (d.part.session who).block (where_of stmt))

-- `scan` prints the rows that its session is shown, by key
abbrev pub ScansPrintRowsShown : Type 0
ScansPrintRowsShown = (calls : List Call) (name : List ℕ) (who d : ℕ) (table : List ℕ) (n : ℕ) → (let past : Past = past_of calls in let h : History = history_in past d in
    place_of name (session_names past) ≡ Some who → home past who ≡ Some d → may_make (database_of h) who (Row (Scan table)) ≡ true → place_of table (table_names h) ≡ Some n
    → answers_of past (record { who = name; stmt = Db (Row (Scan table)) }) ≡ (who, replies.Rows (map (λ e. e.1) (rows_shown who n h))) ∷ [])

-- a row, or that there is none
abbrev pub row_reply : Option (List Val) → Reply
row_reply None = replies.NoRow
row_reply (Some row) = replies.Row row

-- `get` prints the one of these that has the key
abbrev pub GetsPrintRowsShown : Type 0
GetsPrintRowsShown = (calls : List Call) (name : List ℕ) (who d : ℕ) (table : List ℕ) (key : List Val) (n : ℕ) → (let past : Past = past_of calls in let h : History = history_in past d in
    place_of name (session_names past) ≡ Some who → home past who ≡ Some d → may_make (database_of h) who (Row (Get table key)) ≡ true → place_of table (table_names h) ≡ Some n
    → fits (key_columns (columns_of n h)) key ≡ Ok tt
    → answers_of past (record { who = name; stmt = Db (Row (Get table key)) }) ≡ (who, row_reply (at key (rows_shown who n h))) ∷ [])

-- ---- what they print on a replica

-- the rows that a table's provider had, at the later of the place of its copy's snapshot and that of the tick to which the table has come
abbrev pub provided_rows : (h k : History) (leaf : Leaf) (t : LeafTable) → ShowsProvider h k leaf t → Entries (List Val)
provided_rows h k leaf t x = rows x.source (later_of x.held (at_tick x.queue (tick_of leaf t) k))

-- in a history `h` a session is shown a table of a leaf as it was at an earlier place: with the rows that its provider had, and the session's own writes on
-- top. It has none while the table is in the leaf
pub record IsShown (h : History) (who : ℕ) (place k : History) (leaf : Leaf) (t : LeafTable) : Type 0 where
  pub shows : ShowsProvider place k leaf t
  pub named : place_of t.name (table_names h) ≡ Some shows.table
  pub shown : rows_shown who shows.table h ≡ put_all (own_writes shows.table (own_txid who h) h) (provided_rows place k leaf t shows)
  pub alone : is_among t.name (leaf_tables (node h)) ≡ true → rows_shown who shows.table h ≡ provided_rows place k leaf t shows

-- so it is of each table that a session sees, and that was copied where it sees it
abbrev pub SessionsSeeReplicas : Type 0
SessionsSeeReplicas = (calls : List Call) → All IsCallInForm calls → (d who : ℕ) (s : SeesAfter calls d who) → (let past : Past = past_of s.upto in
    (leaf : Leaf) (provider : Located) (name : List ℕ) (t : LeafTable) → node (history_in past d) ≡ Some (of_leaf leaf) → node_called (world_of past) leaf.provider ≡ Some provider
    → table_of name leaf ≡ Some t → (has_own_tick t.state || is_synced t.state) ≡ true
    → IsShown (history_in (past_of calls) d) who (history_in past d) (history_in past provider.database) leaf t)
