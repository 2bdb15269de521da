-- The laws on tables that are copied from one database to another, after all calls of the world.
use Rattle.std.specs.Prelude.{◌≡◌, ℕ, ◌==◌, Bool, true, false, List, [], ◌∷◌, ◌++◌, Option, Some, None, is_some, IfSome, Ok, All, bytes_eq, option_map}
use Rattle.std.specs.List.{list_any}
use Rattle.sky_val.specs.declared.val.Val.{Val}
use Rattle.sky_val.specs.Entries.{Entries}
use Rattle.sky_names.specs.Places.{place_of}
use Rattle.sky_txid.specs.Snapshot.{SnapshotView}
use Rattle.londiste_state.specs.declared.state.TableState.TheVariants.{InCopy}
use Rattle.londiste_state.specs.Nodes.{of_leaf, Leaf, LeafTable, is_among, table_of, tables_of}
use Rattle.sky_model.specs.History.{Mark, of_copy, began, ended, noded, leaf_removed, copied, hold_begun, hold_ended, History, Fact, within, Past, of_session, of_worker, tabled, wrote}
use Rattle.sky_model.specs.Transactions.{snapshot}
use Rattle.sky_model.specs.Copies.{copies, is_copied, is_copied_by, Hold, holds}
use Rattle.sky_model.specs.Rows.{table_names, committed, writes, put_all, in_turn, rows, own_writes, rows_shown}
use Rattle.sky_model.specs.Sessions.{own_txid, sight, place_of_sight}
use Rattle.sky_model.specs.HistoryPlaces.{IsPlace}
use Rattle.sky_model.specs.Versions.{versions}
use Rattle.sky_model.specs.State.{Database, database_of}
use Rattle.sky_model.specs.Hands.{CopyHand, Hand, of_copy, copy_in}
use Rattle.sky_model.specs.WorkerMoves.{handing}
use Rattle.sky_model.specs.CopyMoves.{newest_of, held_snapshot, next_piece, copy_move, table_at, starts_copy}
use Rattle.sky_model.specs.NodesOfWorld.{Located, WorldOutcome, node_called}
use Rattle.sky_model.specs.WorkersOfWorld.{source_alike, restart_table}
use Rattle.sky_model.specs.Nodes.{node}
use Rattle.sky_model.specs.World.{World, world_of, history_in, hands, on_top}
use Rattle.sky_model.specs.Calls.{Call, past_of}
use Rattle.sky_model.specs.Steps.{IsCallInForm}

-- a snapshot of database `p` that is held for a copy is let go before the copy begins, if the copy is made at once, by one move
abbrev pub let_go_if : (at_once : Bool) (p hold : ℕ) → List Fact
let_go_if true p hold = within p (noded (hold_ended hold)) ∷ []
let_go_if false p hold = []

-- the copy of a table of database `d` began, by a transaction, and right before a snapshot of database `p` was taken for it, which is held under a
-- number; `before` is what had happened before that
pub record CopyBegan (past : Past) (d p table t hold : ℕ) (at_once : Bool) (before : Past) : Type 0 where
  pub later : List Fact
  pub is : past ≡ later ++ within d (began (of_copy table) t) ∷ let_go_if at_once p hold ++ within p (noded (hold_begun hold)) ∷ before

-- at a place of a leaf's database `d`, at which a copy of the table of a name has ended, the table has the rows that the table of this name had in the
-- provider's database at the place at which a snapshot was taken for this copy
pub record HasProvidersRows (past : Past) (d : ℕ) (p : History) (name : List ℕ) (under : SnapshotView) : Type 0 where
  -- the leaf, and its provider
  pub leaf : Leaf
  pub is_leaf : node (history_in past d) ≡ Some (of_leaf leaf)
  pub provider : Located
  pub found : node_called (world_of past) leaf.provider ≡ Some provider
  -- the table, and the copy's transaction
  pub table : ℕ
  pub named : place_of name (table_names p) ≡ Some table
  pub t : ℕ
  pub tick : ℕ
  pub below : History
  pub copy_ended : p ≡ noded (copied name under tick) ∷ ended (of_copy table) t true ∷ below
  -- the place at which it began
  pub hold : ℕ
  pub at_once : Bool
  pub before : Past
  pub copy_began : CopyBegan past d provider.database table t hold at_once before
  pub taken : snapshot (history_in before provider.database) ≡ under
  -- the newest tick of the set's queue was then the one at which the copy's consumer begins
  pub from_newest : newest_of (database_of (history_in before provider.database)) ≡ tick
  -- the provider's table
  pub source : ℕ
  pub source_named : place_of name (table_names (history_in before provider.database)) ≡ Some source
  pub same : rows table p ≡ rows source (history_in before provider.database)

-- the rows that the provider's table had there
abbrev pub copied_rows : (past : Past) (d : ℕ) (p : History) (name : List ℕ) (under : SnapshotView) → HasProvidersRows past d p name under → Entries (List Val)
copied_rows past d p name under c = rows c.source (history_in c.before c.provider.database)

-- each table does, where it has just been copied
abbrev pub CopiedTablesHaveProvidersRows : Type 0
CopiedTablesHaveProvidersRows = (calls : List Call) → All IsCallInForm calls → (database : ℕ) (later : List Mark) (p : History) (name : List ℕ) (under : SnapshotView) (tick : ℕ)
    → history_in (past_of calls) database ≡ later ++ noded (copied name under tick) ∷ p
    → HasProvidersRows (past_of calls) database (noded (copied name under tick) ∷ p) name under

-- the rows of a table above a place, if it has these there: with the writes of the transactions that have committed since on top, in the order of their
-- commits
abbrev pub rows_since : (table : ℕ) (later : List Mark) (p : History) → Entries (List Val) → Entries (List Val)
rows_since table later p rows = in_turn (λ t. writes table t (later ++ p)) (committed later) rows

-- above the place at which a table was copied, it has the rows of its provider's table at the place of the snapshot, with what was written since
pub record ShowsProvidersRows (past : Past) (d : ℕ) (later : List Mark) (p : History) (name : List ℕ) (under : SnapshotView) : Type 0 where
  pub copy : HasProvidersRows past d p name under
  pub shown : rows copy.table (later ++ p) ≡ rows_since copy.table later p (copied_rows past d p name under copy)

-- so it is at each place of each history
abbrev pub ReplicasShowProvidersRows : Type 0
ReplicasShowProvidersRows = (calls : List Call) → All IsCallInForm calls → (database : ℕ) (above later : List Mark) (p : History) (name : List ℕ) (under : SnapshotView) (tick : ℕ)
    → history_in (past_of calls) database ≡ above ++ (later ++ noded (copied name under tick) ∷ p)
    → ShowsProvidersRows (past_of calls) database later (noded (copied name under tick) ∷ p) name under

-- whether the table of a name leaves its leaf by a mark
abbrev pub takes_out : List ℕ → Mark → Bool
takes_out name (noded (leaf_removed other)) = bytes_eq name other
takes_out name mark = false

-- whether a worker writes a row of a table by a mark, as a batch is applied
abbrev pub applies_to : ℕ → Mark → Bool
applies_to table (tabled (wrote of_worker t n key old new)) = n == table
applies_to table mark = false

-- above the place at which a table was copied, and until a batch writes it, it has the rows of its provider's table at the place of the snapshot, and no
-- others
pub record KeepsProvidersRows (past : Past) (d : ℕ) (later : List Mark) (p : History) (name : List ℕ) (under : SnapshotView) : Type 0 where
  pub copy : HasProvidersRows past d p name under
  pub kept : list_any (applies_to copy.table) later ≡ false → rows copy.table (later ++ p) ≡ copied_rows past d p name under copy

-- so it is until the table leaves its leaf
abbrev pub ReplicasKeepProvidersRows : Type 0
ReplicasKeepProvidersRows = (calls : List Call) → All IsCallInForm calls → (database : ℕ) (above later : List Mark) (p : History) (name : List ℕ) (under : SnapshotView) (tick : ℕ)
    → history_in (past_of calls) database ≡ above ++ (later ++ noded (copied name under tick) ∷ p) → list_any (takes_out name) later ≡ false
    → KeepsProvidersRows (past_of calls) database later (noded (copied name under tick) ∷ p) name under

-- whether a copy of a table commits by a mark: the next one says that the table was copied
abbrev pub copies_again : ℕ → Mark → Bool
copies_again table (ended (of_copy n) t true) = n == table
copies_again table mark = false

-- the sessions' transactions that have committed by these marks, the first one first
abbrev pub committed_by_sessions : List Mark → List ℕ
committed_by_sessions [] = []
committed_by_sessions (ended (of_session who) t true ∷ marks) = committed_by_sessions marks ++ t ∷ []
committed_by_sessions (_ ∷ marks) = committed_by_sessions marks

-- above the place at which a table was copied, and until a batch writes it or it is copied again, it has the rows of its provider's table with what
-- sessions wrote since
pub record ShowsSessionsWrites (past : Past) (d : ℕ) (later : List Mark) (p : History) (name : List ℕ) (under : SnapshotView) : Type 0 where
  pub copy : HasProvidersRows past d p name under
  pub written : list_any (copies_again copy.table) later ≡ false → list_any (applies_to copy.table) later ≡ false
      → rows copy.table (later ++ p) ≡ in_turn (λ t. writes copy.table t (later ++ p)) (committed_by_sessions later) (copied_rows past d p name under copy)

-- so it is at each place of each history
abbrev pub ReplicasShowSessionsWrites : Type 0
ReplicasShowSessionsWrites = (calls : List Call) → All IsCallInForm calls → (database : ℕ) (above later : List Mark) (p : History) (name : List ℕ) (under : SnapshotView) (tick : ℕ)
    → history_in (past_of calls) database ≡ above ++ (later ++ noded (copied name under tick) ∷ p)
    → ShowsSessionsWrites (past_of calls) database later (noded (copied name under tick) ∷ p) name under

-- a session is shown those rows, with its own writes on top, if its sight is above that place: so `get` and `scan` print them
pub record SessionSees (past : Past) (d : ℕ) (h : History) (who : ℕ) (later : List Mark) (p : History) (name : List ℕ) (under : SnapshotView) : Type 0 where
  pub copy : HasProvidersRows past d p name under
  pub shown : rows_shown who copy.table h ≡ put_all (own_writes copy.table (own_txid who h) h) (rows_since copy.table later p (copied_rows past d p name under copy))

-- at each place of each history
abbrev pub SessionsSeeProvidersRows : Type 0
SessionsSeeProvidersRows = (calls : List Call) → All IsCallInForm calls → (database : ℕ) (above : List Mark) (h : History) (who : ℕ) (later : List Mark) (p : History) (name : List ℕ) (under : SnapshotView)
    (tick : ℕ) → history_in (past_of calls) database ≡ above ++ h → place_of_sight h (sight who h) ≡ later ++ noded (copied name under tick) ∷ p
    → SessionSees (past_of calls) database h who later (noded (copied name under tick) ∷ p) name under

-- while a copy of a table runs, the table has the rows that it had when the copy began
abbrev pub CopiesAreUnseen : Type 0
CopiesAreUnseen = (later : List Mark) (q : History) (table t : ℕ) → IsPlace (later ++ began (of_copy table) t ∷ q) → is_copied_by table t (copies (later ++ began (of_copy table) t ∷ q)) ≡ true
    → rows table (later ++ began (of_copy table) t ∷ q) ≡ rows table q

-- at a place a table has the rows and the versions that it had at an earlier one, and no copy of it runs
pub record IsUndone (p before : History) (table : ℕ) : Type 0 where
  pub rows_are : rows table p ≡ rows table before
  pub versions_are : versions table p ≡ versions table before
  pub none : is_copied table (copies p) ≡ false

-- a copy that is given up leaves nothing: it is as if it hadn't begun
abbrev pub GivenUpCopiesLeaveNothing : Type 0
GivenUpCopiesLeaveNothing = (later : List Mark) (q : History) (table t : ℕ) → IsPlace (ended (of_copy table) t false ∷ (later ++ began (of_copy table) t ∷ q))
    → IsUndone (ended (of_copy table) t false ∷ (later ++ began (of_copy table) t ∷ q)) q table

-- the copy that the worker of the table of a name has in hand
abbrev pub copy_in_hand : Past → (d : ℕ) → (name : List ℕ) → Option CopyHand
copy_in_hand past d name = copy_in (hands past d name)

-- the worker of the table of a name has a copy of it in hand, which runs by a transaction: the provider's database holds the snapshot that was taken as it
-- began
pub record InHand (past : Past) (d : ℕ) (name : List ℕ) (hand : CopyHand) : Type 0 where
  pub is : copy_in_hand past d name ≡ Some hand
  -- the leaf, and its provider
  pub leaf : Leaf
  pub is_leaf : node (history_in past d) ≡ Some (of_leaf leaf)
  pub provider : Located
  pub found : node_called (world_of past) leaf.provider ≡ Some provider
  -- the copy that runs
  pub table : ℕ
  pub named : place_of name (table_names (history_in past d)) ≡ Some table
  pub t : ℕ
  pub runs : is_copied_by table t (copies (history_in past d)) ≡ true
  pub before : Past
  pub copy_began : CopyBegan past d provider.database table t hand.hold false before
  pub holds : held_snapshot (database_of (history_in past provider.database)) hand.hold ≡ Some (snapshot (history_in before provider.database))
  pub from_newest : newest_of (database_of (history_in before provider.database)) ≡ hand.tick
  pub in_copy : option_map LeafTable.state (table_of name leaf) ≡ Some InCopy

-- a worker of a leaf's table has a copy in hand
pub record HasInHand (past : Past) (d : ℕ) (name : List ℕ) : Type 0 where
  pub hand : CopyHand
  pub in_hand : InHand past d name hand

-- a copy that a worker has in hand runs
abbrev pub HandsAreOfRunningCopies : Type 0
HandsAreOfRunningCopies = (calls : List Call) → All IsCallInForm calls → (database : ℕ) (name : List ℕ) (hand : CopyHand) → copy_in_hand (past_of calls) database name ≡ Some hand
    → InHand (past_of calls) database name hand

-- a copy that runs is in hand
abbrev pub RunningCopiesAreInHand : Type 0
RunningCopiesAreInHand = (calls : List Call) → All IsCallInForm calls → (database : ℕ) (name : List ℕ) (table : ℕ) → place_of name (table_names (history_in (past_of calls) database)) ≡ Some table
    → is_copied table (copies (history_in (past_of calls) database)) ≡ true → HasInHand (past_of calls) database name

-- a hold of a database is that of a hand, which the worker of a table of one of its leaves has
pub record IsHandsHold (past : Past) (p number : ℕ) : Type 0 where
  pub database : ℕ
  pub name : List ℕ
  pub hand : CopyHand
  pub in_hand : InHand past database name hand
  pub from : in_hand.provider.database ≡ p
  pub is : hand.hold ≡ number

-- so is each: a hold ends with its copy
abbrev pub HoldsAreInHand : Type 0
HoldsAreInHand = (calls : List Call) → All IsCallInForm calls → (database number : ℕ) → list_any (λ (x : Hold). x.number == number) (holds (history_in (past_of calls) database)) ≡ true
    → IsHandsHold (past_of calls) database number

-- the next move of the worker of a table that is being copied begins a copy, if it has none in hand; else the copy goes on with the next rows, under the
-- snapshot that is held for it. So no copy is waited for
pub record GoesOn (provider replica : Database) (name : List ℕ) (hand : Option Hand) : Type 0 where
  pub begins : copy_in hand ≡ None → copy_move provider replica name hand ≡ handing of_copy (starts_copy provider replica name)
  pub goes_on : (x : CopyHand) → copy_in hand ≡ Some x
      → IfSome (held_snapshot provider x.hold) (λ snapshot. copy_move provider replica name hand ≡ handing of_copy (Ok (next_piece provider name snapshot x)))
  pub holds : (x : CopyHand) → copy_in hand ≡ Some x → is_some (held_snapshot provider x.hold) ≡ true

abbrev pub CopiesGoOn : Type 0
CopiesGoOn = (calls : List Call) → All IsCallInForm calls → (database : ℕ) (leaf : Leaf) (provider : Located) (name : List ℕ) → node (history_in (past_of calls) database) ≡ Some (of_leaf leaf)
    → node_called (world_of (past_of calls)) leaf.provider ≡ Some provider → option_map LeafTable.state (table_of name leaf) ≡ Some InCopy
    → GoesOn (database_of (history_in (past_of calls) provider.database)) (database_of (history_in (past_of calls) database)) name (hands (past_of calls) database name)

-- ---- tables of leaves

-- a table of a leaf is in the set of its provider, whose queue exists, with the same columns
pub record IsProvided (w : World) (d : ℕ) (leaf : Leaf) (table : List ℕ) : Type 0 where
  pub provider : ℕ
  pub alike : source_alike w d leaf table ≡ Ok provider

-- so is each table of each leaf: no statement on a leaf's table is refused for its provider
abbrev pub LeafTablesAreProvided : Type 0
LeafTablesAreProvided = (calls : List Call) → All IsCallInForm calls → (name : List ℕ) (n : Located) (leaf : Leaf) (table : List ℕ) → node_called (world_of (past_of calls)) name ≡ Some n
    → n.node ≡ of_leaf leaf → is_among table (tables_of n.node) ≡ true → IsProvided (world_of (past_of calls)) n.database leaf table

-- ---- restarts

-- after a copy in hand was given up: of the copy that ran nothing is left, and the provider's database has no hold of the number that it had
pub record IsGivenUp (past now : Past) (d : ℕ) (name : List ℕ) (hand : CopyHand) : Type 0 where
  pub was : InHand past d name hand
  pub let_go : list_any (λ (x : Hold). x.number == hand.hold) (holds (history_in now was.provider.database)) ≡ false
  pub later : List Mark
  pub before : History
  pub ran : history_in past d ≡ later ++ began (of_copy was.table) was.t ∷ before
  pub undone : IsUndone (history_in now d) before was.table

-- `restart NAME TABLE` is done: the table's worker has nothing in hand, and a copy that it had is given up; if it had none, no database has changed; the node
-- is as it was, so the table has the state that it had; and if this is the state in which a table is copied, the worker's next move begins a copy, whichever
-- database it is from
pub record IsRestarted (past : Past) (d : ℕ) (name table : List ℕ) : Type 0 where
  pub outcome : WorldOutcome
  pub done : restart_table (world_of past) name table ≡ Ok outcome
  pub put_down : hands (on_top past outcome.facts) d table ≡ None
  pub given_up : (hand : CopyHand) → copy_in_hand past d table ≡ Some hand → IsGivenUp past (on_top past outcome.facts) d table hand
  pub unchanged : copy_in_hand past d table ≡ None → (e : ℕ) → history_in (on_top past outcome.facts) e ≡ history_in past e
  pub same_node : node (history_in (on_top past outcome.facts) d) ≡ node (history_in past d)
  pub anew : (p : ℕ) → option_map LeafTable.state (table_at table (node (history_in (on_top past outcome.facts) d))) ≡ Some InCopy
      → copy_move (database_of (history_in (on_top past outcome.facts) p)) (database_of (history_in (on_top past outcome.facts) d)) table None
      ≡ handing of_copy (starts_copy (database_of (history_in (on_top past outcome.facts) p)) (database_of (history_in (on_top past outcome.facts) d)) table)

-- so it is for each table of a leaf
abbrev pub RestartsBeginAnew : Type 0
RestartsBeginAnew = (calls : List Call) → All IsCallInForm calls → (name table : List ℕ) (n : Located) (leaf : Leaf) → node_called (world_of (past_of calls)) name ≡ Some n → n.node ≡ of_leaf leaf
    → is_among table (tables_of n.node) ≡ true → IsRestarted (past_of calls) n.database name table
