-- The laws on the rows of a table of which no copy has ended, and of one that has left its leaf, after all calls of the world.
use Rattle.std.specs.Prelude.{◌≡◌, ℕ, true, false, List, [], ◌∷◌, ◌++◌, Some, Ok, All, ◌||◌}
use Rattle.std.specs.List.{list_any}
use Rattle.sky_val.specs.declared.val.Val.{Val}
use Rattle.sky_val.specs.Entries.{Entries}
use Rattle.sky_names.specs.Places.{place_of}
use Rattle.londiste_state.specs.Nodes.{of_leaf, Leaf, LeafTable, is_among, table_of, tables_of}
use Rattle.sky_model.specs.History.{Mark, tabled, read_only, noded, leaf_removed, History, Past}
use Rattle.sky_model.specs.Rows.{table_names, writes, rows, in_turn}
use Rattle.sky_model.specs.Nodes.{node}
use Rattle.sky_model.specs.StepApply.{is_synced}
use Rattle.sky_model.specs.NodesOfWorld.{Located, WorldOutcome, node_called}
use Rattle.sky_model.specs.WorkersOfWorld.{remove_table}
use Rattle.sky_model.specs.World.{world_of, history_in, on_top}
use Rattle.sky_model.specs.Calls.{Call, past_of}
use Rattle.sky_model.specs.Steps.{IsCallInForm}
use Rattle.sky_laws_replicas.specs.LawsOfReplicas.{applies_to, copies_again, committed_by_sessions}
use Rattle.sky_laws_synced.specs.Tables.{has_own_tick}
use Rattle.sky_laws_synced.specs.LawsOfSynced.{ShowsProvider}
use Rattle.sky_laws_synced.specs.LawsOfSeen.{provided_rows}

-- ---- before it is copied, and after

-- a table of which no copy has ended has what sessions have written, and no more: the writes of their transactions that have committed, in the order of their
-- commits
abbrev pub UncopiedTablesShowSessionsWrites : Type 0
UncopiedTablesShowSessionsWrites = (calls : List Call) (d : ℕ) (above : List Mark) (h : History) (table : ℕ) → history_in (past_of calls) d ≡ above ++ h → list_any (copies_again table) h ≡ false
    → rows table h ≡ in_turn (λ t. writes table t h) (committed_by_sessions h) []

-- the rows of a table above a place at which it had these: with such writes on top, of the transactions that have committed since
abbrev pub with_sessions_writes : (table : ℕ) (later : List Mark) (p : History) → Entries (List Val) → Entries (List Val)
with_sessions_writes table later p rows = in_turn (λ t. writes table t (later ++ p)) (committed_by_sessions later) rows

-- a table of a leaf that was copied has the rows that its provider had and these writes on top, until a copy of it ends or a batch writes it
abbrev pub TablesShowSessionsWrites : Type 0
TablesShowSessionsWrites = (calls newer : List Call) → All IsCallInForm calls → (d : ℕ) → (let past : Past = past_of calls in let h : History = history_in past d in
    (leaf : Leaf) (provider : Located) (name : List ℕ) (t : LeafTable) → node h ≡ Some (of_leaf leaf) → node_called (world_of past) leaf.provider ≡ Some provider
    → table_of name leaf ≡ Some t → (has_own_tick t.state || is_synced t.state) ≡ true → (x : ShowsProvider h (history_in past provider.database) leaf t)
    → (above later : List Mark) → history_in (past_of (newer ++ calls)) d ≡ above ++ (later ++ h) → list_any (copies_again x.table) later ≡ false → list_any (applies_to x.table) later ≡ false
    → rows x.table (later ++ h) ≡ with_sessions_writes x.table later h (provided_rows h (history_in past provider.database) leaf t x))

-- the place at which a table of a name has left its leaf, where sessions may write it again
abbrev pub left_at : (name : List ℕ) (table : ℕ) → History → History
left_at name table p = tabled (read_only table false) ∷ noded (leaf_removed name) ∷ p

-- it leaves by `remove_table`, with the rows that it had
pub record LeavesWithItsRows (past : Past) (d : ℕ) (name table_name : List ℕ) : Type 0 where
  pub outcome : WorldOutcome
  pub done : remove_table (world_of past) name table_name ≡ Ok outcome
  pub table : ℕ
  pub p : History
  pub left : history_in (on_top past outcome.facts) d ≡ left_at table_name table p
  pub named : place_of table_name (table_names p) ≡ Some table
  pub same : rows table p ≡ rows table (history_in past d)

-- so it is of each table of a leaf
abbrev pub TablesLeaveWithTheirRows : Type 0
TablesLeaveWithTheirRows = (calls : List Call) → All IsCallInForm calls → (name table_name : List ℕ) (n : Located) (leaf : Leaf) → node_called (world_of (past_of calls)) name ≡ Some n
    → n.node ≡ of_leaf leaf → is_among table_name (tables_of n.node) ≡ true → LeavesWithItsRows (past_of calls) n.database name table_name

-- from there on no batch writes it until a copy of it ends; so it has the rows that it had when it left, and what sessions wrote since
pub record KeepsItsRows (table : ℕ) (later : List Mark) (left p : History) : Type 0 where
  pub unbatched : list_any (applies_to table) later ≡ false
  pub kept : rows table (later ++ left) ≡ with_sessions_writes table later left (rows table p)

abbrev pub LeftTablesKeepTheirRows : Type 0
LeftTablesKeepTheirRows = (calls : List Call) (d : ℕ) (above later : List Mark) (p : History) (name : List ℕ) (table : ℕ) → history_in (past_of calls) d ≡ above ++ (later ++ left_at name table p)
    → place_of name (table_names p) ≡ Some table → list_any (copies_again table) later ≡ false → KeepsItsRows table later (left_at name table p) p
