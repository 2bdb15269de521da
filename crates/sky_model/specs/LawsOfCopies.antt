-- The laws on copies of tables, and on held snapshots, at each place of each history that calls make.
use Rattle.std.specs.Prelude.{◌≡◌, ℕ, ◌<◌, true, false, ◌&&◌, List, [], ◌∷◌, ◌++◌, Option, Some, None, is_none, map, filter}
use Rattle.sky_val.specs.declared.val.Val.{Val}
use Rattle.sky_val.specs.Entries.{at}
use Rattle.sky_keys.specs.Versions.{rows_read}
use Rattle.sky_names.specs.Places.{place_of}
use Rattle.sky_txid.specs.Ids.{contains}
use Rattle.sky_txid.specs.Snapshot.{SnapshotView}
use Rattle.londiste_state.specs.Nodes.{LeafTable, Node, of_leaf}
use Rattle.sky_model.specs.History.{Mark, of_copy, ended, tabled, wrote, noded, copied, hold_begun, History}
use Rattle.sky_model.specs.Transactions.{running, snapshot}
use Rattle.sky_model.specs.Copies.{copies, is_copied_by, Hold, holds}
use Rattle.sky_model.specs.Rows.{table_names, is_read_only, writes, put_all, rows, rows_with_own}
use Rattle.sky_model.specs.Versions.{versions}
use Rattle.sky_model.specs.Locks.{holder}
use Rattle.sky_model.specs.Nodes.{node, is_leaf}
use Rattle.sky_model.specs.State.{part_of}
use Rattle.sky_model.specs.StepCopy.{rows_now}
use Rattle.sky_model.specs.StepNode.{is_in_copy}
use Rattle.sky_model.specs.LawsOfNodes.{is_one_of}
use Rattle.sky_model.specs.Promises.{after_all}
use Rattle.sky_model.specs.DatabaseCalls.{DatabaseCall, database_part}
use Rattle.sky_model.specs.HistoryPlaces.{IsPlace}

-- the copy of a table, by a transaction: that runs, sessions may not write the table, which is in a leaf's database, no session holds a key of it, and no
-- other copy of it runs
pub record RunsAlone (p : History) (table t : ℕ) : Type 0 where
  pub runs : contains t (running p) ≡ true
  pub leaf : is_leaf (node p) ≡ true
  pub guarded : is_read_only table p ≡ true
  pub unheld : (key : List Val) → holder table key p ≡ None
  pub alone : (u : ℕ) → is_copied_by table u (copies p) ≡ true → t ≡ u

-- each copy that runs does so
abbrev pub CopiesRunAlone : Type 0
CopiesRunAlone = (p : History) → IsPlace p → (table t : ℕ) → is_copied_by table t (copies p) ≡ true → RunsAlone p table t

-- the names of a leaf's tables that are being copied, and haven't been before
abbrev pub in_copy_tables : Option Node → List (List ℕ)
in_copy_tables (Some (of_leaf l)) = map LeafTable.name (filter (λ t. is_in_copy t.state && is_none t.snapshot) l.tables)
in_copy_tables _ = []

-- after calls its table is one of these
abbrev pub CopiesAreOfTablesInCopy : Type 0
CopiesAreOfTablesInCopy = (calls : List DatabaseCall) → (let h : History = after_all database_part calls in
    (table t : ℕ) → is_copied_by table t (copies h) ≡ true → is_one_of (table_names h) (in_copy_tables (node h)) table ≡ true)

-- the rows that it deletes when it begins are those of the table
abbrev pub CopiesDeleteWhatStands : Type 0
CopiesDeleteWhatStands = (p : History) → IsPlace p → (table : ℕ) → rows_now (part_of p) table ≡ rows table p

-- the old row that one of its writes names is the one that was there for its transaction
abbrev pub CopiesNameWhatStands : Type 0
CopiesNameWhatStands = (p : History) (table t : ℕ) (key : List Val) (old new : Option (List Val))
    → IsPlace (tabled (wrote (of_copy table) t table key old new) ∷ p) → at key (rows_with_own table (Some t) p p) ≡ old

-- the copy of the table of a name has committed, and the table has the rows that it wrote, and no others
pub record HasCopied (p : History) (name : List ℕ) : Type 0 where
  pub below : History
  pub table : ℕ
  pub t : ℕ
  pub last : p ≡ ended (of_copy table) t true ∷ below
  pub named : place_of name (table_names p) ≡ Some table
  pub whole : rows table p ≡ put_all (writes table t p) []

-- where it is said that a table was copied, this has just become so
abbrev pub CopiesLeaveTheirRows : Type 0
CopiesLeaveTheirRows = (p : History) (name : List ℕ) (under : SnapshotView) (tick : ℕ) → IsPlace (noded (copied name under tick) ∷ p) → HasCopied p name

-- a number that isn't among some, while all smaller ones are
abbrev pub IsLeastFree : ℕ → List ℕ → Type 0
IsLeastFree n ns = (contains n ns ≡ false) × ((m : ℕ) → m < n → contains m ns ≡ true)

-- a hold gets the least number that no other one has
abbrev pub HoldsHaveLeastNumbers : Type 0
HoldsHaveLeastNumbers = (p : History) (number : ℕ) → IsPlace (noded (hold_begun number) ∷ p) → IsLeastFree number (map Hold.number (holds p))

-- the rows that are read under the snapshot of an earlier place are those of that place, whatever has happened since
abbrev pub HeldRowsStay : Type 0
HeldRowsStay = (later : List Mark) (p : History) → IsPlace (later ++ p) → (table : ℕ) → rows_read (snapshot p) None (versions table (later ++ p)) ≡ rows table p
