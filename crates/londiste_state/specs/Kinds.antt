-- What the nodes of a set of replicated tables keep: the set's root, and each leaf with its tables.
use Rattle.std.specs.Prelude.{ℕ, List, Option}
use Rattle.sky_txid.specs.Snapshot.{SnapshotView}
use Rattle.londiste_state.specs.declared.state.TableState.{TableState}

-- a table of a leaf: its state; the snapshot under which it was copied, if it was; and the tick up to which its copy has applied batches
pub record LeafTable : Type 0 where
  pub name : List ℕ
  pub state : TableState
  pub snapshot : Option SnapshotView
  pub tick : ℕ

-- the root of a set: the set's queue, its tables in the order of joining, and the consumers by which leaves use the queue
pub record Root : Type 0 where
  pub name : List ℕ
  pub queue : List ℕ
  pub tables : List (List ℕ)
  pub consumers : List (List ℕ)

-- a leaf: the root that provides its tables, the tick up to which it has applied batches, and its tables in the order of joining
pub record Leaf : Type 0 where
  pub name : List ℕ
  pub provider : List ℕ
  pub tick : ℕ
  pub tables : List LeafTable
