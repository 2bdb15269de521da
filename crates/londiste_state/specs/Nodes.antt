-- A database's node in a set of replicated tables: the set's root, or a leaf.
use Rattle.std.specs.Prelude.{ℕ, List, [], ◌∷◌, ◌++◌, Bool, not, Option, Some, None, bytes_eq, filter, find, map, if◌then◌else◌}
use Rattle.std.specs.List.{list_any}
use Rattle.sky_txid.specs.Snapshot.{SnapshotView}
use Rattle.londiste_state.specs.declared.state.TableState.{TableState}
use Rattle.londiste_state.specs.declared.state.TableState.TheVariants.{Absent, CatchingUp}
use Rattle.londiste_state.specs.declared.node.Node as declared
use Rattle.londiste_state.specs.declared.node.Node.TheVariants as variants
pub use Rattle.londiste_state.specs.Kinds.{LeafTable, Root, Leaf}

-- a node is a root or a leaf
abbrev pub Node : Type 0
Node = declared.Node

pattern abbrev pub of_root : Root → Node
of_root r = variants.Root r

pattern abbrev pub of_leaf : Leaf → Node
of_leaf l = variants.Leaf l

-- the name of a node
abbrev pub node_name : Node → List ℕ
node_name (of_root r) = r.name
node_name (of_leaf l) = l.name

-- a name is among some
abbrev pub is_among : List ℕ → List (List ℕ) → Bool
is_among name names = list_any (bytes_eq name) names

-- some names without one
abbrev pub all_but : List ℕ → List (List ℕ) → List (List ℕ)
all_but name names = filter (λ other. not (bytes_eq name other)) names

-- a leaf's table of a name
abbrev pub table_of : List ℕ → Leaf → Option LeafTable
table_of name l = find (λ t. bytes_eq name t.name) l.tables

-- the names of a node's tables
abbrev pub tables_of : Node → List (List ℕ)
tables_of (of_root r) = r.tables
tables_of (of_leaf l) = map LeafTable.name l.tables

-- a table that joins a leaf
abbrev pub new_table : List ℕ → LeafTable
new_table name = record { name = name; state = Absent; snapshot = None; tick = 0 }

-- a leaf's tables with one of them changed
abbrev pub changed_in : List ℕ → (LeafTable → LeafTable) → List LeafTable → List LeafTable
changed_in name change tables = map (λ t. if bytes_eq name t.name then change t else t) tables

-- a table in a state
abbrev pub in_state : TableState → LeafTable → LeafTable
in_state state t = record t { state = state }

-- a root with a table more, or less
abbrev pub with_root_table : List ℕ → Root → Root
with_root_table name r = record r { tables = r.tables ++ name ∷ [] }

abbrev pub without_root_table : List ℕ → Root → Root
without_root_table name r = record r { tables = all_but name r.tables }

-- a root whose queue has a consumer of a leaf more, or less
abbrev pub with_consumer : List ℕ → Root → Root
with_consumer name r = record r { consumers = r.consumers ++ name ∷ [] }

abbrev pub without_consumer : List ℕ → Root → Root
without_consumer name r = record r { consumers = all_but name r.consumers }

-- a leaf with a table more, or less, or with one in another state
abbrev pub with_leaf_table : List ℕ → Leaf → Leaf
with_leaf_table name l = record l { tables = l.tables ++ new_table name ∷ [] }

abbrev pub without_leaf_table : List ℕ → Leaf → Leaf
without_leaf_table name l = record l { tables = filter (λ t. not (bytes_eq name t.name)) l.tables }

abbrev pub with_state : List ℕ → TableState → Leaf → Leaf
with_state name state l = record l { tables = changed_in name (in_state state) l.tables }

-- a table whose copy ended, under a snapshot, and whose consumer is at a tick: it catches up from then on
abbrev pub with_copy : SnapshotView → ℕ → LeafTable → LeafTable
with_copy snapshot tick t = record t { state = CatchingUp; snapshot = Some snapshot; tick = tick }

-- a table whose copy has applied batches up to a tick
abbrev pub with_tick : ℕ → LeafTable → LeafTable
with_tick tick t = record t { tick = tick }

-- a leaf of which the copy of one table ended
abbrev pub with_copied : List ℕ → SnapshotView → ℕ → Leaf → Leaf
with_copied name snapshot tick l = record l { tables = changed_in name (with_copy snapshot tick) l.tables }
