-- The node of a database, as the marks of the database's history leave it.
use Rattle.std.specs.Prelude.{List, ℕ, [], ◌∷◌, ◌&&◌, Bool, true, false, Option, Some, None, option_map, bytes_eq}
use Rattle.londiste_state.specs.Nodes.{Root, Leaf, Node, of_root, of_leaf, is_among, tables_of, changed_in, with_root_table, without_root_table, with_consumer, without_consumer, with_leaf_table, without_leaf_table, with_state, with_tick, with_copied}
use Rattle.sky_model.specs.History.{noded, Pick, of_synced, copy_of, NodeMark, root_made, set_added, set_removed, joined, parted, leaf_made, leaf_added, leaf_removed, state_set, copied, applied, restarted, hold_begun, hold_ended, History}

-- a node changed if it is a root; a node changed if it is a leaf
abbrev pub at_root : (Root → Root) → Node → Node
at_root change (of_root r) = of_root (change r)
at_root change (of_leaf l) = of_leaf l

abbrev pub at_leaf : (Leaf → Leaf) → Node → Node
at_leaf change (of_root r) = of_root r
at_leaf change (of_leaf l) = of_leaf (change l)

-- a leaf that has applied batches up to a tick, or of which the copy of one table has
abbrev pub with_applied : Pick → ℕ → Leaf → Leaf
with_applied of_synced tick l = record l { tick = tick }
with_applied (copy_of table) tick l = record l { tables = changed_in table (with_tick tick) l.tables }

-- a database's node after something happened to it
abbrev pub after_node : NodeMark → Option Node → Option Node
after_node (root_made name queue) n = Some (of_root (record { name = name; queue = queue; tables = []; consumers = [] }))
after_node (set_added table) n = option_map (at_root (with_root_table table)) n
after_node (set_removed table) n = option_map (at_root (without_root_table table)) n
after_node (joined consumer) n = option_map (at_root (with_consumer consumer)) n
after_node (parted consumer) n = option_map (at_root (without_consumer consumer)) n
after_node (leaf_made name provider tick) n = Some (of_leaf (record { name = name; provider = provider; tick = tick; tables = [] }))
after_node (leaf_added table) n = option_map (at_leaf (with_leaf_table table)) n
after_node (leaf_removed table) n = option_map (at_leaf (without_leaf_table table)) n
after_node (state_set table state) n = option_map (at_leaf (with_state table state)) n
after_node (copied table snapshot tick) n = option_map (at_leaf (with_copied table snapshot tick)) n
after_node (applied pick tick) n = option_map (at_leaf (with_applied pick tick)) n
after_node (restarted table) n = n
after_node (hold_begun hold) n = n
after_node (hold_ended hold) n = n

-- the node of a database, if it has one
abbrev pub node : History → Option Node
node [] = None
node (noded mark ∷ h) = after_node mark (node h)
node (_ ∷ h) = node h

-- whether a database's node is a root; whether it is a leaf
abbrev pub is_root : Option Node → Bool
is_root (Some (of_root r)) = true
is_root _ = false

abbrev pub is_leaf : Option Node → Bool
is_leaf (Some (of_leaf l)) = true
is_leaf _ = false

-- the tables of the set, if the node is a root; the tables of the leaf, if it is one
abbrev pub set_tables : Option Node → List (List ℕ)
set_tables (Some (of_root r)) = r.tables
set_tables _ = []

abbrev pub leaf_tables : Option Node → List (List ℕ)
leaf_tables (Some (of_leaf l)) = tables_of (of_leaf l)
leaf_tables _ = []

-- whether the queue of a name is a set's
abbrev pub is_set_queue : List ℕ → Option Node → Bool
is_set_queue queue (Some (of_root r)) = bytes_eq queue r.queue
is_set_queue queue _ = false

-- whether a consumer of the queue of a name is a leaf's
abbrev pub is_leafs : (queue consumer : List ℕ) → Option Node → Bool
is_leafs queue consumer (Some (of_root r)) = bytes_eq queue r.queue && is_among consumer r.consumers
is_leafs queue consumer _ = false
