use Rattle.std.proofs.Common.{◌≡◌, ◌++◌, take, drop}
use Rattle.londiste_state.specs.Nodes.{changed_in, with_tick}
use Rattle.londiste_state.proofs.node.Leaf.set_table_tick.Given as goal

-- the tables before the place are changed
abbrev pub invariant-loop-table : goal.invariant-loop-table
invariant-loop-table l =
    l.table-items ≡ changed_in l.name (with_tick l.tick) (take l.table-index l.initial.table-items) ++ drop l.table-index l.initial.table-items
