use Rattle.std.proofs.Common.{◌≡◌, ◌++◌, take, drop}
use Rattle.londiste_state.specs.Nodes.{changed_in, with_copy}
use Rattle.londiste_state.proofs.node.Leaf.end_copy.Given as goal

-- the tables before the place are changed
abbrev pub invariant-loop-table : goal.invariant-loop-table
invariant-loop-table l =
    l.table-items ≡ changed_in l.name (with_copy l.snapshot l.tick) (take l.table-index l.initial.table-items) ++ drop l.table-index l.initial.table-items
