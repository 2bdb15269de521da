use Rattle.std.proofs.Common.{◌≡◌, ◌++◌, map, take, drop}
use Rattle.pgq_tables.specs.Tables.{marked_dead}
use Rattle.pgq_tables.proofs.event_tables.EventTables.mark_dead.Given as goal

abbrev pub invariant-loop-table : goal.invariant-loop-table
invariant-loop-table l =
    l.table-items ≡ map (map (marked_dead l.txid)) (take l.table-index l.initial.table-items) ++ drop l.table-index l.initial.table-items
