use Rattle.std.proofs.Common.{◌≡◌}
use Rattle.pgq_tables.proofs.Marking.{IsMarking}
use Rattle.pgq_tables.proofs.table.Table.mark_dead.Given as goal

abbrev pub invariant-loop-index : goal.invariant-loop-index
invariant-loop-index l =
    IsMarking l.txid l.initial.self-inside.events.items l.self-inside.events.items l.index
    × (l.self-inside.places ≡ l.initial.self-inside.places)
