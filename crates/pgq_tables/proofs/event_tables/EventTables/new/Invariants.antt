use Rattle.std.proofs.Common.{◌≡◌, [], replicate}
use Rattle.pgq_tables.proofs.event_tables.EventTables.new.Given as goal

abbrev pub invariant-loop : goal.invariant-loop
invariant-loop l = l.empty.items ≡ replicate l.counter []
