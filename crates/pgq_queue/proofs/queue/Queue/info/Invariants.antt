use Rattle.std.proofs.Common.{◌≡◌, map, length, take}
use Rattle.pgq_queue.proofs.queue.Queue.info.Given as goal

-- the first tables are counted
abbrev pub invariant-loop-table : goal.invariant-loop-table
invariant-loop-table l = l.stored.items ≡ map length (take l.table l.self-inside.event_tables.tables.lists)
