use Rattle.std.proofs.Common.{◌≡◌, take}
use Rattle.pgq_parts.proofs.triggers.trigger_into.Given as goal

-- the names so far
abbrev pub invariant-loop-column : goal.invariant-loop-column
invariant-loop-column l = l.names.items ≡ take l.column-index l.ignored
