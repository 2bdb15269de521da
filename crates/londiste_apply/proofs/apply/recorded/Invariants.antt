use Rattle.std.proofs.Common.{◌≡◌, ◌++◌, drop, map}
use Rattle.pgq_tables.specs.Tables.{recorded_part}
use Rattle.londiste_apply.proofs.apply.recorded.Given as goal

-- those so far, and those that are left
abbrev pub invariant-loop-event : goal.invariant-loop-event
invariant-loop-event l = l.recorded.items ++ map recorded_part (drop l.event-index l.all) ≡ map recorded_part l.all
