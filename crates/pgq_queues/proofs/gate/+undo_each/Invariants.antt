use Rattle.std.proofs.Common.{◌-◌, length}
use Rattle.pgq_queues.proofs.gate.+undo_each.Given as goal

-- the names that are left
abbrev pub decreases-undo_each : goal.decreases-undo_each
decreases-undo_each l = length l.names.now.values - l.place
