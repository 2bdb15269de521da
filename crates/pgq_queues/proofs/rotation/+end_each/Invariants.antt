use Rattle.std.proofs.Common.{◌-◌, length}
use Rattle.pgq_queues.proofs.rotation.+end_each.Given as goal

-- the names that are left
abbrev pub decreases-end_each : goal.decreases-end_each
decreases-end_each l = length l.names.now.values - l.place
