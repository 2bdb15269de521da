use Rattle.std.proofs.Common.{◌-◌, length}
use Rattle.pgq_queues.proofs.rotation.+settle_each.Given as goal

-- the names that are left
abbrev pub decreases-settle_each : goal.decreases-settle_each
decreases-settle_each l = length l.names.now.values - l.place
