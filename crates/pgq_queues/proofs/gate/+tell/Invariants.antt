use Rattle.std.proofs.Common.{◌-◌, length}
use Rattle.pgq_queues.proofs.gate.+tell.Given as goal

-- the triggers that are left
abbrev pub decreases-tell : goal.decreases-tell
decreases-tell l = length l.traced.now.triggers - l.place
