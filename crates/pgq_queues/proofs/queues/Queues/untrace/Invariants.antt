use Rattle.std.proofs.Common.{length}
use Rattle.pgq_queues.proofs.TracedLists.{Untracing}
use Rattle.pgq_queues.proofs.queues.Queues.untrace.Given as goal

-- there are fewer triggers after each
abbrev pub decreases-loop-place : goal.decreases-loop-place
decreases-loop-place l = length l.self.triggers

abbrev pub invariant-loop-place : goal.invariant-loop-place
invariant-loop-place l = Untracing l.table l.fn.self l.self
