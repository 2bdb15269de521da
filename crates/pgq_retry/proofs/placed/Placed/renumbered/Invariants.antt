use Rattle.std.proofs.Common.{◌≡◌, ◌+◌, ◌++◌, length}
use Rattle.std.specs.Map.{values_of}
use Rattle.pgq_retry.specs.Kept.{AreBelow}
use Rattle.pgq_retry.proofs.placed.Placed.renumbered.Given as goal

abbrev pub invariant-loop-waiting : goal.invariant-loop-waiting
invariant-loop-waiting l =
    (values_of l.placed ++ l.waiting-iterator ≡ values_of l.self)
    × AreBelow l.place l.placed
    × (l.place + length l.waiting-iterator ≡ length (values_of l.self))
