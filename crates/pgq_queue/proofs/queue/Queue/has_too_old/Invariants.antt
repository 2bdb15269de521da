use Rattle.std.proofs.Common.{◌≡◌, drop}
use Rattle.sky_model.specs.StepRotation.{held_by_consumers}
use Rattle.pgq_queue.specs.Seen.{seen_queue}
use Rattle.pgq_queue.proofs.queue.Queue.has_too_old.Given as goal

-- the first consumers hold nothing back
abbrev pub invariant-loop-place : goal.invariant-loop-place
invariant-loop-place l =
    held_by_consumers l.txid (seen_queue l.self) (drop l.place (seen_queue l.self).members) ≡ held_by_consumers l.txid (seen_queue l.self) (seen_queue l.self).members
