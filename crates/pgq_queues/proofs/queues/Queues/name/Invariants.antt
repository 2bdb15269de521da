use Rattle.std.proofs.Common.{◌≡◌, drop}
use Rattle.pgq_queues.specs.Seen.{numbered}
use Rattle.pgq_queues.proofs.NumberedQueues.{of_number}
use Rattle.pgq_queues.proofs.queues.Queues.name.Given as goal

-- the first of the number isn't before the place
abbrev pub invariant-loop-place : goal.invariant-loop-place
invariant-loop-place l =
    of_number l.number (drop l.place (numbered l.self-inside.names.names l.self-inside.names.values)) ≡ of_number l.number (numbered l.self-inside.names.names l.self-inside.names.values)
