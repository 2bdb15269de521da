use Rattle.std.proofs.Common.{◌≡◌, ◌++◌, length, vec_capacity}
use Rattle.std.specs.Map.{values_of}
use Rattle.pgq_retry.specs.Retries.{by_due, left_by}
use Rattle.pgq_retry.proofs.retry_queue.RetryQueue.take_due.Given as goal

abbrev pub invariant-loop-turn : goal.invariant-loop-turn
invariant-loop-turn l =
    (by_due (values_of l.initial.self-inside.placed) ≡ l.taken.items ++ by_due (values_of l.self-inside.placed))
    × (values_of l.self-inside.placed ≡ left_by l.taken.items (values_of l.initial.self-inside.placed))
    × (length l.taken.items ≡ l._turn)
    × (vec_capacity l.taken ≡ l.count)
