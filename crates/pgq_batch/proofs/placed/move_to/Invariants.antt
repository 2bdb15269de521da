use Rattle.std.proofs.Common.{◌≡◌, ◌++◌, ◌+◌, ◌≤◌, length, map}
use Rattle.std.specs.Vec.{vec_len, vec_capacity}
use Rattle.pgq_batch.specs.Looked.{lent_events, placed_events}
use Rattle.pgq_batch.proofs.placed.move_to.Given as goal

-- what was moved and what is left to be moved is all, for which there is room
abbrev pub invariant-loop-event : goal.invariant-loop-event
invariant-loop-event l =
    (lent_events l.events.items ++ map (λ x. x.1) (placed_events l.event-iterator.rest.items) ≡ lent_events l.fn.events.items ++ map (λ x. x.1) (placed_events l.fn.placed.items))
    × (vec_len l.events + length l.event-iterator.rest.items ≤ vec_capacity l.events)
