use Rattle.std.proofs.Common.{◌≡◌, ◌+◌, ◌-◌, length}
use Rattle.sky_state.specs.Seen.{attempt_of}
use Rattle.sky_state.proofs.attempts.Attempts.make_room.Given as goal

abbrev pub invariant-loop-self : goal.invariant-loop-self
invariant-loop-self l = attempt_of l.self-inside.items.items ≡ attempt_of l.fn.self

abbrev pub decreases-loop-self : goal.decreases-loop-self
decreases-loop-self l = l.who + 1 - length l.self-inside.items.items
