use Rattle.std.proofs.Common.{◌≡◌, ◌+◌, ◌-◌, length}
use Rattle.sky_state.specs.Seen.{session_of}
use Rattle.sky_state.proofs.sessions.Sessions.make_room.Given as goal

abbrev pub invariant-loop-self : goal.invariant-loop-self
invariant-loop-self l = session_of l.self-inside.items.items ≡ session_of l.fn.self

abbrev pub decreases-loop-self : goal.decreases-loop-self
decreases-loop-self l = l.who + 1 - length l.self-inside.items.items
