use Rattle.std.proofs.Common.{◌+◌, ◌-◌, length}
use Rattle.sky_lock_table.specs.Sessions.{KeepsArrivalsOf}
use Rattle.sky_lock_table.proofs.session_arrivals.SessionArrivals.make_room.Given as goal

abbrev pub invariant-loop-self : goal.invariant-loop-self
invariant-loop-self l = KeepsArrivalsOf l.fn.self.numbers.items l.self.numbers.items

abbrev pub decreases-loop-self : goal.decreases-loop-self
decreases-loop-self l = l.who + 1 - length l.self.numbers.items
