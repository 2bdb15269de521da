use Rattle.std.proofs.Common.{◌-ℤ◌, unsigned_abs}
use Rattle.sky_world.specs.Idle.{IsReach}
use Rattle.sky_world.proofs.Clocks.{IsGoing}
use Rattle.sky_world.proofs.state.State.work_until.Given as goal

abbrev pub decreases-loop-moment : goal.decreases-loop-moment
decreases-loop-moment g l = unsigned_abs (l.fn.last -ℤ l.self.now)

-- what is left to be done ends where all does
abbrev pub invariant-loop-moment : goal.invariant-loop-moment
invariant-loop-moment g l = record {
  going : IsGoing g.D.Store.seen l.fn.self l.self l.fn.last;
  reach : IsReach l.reach;
}
