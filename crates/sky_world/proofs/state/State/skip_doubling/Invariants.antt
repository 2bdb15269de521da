use Rattle.std.proofs.Common.{◌-ℤ◌, unsigned_abs}
use Rattle.sky_world.specs.Idle.{IsReach, Skips}
use Rattle.sky_world.proofs.state.State.skip_doubling.Given as goal

abbrev pub decreases-loop-leap : goal.decreases-loop-leap
decreases-loop-leap g l = unsigned_abs (l.fn.last -ℤ l.self.now)

abbrev pub invariant-loop-leap : goal.invariant-loop-leap
invariant-loop-leap g l = record {
  skips : Skips g.D.Store.seen l.fn.self l.self l.fn.last;
  leap : IsReach l.leap;
}
