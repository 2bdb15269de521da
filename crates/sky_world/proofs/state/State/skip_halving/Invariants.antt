use Rattle.std.proofs.Common.{unsigned_abs}
use Rattle.sky_world.specs.Idle.{IsLeap, Skips}
use Rattle.sky_world.proofs.state.State.skip_halving.Given as goal

abbrev pub decreases-loop-leap : goal.decreases-loop-leap
decreases-loop-leap g l = unsigned_abs l.leap

abbrev pub invariant-loop-leap : goal.invariant-loop-leap
invariant-loop-leap g l = record {
  skips : Skips g.D.Store.seen l.fn.self l.self l.fn.last;
  leap : IsLeap l.leap;
}
