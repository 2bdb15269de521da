use Rattle.std.proofs.Common.{subst, w64}
use Rattle.std.proofs.lemmas.Int.{to_z-of_z}
use Rattle.sky_world.specs.Idle.{Skips}
use Rattle.sky_world.proofs.Skipping.{skips-then, since-started}
use Rattle.sky_world.proofs.state.State.skip_idle.Goals as goal

pub returns-clause-skips : goal.returns-clause-skips
returns-clause-skips g c =
    subst (Skips g.D.Store.seen c.args.self.now c.skip_halving.new.self) (to_z-of_z w64 c.args.last c.ranges.last) (skips-then _ _ _ _ c.skip_first-leap.ensures.skips c.skip_halving.ensures)

pub returns-clause-since : goal.returns-clause-since
returns-clause-since g c = since-started g.D.Store.seen _ _ c.self.view_is c.self.invariant.started
