use Rattle.std.proofs.Common.{◌≡◌, subst, arith, w64, to_z, of_z}
use Rattle.std.proofs.lemmas.Int.{ints, to_z-of_z}
use Rattle.sky_world.specs.Idle.{Skips}
use Rattle.sky_world.proofs.Skipping.{skips-none, skips-then}
use Rattle.sky_world.proofs.state.State.skip_doubling.Goals as goal

pub loop-leap-init : goal.loop-leap-init
loop-leap-init g c =
    let last_is : to_z w64 (of_z w64 c.args.last) ≡ c.args.last = to_z-of_z w64 c.args.last c.ranges.last in record {
      skips = skips-none c.args.self.now _ (omega (arith, ints, last_is, c.requires.later));
      leap = (omega (arith, ints), omega (arith, ints));
    }

pub loop-leap-preserved : goal.loop-leap-preserved
loop-leap-preserved g c =
    let leap_is : to_z w64 (of_z w64 c.doubled-leap.result) ≡ c.doubled-leap.result = to_z-of_z w64 c.doubled-leap.result (omega (arith, ints, c.doubled-leap.ensures.0, c.doubled-leap.ensures.1)) in record {
      skips = skips-then _ _ _ _ c.loop-leap.invariant.skips c.skip.ensures.skips;
      leap = (omega (arith, ints, leap_is, c.doubled-leap.ensures.0), omega (arith, ints, leap_is, c.doubled-leap.ensures.1));
    }

pub returns-clause-skips : goal.returns-clause-skips
returns-clause-skips g c =
    subst (Skips g.D.Store.seen c.args.self.now c.skip.new.self) (to_z-of_z w64 c.args.last c.ranges.last) (skips-then _ _ _ _ c.loop-leap.invariant.skips c.skip.ensures.skips)
