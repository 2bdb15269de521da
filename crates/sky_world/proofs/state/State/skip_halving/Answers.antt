use Rattle.std.proofs.Common.{◌≡◌, arith, w64, to_z, of_z}
use Rattle.std.proofs.lemmas.Int.{ints, to_z-of_z}
use Rattle.sky_world.proofs.Skipping.{skips-none, skips-then}
use Rattle.sky_world.proofs.state.State.skip_halving.Goals as goal

pub loop-leap-init : goal.loop-leap-init
loop-leap-init g c =
    let last_is : to_z w64 (of_z w64 c.args.last) ≡ c.args.last = to_z-of_z w64 c.args.last c.ranges.last in
    let whole_is : to_z w64 (of_z w64 c.args.whole) ≡ c.args.whole = to_z-of_z w64 c.args.whole c.ranges.whole in record {
      skips = skips-none c.args.self.now _ (omega (arith, ints, last_is, c.requires.later));
      leap = (omega (arith, ints, whole_is, c.requires.whole.0), omega (arith, ints, whole_is, c.requires.whole.1));
    }

pub loop-leap-preserved : goal.loop-leap-preserved
loop-leap-preserved g c =
    let leap_is : to_z w64 (of_z w64 c.half-leap.result) ≡ c.half-leap.result = to_z-of_z w64 c.half-leap.result (omega (arith, ints, c.half-leap.ensures.leap.0, c.half-leap.ensures.leap.1)) in record {
      skips = skips-then _ _ _ _ c.loop-leap.invariant.skips c.skip.ensures.skips;
      leap = (omega (arith, ints, leap_is, c.half-leap.ensures.leap.0), omega (arith, ints, leap_is, c.half-leap.ensures.leap.1));
    }
