use Rattle.std.proofs.Common.{w64, arith}
use Rattle.std.proofs.lemmas.Int.{to_z-of_z}
use Rattle.sky_world.proofs.Whole.{whole-called, known-there}
use Rattle.sky_world.proofs.Worlds.{adds-failed}
use Rattle.sky_world.proofs.state.State.abort_block.Goals as goal

pub returns : goal.returns
returns g c =
    let store = c.get_mut-store in
    let failed = c.in_ok-fail_into.ensures in
    adds-failed _ _ c.args.database c.args.who store.result.now c.fail_into.new.self _ _ _ c.self.view_is store.ensures.within store.ensures.value
    (to_z-of_z w64 c.self.inside.clock (omega arith)) failed.exact failed.moments
    (known-there _ _ c.args.database c.args.who store.result.now c.fail_into.new.self _ c.self.view_is store.ensures.within store.ensures.value c.requires.whole c.requires.who failed.within)
    (whole-called _ _ c.args.database c.args.who store.result.now c.fail_into.new.self _ _ _ c.self.view_is store.ensures.within store.ensures.value c.requires.whole c.requires.who failed.within failed.rests tt failed.steps)
