use Rattle.std.proofs.Common.{w64, arith}
use Rattle.std.proofs.lemmas.Int.{to_z-of_z}
use Rattle.sky_world.proofs.Whole.{whole-called, known-there}
use Rattle.sky_world.proofs.Worlds.{adds-within}
use Rattle.sky_world.proofs.state.State.run_there.Goals as goal

pub returns-clause-adds : goal.returns-clause-adds
returns-clause-adds g c =
    let store = c.get_mut-store in
    let stepped = c.in_ok-step_into.ensures in
    adds-within _ _ c.args.database c.args.who store.result.now c.step_into.new.self c.args.stmt.now _ _ _ c.self.view_is store.ensures.within store.ensures.value
    (to_z-of_z w64 c.self.inside.clock (omega arith)) stepped.exact stepped.moments
    (known-there _ _ c.args.database c.args.who store.result.now c.step_into.new.self _ c.self.view_is store.ensures.within store.ensures.value c.requires.whole c.requires.who stepped.within)
    (whole-called _ _ c.args.database c.args.who store.result.now c.step_into.new.self _ _ _ c.self.view_is store.ensures.within store.ensures.value c.requires.whole c.requires.who stepped.within stepped.rests c.requires.form stepped.steps)
