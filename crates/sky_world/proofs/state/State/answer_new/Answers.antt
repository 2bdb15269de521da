use Rattle.std.proofs.Common.{◌<◌, length, arith}
use Rattle.sky_world.proofs.Worlds.{answers-new}
use Rattle.sky_world.proofs.state.State.answer_new.Goals as goal

pub returns-clause-adds : goal.returns-clause-adds
returns-clause-adds g c =
    let room : length c.args.self.now.sessions.names < 256 = grind (arith, c.most.ensures, c.if-who-most.false, c.session_count-who.ensures) in
    answers-new c.args.self.now c.appear.new.self c.run.new.self _ _ _ _ c.requires.new room c.in_ok-appear.ensures.fact c.session_count-who.ensures c.in_ok-run.ensures
