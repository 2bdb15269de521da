use Rattle.std.proofs.Common.{length, w64, to_z, of_z, arith}
use Rattle.std.proofs.lemmas.Int.{to_z-of_z}
use Rattle.sky_world.proofs.Whole.{whole-with, whole-worked}
use Rattle.sky_world.proofs.Daemons.{works-part}
use Rattle.sky_world.proofs.state.State.do_part.Goals as goal

pub returns-clause-works : goal.returns-clause-works
returns-clause-works g c =
    let store = c.get_mut-store in
    let done = c.in_ok-daemon.ensures in
    works-part _ _ c.args.database c.args.part store.result.now c.daemon.new.self _ c.self.view_is store.ensures.within store.ensures.value
    (to_z-of_z w64 c.self.inside.clock (omega arith)) c.requires.due done.exact
    (whole-with _ _ c.args.database store.result.now c.daemon.new.self c.self.view_is store.ensures.within store.ensures.value c.requires.whole
    (whole-worked (length c.args.self.now.sessions.names) (g.D.Store.seen store.result.now) (g.D.Store.seen c.daemon.new.self) c.args.part (to_z w64 (of_z w64 c.self.inside.clock)) done.exact done.waiting done.steps))
