use Rattle.std.proofs.Common.{w64, arith}
use Rattle.std.proofs.lemmas.Int.{to_z-of_z}
use Rattle.sky_world.proofs.Daemons.{works-idle, not-due}
use Rattle.sky_world.proofs.state.State.work_part.Goals as goal

pub returns-then-not-is_due-clause-works : goal.returns-then-not-is_due-clause-works
returns-then-not-is_due-clause-works g c =
    works-idle c.args.self.now c.args.database c.args.part c.requires.whole
    (not-due g.D.Store.seen _ _ c.args.database c.args.part c.args.start _ _ _ c.self.view_is (to_z-of_z w64 c.self.inside.clock (omega arith)) (to_z-of_z w64 c.args.start (omega arith)) c.requires.started c.is_due.ensures c.if-not-is_due.true)
