use Rattle.std.proofs.Common.{◌∙◌}
use Rattle.sky_world.proofs.WorkerSteps.{lent-as, restart-there}
use Rattle.sky_world.proofs.state.State.restart_copy.Goals as goal

pub returns : goal.returns
returns g c =
    let lent = lent-as _ c.args.self.now c.stores_mut.result.now c.args.provider c.args.database _ _ c.self.view_is c.stores_mut.ensures.stores c.stores_mut.ensures.as_many c.requires.provider c.requires.database c.requires.apart
    c.two_of-from.ensures.first c.two_of-from.ensures.second in
    restart-there _ c.args.self.now c.stores_mut.result.now c.args.provider c.args.database c.args.table.now c.two_of-from.result.0.now c.restart.new.provider c.two_of-from.result.1.now c.restart.new.replica c.with_hand-worker.result c.restart.new.self
    c.take-hand.new.self c.self.view_is c.requires.whole lent (c.with_hand-worker.ensures ∙ c.take-hand.ensures.hand) c.take-hand.ensures.nothing c.restart.ensures
