use Rattle.std.proofs.Common.{◌∙◌}
use Rattle.sky_world.proofs.WorkerSteps.{lent-as, batch-tried, tried-ok, tried-err}
use Rattle.sky_world.proofs.state.State.move_leaf.Goals as goal

pub returns-clause-ok : goal.returns-clause-ok
returns-clause-ok g c =
    let lent = lent-as _ c.args.self.now c.stores_mut.result.now c.args.provider c.args.database _ _ c.self.view_is c.stores_mut.ensures.stores c.stores_mut.ensures.as_many c.requires.provider c.requires.database c.requires.apart
    c.two_of-from.ensures.first c.two_of-from.ensures.second in
    tried-ok (batch-tried _ c.args.self.now c.stores_mut.result.now c.args.provider c.args.database c.two_of-from.result.0.now c.step-moved.new.provider c.two_of-from.result.1.now c.step-moved.new.replica
    c.with_hand-worker.result c.step-moved.new.self _ c.set-kept.new.self (λ replies. replies.items) c.step-moved.result c.if_kept.result c.set-kept.result c.self.view_is c.requires.whole lent
    (c.with_hand-worker.ensures ∙ c.get-hand.ensures) c.into_hand.ensures c.set-kept.ensures.ok c.if_kept.ensures.kept c.if_kept.ensures.lost
    c.step-moved.ensures.moves c.step-moved.ensures.fault)

pub returns-clause-err : goal.returns-clause-err
returns-clause-err g c =
    let lent = lent-as _ c.args.self.now c.stores_mut.result.now c.args.provider c.args.database _ _ c.self.view_is c.stores_mut.ensures.stores c.stores_mut.ensures.as_many c.requires.provider c.requires.database c.requires.apart
    c.two_of-from.ensures.first c.two_of-from.ensures.second in
    tried-err (batch-tried _ c.args.self.now c.stores_mut.result.now c.args.provider c.args.database c.two_of-from.result.0.now c.step-moved.new.provider c.two_of-from.result.1.now c.step-moved.new.replica
    c.with_hand-worker.result c.step-moved.new.self _ c.set-kept.new.self (λ replies. replies.items) c.step-moved.result c.if_kept.result c.set-kept.result c.self.view_is c.requires.whole lent
    (c.with_hand-worker.ensures ∙ c.get-hand.ensures) c.into_hand.ensures c.set-kept.ensures.ok c.if_kept.ensures.kept c.if_kept.ensures.lost
    c.step-moved.ensures.moves c.step-moved.ensures.fault)
