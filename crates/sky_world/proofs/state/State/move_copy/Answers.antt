use Rattle.std.proofs.Common.{◌∙◌}
use Rattle.sky_world.proofs.WorkerSteps.{lent-as, copy-tried, tried-ok, tried-err}
use Rattle.sky_world.proofs.state.State.move_copy.Goals as goal

pub returns-clause-ok : goal.returns-clause-ok
returns-clause-ok g c =
    let lent = lent-as _ c.args.self.now c.stores_mut.result.now c.args.provider c.args.database _ _ c.self.view_is c.stores_mut.ensures.stores c.stores_mut.ensures.as_many c.requires.provider c.requires.database c.requires.apart
    c.two_of-from.ensures.first c.two_of-from.ensures.second in
    tried-ok (copy-tried _ c.args.self.now c.stores_mut.result.now c.args.provider c.args.database c.args.table.now.name.now c.two_of-from.result.0.now c.step-moved.new.provider c.two_of-from.result.1.now c.step-moved.new.replica
    c.with_hand-worker.result c.step-moved.new.self _ c.place_for.new.self c.take_at-hand.new.self c.put_at.new.self c.in_ok-place.place (λ replies. replies.items) c.step-moved.result c.stopping.result c.self.view_is c.requires.whole lent
    c.place_for.ensures.same c.in_ok-place.ensures.place (c.with_hand-worker.ensures ∙ c.take_at-hand.ensures.hand) c.take_at-hand.ensures.nothing c.into_hand.ensures c.put_at.ensures c.stopping.ensures
    c.step-moved.ensures.moves c.step-moved.ensures.fault)

pub returns-clause-err : goal.returns-clause-err
returns-clause-err g c =
    let lent = lent-as _ c.args.self.now c.stores_mut.result.now c.args.provider c.args.database _ _ c.self.view_is c.stores_mut.ensures.stores c.stores_mut.ensures.as_many c.requires.provider c.requires.database c.requires.apart
    c.two_of-from.ensures.first c.two_of-from.ensures.second in
    tried-err (copy-tried _ c.args.self.now c.stores_mut.result.now c.args.provider c.args.database c.args.table.now.name.now c.two_of-from.result.0.now c.step-moved.new.provider c.two_of-from.result.1.now c.step-moved.new.replica
    c.with_hand-worker.result c.step-moved.new.self _ c.place_for.new.self c.take_at-hand.new.self c.put_at.new.self c.in_ok-place.place (λ replies. replies.items) c.step-moved.result c.stopping.result c.self.view_is c.requires.whole lent
    c.place_for.ensures.same c.in_ok-place.ensures.place (c.with_hand-worker.ensures ∙ c.take_at-hand.ensures.hand) c.take_at-hand.ensures.nothing c.into_hand.ensures c.put_at.ensures c.stopping.ensures
    c.step-moved.ensures.moves c.step-moved.ensures.fault)
