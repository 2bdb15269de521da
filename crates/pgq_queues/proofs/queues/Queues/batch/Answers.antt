use Rattle.std.proofs.Common.{sym}
use Rattle.pgq_queues.proofs.Waiting.{has-here}
use Rattle.pgq_queues.proofs.queues.Queues.batch.Goals as goal

pub returns-clause-owner : goal.returns-clause-owner
returns-clause-owner c =
    has-here _ _ c.in_ok-place.place.now.queue c.id.result c.get-2.result.now c.in_ok-place.place.now.consumer c.in_ok-sub.sub.now c.self.view_is c.get-2.ensures.within c.get-2.ensures.value
    (c.self.invariant.1.1.0.stand c.args.id c.in_ok-place.place.now (sym c.in_ok-place.ensures.value)) c.in_ok-sub.ensures c.id.ensures
