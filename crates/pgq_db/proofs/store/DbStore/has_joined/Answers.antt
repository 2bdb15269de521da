use Rattle.pgq_parts.proofs.ProviderSteps.{has-joined}
use Rattle.pgq_db.proofs.store.DbStore.has_joined.Goals as goal

pub returns : goal.returns
returns g c =
    has-joined _ _ c.provided_queue.result _ c.args.consumer.now c.has_consumer.result c.self.view_is c.provided_queue.ensures.queue c.queue-queue.ensures c.has_consumer.ensures
