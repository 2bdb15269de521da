use Rattle.std.proofs.Common.{◌≤◌, arith}
use Rattle.pgq_parts.proofs.ProviderSteps.{full-if}
use Rattle.pgq_db.proofs.store.DbStore.is_full.Goals as goal

pub returns-then-consumer_count-most : goal.returns-then-consumer_count-most
returns-then-consumer_count-most g c =
    let many : 256 ≤ c.consumer_count.result = omega (arith, c.most.ensures, c.if-consumer_count-most.true) in
    full-if _ _ c.provided_queue.result _ c.args.consumer.now c.consumer_count.result _ c.self.view_is c.provided_queue.ensures.queue c.queue-queue.ensures c.consumer_count.ensures many c.has_consumer.ensures
