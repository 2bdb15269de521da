use Rattle.sky_model.specs.StepNode.{parting}
use Rattle.pgq_parts.specs.Seen.{seen_database}
use Rattle.sky_store.proofs.Serving.{serves-steps}
use Rattle.pgq_parts.proofs.ProviderSteps.{stays-as, parted-as}
use Rattle.pgq_db.proofs.store.DbStore.part.Goals as goal

pub returns-then-is_none-clause-serves : goal.returns-then-is_none-clause-serves
returns-then-is_none-clause-serves g c =
    stays-as _ _ c.unregister.new.self c.provided_queue-queue.result c.args.consumer.now _ c.self.view_is c.provided_queue-queue.ensures.queue c.unregister.ensures.was c.if-is_none.ensures
    c.unregister.ensures.none

pub returns-then-is_none-clause-steps : goal.returns-then-is_none-clause-steps
returns-then-is_none-clause-steps g c =
    serves-steps (seen_database c.args.self.now) _ (parting c.args.consumer.now)
    (stays-as _ _ c.unregister.new.self c.provided_queue-queue.result c.args.consumer.now _ c.self.view_is c.provided_queue-queue.ensures.queue c.unregister.ensures.was c.if-is_none.ensures
    c.unregister.ensures.none)

pub returns-clause-serves : goal.returns-clause-serves
returns-clause-serves g c =
    parted-as _ _ c.unregister.new.self c.remove_consumer.new.node c.provided_queue-queue.result c.args.consumer.now _ c.self.view_is c.provided_queue-queue.ensures.queue c.unregister.ensures.was
    c.if-is_none.ensures c.unregister.ensures.mark c.remove_consumer.ensures

pub returns-clause-steps : goal.returns-clause-steps
returns-clause-steps g c =
    serves-steps (seen_database c.args.self.now) _ (parting c.args.consumer.now)
    (parted-as _ _ c.unregister.new.self c.remove_consumer.new.node c.provided_queue-queue.result c.args.consumer.now _ c.self.view_is c.provided_queue-queue.ensures.queue c.unregister.ensures.was
    c.if-is_none.ensures c.unregister.ensures.mark c.remove_consumer.ensures)
