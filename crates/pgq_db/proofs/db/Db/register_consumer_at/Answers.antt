use Rattle.std.proofs.Common.{refl, sym, ◌∙◌, ap, subst}
use Rattle.sky_model.specs.History.{moved}
use Rattle.sky_model.specs.StepConsumer.{floor}
use Rattle.pgq_queues.specs.Seen.{queue_at}
use Rattle.pgq_parts.specs.Views.{DbView}
use Rattle.pgq_parts.specs.Seen.{seen_database}
use Rattle.pgq_parts.specs.Gives.{Ran}
use Rattle.pgq_parts.proofs.Databases.{marked-as}
use Rattle.pgq_parts.proofs.ConsumerSteps.{known-as, newest-as, tick-within, too-old, register_at-new, gives-moved}
use Rattle.pgq_db.proofs.db.Db.register_consumer_at.Goals as goal

pub returns-then-tick-oldest : goal.returns-then-tick-oldest
returns-then-tick-oldest g c = (
  record {
    refused = too-old (seen_database c.args.self.now) c.args.position.now.queue c.args.position.now.consumer c.in_ok-queue.queue c.in_ok-queue.ensures.ok (sym c.is_nodes.ensures ∙ c.if-is_nodes.false) c.args.position.now.tick _
        (tick-within c.args.position.now.tick _ _ c.if-tick-eq0.false c.if-tick-newest.false
        (newest-as _ _ c.in_ok-queue.queue _ _ _ _ c.self.view_is c.queue.ensures c.ticks.ensures c.newest.ensures.newest c.id-newest.ensures))
        (c.floor-oldest.ensures ∙ ap floor c.queue-2.ensures ∙ ap (λ (v : DbView). floor (queue_at v.queues c.in_ok-queue.queue)) c.self.view_is) c.if-tick-oldest.true;
    same = refl;
  },
  refl,
)

pub returns-then-has_consumer : goal.returns-then-has_consumer
returns-then-has_consumer g c =
    gives-moved (seen_database c.args.self.now) c.args.position.now.queue c.args.position.now.consumer c.in_ok-queue.queue c.in_ok-queue.ensures.ok (sym c.is_nodes.ensures ∙ c.if-is_nodes.false) _ c.args.who c.args.position.now.tick _ _ _
    (tick-within c.args.position.now.tick _ _ c.if-tick-eq0.false c.if-tick-newest.false
    (newest-as _ _ c.in_ok-queue.queue _ _ _ _ c.self.view_is c.queue.ensures c.ticks.ensures c.newest.ensures.newest c.id-newest.ensures))
    (c.floor-oldest.ensures ∙ ap floor c.queue-2.ensures ∙ ap (λ (v : DbView). floor (queue_at v.queues c.in_ok-queue.queue)) c.self.view_is) c.if-tick-oldest.false
    (known-as _ _ c.in_ok-queue.queue _ c.args.position.now.consumer _ _ c.self.view_is c.queue-3.ensures c.has_consumer.ensures c.if-has_consumer.true)
    (marked-as _ _ c.move_to.new.self (λ _. moved c.in_ok-queue.queue c.args.position.now.consumer c.args.position.now.tick) c.self.view_is c.move_to.ensures.mark) c.in_ok-push.ensures.ok

pub new_consumer-requires-clause-new : goal.new_consumer-requires-clause-new
new_consumer-requires-clause-new g c = known-as _ _ c.in_ok-queue.queue _ c.args.position.now.consumer _ _ c.self.view_is c.queue-3.ensures c.has_consumer.ensures c.if-has_consumer.false

pub returns : goal.returns
returns g c =
    subst (Ran c.args.self.now c.new_consumer.new.self c.args.replies.now c.new_consumer.new.replies c.args.who c.new_consumer.result)
    (register_at-new (seen_database c.args.self.now) c.args.position.now.queue c.args.position.now.consumer c.in_ok-queue.queue c.in_ok-queue.ensures.ok (sym c.is_nodes.ensures ∙ c.if-is_nodes.false) c.args.position.now.tick _
    (tick-within c.args.position.now.tick _ _ c.if-tick-eq0.false c.if-tick-newest.false
    (newest-as _ _ c.in_ok-queue.queue _ _ _ _ c.self.view_is c.queue.ensures c.ticks.ensures c.newest.ensures.newest c.id-newest.ensures))
    (c.floor-oldest.ensures ∙ ap floor c.queue-2.ensures ∙ ap (λ (v : DbView). floor (queue_at v.queues c.in_ok-queue.queue)) c.self.view_is) c.if-tick-oldest.false
    (known-as _ _ c.in_ok-queue.queue _ c.args.position.now.consumer _ _ c.self.view_is c.queue-3.ensures c.has_consumer.ensures c.if-has_consumer.false)) c.new_consumer.ensures
