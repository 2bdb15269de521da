use Rattle.std.proofs.Common.{sym, ◌∙◌, subst}
use Rattle.pgq_parts.specs.Seen.{seen_database}
use Rattle.pgq_parts.specs.Gives.{Ran}
use Rattle.pgq_parts.proofs.ConsumerSteps.{known-as, newest-as, register-new, gives-known}
use Rattle.pgq_db.proofs.db.Db.register_consumer.Goals as goal

pub returns-then-has_consumer : goal.returns-then-has_consumer
returns-then-has_consumer g c =
    gives-known (seen_database c.args.self.now) c.args.name.now c.args.consumer.now c.in_ok-queue.queue c.in_ok-queue.ensures.ok (sym c.is_nodes.ensures ∙ c.if-is_nodes.false) c.args.who _ _
    (known-as _ _ c.in_ok-queue.queue _ c.args.consumer.now _ _ c.self.view_is c.queue.ensures c.has_consumer.ensures c.if-has_consumer.true) c.in_ok-push.ensures.ok

pub new_consumer-requires-clause-new : goal.new_consumer-requires-clause-new
new_consumer-requires-clause-new g c = known-as _ _ c.in_ok-queue.queue _ c.args.consumer.now _ _ c.self.view_is c.queue.ensures c.has_consumer.ensures c.if-has_consumer.false

pub returns : goal.returns
returns g c =
    subst (Ran c.args.self.now c.new_consumer.new.self c.args.replies.now c.new_consumer.new.replies c.args.who c.new_consumer.result)
    (register-new (seen_database c.args.self.now) c.args.name.now c.args.consumer.now c.in_ok-queue.queue c.in_ok-queue.ensures.ok (sym c.is_nodes.ensures ∙ c.if-is_nodes.false) c.id-newest.result
    (newest-as _ _ c.in_ok-queue.queue _ _ _ _ c.self.view_is c.queue-2.ensures c.ticks.ensures c.newest.ensures.newest c.id-newest.ensures)
    (known-as _ _ c.in_ok-queue.queue _ c.args.consumer.now _ _ c.self.view_is c.queue.ensures c.has_consumer.ensures c.if-has_consumer.false)) c.new_consumer.ensures
