use Rattle.std.proofs.Common.{option_map, sym, ap, ◌∙◌}
use Rattle.sky_model.specs.Consumers.{Subscription}
use Rattle.sky_model.specs.History.{unregistered}
use Rattle.pgq_queues.specs.Seen.{queue_at}
use Rattle.pgq_parts.specs.Views.{DbView}
use Rattle.pgq_parts.specs.Seen.{seen_database}
use Rattle.pgq_parts.proofs.ConsumerSteps.{counted, gives-leave, marked-if, unmarked-if}
use Rattle.pgq_db.proofs.db.Db.unregister_consumer.Goals as goal

pub returns : goal.returns
returns g c =
    gives-leave (seen_database c.args.self.now) c.args.name.now c.args.consumer.now c.in_ok-queue.queue c.in_ok-queue.ensures.ok (sym c.is_nodes.ensures ∙ c.if-is_nodes.false) _ c.args.who _ c.unregister.result _ _
    (c.unregister.ensures.was ∙ ap (λ (v : DbView). option_map Subscription.id ((queue_at v.queues c.in_ok-queue.queue).sub c.args.consumer.now)) c.self.view_is)
    (marked-if _ _ c.unregister.new.self c.unregister.result (unregistered c.in_ok-queue.queue c.args.consumer.now) c.self.view_is c.unregister.ensures.mark)
    (unmarked-if _ _ c.unregister.new.self c.unregister.result c.self.view_is c.unregister.ensures.none) (counted _ _ _ c.from-count.ensures c.is_some.ensures) c.in_ok-push.ensures.ok
