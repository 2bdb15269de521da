use Rattle.std.proofs.Common.{◌≡◌, ap, ◌∙◌, subst, IfSome}
use Rattle.pgq_queues.specs.Seen.{queue_at, batch_of}
use Rattle.pgq_parts.specs.Views.{DbView}
use Rattle.pgq_parts.specs.Seen.{seen_database}
use Rattle.pgq_db.proofs.db.Db.subscription.Goals as goal

pub returns-clause-sub : goal.returns-clause-sub
returns-clause-sub g c = c.subscription.ensures.sub ∙ ap (λ (v : DbView). (queue_at v.queues c.args.queue).sub c.args.consumer.now) c.self.view_is

pub returns-clause-batch : goal.returns-clause-batch
returns-clause-batch g c =
    subst (λ (v : DbView). IfSome c.subscription.result (λ sub. IfSome sub.active (λ batch. (seen_database v).batch batch.id ≡ batch_of batch.id (record { queue = c.args.queue; consumer = c.args.consumer.now }) sub)))
    c.self.view_is c.subscription.ensures.batch
