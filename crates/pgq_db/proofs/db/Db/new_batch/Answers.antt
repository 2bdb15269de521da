use Rattle.std.proofs.Common.{ℕ, ◌+◌, ◌<◌, ◌^◌, ap, ◌∙◌, arith}
use Rattle.sky_model.specs.History.{Batch, queued, opened}
use Rattle.sky_model.specs.State.{after_mark}
use Rattle.pgq_sub.specs.Views.{seen_sub}
use Rattle.pgq_queues.specs.Views.{QueuesView}
use Rattle.pgq_queues.specs.Seen.{queue_at, seen_with}
use Rattle.pgq_parts.specs.Views.{DbView}
use Rattle.pgq_parts.specs.Seen.{seen_database}
use Rattle.pgq_parts.proofs.Databases.{marked-as}
use Rattle.pgq_parts.proofs.ConsumerSteps.{next-as, gives-batch}
use Rattle.pgq_db.proofs.db.Db.new_batch.Goals as goal

pub returns : goal.returns
returns g c =
    let d = seen_database c.args.self.now in
    let sub = seen_sub c.args.sub.now in
    let left : d.last_batch_id + 1 < 2 ^ 64 = grind (arith, c.last_batch.ensures, c.self.view_is) in
    let made : QueuesView → ℕ → Batch = λ q cur. record { id = q.last_batch_id + 1; queue = c.args.queue; consumer = c.args.consumer.now; sub = sub.id; prev = sub.position; cur = cur } in
    gives-batch d _ c.args.who c.args.queue c.last_batch-2.result c.args.consumer.now sub c.in-Some.next.now _ _
    (next-as _ _ c.args.queue _ _ _ _ _ c.self.view_is c.queue.ensures c.ticks.ensures c.in-Some.ensures c.position.ensures) left
    (marked-as _ _ c.open_batch.new.self (λ q. opened (made q c.in-Some.next.now.id)) c.self.view_is
    (λ part. c.in_ok-open_batch.ensures.mark part sub (ap (λ (v : DbView). (queue_at v.queues c.args.queue).sub c.args.consumer.now) c.self.view_is ∙ c.requires.registered)
    ∙ ap (λ n. after_mark (seen_with part c.self.inside.queues) (queued (opened (made c.self.inside.queues n)))) c.id-cur.ensures))
    c.last_batch-2.ensures c.in_ok-push-2.ensures.ok
