use Rattle.std.proofs.Common.{◌+◌, ◌<◌, ◌≤◌, ◌^◌, Some, None, option_map, refl, sym, ap, ◌∙◌, subst, arith}
use Rattle.sky_model.specs.Consumers.{Subscription}
use Rattle.sky_model.specs.Outcome.{reply_of}
use Rattle.sky_model.specs.StepNode.{fetching}
use Rattle.pgq_sub.specs.declared.sub.OpenBatch.{OpenBatch}
use Rattle.pgq_sub.specs.Views.{seen_sub}
use Rattle.pgq_queues.specs.Seen.{queue_at}
use Rattle.pgq_parts.specs.Views.{DbView}
use Rattle.pgq_parts.specs.Seen.{seen_database}
use Rattle.sky_store.specs.Served.{FetchRefused}
use Rattle.pgq_parts.proofs.Databases.{err-and, unmarked-as}
use Rattle.pgq_parts.proofs.ConsumerSteps.{next-as}
use Rattle.pgq_parts.proofs.NodeSteps.{serves-by}
use Rattle.sky_store.proofs.Serving.{serves-steps}
use Rattle.pgq_parts.proofs.ProviderSteps.{joined-not, fetch-active, fetch-waits, fetch-spent, fetch-opens, opens-as, takes-active, takes-opened}
use Rattle.pgq_db.proofs.store.DbStore.fetch.Goals as goal

pub unreachable-requires : goal.unreachable-requires
unreachable-requires g c = joined-not (seen_database c.args.self.now) c.provided_queue-queue.result c.args.consumer.now c.provided_queue-queue.ensures.queue c.requires.registered c.in_default.ensures.sub

pub returns-in-Some-active-clause-serves : goal.returns-in-Some-active-clause-serves
returns-in-Some-active-clause-serves g c =
    let d = seen_database c.args.self.now in
    serves-by d _ (fetching c.args.consumer.now) _
    (fetch-active d c.provided_queue-queue.result c.args.consumer.now (seen_sub c.in-Some.sub) c.provided_queue-queue.ensures.queue (sym c.in-Some.ensures.sub) c.in-Some-active.batch.id
    (ap (option_map OpenBatch.id) (sym c.in-Some-active.ensures))) refl

pub returns-in_default-next_after-clause-serves : goal.returns-in_default-next_after-clause-serves
returns-in_default-next_after-clause-serves g c =
    let d = seen_database c.args.self.now in
    let q = c.provided_queue-queue.result in
    let sub = seen_sub c.in-Some.sub in
    serves-by d _ (fetching c.args.consumer.now) _
    (fetch-waits d q c.args.consumer.now sub c.provided_queue-queue.ensures.queue (sym c.in-Some.ensures.sub) (ap (option_map OpenBatch.id) (sym c.in_default-active.ensures))
    (next-as _ _ q _ _ _ _ None c.self.view_is c.queue.ensures c.ticks.ensures c.in_default-next_after.ensures c.position-prev.ensures)) refl

pub returns-then-last_batch-clause-fault : goal.returns-then-last_batch-clause-fault
returns-then-last_batch-clause-fault g c =
    let d = seen_database c.args.self.now in
    let q = c.provided_queue-queue.result in
    let sub = seen_sub c.in-Some.sub in
    let spent : 2 ^ 64 ≤ c.last_batch.result + 1 = omega (arith, c.if-last_batch.true) in
    record {
      refused = fetch-spent d q c.args.consumer.now sub c.provided_queue-queue.ensures.queue (sym c.in-Some.ensures.sub) (ap (option_map OpenBatch.id) (sym c.in_default-active.ensures)) c.in-Some-next_after.next.now c.last_batch.result
          (next-as _ _ q _ _ _ _ _ c.self.view_is c.queue.ensures c.ticks.ensures c.in-Some-next_after.ensures c.position-prev.ensures) (c.last_batch.ensures ∙ ap (λ (v : DbView). v.queues.last_batch_id) c.self.view_is) spent;
      same = refl;
    }

pub open_batch-requires-clause-free : goal.open_batch-requires-clause-free
open_batch-requires-clause-free g c =
    ap (option_map Subscription.active) (ap (λ (v : DbView). (queue_at v.queues c.provided_queue-queue.result).sub c.args.consumer.now) c.self.view_is ∙ sym c.in-Some.ensures.sub)
    ∙ ap (λ active. Some (option_map OpenBatch.id active)) (sym c.in_default-active.ensures)

pub returns-clause-serves : goal.returns-clause-serves
returns-clause-serves g c =
    let d = seen_database c.args.self.now in
    let q = c.provided_queue-queue.result in
    let sub = seen_sub c.in-Some.sub in
    let left : c.last_batch.result + 1 < 2 ^ 64 = omega (arith, c.if-last_batch.false) in
    serves-by d _ (fetching c.args.consumer.now) _
    (fetch-opens d q c.args.consumer.now sub c.provided_queue-queue.ensures.queue (sym c.in-Some.ensures.sub) (ap (option_map OpenBatch.id) (sym c.in_default-active.ensures)) c.in-Some-next_after.next.now c.last_batch.result
    (next-as _ _ q _ _ _ _ _ c.self.view_is c.queue.ensures c.ticks.ensures c.in-Some-next_after.ensures c.position-prev.ensures) (c.last_batch.ensures ∙ ap (λ (v : DbView). v.queues.last_batch_id) c.self.view_is) left)
    (opens-as _ _ c.open_batch.new.self q c.id-cur.result c.args.consumer.now sub c.in-Some-next_after.next.now c.self.view_is (sym c.in-Some.ensures.sub) c.id-cur.ensures c.in_ok-open_batch.ensures.mark)

pub returns-clause-batch : goal.returns-clause-batch
returns-clause-batch g c =
    let d = seen_database c.args.self.now in
    let q = c.provided_queue-queue.result in
    let sub = seen_sub c.in-Some.sub in
    let left : c.last_batch.result + 1 < 2 ^ 64 = omega (arith, c.if-last_batch.false) in
    takes-opened d _ q c.args.consumer.now sub c.in-Some-next_after.next.now c.last_batch.result _ _ _ c.provided_queue-queue.ensures.queue (sym c.in-Some.ensures.sub) (ap (option_map OpenBatch.id) (sym c.in_default-active.ensures))
    (next-as _ _ q _ _ _ _ _ c.self.view_is c.queue.ensures c.ticks.ensures c.in-Some-next_after.ensures c.position-prev.ensures) (c.last_batch.ensures ∙ ap (λ (v : DbView). v.queues.last_batch_id) c.self.view_is) left
    (opens-as _ _ c.open_batch.new.self q c.id-cur.result c.args.consumer.now sub c.in-Some-next_after.next.now c.self.view_is (sym c.in-Some.ensures.sub) c.id-cur.ensures c.in_ok-open_batch.ensures.mark)
    c.last_batch-2.ensures c.position-prev.ensures c.id-cur.ensures

pub returns-clause-steps : goal.returns-clause-steps
returns-clause-steps g c =
    let d = seen_database c.args.self.now in
    let q = c.provided_queue-queue.result in
    let sub = seen_sub c.in-Some.sub in
    let left : c.last_batch.result + 1 < 2 ^ 64 = omega (arith, c.if-last_batch.false) in
    serves-steps d _ (fetching c.args.consumer.now) (serves-by d _ (fetching c.args.consumer.now) _
    (fetch-opens d q c.args.consumer.now sub c.provided_queue-queue.ensures.queue (sym c.in-Some.ensures.sub) (ap (option_map OpenBatch.id) (sym c.in_default-active.ensures)) c.in-Some-next_after.next.now c.last_batch.result
    (next-as _ _ q _ _ _ _ _ c.self.view_is c.queue.ensures c.ticks.ensures c.in-Some-next_after.ensures c.position-prev.ensures) (c.last_batch.ensures ∙ ap (λ (v : DbView). v.queues.last_batch_id) c.self.view_is) left)
    (opens-as _ _ c.open_batch.new.self q c.id-cur.result c.args.consumer.now sub c.in-Some-next_after.next.now c.self.view_is (sym c.in-Some.ensures.sub) c.id-cur.ensures c.in_ok-open_batch.ensures.mark))

pub returns-in-Some-active-clause-steps : goal.returns-in-Some-active-clause-steps
returns-in-Some-active-clause-steps g c =
    let d = seen_database c.args.self.now in
    serves-steps d _ (fetching c.args.consumer.now) (serves-by d _ (fetching c.args.consumer.now) _
    (fetch-active d c.provided_queue-queue.result c.args.consumer.now (seen_sub c.in-Some.sub) c.provided_queue-queue.ensures.queue (sym c.in-Some.ensures.sub) c.in-Some-active.batch.id
    (ap (option_map OpenBatch.id) (sym c.in-Some-active.ensures))) refl)

pub returns-in-Some-active-clause-batch : goal.returns-in-Some-active-clause-batch
returns-in-Some-active-clause-batch g c =
    takes-active (seen_database c.args.self.now) c.provided_queue-queue.result c.args.consumer.now c.in-Some.sub c.in-Some-active.batch c.position-prev.result c.provided_queue-queue.ensures.queue (sym c.in-Some.ensures.sub)
    c.in-Some-active.ensures c.in-Some.ensures.batch c.position-prev.ensures

pub returns-in_default-next_after-clause-batch : goal.returns-in_default-next_after-clause-batch
returns-in_default-next_after-clause-batch g c =
    let d = seen_database c.args.self.now in
    let q = c.provided_queue-queue.result in
    let sub = seen_sub c.in-Some.sub in
    ap reply_of (fetch-waits d q c.args.consumer.now sub c.provided_queue-queue.ensures.queue (sym c.in-Some.ensures.sub) (ap (option_map OpenBatch.id) (sym c.in_default-active.ensures))
    (next-as _ _ q _ _ _ _ None c.self.view_is c.queue.ensures c.ticks.ensures c.in_default-next_after.ensures c.position-prev.ensures))

pub returns-in_err-open_batch-clause-fault : goal.returns-in_err-open_batch-clause-fault
returns-in_err-open_batch-clause-fault g c =
    err-and c.from_residual.result c.from_residual.ensures.1 (λ fault is. subst (λ f. FetchRefused f (seen_database c.args.self.now) (seen_database (record { rows = (g.R.RowStore.state c.self.inside.rows); queues = c.open_batch.new.self; node = c.self.inside.node })) c.args.consumer.now) (sym is)
    (unmarked-as _ _ c.open_batch.new.self c.self.view_is c.in_err-open_batch.ensures.err))

pub returns-in_default-next_after-clause-steps : goal.returns-in_default-next_after-clause-steps
returns-in_default-next_after-clause-steps g c =
    let d = seen_database c.args.self.now in
    let q = c.provided_queue-queue.result in
    let sub = seen_sub c.in-Some.sub in
    serves-steps d _ (fetching c.args.consumer.now) (serves-by d _ (fetching c.args.consumer.now) _
    (fetch-waits d q c.args.consumer.now sub c.provided_queue-queue.ensures.queue (sym c.in-Some.ensures.sub) (ap (option_map OpenBatch.id) (sym c.in_default-active.ensures))
    (next-as _ _ q _ _ _ _ None c.self.view_is c.queue.ensures c.ticks.ensures c.in_default-next_after.ensures c.position-prev.ensures)) refl)
