use Rattle.std.proofs.Common.{◌+◌, ◌<◌, ◌^◌, length, ap, ◌∙◌, arith}
use Rattle.sky_model.specs.History.{registered}
use Rattle.pgq_queues.specs.Views.{QueuesView}
use Rattle.pgq_queues.specs.Seen.{queue_at}
use Rattle.pgq_parts.specs.Views.{DbView}
use Rattle.pgq_parts.specs.Seen.{seen_database}
use Rattle.pgq_parts.proofs.Databases.{marked-as}
use Rattle.pgq_parts.proofs.ConsumerSteps.{none-if, gives-new}
use Rattle.pgq_db.proofs.db.Db.new_consumer.Goals as goal

pub register-requires-clause-new : goal.register-requires-clause-new
register-requires-clause-new g c = ap (λ (v : DbView). (queue_at v.queues c.args.queue).sub c.args.consumer.now) c.self.view_is ∙ none-if _ c.requires.new

pub returns : goal.returns
returns g c =
    let d = seen_database c.args.self.now in
    let few : length (d.queue c.args.queue).members < 256 = grind (arith, c.consumer_count.ensures, c.most.ensures, c.if-consumer_count-most.false, c.queue.ensures, c.self.view_is) in
    let left : d.last_sub_id + 1 < 2 ^ 64 = grind (arith, c.last_sub.ensures, c.self.view_is) in
    gives-new d _ c.args.who c.args.queue c.args.tick c.args.consumer.now _ _ few left
    (marked-as _ _ c.register.new.self (λ (q : QueuesView). registered c.args.queue c.args.consumer.now (q.last_sub_id + 1) c.args.tick) c.self.view_is c.in_ok-register.ensures.mark) c.in_ok-push.ensures.ok
