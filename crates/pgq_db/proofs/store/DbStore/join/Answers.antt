use Rattle.std.proofs.Common.{◌≡◌, ◌+◌, ◌<◌, ◌≤◌, ◌^◌, length, false, refl, sym, ap, ◌∙◌, subst, arith}
use Rattle.londiste_state.specs.Nodes.{is_among}
use Rattle.sky_model.specs.History.{joined, parted}
use Rattle.sky_model.specs.Nodes.{after_node}
use Rattle.sky_model.specs.State.{Queue}
use Rattle.sky_model.specs.StepNode.{joining}
use Rattle.pgq_queues.specs.Seen.{queue_at}
use Rattle.pgq_parts.specs.Views.{DbView}
use Rattle.pgq_parts.specs.Seen.{seen_database}
use Rattle.sky_store.specs.Served.{set_consumers, JoinRefused}
use Rattle.pgq_parts.proofs.ConsumerSteps.{known-as, newest-as, none-if}
use Rattle.pgq_parts.proofs.NodeSteps.{joined-back, back-as, serves-by, join-exists, join-full, join-spent, join-does, joined-as}
use Rattle.sky_store.proofs.Serving.{serves-steps}
use Rattle.pgq_db.proofs.store.DbStore.join.Goals as goal

pub returns-then-has_consumer-clause-fault : goal.returns-then-has_consumer-clause-fault
returns-then-has_consumer-clause-fault g c = record {
  refused = join-exists (seen_database c.args.self.now) c.in-Some.queue c.args.consumer.now (sym c.in-Some.ensures.queue)
      (known-as _ _ c.in-Some.queue _ c.args.consumer.now _ _ c.self.view_is c.queue.ensures c.has_consumer.ensures c.if-has_consumer.true);
  same = refl;
}

pub returns-then-consumer_count-most-clause-fault : goal.returns-then-consumer_count-most-clause-fault
returns-then-consumer_count-most-clause-fault g c =
    let many : 256 ≤ c.consumer_count.result = omega (arith, c.most.ensures, c.if-consumer_count-most.true) in
    record {
      refused = join-full (seen_database c.args.self.now) c.in-Some.queue c.args.consumer.now (sym c.in-Some.ensures.queue)
          (known-as _ _ c.in-Some.queue _ c.args.consumer.now _ _ c.self.view_is c.queue.ensures c.has_consumer.ensures c.if-has_consumer.false) c.consumer_count.result
          (c.consumer_count.ensures ∙ ap (λ (q : Queue). length q.members) c.queue-2.ensures ∙ ap (λ (v : DbView). length (queue_at v.queues c.in-Some.queue).members) c.self.view_is) many;
      same = refl;
    }

pub returns-then-last_sub-clause-fault : goal.returns-then-last_sub-clause-fault
returns-then-last_sub-clause-fault g c =
    let few : c.consumer_count.result < 256 = omega (arith, c.most.ensures, c.if-consumer_count-most.false) in
    let spent : 2 ^ 64 ≤ c.last_sub.result + 1 = omega (arith, c.if-last_sub.true) in
    record {
      refused = join-spent (seen_database c.args.self.now) c.in-Some.queue c.args.consumer.now (sym c.in-Some.ensures.queue)
          (known-as _ _ c.in-Some.queue _ c.args.consumer.now _ _ c.self.view_is c.queue.ensures c.has_consumer.ensures c.if-has_consumer.false) c.consumer_count.result
          (c.consumer_count.ensures ∙ ap (λ (q : Queue). length q.members) c.queue-2.ensures ∙ ap (λ (v : DbView). length (queue_at v.queues c.in-Some.queue).members) c.self.view_is) few
          c.last_sub.result (c.last_sub.ensures ∙ ap (λ (v : DbView). v.queues.last_sub_id) c.self.view_is) spent;
      same = refl;
    }

pub register-requires-clause-new : goal.register-requires-clause-new
register-requires-clause-new g c =
    ap (λ (v : DbView). (queue_at v.queues c.in-Some.queue).sub c.args.consumer.now) c.self.view_is
    ∙ none-if _ (known-as _ _ c.in-Some.queue _ c.args.consumer.now _ _ c.self.view_is c.queue.ensures c.has_consumer.ensures c.if-has_consumer.false)

pub returns-clause-serves : goal.returns-clause-serves
returns-clause-serves g c =
    let d = seen_database c.args.self.now in
    let few : c.consumer_count.result < 256 = omega (arith, c.most.ensures, c.if-consumer_count-most.false) in
    let left : c.last_sub.result + 1 < 2 ^ 64 = omega (arith, c.if-last_sub.false) in
    serves-by d _ (joining c.args.consumer.now) _
    (join-does d c.in-Some.queue c.args.consumer.now (sym c.in-Some.ensures.queue)
    (known-as _ _ c.in-Some.queue _ c.args.consumer.now _ _ c.self.view_is c.queue.ensures c.has_consumer.ensures c.if-has_consumer.false) c.consumer_count.result
    (c.consumer_count.ensures ∙ ap (λ (q : Queue). length q.members) c.queue-2.ensures ∙ ap (λ (v : DbView). length (queue_at v.queues c.in-Some.queue).members) c.self.view_is) few
    c.last_sub.result (c.last_sub.ensures ∙ ap (λ (v : DbView). v.queues.last_sub_id) c.self.view_is) left)
    (joined-as _ _ c.register.new.self c.add_consumer.new.node c.in-Some.queue c.id-newest.result _ c.args.consumer.now c.self.view_is c.in_default-register.ensures.mark
    (c.in_ok-add_consumer.ensures.ok ∙ ap (λ n. after_node (joined n) c.self.inside.node.own) c.in_ok-name.ensures) (newest-as _ _ c.in-Some.queue _ _ _ _ c.self.view_is c.queue-3.ensures c.ticks.ensures c.newest.ensures.newest c.id-newest.ensures))

pub returns-clause-steps : goal.returns-clause-steps
returns-clause-steps g c =
    let d = seen_database c.args.self.now in
    let few : c.consumer_count.result < 256 = omega (arith, c.most.ensures, c.if-consumer_count-most.false) in
    let left : c.last_sub.result + 1 < 2 ^ 64 = omega (arith, c.if-last_sub.false) in
    serves-steps d _ (joining c.args.consumer.now)
    (serves-by d _ (joining c.args.consumer.now) _
    (join-does d c.in-Some.queue c.args.consumer.now (sym c.in-Some.ensures.queue)
    (known-as _ _ c.in-Some.queue _ c.args.consumer.now _ _ c.self.view_is c.queue.ensures c.has_consumer.ensures c.if-has_consumer.false) c.consumer_count.result
    (c.consumer_count.ensures ∙ ap (λ (q : Queue). length q.members) c.queue-2.ensures ∙ ap (λ (v : DbView). length (queue_at v.queues c.in-Some.queue).members) c.self.view_is) few
    c.last_sub.result (c.last_sub.ensures ∙ ap (λ (v : DbView). v.queues.last_sub_id) c.self.view_is) left)
    (joined-as _ _ c.register.new.self c.add_consumer.new.node c.in-Some.queue c.id-newest.result _ c.args.consumer.now c.self.view_is c.in_default-register.ensures.mark
    (c.in_ok-add_consumer.ensures.ok ∙ ap (λ n. after_node (joined n) c.self.inside.node.own) c.in_ok-name.ensures) (newest-as _ _ c.in-Some.queue _ _ _ _ c.self.view_is c.queue-3.ensures c.ticks.ensures c.newest.ensures.newest c.id-newest.ensures)))

pub returns-in-Err-clause-fault : goal.returns-in-Err-clause-fault
returns-in-Err-clause-fault g c =
    let name = c.args.consumer.now in
    let v = c.self.inside in
    subst (λ fault. JoinRefused fault (seen_database c.args.self.now) (seen_database (record { rows = g.R.RowStore.state v.rows; queues = c.register.new.self; node = record v.node { own = c.remove_consumer.new.node } })) name) (sym c.from.ensures)
    (λ new. back-as _ _ c.register.new.self c.remove_consumer.new.node c.self.view_is c.in-Err.ensures.err
    (c.remove_consumer.ensures ∙ ap (after_node (parted name)) (c.in_ok-add_consumer.ensures.ok ∙ ap (λ n. after_node (joined n) v.node.own) c.in_ok-name.ensures)
    ∙ joined-back v.node.own name (subst (λ (w : DbView). is_among name (set_consumers w.node.own) ≡ false) (sym c.self.view_is) new)))
