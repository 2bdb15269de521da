use Rattle.std.proofs.Common.{◌+◌, Some, None, ap, length, refl, ◌∙◌, ◌<◌, subst, sym}
use Rattle.pgq_sub.specs.Views.{SubView}
use Rattle.pgq_queues.specs.Views.{QueuesView}
use Rattle.pgq_queue.specs.Views.{QueueView}
use Rattle.pgq_queues.proofs.TracedLists.{stands-kept}
use Rattle.pgq_queues.proofs.Consumed.{becomes, not-kept, within-come, registered-as}
use Rattle.pgq_queues.proofs.Waiting.{retried-come, alike-within}
use Rattle.pgq_queues.proofs.Marked.{queue-kept, on-err, queue-at}
use Rattle.sky_model.specs.State.{Queue}
use Rattle.pgq_queues.proofs.Unchanged.{rest-kept}
use Rattle.pgq_queues.proofs.queues.Queues.register.Goals as goal

pub invariant_of-self-2 : goal.invariant_of-self-2
invariant_of-self-2 c = let x : SubView = record { id = c.self.inside.last_sub_id + 1; position = c.args.tick; active = None } in (
  (
    c.self.invariant.0.0,
    retried-come c.self.inside.slots c.args.queue c.get_mut.result.now c.register.new.self c.args.consumer.now x c.self.inside.retries (stands-kept _ _ c.args.queue c.self.view_is c.requires.queue)
        c.get_mut.ensures.within c.get_mut.ensures.value c.in_ok-register.ensures.but (becomes c.args.consumer.now (λ _. Some x) c.get_mut.result.now c.register.new.self _ c.in_ok-register.ensures.subs)
        (not-kept _ _ c.args.queue c.args.consumer.now c.self.view_is c.requires.new) c.self.invariant.0.1,
  ),
  within-come c.self.inside.names c.self.inside.slots c.args.queue _ c.args.tick c.args.consumer.now c.get_mut.result.now c.register.new.self c.self.inside.batches.entries c.self.inside.triggers.items c.self.inside.traced_tables.entries
      c.get_mut.ensures.within c.get_mut.ensures.value (stands-kept _ _ c.args.queue c.self.view_is c.requires.queue) c.in_ok-register.ensures.but c.in_ok-register.ensures.subs
      (not-kept _ _ c.args.queue c.args.consumer.now c.self.view_is c.requires.new) c.self.invariant.1,
)

pub returns-clause-mark : goal.returns-clause-mark
returns-clause-mark c =
    registered-as _ _ c.args.queue _ c.args.tick c.args.consumer.now c.get_mut.result.now c.register.new.self c.self.view_is c.get_mut.ensures.within c.get_mut.ensures.value c.in_ok-register.ensures.but c.in_ok-register.ensures.subs
    (ap (λ (w : QueuesView). w.last_sub_id + 1) c.self.view_is) c.requires.new

pub returns-in_err-register-clause-err : goal.returns-in_err-register-clause-err
returns-in_err-register-clause-err c = on-err c.from_residual.result _ (queue-kept _ _ c.args.queue c.get_mut.result.now c.register.new.self c.self.view_is c.get_mut.ensures.value c.in_err-register.ensures.err)

pub get_mut-requires : goal.get_mut-requires
get_mut-requires c = stands-kept _ _ c.args.queue c.self.view_is c.requires.queue

pub register-requires-clause-new : goal.register-requires-clause-new
register-requires-clause-new c = ap (λ (q : Queue). q.sub c.args.consumer.now) (queue-at _ _ c.args.queue c.get_mut.result.now c.self.view_is c.get_mut.ensures.within c.get_mut.ensures.value) ∙ c.requires.new

pub register-requires-clause-room : goal.register-requires-clause-room
register-requires-clause-room c = subst (λ (q : Queue). length q.members < 256) (sym (queue-at _ _ c.args.queue c.get_mut.result.now c.self.view_is c.get_mut.ensures.within c.get_mut.ensures.value)) c.requires.room

pub invariant_of-self : goal.invariant_of-self
invariant_of-self c = let same = c.in_err-register.ensures.err in
    alike-within _ _ c.args.queue c.get_mut.result.now c.register.new.self c.self.view_is c.requires.queue c.get_mut.ensures.within c.get_mut.ensures.value (ap QueueView.ticks same) (ap QueueView.subs same)
    (ap (λ (q : QueueView). q.event_tables.tables) same) c.self.invariant

pub returns-in_err-register-clause-rest : goal.returns-in_err-register-clause-rest
returns-in_err-register-clause-rest c = rest-kept _ _ _ c.self.view_is refl refl refl refl

pub returns-clause-rest : goal.returns-clause-rest
returns-clause-rest c = rest-kept _ _ _ c.self.view_is refl refl refl refl
