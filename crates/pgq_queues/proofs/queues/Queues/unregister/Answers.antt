use Rattle.std.proofs.Common.{None, Some, sym, option_map, ◌∙◌, ap, refl}
use Rattle.pgq_sub.specs.declared.sub.OpenBatch.{OpenBatch}
use Rattle.pgq_sub.specs.Views.{SubView}
use Rattle.pgq_queue.specs.Views.{QueueView}
use Rattle.pgq_queues.specs.Batches.{open_id}
use Rattle.pgq_queues.proofs.Marked.{queue-kept}
use Rattle.pgq_queues.proofs.TracedLists.{stands-kept}
use Rattle.pgq_queues.proofs.Consumed.{becomes, within-less, unregistered-as, if-not}
use Rattle.pgq_queues.proofs.Waiting.{alike-within, retried-leave}
use Rattle.pgq_queues.proofs.Unchanged.{rest-kept}
use Rattle.pgq_queues.proofs.queues.Queues.unregister.Goals as goal

pub invariant_of-self : goal.invariant_of-self
invariant_of-self c =
    let same = c.in_err-sub.ensures.none in
    alike-within _ _ c.args.queue c.get_mut.result.now c.unregister.new.self c.self.view_is c.requires c.get_mut.ensures.within c.get_mut.ensures.value (ap QueueView.ticks same) (ap QueueView.subs same) (ap (λ (q : QueueView). q.event_tables.tables) same) c.self.invariant

pub returns-in_err-sub-clause-none : goal.returns-in_err-sub-clause-none
returns-in_err-sub-clause-none c = if-not c.from_residual.result _ (queue-kept _ _ c.args.queue c.get_mut.result.now c.unregister.new.self c.self.view_is c.get_mut.ensures.value c.in_err-sub.ensures.none)

pub invariant_of-self-2 : goal.invariant_of-self-2
invariant_of-self-2 c =
    let name = c.args.consumer.now in
    let old = c.get_mut.result.now in
    let new = c.unregister.new.self in (
      (
        c.self.invariant.0.0,
        retried-leave c.self.inside.slots c.args.queue c.id-id.result old new name c.self.inside.retries c.drop_sub.new.self (stands-kept _ _ c.args.queue c.self.view_is c.requires) c.get_mut.ensures.within c.get_mut.ensures.value
            c.unregister.ensures.but (becomes name (λ _. None) old new _ c.unregister.ensures.subs) (ap (option_map SubView.id) (sym c.in_ok-sub.ensures.was) ∙ ap Some (sym c.id-id.ensures)) c.drop_sub.ensures c.self.invariant.0.1,
      ),
      within-less c.self.inside.names c.self.inside.slots c.args.queue name (λ _. None) (option_map OpenBatch.id c.active.result) old new c.self.inside.batches.entries c.forget.new.places.entries
          c.self.inside.triggers.items c.self.inside.traced_tables.entries c.get_mut.ensures.within c.get_mut.ensures.value (stands-kept _ _ c.args.queue c.self.view_is c.requires) (ap QueueView.ticks c.unregister.ensures.but)
          (becomes name (λ _. None) old new _ c.unregister.ensures.subs) (ap (option_map OpenBatch.id) c.active.ensures ∙ ap open_id c.in_ok-sub.ensures.was) refl
          c.forget.ensures c.self.invariant.1,
    )

pub returns-clause-mark : goal.returns-clause-mark
returns-clause-mark c =
    unregistered-as _ _ c.self.inside.last_batch_id c.args.queue c.id-id.result c.args.consumer.now (option_map OpenBatch.id c.active.result) c.get_mut.result.now c.unregister.new.self c.forget.new.places.entries c.drop_sub.new.self
    c.self.view_is c.get_mut.ensures.within c.get_mut.ensures.value c.unregister.ensures.but c.unregister.ensures.subs (ap (option_map OpenBatch.id) c.active.ensures ∙ ap open_id c.in_ok-sub.ensures.was) c.forget.ensures c.self.invariant.1.1.0.indexed c.drop_sub.ensures

pub get_mut-requires : goal.get_mut-requires
get_mut-requires c = stands-kept _ _ c.args.queue c.self.view_is c.requires

pub returns-in_err-sub-clause-rest : goal.returns-in_err-sub-clause-rest
returns-in_err-sub-clause-rest c = rest-kept _ _ _ c.self.view_is refl refl refl refl

pub returns-clause-rest : goal.returns-clause-rest
returns-clause-rest c = rest-kept _ _ _ c.self.view_is refl refl refl refl
