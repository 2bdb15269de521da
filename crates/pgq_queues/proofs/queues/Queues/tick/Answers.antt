use Rattle.std.proofs.Common.{slice_set, ℤ, w64, ◌∙◌, ap, ◌++◌, ◌∷◌, [], ◌≡◌, ◌+◌, ◌≤◌, ◌^◌, refl, subst, sym, Err, IfOk}
use Rattle.std.proofs.lemmas.Int.{to_z-of_z}
use Rattle.pgq_queues.proofs.TracedLists.{stays-tick, stand-set, within-still, stands-kept}
use Rattle.pgq_queues.proofs.Waiting.{tick-events, retried-stays}
use Rattle.pgq_queues.proofs.Marked.{queue-kept, on-err-then, if-ok-then, ticked-as, queue-at}
use Rattle.std.specs.Prelude.{◌↔◌}
use Rattle.sky_model.specs.Moment.{IsTime}
use Rattle.sky_model.specs.StepQueue.{newest_id}
use Rattle.sky_model.specs.State.{Queue}
use Rattle.pgq_tick.specs.declared.ticks.TickFault.TheVariants.{IdsSpent}
use Rattle.pgq_queues.proofs.Unchanged.{rest-kept}
use Rattle.pgq_queues.proofs.queues.Queues.tick.Goals as goal

pub invariant_of-self : goal.invariant_of-self
invariant_of-self c = ((c.self.invariant.0.0, retried-stays c.self.inside.slots c.args.queue c.get_mut.result.now c.tick.new.self c.self.inside.retries (stands-kept _ _ c.args.queue c.self.view_is c.requires.queue) c.get_mut.ensures.within c.get_mut.ensures.value (stays-tick c.tick.result _ _ _ c.tick.ensures.ok c.tick.ensures.err) (tick-events c.tick.result _ _ _ c.tick.ensures.ok c.tick.ensures.err) c.self.invariant.0.1), within-still c.self.inside.names c.self.inside.slots (slice_set c.self.inside.slots c.args.queue c.tick.new.self) c.self.inside.batches.entries c.self.inside.triggers.items c.self.inside.traced_tables.entries (stand-set c.self.inside.slots c.args.queue c.get_mut.result.now c.tick.new.self (stands-kept _ _ c.args.queue c.self.view_is c.requires.queue) c.get_mut.ensures.within c.get_mut.ensures.value (stays-tick c.tick.result _ _ _ c.tick.ensures.ok c.tick.ensures.err)) c.self.invariant.1)

pub returns-clause-err : goal.returns-clause-err
returns-clause-err c = on-err-then c.tick.result _ _ (queue-kept _ _ c.args.queue c.get_mut.result.now c.tick.new.self c.self.view_is c.get_mut.ensures.value) c.tick.ensures.err

pub returns-clause-mark : goal.returns-clause-mark
returns-clause-mark c =
    if-ok-then c.tick.result _ _ (λ id is. ticked-as _ _ c.args.queue id c.args.now c.args.snapshot c.get_mut.result.now c.tick.new.self c.self.view_is c.get_mut.ensures.within c.get_mut.ensures.value
    (is ∙ ap (λ (t : ℤ). record c.get_mut.result.now { ticks = c.get_mut.result.now.ticks ++ record { id = id; time = t; snapshot = c.args.snapshot; seq = c.get_mut.result.now.seq } ∷ [] }) (to_z-of_z w64 c.args.now c.ranges.now))) c.tick.ensures.ok

pub get_mut-requires : goal.get_mut-requires
get_mut-requires c = stands-kept _ _ c.args.queue c.self.view_is c.requires.queue

pub tick-requires : goal.tick-requires
tick-requires c = subst IsTime (sym (to_z-of_z w64 c.args.now c.ranges.now)) c.requires.time

pub returns-clause-id : goal.returns-clause-id
returns-clause-id c = subst (λ (q : Queue). IfOk c.tick.result (λ id. id ≡ newest_id q + 1)) (queue-at _ _ c.args.queue c.get_mut.result.now c.self.view_is c.get_mut.ensures.within c.get_mut.ensures.value) c.tick.ensures.id

pub returns-clause-spent : goal.returns-clause-spent
returns-clause-spent c = subst (λ (q : Queue). (c.tick.result ≡ Err IdsSpent) ↔ (2 ^ 64 ≤ newest_id q + 1)) (queue-at _ _ c.args.queue c.get_mut.result.now c.self.view_is c.get_mut.ensures.within c.get_mut.ensures.value) c.tick.ensures.spent

pub returns-clause-rest : goal.returns-clause-rest
returns-clause-rest c = rest-kept _ _ _ c.self.view_is refl refl refl refl
