use Rattle.std.proofs.Common.{slice_set, ◌∙◌, ap, refl, sym, subst}
use Rattle.pgq_tables.specs.Tables.{with_pending}
use Rattle.sky_model.specs.State.{Queue, with_tables}
use Rattle.pgq_queue.specs.Views.{QueueView}
use Rattle.pgq_queue.specs.Seen.{seen_queue}
use Rattle.pgq_queue.specs.Stored.{AllStored, RetriedAtMost}
use Rattle.pgq_queues.proofs.Marked.{queues-set, queue-at}
use Rattle.pgq_queues.proofs.TracedLists.{stays-alike, stand-set, within-still, stands-kept}
use Rattle.pgq_queues.proofs.Waiting.{retried-stays}
use Rattle.pgq_queues.proofs.Unchanged.{rest-kept, alike-still}
use Rattle.pgq_queues.proofs.queues.Queues.begin_switch.Goals as goal

pub begin_switch-requires : goal.begin_switch-requires
begin_switch-requires c = ap (λ (q : Queue). q.event_tables.pending) (queue-at _ _ c.args.queue c.get_mut.result.now c.self.view_is c.get_mut.ensures.within c.get_mut.ensures.value) ∙ c.requires.none

pub invariant_of-self : goal.invariant_of-self
invariant_of-self c =
    let stands = stands-kept _ _ c.args.queue c.self.view_is c.requires.stands in
    let old = c.get_mut.result.now in
    let new = c.begin_switch.new.self in
    let stays = stays-alike old new (ap QueueView.ticks c.begin_switch.ensures) (ap QueueView.subs c.begin_switch.ensures) in (
      (
        c.self.invariant.0.0,
        retried-stays c.self.inside.slots c.args.queue old new c.self.inside.retries stands c.get_mut.ensures.within c.get_mut.ensures.value stays
            (subst (λ (q : QueueView). AllStored (RetriedAtMost c.self.inside.rounds) q.event_tables.tables) (sym c.begin_switch.ensures)) c.self.invariant.0.1,
      ),
      within-still c.self.inside.names c.self.inside.slots (slice_set c.self.inside.slots c.args.queue new) c.self.inside.batches.entries c.self.inside.triggers.items c.self.inside.traced_tables.entries
          (stand-set c.self.inside.slots c.args.queue old new stands c.get_mut.ensures.within c.get_mut.ensures.value stays) c.self.invariant.1,
    )

pub returns-clause-mark : goal.returns-clause-mark
returns-clause-mark c =
    queues-set _ _ c.args.queue c.get_mut.result.now c.begin_switch.new.self (with_tables (with_pending c.args.txid)) c.self.view_is c.get_mut.ensures.within c.get_mut.ensures.value (ap seen_queue c.begin_switch.ensures)
    (ap QueueView.subs c.begin_switch.ensures)

pub returns-clause-stand : goal.returns-clause-stand
returns-clause-stand c =
    alike-still _ _ c.args.queue c.get_mut.result.now c.begin_switch.new.self c.self.view_is c.requires.stands c.get_mut.ensures.within c.get_mut.ensures.value (ap QueueView.ticks c.begin_switch.ensures)
    (ap QueueView.subs c.begin_switch.ensures)

pub returns-clause-rest : goal.returns-clause-rest
returns-clause-rest c = rest-kept _ _ _ c.self.view_is refl refl refl refl

pub get_mut-requires : goal.get_mut-requires
get_mut-requires c = stands-kept _ _ c.args.queue c.self.view_is c.requires.stands
