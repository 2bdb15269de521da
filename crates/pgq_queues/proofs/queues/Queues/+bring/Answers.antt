use Rattle.std.proofs.Common.{◌+◌, ap, sym, subst, arith, slice_set}
use Rattle.std.specs.List.{All}
use Rattle.sky_model.specs.Retries.{brought_by}
use Rattle.pgq_retry.specs.declared.retry.Retry.{Retry}
use Rattle.pgq_retry.specs.Retries.{by_due}
use Rattle.pgq_queue.specs.Views.{QueueView}
use Rattle.pgq_queues.specs.Views.{QueuesView}
use Rattle.pgq_queue.specs.Stored.{RetriedAtMost}
use Rattle.pgq_queues.specs.Retried.{IsWaiting}
use Rattle.pgq_queues.proofs.TracedLists.{stays-alike, stand-set, within-still}
use Rattle.pgq_queues.proofs.Waiting.{same-events, one-event, retried-stays}
use Rattle.pgq_queues.proofs.BroughtBack.{first-is, all-left, within-left, bring-marks}
use Rattle.pgq_queues.proofs.queues.Queues.+bring.Goals as goal

pub get_mut-requires : goal.get_mut-requires
get_mut-requires t c =
    (first-is (IsWaiting (c.self.inside.rounds + 1) c.self.inside.slots) c.in-Some.retry c.self.inside.retries (by_due c.take_first.new.self) c.in-Some.ensures.first c.self.invariant.0.1.waiting).owner.stands

pub put-requires : goal.put-requires
put-requires t c =
    (first-is (IsWaiting (c.self.inside.rounds + 1) c.self.inside.slots) c.in-Some.retry c.self.inside.retries (by_due c.take_first.new.self) c.in-Some.ensures.first c.self.invariant.0.1.waiting).moment

pub invariant_of-self-in_err-put : goal.invariant_of-self-in_err-put
invariant_of-self-in_err-put t c =
    let r = c.in-Some.retry in
    let old = c.get_mut.result.now in
    let new = c.put.new.self in
    let waits = first-is (IsWaiting (c.self.inside.rounds + 1) c.self.inside.slots) r c.self.inside.retries (by_due c.take_first.new.self) c.in-Some.ensures.first c.self.invariant.0.1.waiting in
    let stays = stays-alike old new (ap QueueView.ticks c.in_err-put.ensures.err) (ap QueueView.subs c.in_err-put.ensures.err) in (
      (
        c.self.invariant.0.0,
        within-left r.sub r.event.ev_id (slice_set c.self.inside.slots r.queue new) c.self.inside.retries c.take_first.new.self c.in-Some.ensures.others
            (retried-stays c.self.inside.slots r.queue old new c.self.inside.retries waits.owner.stands c.get_mut.ensures.within c.get_mut.ensures.value stays
            (same-events _ _ (ap QueueView.event_tables c.in_err-put.ensures.err)) c.self.invariant.0.1),
      ),
      within-still c.self.inside.names c.self.inside.slots (slice_set c.self.inside.slots r.queue new) c.self.inside.batches.entries c.self.inside.triggers.items c.self.inside.traced_tables.entries
          (stand-set c.self.inside.slots r.queue old new waits.owner.stands c.get_mut.ensures.within c.get_mut.ensures.value stays) c.self.invariant.1,
    )

pub invariant_of-self-2 : goal.invariant_of-self-2
invariant_of-self-2 t c =
    let r = c.in-Some.retry in
    let old = c.get_mut.result.now in
    let new = c.put.new.self in
    let waits = first-is (IsWaiting (c.self.inside.rounds + 1) c.self.inside.slots) r c.self.inside.retries (by_due c.take_first.new.self) c.in-Some.ensures.first c.self.invariant.0.1.waiting in
    let stays = stays-alike old new (ap QueueView.ticks c.in_ok-put.ensures.ok) (ap QueueView.subs c.in_ok-put.ensures.ok) in
    let all : All (λ (x : Retry). RetriedAtMost c.self.inside.rounds x.event) c.self.inside.retries =
    subst (λ (v : QueuesView). All (λ (x : Retry). RetriedAtMost v.rounds x.event) v.retries) (sym c.self.view_is) c.requires in
    let most = first-is (λ (x : Retry). RetriedAtMost c.self.inside.rounds x.event) r c.self.inside.retries (by_due c.take_first.new.self) c.in-Some.ensures.first all in (
      (
        c.self.invariant.0.0,
        within-left r.sub r.event.ev_id (slice_set c.self.inside.slots r.queue new) c.self.inside.retries c.take_first.new.self c.in-Some.ensures.others
            (retried-stays c.self.inside.slots r.queue old new c.self.inside.retries waits.owner.stands c.get_mut.ensures.within c.get_mut.ensures.value stays
            (one-event _ _ (brought_by c.args.txid r.event) (ap (λ (q : QueueView). q.event_tables.tables) c.in_ok-put.ensures.ok) most) c.self.invariant.0.1),
      ),
      within-still c.self.inside.names c.self.inside.slots (slice_set c.self.inside.slots r.queue new) c.self.inside.batches.entries c.self.inside.triggers.items c.self.inside.traced_tables.entries
          (stand-set c.self.inside.slots r.queue old new waits.owner.stands c.get_mut.ensures.within c.get_mut.ensures.value stays) c.self.invariant.1,
    )

pub bring-requires : goal.bring-requires
bring-requires t c =
    let all : All (λ (x : Retry). RetriedAtMost c.self.inside.rounds x.event) c.self.inside.retries =
    subst (λ (v : QueuesView). All (λ (x : Retry). RetriedAtMost v.rounds x.event) v.retries) (sym c.self.view_is) c.requires in (
      omega (arith, c.decreases, c.if-count-eq0.false),
      all-left (λ (x : Retry). RetriedAtMost c.self.inside.rounds x.event) c.in-Some.retry.sub c.in-Some.retry.event.ev_id c.self.inside.retries c.take_first.new.self c.in-Some.ensures.others all,
    )

pub returns-clause-marks : goal.returns-clause-marks
returns-clause-marks t c =
    bring-marks c.bring.result _ _ c.bring.new.self c.in-Some.retry c.args.txid c.args.count c.get_mut.result.now c.put.new.self c.take_first.new.self c.self.view_is c.get_mut.ensures.within c.get_mut.ensures.value
    c.in_ok-put.ensures.ok c.in-Some.ensures.others c.if-count-eq0.false c.in-Some.ensures.first c.bring.ensures.marks
