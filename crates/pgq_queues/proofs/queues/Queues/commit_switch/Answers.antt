use Rattle.std.proofs.Common.{ℤ, slice_set, ◌∙◌, ap, w64}
use Rattle.std.proofs.lemmas.Int.{to_z-of_z}
use Rattle.sky_model.specs.State.{after_switch}
use Rattle.pgq_queue.specs.Views.{QueueView}
use Rattle.pgq_queue.specs.Seen.{seen_queue}
use Rattle.pgq_queue.specs.Changed.{switched_in}
use Rattle.pgq_queues.proofs.Marked.{queues-set}
use Rattle.pgq_queues.proofs.TracedLists.{stays-switched, stand-set, stand-shown, within-still, stands-kept}
use Rattle.pgq_queues.proofs.Waiting.{switch-events, retried-stays}
use Rattle.pgq_queues.proofs.queues.Queues.commit_switch.Goals as goal

pub invariant_of-self : goal.invariant_of-self
invariant_of-self c =
    let stands = stands-kept _ _ c.args.queue c.self.view_is c.requires.stands in
    let old = c.get_mut.result.now in
    let new = c.commit_switch.new.self in
    let stays = stays-switched old new _ c.commit_switch.ensures in (
      (c.self.invariant.0.0, retried-stays c.self.inside.slots c.args.queue old new c.self.inside.retries stands c.get_mut.ensures.within c.get_mut.ensures.value stays (switch-events old new _ c.commit_switch.ensures) c.self.invariant.0.1),
      within-still c.self.inside.names c.self.inside.slots (slice_set c.self.inside.slots c.args.queue new) c.self.inside.batches.entries c.self.inside.triggers.items c.self.inside.traced_tables.entries
          (stand-set c.self.inside.slots c.args.queue old new stands c.get_mut.ensures.within c.get_mut.ensures.value stays) c.self.invariant.1,
    )

pub returns-clause-mark : goal.returns-clause-mark
returns-clause-mark c =
    queues-set _ _ c.args.queue c.get_mut.result.now c.commit_switch.new.self (after_switch c.args.now) c.self.view_is c.get_mut.ensures.within c.get_mut.ensures.value (ap seen_queue (c.commit_switch.ensures ∙ ap (λ (t : ℤ). switched_in t c.get_mut.result.now) (to_z-of_z w64 c.args.now c.ranges.now))) (ap QueueView.subs c.commit_switch.ensures)

pub returns-clause-stand : goal.returns-clause-stand
returns-clause-stand c =
    stand-shown _ _ _ c.self.view_is (stand-set c.self.inside.slots c.args.queue c.get_mut.result.now c.commit_switch.new.self (stands-kept _ _ c.args.queue c.self.view_is c.requires.stands) c.get_mut.ensures.within c.get_mut.ensures.value
    (stays-switched c.get_mut.result.now c.commit_switch.new.self _ c.commit_switch.ensures))
