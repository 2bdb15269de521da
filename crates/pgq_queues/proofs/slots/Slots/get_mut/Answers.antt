use Rattle.std.proofs.Common.{◌≡◌, ◌<◌, refl, get_or, slice_set, length, sym, ◌∙◌, ap, subst}
use Rattle.pgq_queue.specs.Seen.{no_queue}
use Rattle.pgq_queues.proofs.TracedLists.{there}
use Rattle.pgq_queues.proofs.Slotted.{map-set, map-at, is-there, changed-there}
use Rattle.pgq_queues.proofs.slots.Slots.get_mut.Goals as goal

pub returns : goal.returns
returns c =
    let low = there c.args.self.now c.args.number c.requires in
    let at : get_or c.args.self.now c.args.number no_queue ≡ get_or c.index_mut.result.now.items 0 no_queue =
    ap (λ qs. get_or qs c.args.number no_queue) (sym c.self.view_is) ∙ map-at _ c.self.inside.slots.items c.args.number c.index_mut.result.now c.index_mut.ensures.value (subst (λ qs. c.args.number < length qs) (sym c.self.view_is) low) in (
      (
        refl,
        λ w. map-set _ c.self.inside.slots.items c.args.number _
            ∙ (λ j. slice_set (c.self.view_is j) c.args.number (changed-there c.args.self.now c.args.number c.index_mut.result.now.items w at c.requires j)),
      ),
      record {
        writes_back = tt;
        value = is-there c.args.self.now c.args.number c.index_mut.result.now.items c.index_mut-2.result.now at c.requires c.index_mut-2.ensures.value;
        within = low;
      },
    )
