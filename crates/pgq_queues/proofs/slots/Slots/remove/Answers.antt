use Rattle.std.proofs.Common.{get_or, slice_set, ◌∙◌}
use Rattle.pgq_queue.specs.Seen.{no_queue}
use Rattle.pgq_queues.proofs.Slotted.{map-set}
use Rattle.pgq_queues.proofs.slots.Slots.remove.Goals as goal

pub returns : goal.returns
returns c = map-set _ c.self.inside.slots.items c.args.number c.new.result ∙ (λ j. slice_set (c.self.view_is j) c.args.number (get_or (c.new.ensures.items j) 0 no_queue))
