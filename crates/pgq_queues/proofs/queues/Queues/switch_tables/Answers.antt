use Rattle.std.proofs.Common.{ℤ, ◌∙◌, ap, w64}
use Rattle.std.proofs.lemmas.Int.{to_z-of_z}
use Rattle.pgq_queue.specs.Changed.{settled_in}
use Rattle.pgq_queues.specs.Rotated.{each_changed}
use Rattle.pgq_queues.proofs.TracedLists.{within-still}
use Rattle.pgq_queues.proofs.RotatedQueues.{settled-retried, settled-as}
use Rattle.pgq_queues.proofs.queues.Queues.switch_tables.Goals as goal

pub invariant_of-self : goal.invariant_of-self
invariant_of-self c = (
  (c.self.invariant.0.0, settled-retried c.args.txid _ c.self.inside.names.values c.self.inside.slots c.settle_each.new.queues c.self.inside.retries c.settle_each.ensures.stand c.settle_each.ensures.each c.self.invariant.0.1),
  within-still c.self.inside.names c.self.inside.slots c.settle_each.new.queues c.self.inside.batches.entries c.self.inside.triggers.items c.self.inside.traced_tables.entries c.settle_each.ensures.stand c.self.invariant.1,
)

pub returns-clause-marks : goal.returns-clause-marks
returns-clause-marks c =
    settled-as _ _ c.settle_each.new.queues c.args.txid c.args.now c.self.view_is c.self.invariant.1.0
    (c.settle_each.ensures.each ∙ ap (λ (t : ℤ). each_changed (settled_in c.args.txid t) c.self.inside.names.values c.self.inside.slots) (to_z-of_z w64 c.args.now c.ranges.now))
