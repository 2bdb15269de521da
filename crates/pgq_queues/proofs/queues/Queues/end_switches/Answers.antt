use Rattle.pgq_queues.proofs.TracedLists.{within-still}
use Rattle.pgq_queues.proofs.RotatedQueues.{ended-retried, ended-as}
use Rattle.pgq_queues.proofs.queues.Queues.end_switches.Goals as goal

pub invariant_of-self : goal.invariant_of-self
invariant_of-self c = (
  (c.self.invariant.0.0, ended-retried c.args.txid c.self.inside.names.values c.self.inside.slots c.end_each.new.queues c.self.inside.retries c.end_each.ensures.stand c.end_each.ensures.each c.self.invariant.0.1),
  within-still c.self.inside.names c.self.inside.slots c.end_each.new.queues c.self.inside.batches.entries c.self.inside.triggers.items c.self.inside.traced_tables.entries c.end_each.ensures.stand c.self.invariant.1,
)

pub returns-clause-marks : goal.returns-clause-marks
returns-clause-marks c = ended-as _ _ c.end_each.new.queues c.args.txid c.self.view_is c.self.invariant.1.0 c.end_each.ensures.each
