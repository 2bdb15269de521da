use Rattle.std.proofs.Common.{◌∙◌}
use Rattle.pgq_queues.proofs.TracedLists.{within-still}
use Rattle.pgq_queues.proofs.RotatedQueues.{undone-each, undone-stand, undone-retried, undone-whole}
use Rattle.pgq_queues.proofs.gate.QueuesWriteGate.rolled_back.Goals as goal

pub invariant_of-self : goal.invariant_of-self
invariant_of-self c =
    let undone = c.undo_each.ensures ∙ undone-each c.args.txid c.self.inside.names c.self.inside.slots c.self.invariant.1.0 in (
      (c.self.invariant.0.0, undone-retried c.self.inside.slots c.undo_each.new.queues c.args.txid c.self.inside.retries undone c.self.invariant.0.1),
      within-still c.self.inside.names c.self.inside.slots c.undo_each.new.queues c.self.inside.batches.entries c.self.inside.triggers.items c.self.inside.traced_tables.entries (undone-stand c.self.inside.slots c.undo_each.new.queues c.args.txid undone) c.self.invariant.1,
    )

pub returns : goal.returns
returns c = undone-whole _ _ c.undo_each.new.queues c.args.txid c.self.view_is (c.undo_each.ensures ∙ undone-each c.args.txid c.self.inside.names c.self.inside.slots c.self.invariant.1.0)
