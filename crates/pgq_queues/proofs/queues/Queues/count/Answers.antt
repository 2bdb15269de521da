use Rattle.std.proofs.Common.{sym, ◌∙◌}
use Rattle.pgq_queues.proofs.NumberedQueues.{length-shown}
use Rattle.pgq_queues.proofs.queues.Queues.count.Goals as goal

pub returns : goal.returns
returns c = c.len.ensures.len ∙ sym (length-shown _ _ c.self.view_is c.self.invariant.1.0.each)
