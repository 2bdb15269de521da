use Rattle.std.proofs.Common.{ap, ◌∙◌}
use Rattle.pgq_queue.specs.Views.{QueueView}
use Rattle.pgq_queue.proofs.AllStored.{timed-less}
use Rattle.pgq_queue.proofs.queue.Queue.take_back.Goals as goal

pub invariant_of-self : goal.invariant_of-self
invariant_of-self c =
    let (now, t, e, q, was) = c.requires in
    let told = ap (λ (v : QueueView). v.event_tables.tables) (c.self.view_is ∙ was) in
    timed-less c.self.inside.event_tables c.take_back.new.self _ q.event_tables.tables told (c.take_back.ensures _ q.event_tables.tables told) c.self.invariant
