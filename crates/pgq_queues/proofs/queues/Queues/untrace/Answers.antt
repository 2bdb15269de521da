use Rattle.pgq_queues.proofs.TracedLists.{untracing-next, untraced-as}
use Rattle.pgq_queues.proofs.queues.Queues.untrace.Goals as goal

pub loop-place-preserved : goal.loop-place-preserved
loop-place-preserved c =
    untracing-next c.args.table c.in-Some.place c.args.self.now c.loop-place.self c.remove_trigger.new.self c.in-Some.ensures c.remove_trigger.ensures.triggers c.remove_trigger.ensures.rest
    c.remove_trigger.ensures.tables c.loop-place.invariant

pub returns-clause-mark : goal.returns-clause-mark
returns-clause-mark c = untraced-as c.args.table c.args.self.now c.loop-place.self c.in_default.ensures c.loop-place.invariant
