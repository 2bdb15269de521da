use Rattle.std.proofs.Common.{arith}
use Rattle.pgq_queues.proofs.NumberedQueues.{length-shown, number-at, stands-at}
use Rattle.pgq_queues.proofs.queues.Queues.number_at.Goals as goal

pub get-requires : goal.get-requires
get-requires c = let shown = length-shown _ _ c.self.view_is c.self.invariant.1.0.each in omega (arith, shown, c.requires)

pub returns-clause-number : goal.returns-clause-number
returns-clause-number c = number-at _ _ c.args.place c.get.result.now c.self.view_is c.self.invariant.1.0.each c.get.ensures.within c.get.ensures.value

pub returns-clause-stands : goal.returns-clause-stands
returns-clause-stands c = stands-at _ _ c.args.place c.get.result.now c.self.view_is c.self.invariant.1.0 c.get.ensures.within c.get.ensures.value
