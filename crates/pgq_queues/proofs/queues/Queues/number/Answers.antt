use Rattle.std.proofs.Common.{rules, ◌≡◌, None, ◌∙◌}
use Rattle.pgq_queues.proofs.NumberedQueues.{number-found, number-none, stands-at}
use Rattle.pgq_queues.proofs.queues.Queues.number.Goals as goal

pub returns-in_err-place-clause-number : goal.returns-in_err-place-clause-number
returns-in_err-place-clause-number c =
    let none : c.from_residual.result ≡ None = search rules in
    none ∙ number-none _ _ c.args.queue.now c.number.result c.self.view_is c.self.invariant.1.0.each (search rules) c.number.ensures.number

pub returns-clause-number : goal.returns-clause-number
returns-clause-number c = number-found _ _ c.args.queue.now c.in_ok-place.place c.get.result.now c.self.view_is c.self.invariant.1.0.each c.in_ok-place.ensures.number c.get.ensures.within c.get.ensures.value

pub returns-clause-stands : goal.returns-clause-stands
returns-clause-stands c = stands-at _ _ c.in_ok-place.place c.get.result.now c.self.view_is c.self.invariant.1.0 c.get.ensures.within c.get.ensures.value
