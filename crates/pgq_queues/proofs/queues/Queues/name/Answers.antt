use Rattle.std.proofs.Common.{arith, refl, ◌∙◌, ap, get_or}
use Rattle.pgq_queues.proofs.NumberedQueues.{name-found, name-behind, name-none}
use Rattle.pgq_queues.proofs.queues.Queues.name.Goals as goal

pub loop-place-init : goal.loop-place-init
loop-place-init c = refl

pub returns-then-get-number : goal.returns-then-get-number
returns-then-get-number c =
    name-found _ _ c.args.number c.loop-place.place c.get.result.now c.index-names-place.result c.self.view_is c.self.invariant.1.0.each c.get.ensures.within c.get.ensures.value c.if-get-number.true
    (c.index-names-place.is ∙ ap (λ names. get_or names c.loop-place.place c.index-names-place.result) c.names.ensures.names) c.loop-place.invariant

pub loop-place-preserved : goal.loop-place-preserved
loop-place-preserved c = name-behind c.self.inside.names c.args.number c.loop-place.place c.get.result.now c.self.invariant.1.0.each c.get.ensures.within c.get.ensures.value c.if-get-number.false c.loop-place.invariant

pub returns : goal.returns
returns c = name-none _ _ c.args.number c.loop-place.place c.self.view_is c.self.invariant.1.0.each (omega (arith, c.loop-place-test.false, c.len-place-end.ensures.len)) c.loop-place.invariant
