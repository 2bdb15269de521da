use Rattle.std.proofs.Common.{rules, refl}
use Rattle.sky_model.specs.declared.line.Fixed.TheVariants.{Set}
use Rattle.sky_model.specs.Kinds.{Value}
use Rattle.sky_model.specs.Grammar.{literal}
use Rattle.sky_script.proofs.ListLemmas.{so_far_none, until_more, until_ends, until_stops, until_memory}
use Rattle.sky_script.proofs.lists.key_until_set.Goals as goal

pub returns-then-take_fixed : goal.returns-then-take_fixed
returns-then-take_fixed c =
    rw c.one.ensures (until_ends _ _ _ _ _ _ _ _ (so_far_none (literal Set) Value c.args.words.now) c.in_ok-first.ensures (λ r f rest. c.if-take_fixed.ensures.ends refl _ r f refl rest))

pub returns-in_err-push : goal.returns-in_err-push
returns-in_err-push c = search (rules, until_memory)

pub loop-values-init : goal.loop-values-init
loop-values-init c =
    rw (c.in_ok-push.ensures.items, c.new-values.ensures.items, c.if-take_fixed.ensures.same refl)
    (until_more _ _ _ _ _ _ _ (so_far_none (literal Set) Value c.args.words.now) c.in_ok-first.ensures (λ r f rest. c.if-take_fixed.ensures.goes_on refl _ r f rest))

pub returns-in_err-value : goal.returns-in_err-value
returns-in_err-value c =
    let stops = until_stops _ _ _ _ _ _ c.loop-values.invariant c.in_err-value.ensures in
    search (rules, stops)

pub returns-in_err-push-2 : goal.returns-in_err-push-2
returns-in_err-push-2 c = search (rules, until_memory)

pub returns-then-take_fixed-2 : goal.returns-then-take_fixed-2
returns-then-take_fixed-2 c =
    rw (c.new.ensures, c.in_ok-push-2.ensures.items) (until_ends _ _ _ _ _ _ _ _ c.loop-values.invariant c.in_ok-value.ensures (λ r f rest. c.if-take_fixed-2.ensures.ends refl _ r f refl rest))

pub loop-values-preserved : goal.loop-values-preserved
loop-values-preserved c =
    rw (c.in_ok-push-2.ensures.items, c.if-take_fixed-2.ensures.same refl)
    (until_more _ _ _ _ _ _ _ c.loop-values.invariant c.in_ok-value.ensures (λ r f rest. c.if-take_fixed-2.ensures.goes_on refl _ r f rest))
