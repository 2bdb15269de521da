use Rattle.std.proofs.Common.{◌∙◌, ap, sym, subst, refl, []}
use Rattle.std.specs.Map.{values_of}
use Rattle.pgq_retry.specs.declared.places.Places.{Places}
use Rattle.pgq_retry.specs.Retries.{without_sub}
use Rattle.pgq_retry.specs.Kept.{InOrder, IsPlaced}
use Rattle.pgq_retry.proofs.OfSub.{some_of_sub, none_of_sub, outside, outside-none, outside_is, values_without, placed_without, one_outside}
use Rattle.pgq_retry.proofs.placed.Placed.drop_sub.Goals as goal

pub returns-in_default : goal.returns-in_default
returns-in_default c =
    ap values_of (sym (outside-none c.self.inside.line) ∙ outside_is [] c.self.inside.line c.args.sub c.self.invariant.in_order
    (none_of_sub c.self.inside.line c.self.inside.places.by_sub c.args.sub c.self.invariant (sym c.in_default.ensures.places)))
    ∙ values_without c.args.sub c.self.inside.line
    ∙ ap (λ es. without_sub c.args.sub (values_of es)) c.self.view_is

pub loop-place-init : goal.loop-place-init
loop-place-init c = (
  ap (λ ps. outside ps c.self.inside.line) (c.into_iter-place-iterator.ensures.into_iter_gives ∙ c.values-place-items.ensures.rest)
      ∙ outside_is c.in-Some.places.entries c.self.inside.line c.args.sub c.self.invariant.in_order
      (some_of_sub c.self.inside.line c.self.inside.places.by_sub c.args.sub c.in-Some.places c.self.invariant (sym c.in-Some.ensures.places) c.values-place-items.ensures.ordered),
  c.self.invariant.in_order,
  refl,
)

pub invariant_of-self-in-None : goal.invariant_of-self-in-None
invariant_of-self-in-None c =
    let is = sym (outside-none c.loop-place.self-inside.line) ∙ ap (λ ps. outside ps c.loop-place.self-inside.line) (sym c.in-None.ensures.steps.0) ∙ c.loop-place.invariant.0 in
    subst (λ (places : Places). IsPlaced c.loop-place.self-inside.line places.by_sub) (sym c.loop-place.invariant.2)
    (subst (λ es. IsPlaced es c.take_sub.new.self.by_sub) (sym is)
    (placed_without c.self.inside.line c.self.inside.places.by_sub c.take_sub.new.self.by_sub c.args.sub c.self.invariant c.in-Some.ensures.others (subst InOrder is c.loop-place.invariant.1)))

pub loop-place-preserved : goal.loop-place-preserved
loop-place-preserved c =
    let one = one_outside c.args.sub c.in-Some-place.place.now c.loop-place.place-iterator c.next.new.self c.self.inside.line c.loop-place.self-inside.line c.discard.new.self
    c.in-Some-place.ensures.steps c.discard.ensures.others c.discard.ensures.in_order (c.loop-place.invariant.0, c.loop-place.invariant.1) in
    (one.0, one.1, c.loop-place.invariant.2)

pub returns : goal.returns
returns c =
    ap values_of (sym (outside-none c.loop-place.self-inside.line) ∙ ap (λ ps. outside ps c.loop-place.self-inside.line) (sym c.in-None.ensures.steps.0) ∙ c.loop-place.invariant.0)
    ∙ values_without c.args.sub c.self.inside.line
    ∙ ap (λ es. without_sub c.args.sub (values_of es)) c.self.view_is
