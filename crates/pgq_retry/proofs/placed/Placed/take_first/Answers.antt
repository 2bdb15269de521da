use Rattle.std.proofs.Common.{◌≡◌, ◌∙◌, ap, sym, subst, ◌∷◌}
use Rattle.std.specs.Map.{values_of}
use Rattle.pgq_retry.specs.declared.retry.Retry.{Retry}
use Rattle.pgq_retry.specs.Retries.{by_due, without}
use Rattle.pgq_retry.specs.Kept.{InOrder, IsPlaced}
use Rattle.pgq_retry.proofs.Sorting.{sorted, values-sorted}
use Rattle.pgq_retry.proofs.Taking.{first_taken, nothing_sorted}
use Rattle.pgq_retry.proofs.Indexed.{placed_less, without_is}
use Rattle.pgq_retry.proofs.placed.Placed.take_first.Goals as goal

pub returns-in_err-first-clause-none : goal.returns-in_err-first-clause-none
returns-in_err-first-clause-none c = rw c.from_residual.ensures (sym c.self.view_is ∙ nothing_sorted c.self.inside.line (sym c.in_err-first.ensures))

pub invariant_of-self-in_err-waiting : goal.invariant_of-self-in_err-waiting
invariant_of-self-in_err-waiting c =
    let first = first_taken c.self.inside.line c.in_ok-first.field-0 c.self.invariant.in_order (sym c.in_ok-first.ensures) in
    absurd (cc (c.in_err-waiting.ensures.taken ∙ first.found))

pub returns-in_err-waiting-clause-none : goal.returns-in_err-waiting-clause-none
returns-in_err-waiting-clause-none c =
    let first = first_taken c.self.inside.line c.in_ok-first.field-0 c.self.invariant.in_order (sym c.in_ok-first.ensures) in
    absurd (cc (c.in_err-waiting.ensures.taken ∙ first.found))

pub returns-in_err-waiting-clause-same : goal.returns-in_err-waiting-clause-same
returns-in_err-waiting-clause-same c =
    let first = first_taken c.self.inside.line c.in_ok-first.field-0 c.self.invariant.in_order (sym c.in_ok-first.ensures) in
    absurd (cc (c.in_err-waiting.ensures.taken ∙ first.found))

pub invariant_of-self-2 : goal.invariant_of-self-2
invariant_of-self-2 c =
    subst (λ es. IsPlaced es c.remove-2.new.self.by_sub) (sym c.in_ok-waiting.ensures.others)
    (placed_less c.self.inside.line c.self.inside.places.by_sub c.remove-2.new.self.by_sub c.in_ok-first.field-0 c.in_ok-waiting.waiting c.self.invariant
    (sym c.in_ok-waiting.ensures.taken) c.remove-2.ensures (subst InOrder c.in_ok-waiting.ensures.others c.in_ok-waiting.ensures.in_order))

pub returns-clause-first : goal.returns-clause-first
returns-clause-first c =
    let first = first_taken c.self.inside.line c.in_ok-first.field-0 c.self.invariant.in_order (sym c.in_ok-first.ensures) in
    let is : first.waiting ≡ c.in_ok-waiting.waiting = cc (sym first.found ∙ sym c.in_ok-waiting.ensures.taken) in
    ap (λ es. by_due (values_of es)) (sym c.self.view_is)
    ∙ sym (values-sorted c.self.inside.line)
    ∙ ap values_of first.sorted_is
    ∙ ap (λ (w : Retry). w ∷ values_of first.rest) is
    ∙ ap (λ es. c.in_ok-waiting.waiting ∷ values_of es) (sym first.left_is ∙ ap sorted (sym c.in_ok-waiting.ensures.others))
    ∙ ap (λ ws. c.in_ok-waiting.waiting ∷ ws) (values-sorted c.remove.new.self)

pub returns-clause-others : goal.returns-clause-others
returns-clause-others c =
    ap values_of c.in_ok-waiting.ensures.others
    ∙ without_is c.self.inside.line c.self.inside.places.by_sub c.remove-2.new.self.by_sub c.in_ok-first.field-0 c.in_ok-waiting.waiting c.self.invariant
    (sym c.in_ok-waiting.ensures.taken) c.remove-2.ensures
    ∙ ap (λ es. without c.in_ok-waiting.waiting.sub c.in_ok-waiting.waiting.event.ev_id (values_of es)) c.self.view_is
