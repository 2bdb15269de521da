use Rattle.std.proofs.Common.{◌≡◌, ◌∙◌, ◌+◌, ◌++◌, ◌∷◌, ap, sym, subst, length, suc, [], arith}
use Rattle.std.specs.Map.{values_of}
use Rattle.pgq_retry.specs.declared.retry.Retry.{Retry}
use Rattle.pgq_retry.specs.Retries.{is_asked}
use Rattle.pgq_retry.specs.Kept.{AreBelow}
use Rattle.std.proofs.lemmas.List.{map-append, append_assoc}
use Rattle.pgq_retry.proofs.Renumbering.{new_one, below_more}
use Rattle.pgq_retry.proofs.placed.Placed.renumbered.Goals as goal

pub push-requires-clause-above : goal.push-requires-clause-above
push-requires-clause-above c = c.loop-waiting.invariant.1

pub push-requires-clause-fresh : goal.push-requires-clause-fresh
push-requires-clause-fresh c =
    ap (λ (w : Retry). is_asked w.sub w.event.ev_id (values_of c.loop-waiting.placed)) c.in_ok-copy.ensures
    ∙ new_one c.self.inside.line c.self.inside.places.by_sub (values_of c.loop-waiting.placed) c.in-Some.waiting.now c.next.new.self c.self.invariant
    (ap values_of c.self.view_is ∙ sym c.loop-waiting.invariant.0 ∙ ap (λ ws. values_of c.loop-waiting.placed ++ ws) c.in-Some.ensures.steps)

pub loop-waiting-preserved : goal.loop-waiting-preserved
loop-waiting-preserved c =
    let longer : length c.loop-waiting.waiting-iterator ≡ suc (length c.next.new.self) = ap length c.in-Some.ensures.steps in
    let count = c.loop-waiting.invariant.2 in (
      ap (λ es. values_of es ++ c.next.new.self) c.in_ok-push.ensures.ok
          ∙ ap (λ ws. ws ++ c.next.new.self) (map-append (λ e. e.1) c.loop-waiting.placed ((c.loop-waiting.place, c.in_ok-copy.field-0) ∷ []))
          ∙ append_assoc (values_of c.loop-waiting.placed) (c.in_ok-copy.field-0 ∷ []) c.next.new.self
          ∙ ap (λ (w : Retry). values_of c.loop-waiting.placed ++ w ∷ c.next.new.self) c.in_ok-copy.ensures
          ∙ ap (λ ws. values_of c.loop-waiting.placed ++ ws) (sym c.in-Some.ensures.steps)
          ∙ c.loop-waiting.invariant.0,
      subst (AreBelow (c.loop-waiting.place + 1)) (sym c.in_ok-push.ensures.ok) (below_more c.loop-waiting.placed c.loop-waiting.place c.in_ok-copy.field-0 c.loop-waiting.invariant.1),
      omega arith,
    )
