-- Writes that wait, and those that resume.
use Rattle.std.proofs.Common.{◌≡◌, ℕ, ◌<◌, [], ◌∷◌, ◌++◌, true, Option, Some, None, length, refl, sym, ◌∙◌, ap, subst, append-nil}
use Rattle.sky_keys.specs.Waits.{Waiting, is_waiting}
use Rattle.sky_model.specs.declared.reply.Reply.TheVariants.{Refused}
use Rattle.sky_model.specs.declared.reply.Refusal.TheVariants.{Canceled}
use Rattle.sky_model.specs.History.{tabled, waits, waited}
use Rattle.sky_model.specs.Sessions.{Block, outside, inside, failed}
use Rattle.sky_model.specs.State.{RowPart, after_part, after_part_marks}
use Rattle.sky_model.specs.Outcome.{marks_of, abort}
use Rattle.sky_model.specs.StepSession.{cancel}
use Rattle.sky_model.specs.Reader.{PartReader, part_by_itself}
use Rattle.sky_model.specs.Gates.{Gate, passed_all, by_gate}
use Rattle.sky_model.specs.Settling.{turn_of, ready, attempted, resumed, settling}
use Rattle.sky_histories.proofs.Resting.{gated-keeps, fewer-wait, settling-none, settling-some}
use Rattle.sky_row_store.specs.declared.row_step.RowStep.{RowStep}
use Rattle.sky_model.specs.SessionMarks.{failure}
use Rattle.sky_row_store.specs.Effects.{with_effects}
use Rattle.sky_row_store.specs.Gives.{Adds}
use Rattle.sky_row_statements.specs.Ran.{Does}
use Rattle.sky_session.proofs.Steps.{place-behind, adds-settled}

-- a canceled statement is refused
pub failure-abort : (who : ℕ) (txid : Option ℕ) (b : Block) → failure who txid b ≡ abort who b txid Canceled
failure-abort who txid outside = refl
failure-abort who txid inside = refl
failure-abort who txid failed = refl

-- a statement that resumes adds its answer
pub adds-resumed : {G : Type 0} (gate : Gate G) (g : G) (d mid : RowPart) (new : RowPart × G) (before after : RowStep) (w : Waiting) → mid ≡ after_part d (tabled (waited w.who))
    → Adds gate (mid, g) new before after (turn_of w.who (attempted (by_gate gate part_by_itself) w (d.attempt w.who) (mid, g))) → Adds gate (d, g) new before after (resumed (by_gate gate part_by_itself) (d, g) w)
adds-resumed gate g d mid new before after w left adds =
    let here : Adds gate (after_part d (tabled (waited w.who)), g) new before after (turn_of w.who (attempted (by_gate gate part_by_itself) w (d.attempt w.who) (after_part d (tabled (waited w.who)), g)))
    = subst (λ p. Adds gate (p, g) new before after (turn_of w.who (attempted (by_gate gate part_by_itself) w (d.attempt w.who) (p, g)))) left adds in
    record { replied = here.replied; told = here.told; changed = here.changed; passed = here.passed }

-- what is left to do, after what was given, is the whole
abbrev pub Remains : {G : Type 0} → Gate G → (begun here : RowPart × G) → (start step : RowStep) → Type 0
Remains {G} gate begun here start step = (new : RowPart × G) (after : RowStep) → Adds gate here new step after (settling (by_gate gate part_by_itself) here) → Adds gate begun new start after (settling (by_gate gate part_by_itself) begun)

pub remains-resumed : {G : Type 0} (gate : Gate G) (begun here mid : RowPart × G) (start before after : RowStep) (w : Waiting) → ready here.0 ≡ Some w
    → Adds gate here mid before after (resumed (by_gate gate part_by_itself) here w) → Remains gate begun here start before → Remains gate begun mid start after
remains-resumed {G} gate begun here mid start before after w is adds remains last given rest =
    remains last given (subst (Adds gate here last before given) (sym (settling-some reader (gated-keeps gate) here w is))
    (adds-settled gate here mid last before after given (resumed reader here w) adds rest))
  where
    reader : PartReader (RowPart × G)
    reader = by_gate gate part_by_itself

pub remains-done : {G : Type 0} (gate : Gate G) (begun here : RowPart × G) (start step : RowStep) → ready here.0 ≡ None → Remains gate begun here start step
    → Adds gate begun here start step (settling (by_gate gate part_by_itself) begun)
remains-done gate begun here start step is remains =
    remains here step (subst (Adds gate here here step step) (sym (settling-none (by_gate gate part_by_itself) (gated-keeps gate) here is)) (record {
      replied = sym (append-nil step.replies);
      told = ap (λ items. record step.effects { items = items }) (sym (append-nil step.effects.items));
      changed = refl;
      passed = refl;
    }))

-- each time fewer wait
pub fewer-left : {G : Type 0} (gate : Gate G) (here mid : RowPart × G) (before after : RowStep) (w : Waiting) → ready here.0 ≡ Some w → Adds gate here mid before after (resumed (by_gate gate part_by_itself) here w)
    → length mid.0.waiting < length here.0.waiting
fewer-left {G} gate here mid before after w is adds =
    subst (λ (p : RowPart × G). length p.0.waiting < length here.0.waiting) (sym (place-behind gate here mid before after (resumed (by_gate gate part_by_itself) here w) adds))
    (fewer-wait (by_gate gate part_by_itself) (gated-keeps gate) here w is)

-- a session that waits is canceled
pub does-cancel : (d mid new : RowPart) (before after : RowStep) (who : ℕ) → is_waiting who d.waiting ≡ true → mid ≡ after_part d (tabled (waited who))
    → new ≡ after_part_marks mid (failure who (mid.session who).txid (mid.session who).block) → after.replies ≡ before.replies ++ (who, Refused Canceled) ∷ []
    → after.effects ≡ with_effects before.effects (failure who (mid.session who).txid (mid.session who).block)
    → Does d new before after who (cancel who (d.session who).txid (d.session who).block (is_waiting who d.waiting))
does-cancel d mid new before after who busy left back replied told =
    subst (λ b. Does d new before after who (cancel who (d.session who).txid (d.session who).block b)) (sym busy)
    (record {
      accepted = refl;
      replied = replied;
      told = told ∙ ap (with_effects before.effects) same;
      changed = back ∙ ap (after_part_marks mid) same ∙ ap (λ p. after_part_marks p (abort who (d.session who).block (d.session who).txid Canceled)) left;
    })
  where
    same : failure who (mid.session who).txid (mid.session who).block ≡ abort who (d.session who).block (d.session who).txid Canceled
    same = ap (λ (p : RowPart). failure who (p.session who).txid (p.session who).block) left ∙ failure-abort who (d.session who).txid (d.session who).block

-- its gate is notified of the rollback
pub passes-cancel : {G : Type 0} (gate : Gate G) (d mid : RowPart) (g g' : G) (who : ℕ) → is_waiting who d.waiting ≡ true → mid ≡ after_part d (tabled (waited who))
    → g' ≡ passed_all gate g (failure who (mid.session who).txid (mid.session who).block)
    → g' ≡ passed_all gate g (marks_of (cancel who (d.session who).txid (d.session who).block (is_waiting who d.waiting)))
passes-cancel gate d mid g g' who busy left passed =
    passed ∙ ap (passed_all gate g) same ∙ ap (λ b. passed_all gate g (marks_of (cancel who (d.session who).txid (d.session who).block b))) (sym busy)
  where
    same : failure who (mid.session who).txid (mid.session who).block ≡ abort who (d.session who).block (d.session who).txid Canceled
    same = ap (λ (p : RowPart). failure who (p.session who).txid (p.session who).block) left ∙ failure-abort who (d.session who).txid (d.session who).block
