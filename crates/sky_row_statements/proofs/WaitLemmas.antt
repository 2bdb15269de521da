-- A write that waits.
use Rattle.std.proofs.Common.{◌≡◌, ℕ, [], ◌∷◌, ◌++◌, Some, None, option_map, Err, List, refl, sym, ap, subst}
use Rattle.sky_model.specs.declared.reply.Reply.TheVariants.{Waits}
use Rattle.sky_model.specs.declared.reply.Refusal.TheVariants.{Deadlock}
use Rattle.sky_model.specs.History.{tabled, waits}
use Rattle.sky_model.specs.State.{RowPart, after_part}
use Rattle.sky_model.specs.Outcome.{◌>>◌, refused_by, does_marks}
use Rattle.sky_model.specs.declared.stmt.Attempt.{Attempt}
use Rattle.sky_val.specs.declared.val.Val.{Val}
use Rattle.sky_model.specs.StepLocks.{ring, blocked}
use Rattle.sky_row_store.specs.declared.row_step.RowStep.{RowStep}
use Rattle.sky_row_store.specs.Effects.{with_effects}
use Rattle.sky_row_statements.specs.Ran.{Does}

-- a session waits for the holder of a key
pub does-wait : (d new : RowPart) (before after : RowStep) (who table : ℕ) (key : List Val) (attempt : Attempt) (holder : ℕ) → ring d who holder ≡ None → after.replies ≡ before.replies ++ (who, Waits holder) ∷ []
    → after.effects ≡ with_effects before.effects [] → new ≡ after_part d (tabled (waits who table key attempt)) → Does d new before after who (blocked d who table key attempt holder)
does-wait d new before after who table key attempt holder none replied told changed =
    subst (λ r. Does d new before after who (refused_by (option_map Deadlock r) >> does_marks (Waits holder) (tabled (waits who table key attempt) ∷ []))) (sym none)
    (record { accepted = refl; replied = replied; told = told; changed = changed })

-- if it would wait for itself it is refused
pub ring-refused : (d : RowPart) (who table : ℕ) (key : List Val) (attempt : Attempt) (holder : ℕ) (closed : List ℕ) → ring d who holder ≡ Some closed → blocked d who table key attempt holder ≡ Err (Deadlock closed)
ring-refused d who table key attempt holder closed is = ap (λ r. refused_by (option_map Deadlock r) >> does_marks (Waits holder) (tabled (waits who table key attempt) ∷ [])) is
