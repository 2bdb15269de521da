-- A session that enters changes what its turn says.
use Rattle.std.proofs.Common.{◌≡◌, ℕ, Option, Some, None, sym, ◌∙◌, ap}
use Rattle.sky_model.specs.declared.stmt.Where.{Where}
use Rattle.sky_model.specs.declared.reply.Refusal.{Refusal}
use Rattle.sky_model.specs.State.{RowPart, after_part_marks}
use Rattle.sky_model.specs.SessionMarks.{sight_marks, Enters, enters, entry}

pub entered-part : (old new : RowPart) (who : ℕ) (place : Where) (refusal : Option Refusal) → Enters old new who place refusal → new ≡ after_part_marks old (entry old who place).marks
entered-part old new who place None is = is.1 ∙ sym (ap (λ may. after_part_marks old (enters who (sight_marks old who place) may).marks) is.0)
entered-part old new who place (Some refusal) is = is.1 ∙ sym (ap (λ may. after_part_marks old (enters who (sight_marks old who place) may).marks) is.0)
