-- What a statement does that was run, by what the database showed.
use Rattle.std.specs.Prelude.{◌≡◌, ℕ, true, [], ◌∷◌, ◌++◌, Result, Ok, Err, is_ok}
use Rattle.sky_model.specs.State.{RowPart, after_part_marks}
use Rattle.sky_model.specs.declared.stop.Stop.{Stop}
use Rattle.sky_model.specs.Outcome.{Outcome, Checked, reply_of, marks_of}
use Rattle.sky_model.specs.Stops.{Stops, Keeps}
use Rattle.sky_model.specs.Gates.{Gate, passed_all, gated}
use Rattle.sky_row_store.specs.declared.row_step.RowStep.{RowStep}
use Rattle.sky_row_store.specs.Effects.{with_effects}
use Rattle.sky_state.specs.Views.{RowStateView}
use Rattle.sky_state.specs.Seen.{seen}

-- a statement isn't refused: its answer and its effects are added, and the database is then as after its marks
pub record Does (old new : RowPart) (before after : RowStep) (who : ℕ) (checked : Checked Outcome) : Type 0 where
  pub accepted : is_ok checked ≡ true
  pub replied : after.replies ≡ before.replies ++ (who, reply_of checked) ∷ []
  pub told : after.effects ≡ with_effects before.effects (marks_of checked)
  pub changed : new ≡ after_part_marks old (marks_of checked)

-- a statement was run: it does what its definition says, or is refused as it says, and then adds nothing
abbrev pub Ran : RowStateView → RowStateView → RowStep → RowStep → ℕ → Result (Unit {0}) Stop → Checked Outcome → Type 0
Ran old new before after who (Ok _) checked = Does (seen old) (seen new) before after who checked
Ran old new before after who (Err stop) checked = Stops stop (seen old) (seen new) checked × Keeps stop before after

-- a gate has recorded what a statement did, and nothing if that was refused; out of memory, nothing is said of it
abbrev pub Passes : {G : Type 0} → Gate G → G → G → Result (Unit {0}) Stop → Checked Outcome → Type 0
Passes gate old new (Ok _) checked = new ≡ passed_all gate old (marks_of checked)
Passes gate old new (Err stop) checked = Keeps stop old new

-- a statement was run, and a gate has recorded what it did
pub record Runs {G : Type 0} (gate : Gate G) (old new : RowStateView × G) (before after : RowStep) (who : ℕ) (result : Result (Unit {0}) Stop) (checked : Checked Outcome) : Type 0 where
  pub ran : Ran old.0 new.0 before after who result checked
  pub passes : Passes gate old.1 new.1 result checked

-- one that the gate refuses if it has no room for it
abbrev pub Writes : {G : Type 0} → Gate G → (old new : RowStateView × G) → (before after : RowStep) → ℕ → Result (Unit {0}) Stop → Checked Outcome → Type 0
Writes gate old new before after who result checked = Runs gate old new before after who result (gated gate old.1 checked)
