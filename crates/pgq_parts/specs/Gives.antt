-- What a method of the code gives, by what the database showed.
use Rattle.std.specs.Prelude.{◌≡◌, ℕ, true, List, [], ◌∷◌, ◌++◌, Result, Ok, Err, is_ok}
use Rattle.sky_model.specs.declared.reply.Reply.{Reply}
use Rattle.sky_model.specs.declared.stop.Stop.{Stop}
use Rattle.sky_model.specs.Outcome.{Outcome, Checked, reply_of, marks_of}
use Rattle.sky_model.specs.Stops.{Stops, Keeps}
use Rattle.sky_model.specs.Printed.{ReplyHasMoments}
use Rattle.sky_model.specs.State.{Database, after_marks}
use Rattle.sky_model.specs.Settling.{Turn, turn_of}
use Rattle.pgq_parts.specs.Views.{DbView}
use Rattle.pgq_parts.specs.Seen.{seen_database}
pub use Rattle.sky_store.specs.Gives.{Adds}

-- the answers are the turn's, and the database is then as after its marks
pub record Gives (old new : Database) (replies : List (ℕ × Reply)) (turn : Turn) : Type 0 where
  pub replied : replies ≡ turn.answers
  pub changed : new ≡ after_marks old turn.marks

-- a statement answers as its outcome says, with times that are printed
abbrev pub Answers : (old new : Database) (before after : List (ℕ × Reply)) → ℕ → Outcome → Type 0
Answers old new before after who outcome = Adds old new before after (turn_of who outcome) × ReplyHasMoments outcome.reply

-- a statement isn't refused: its answer comes after those before, and the database is then as after its marks
pub record Does (old new : Database) (before after : List (ℕ × Reply)) (who : ℕ) (checked : Checked Outcome) : Type 0 where
  pub accepted : is_ok checked ≡ true
  pub replied : after ≡ before ++ (who, reply_of checked) ∷ []
  pub changed : new ≡ after_marks old (marks_of checked)

-- a statement was run: it does what its definition says, with times that are printed, or is refused as it says, and then
-- adds nothing
abbrev pub Ran : DbView → DbView → (before after : List (ℕ × Reply)) → ℕ → Result (Unit {0}) Stop → Checked Outcome → Type 0
Ran old new before after who (Ok _) checked = Does (seen_database old) (seen_database new) before after who checked × ReplyHasMoments (reply_of checked)
Ran old new before after who (Err stop) checked = Stops stop (seen_database old) (seen_database new) checked × Keeps stop before after
