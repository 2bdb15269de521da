-- What a database gives, by what it showed.
use Rattle.std.specs.Prelude.{◌≡◌, ℕ, List, ◌++◌}
use Rattle.sky_model.specs.declared.reply.Reply.{Reply}
use Rattle.sky_model.specs.State.{Database, after_marks}
use Rattle.sky_model.specs.Settling.{Turn}

-- the turn's answers come after those that were given before, and the database is then as after its marks
pub record Adds (old new : Database) (before after : List (ℕ × Reply)) (turn : Turn) : Type 0 where
  pub replied : after ≡ before ++ turn.answers
  pub changed : new ≡ after_marks old turn.marks
