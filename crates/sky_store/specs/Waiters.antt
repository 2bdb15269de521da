-- Which sessions a statement answers, and which wait after it.
use Rattle.std.specs.Prelude.{ℕ, ◌<◌, List, All}
use Rattle.sky_keys.specs.Waits.{Waiting}
use Rattle.sky_model.specs.declared.reply.Reply.{Reply}
use Rattle.sky_model.specs.State.{Database}

-- the number of each session that waits is below a count
abbrev pub WaitersWithin : ℕ → List Waiting → Type 0
WaitersWithin count waiting = All (λ w. w.who < count) waiting

-- the number of each session that is answered is below a count
abbrev pub AnswersWithin : ℕ → List (ℕ × Reply) → Type 0
AnswersWithin count replies = All (λ answer. answer.0 < count) replies

-- if a session's number is below a count, and those of all that wait are, so are those of all that are answered, and of all that wait then
pub record StaysWithin (old new : Database) (who : ℕ) (replies : List (ℕ × Reply)) : Type 0 where
  pub answers : (count : ℕ) → who < count → WaitersWithin count old.part.waiting → AnswersWithin count replies
  pub waiters : (count : ℕ) → who < count → WaitersWithin count old.part.waiting → WaitersWithin count new.part.waiting
