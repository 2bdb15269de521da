-- How a statement's function stops: it is refused as its definition says, or memory ran out.
use Rattle.std.specs.Prelude.{◌≡◌, Err}
use Rattle.sky_model.specs.declared.reply.Refusal.{Refusal}
use Rattle.sky_model.specs.declared.stop.Stop.{Stop}
use Rattle.sky_model.specs.declared.stop.Stop.TheVariants.{Refused, NoMemory}
use Rattle.sky_model.specs.Outcome.{Checked}

-- it is refused, and nothing has changed
pub record Refuses {S A : Type 0} (old new : S) (refusal : Refusal) (checked : Checked A) : Type 0 where
  pub refused : checked ≡ Err refusal
  pub same : new ≡ old

-- it is refused as its definition says, or memory ran out
abbrev pub Stops : {S A : Type 0} → Stop → S → S → Checked A → Type 0
Stops (Refused refusal) old new checked = Refuses old new refusal checked
Stops NoMemory old new checked = Unit {0}

-- the same of a part of it, which changes nothing
abbrev pub StopsAs : {A : Type 0} → Stop → Checked A → Type 0
StopsAs (Refused refusal) checked = checked ≡ Err refusal
StopsAs NoMemory checked = Unit {0}

-- what a refused statement leaves as it was
abbrev pub Keeps : {A : Type 0} → Stop → A → A → Type 0
Keeps (Refused refusal) old new = new ≡ old
Keeps NoMemory old new = Unit {0}
