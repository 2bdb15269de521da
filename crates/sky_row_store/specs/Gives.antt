-- What a call of a row part gives, by what that showed.
use Rattle.std.specs.Prelude.{◌≡◌, Bool, [], ◌++◌, None}
use Rattle.sky_model.specs.State.{RowPart, after_part_marks}
use Rattle.sky_model.specs.Gates.{Gate, passed_all}
use Rattle.sky_model.specs.Settling.{Turn, ready}
use Rattle.sky_model.specs.RowCalls.{RowCall}
use Rattle.sky_model.specs.RowSteps.{RowSteps}
use Rattle.sky_row_store.specs.declared.row_step.RowStep.{RowStep}
use Rattle.sky_row_store.specs.Effects.{with_effects}

-- no answer and no effect, in a list of effects that is whole or not
abbrev pub nothing : Bool → RowStep
nothing whole = record { replies = []; effects = record { whole = whole; items = [] } }

-- a turn is added to what was given: its replies and effects are appended, the part is then as after its marks, and the gate has recorded its writes
-- and rollbacks
pub record Adds {G : Type 0} (gate : Gate G) (old new : RowPart × G) (before after : RowStep) (turn : Turn) : Type 0 where
  pub replied : after.replies ≡ before.replies ++ turn.answers
  pub told : after.effects ≡ with_effects before.effects turn.marks
  pub changed : new.0 ≡ after_part_marks old.0 turn.marks
  pub passed : new.1 ≡ passed_all gate old.1 turn.marks

-- a call adds its turn, leaves no session that is ready to resume, and keeps its promise
pub record Settles {G : Type 0} (gate : Gate G) (old new : RowPart × G) (before after : RowStep) (call : RowCall) (turn : Turn) : Type 0 where
  pub exact : Adds gate old new before after turn
  pub rests : ready new.0 ≡ None
  pub steps : RowSteps old.0 new.0 call turn
