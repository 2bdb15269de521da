-- What a method of the code gives, by what the database showed.
use Rattle.std.specs.Prelude.{true}
use Rattle.sky_model.specs.State.{RowPart}
use Rattle.sky_model.specs.Gates.{open_gate}
use Rattle.sky_model.specs.Settling.{Turn}
use Rattle.sky_model.specs.RowCalls.{RowCall}
use Rattle.sky_row_store.specs.declared.row_step.RowStep.{RowStep}
use Rattle.sky_row_store.specs.Gives.{Settles, nothing}

-- a call without a gate settles, added to nothing, with all effects
abbrev pub Gives : RowPart → RowPart → RowStep → RowCall → Turn → Type 0
Gives old new step call turn = Settles open_gate (old, tt) (new, tt) (nothing true) step call turn
