-- What a call of a database's row part promises: its turn, by what the part shows alone, is the one that the definitions
-- give after all calls in form after which the part was as it was, and the part is then as it is after this call too.
use Rattle.sky_model.specs.State.{RowPart}
use Rattle.sky_model.specs.Settling.{Turn}
use Rattle.sky_model.specs.Promises.{Promises}
use Rattle.sky_model.specs.RowCalls.{RowCall, IsRowCallInForm, row_part}

abbrev pub RowSteps : (old new : RowPart) (call : RowCall) (turn : Turn) → Type 0
RowSteps old new call turn = Promises row_part IsRowCallInForm old new call turn
