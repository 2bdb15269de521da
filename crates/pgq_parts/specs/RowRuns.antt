-- What the row part of a database runs in one call.
use Rattle.std.specs.Prelude.{◌≡◌, ℕ, Option, Result}
use Rattle.sky_model.specs.declared.reply.Refusal.{Refusal}
use Rattle.sky_model.specs.declared.stmt.RowStmt.{RowStmt}
use Rattle.sky_model.specs.declared.stmt.RowStmt.TheVariants.{Commit}
use Rattle.sky_model.specs.Calls.{row_turn}
use Rattle.sky_model.specs.InForm.{IsRowInForm}
use Rattle.sky_model.specs.Reader.{PartReader}
use Rattle.sky_model.specs.Rooms.{Room}
use Rattle.sky_model.specs.RowCalls.{RowCall, row_stepped, row_settled}
use Rattle.sky_model.specs.Settling.{Turn, settling}
use Rattle.sky_model.specs.State.{RowPart}
use Rattle.sky_row_store.specs.Committing.{commits_of}

-- a statement of a session; a session's `commit`, and what it was checked to make permanent, or why not; or the statements that may resume
pub data RowRun : Type 0 where
  statement : ℕ → RowStmt → RowRun
  commit : ℕ → Result (Option ℕ) Refusal → RowRun
  resuming : RowRun

-- it may be run
abbrev pub MayRun : RowRun → RowPart → Type 0
MayRun (statement who stmt) part = IsRowInForm stmt
MayRun (commit who checked) part = checked ≡ commits_of part who
MayRun resuming part = Unit {0}

-- what it does, and then those that it unblocks
abbrev pub run_turn : {P : Type 0} → PartReader P → P → RowRun → Turn
run_turn r p (statement who stmt) = row_turn r p who stmt
run_turn r p (commit who checked) = row_turn r p who Commit
run_turn r p resuming = settling r p

-- the call of the row part that runs it
abbrev pub run_call : Room → RowRun → RowCall
run_call room (statement who stmt) = row_stepped room who stmt
run_call room (commit who checked) = row_stepped room who Commit
run_call room resuming = row_settled room
