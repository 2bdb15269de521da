-- The calls that change a database's row part, and what each does.
use Rattle.std.specs.Prelude.{ℕ, Bool, [], ⊤}
use Rattle.sky_model.specs.declared.stmt.RowStmt.{RowStmt}
use Rattle.sky_model.specs.InForm.{IsRowInForm}
use Rattle.sky_model.specs.History.{History}
use Rattle.sky_model.specs.State.{RowPart, part_of}
use Rattle.sky_model.specs.Reader.{PartReader, part_by_history}
use Rattle.sky_model.specs.Gates.{by_gate}
use Rattle.sky_model.specs.Rooms.{Room, room_gate}
use Rattle.sky_model.specs.Settling.{Turn, marked, settling, with_settling}
use Rattle.sky_model.specs.Calls.{row_turn}
use Rattle.sky_model.specs.SessionMarks.{entry_place, entry, failing, taking, ending}
use Rattle.sky_model.specs.WorkerMarks.{beginning, ending_work, guarding}
use Rattle.sky_model.specs.Promises.{Part}

pub data RowCall : Type 0 where
  -- a session made a statement, and there was this room for writes
  row_stepped : (room : Room) (who : ℕ) (stmt : RowStmt) → RowCall
  -- something is to be done in a session's name, which is allowed only outside blocks, or inside too
  row_entered : (who : ℕ) (outside : Bool) → RowCall
  -- it failed
  row_failed : (room : Room) (who : ℕ) → RowCall
  -- the statements that were ready to resume were run
  row_settled : (room : Room) → RowCall
  -- a session's transaction got its id
  txid_taken : (who : ℕ) → RowCall
  -- it ended with its only statement
  single_ended : (who : ℕ) → RowCall
  -- a session's block was rolled back, and nothing that this unblocks was run
  rolled_back : (who : ℕ) → RowCall
  -- a worker's transaction began, if an id was left
  worker_begun : RowCall
  -- a worker's transaction ended
  worker_ended : (t : ℕ) (committed : Bool) → RowCall
  -- sessions may not write a table from then on, or may again
  row_guarded : (table : ℕ) (on : Bool) → RowCall

-- its statement is in form
abbrev pub IsRowCallInForm : RowCall → Type 0
IsRowCallInForm (row_stepped room who stmt) = IsRowInForm stmt
IsRowCallInForm (row_entered who outside) = ⊤
IsRowCallInForm (row_failed room who) = ⊤
IsRowCallInForm (row_settled room) = ⊤
IsRowCallInForm (txid_taken who) = ⊤
IsRowCallInForm (single_ended who) = ⊤
IsRowCallInForm (rolled_back who) = ⊤
IsRowCallInForm worker_begun = ⊤
IsRowCallInForm (worker_ended t committed) = ⊤
IsRowCallInForm (row_guarded table on) = ⊤

-- what a call does at a place
abbrev pub row_does : {P : Type 0} → PartReader P → P → RowCall → Turn
row_does r p (row_stepped room who stmt) = row_turn (by_gate (room_gate room) r) (p, []) who stmt
row_does r p (row_entered who outside) = entry (r.part p) who (entry_place outside)
row_does r p (row_failed room who) = with_settling (by_gate (room_gate room) r) (p, []) (failing (r.part p) who)
row_does r p (row_settled room) = settling (by_gate (room_gate room) r) (p, [])
row_does r p (txid_taken who) = taking (r.part p) who
row_does r p (single_ended who) = ending (r.part p) who
row_does r p (rolled_back who) = failing (r.part p) who
row_does r p worker_begun = beginning (r.part p)
row_does r p (worker_ended t committed) = ending_work (r.part p) t committed
row_does r p (row_guarded table on) = guarding table on

-- a row part, as its calls change it
abbrev pub row_part : Part RowCall History RowPart Turn
row_part = record {
  start = [];
  after = λ h call. marked h (row_does part_by_history h call).marks;
  answers = λ h call. row_does part_by_history h call;
  shows = part_of;
}
