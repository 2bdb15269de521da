-- The calls that change a database, and what each does.
use Rattle.std.specs.Prelude.{ℕ, ℤ, Bool, [], ⊤}
use Rattle.sky_model.specs.declared.stmt.DbStmt.{DbStmt}
use Rattle.sky_model.specs.declared.daemon.DaemonPart.{DaemonPart}
use Rattle.sky_model.specs.InForm.{IsDbInForm}
use Rattle.sky_model.specs.History.{History}
use Rattle.sky_model.specs.State.{Database, database_of}
use Rattle.sky_model.specs.Reader.{DatabaseReader, database_by_history, within_part}
use Rattle.sky_model.specs.Settling.{Turn, marked, with_settling}
use Rattle.sky_model.specs.Calls.{database_turn}
use Rattle.sky_model.specs.Daemon.{quietly, daemon_does}
use Rattle.sky_model.specs.StepNode.{NodeCall, node_does}
use Rattle.sky_model.specs.SessionMarks.{entry_place, entry, failing}
use Rattle.sky_model.specs.Promises.{Part}

pub data DatabaseCall : Type 0 where
  -- a session made a statement, at a time
  stepped : (who : ℕ) (stmt : DbStmt) (now : ℤ) → DatabaseCall
  -- something is to be done in a session's name, which is allowed only outside blocks, or inside too
  entered : (who : ℕ) (outside : Bool) → DatabaseCall
  -- it failed, at a time
  failed : (who : ℕ) (now : ℤ) → DatabaseCall
  -- its daemon did a part of its work, at a time
  worked : (part : DaemonPart) (now : ℤ) → DatabaseCall
  -- it did something for a node
  served : (call : NodeCall) → DatabaseCall

-- its statement is in form
abbrev pub IsDatabaseCallInForm : DatabaseCall → Type 0
IsDatabaseCallInForm (stepped who stmt now) = IsDbInForm stmt
IsDatabaseCallInForm (entered who outside) = ⊤
IsDatabaseCallInForm (failed who now) = ⊤
IsDatabaseCallInForm (worked part now) = ⊤
IsDatabaseCallInForm (served call) = ⊤

-- what a call does at a place
abbrev pub database_does : {P : Type 0} → DatabaseReader P → P → DatabaseCall → Turn
database_does r p (stepped who stmt now) = database_turn r p now who stmt
database_does r p (entered who outside) = entry (r.database p).part who (entry_place outside)
database_does r p (failed who now) = with_settling (within_part r now) p (failing (r.database p).part who)
database_does r p (worked part now) = daemon_does r p part now
database_does r p (served call) = quietly (node_does (r.database p) call)

-- a database, as its calls change it
abbrev pub database_part : Part DatabaseCall History Database Turn
database_part = record {
  start = [];
  after = λ h call. marked h (database_does database_by_history h call).marks;
  answers = λ h call. database_does database_by_history h call;
  shows = database_of;
}
