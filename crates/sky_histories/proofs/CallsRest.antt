-- After the calls of a database no statement waits for a key that nobody holds.
use Rattle.std.proofs.Common.{◌≡◌, ℕ, ℤ, Bool, true, false, List, [], ◌∷◌, None, Ok, Err, refl, sym, ◌∙◌, ap}
use Rattle.sky_keys.specs.Waits.{is_waiting}
use Rattle.sky_model.specs.History.{History}
use Rattle.sky_model.specs.Sessions.{has_open, block, session}
use Rattle.sky_model.specs.Locks.{waiting}
use Rattle.sky_model.specs.Allowed.{allowed}
use Rattle.sky_model.specs.Made.{takes_sight}
use Rattle.sky_model.specs.Outcome.{Checked}
use Rattle.sky_model.specs.State.{part_of}
use Rattle.sky_model.specs.Reader.{database_by_history, within_part}
use Rattle.sky_model.specs.Settling.{Turn, turn_of, marked, ready, with_settling}
use Rattle.sky_model.specs.Calls.{statement}
use Rattle.sky_model.specs.SessionMarks.{look_of, entry_place, enters, failing}
use Rattle.sky_model.specs.Promises.{after_all}
use Rattle.sky_model.specs.DatabaseCalls.{DatabaseCall, stepped, entered, failed, worked, served, database_part}
use Rattle.sky_histories.proofs.Lawful.{database-reads, past-behind}
use Rattle.sky_histories.proofs.Resting.{turn-rests}
use Rattle.sky_histories.proofs.DatabaseResting.{history-keeps}
use Rattle.sky_histories.proofs.DaemonTurns.{daemon-ready}
use Rattle.sky_histories.proofs.NodeCalls.{node-ready}

-- in a history none is ready after a turn with all that it unblocks
history-rests : (h : History) (now : ℤ) (turn : Turn) → ready (part_of (marked h (with_settling (within_part database_by_history now) h turn).marks)) ≡ None
history-rests h now turn =
    ap (λ g. ready (part_of g)) (sym (past-behind (within_part database_by_history now) (λ g. g) (database-reads now) h (with_settling (within_part database_by_history now) h turn).marks))
    ∙ turn-rests (within_part database_by_history now) (history-keeps now) h turn

-- nor after the sight of a session that enters
enters-rests : (h : History) (who : ℕ) (sight : Bool) (may : Checked (Unit {0})) → ready (part_of h) ≡ None → ready (part_of (marked h (enters who (look_of who sight) may).marks)) ≡ None
enters-rests h who true (Ok _) rests = rests
enters-rests h who false (Ok _) rests = rests
enters-rests h who sight (Err refusal) rests = rests

pub calls-rest : (calls : List DatabaseCall) → ready (part_of (after_all database_part calls)) ≡ None
calls-rest [] = refl
calls-rest (stepped who stmt now ∷ calls) =
    history-rests (after_all database_part calls) now (turn_of who (statement database_by_history (after_all database_part calls) now who stmt))
calls-rest (entered who outside ∷ calls) =
    enters-rests h who (takes_sight (entry_place outside) (session h who).sight) (allowed (is_waiting who (waiting h)) (has_open who h) (block who h) (entry_place outside)) (calls-rest calls)
  where
    h : History
    h = after_all database_part calls
calls-rest (worked part now ∷ calls) =
    daemon-ready (after_all database_part calls) part now ∙ calls-rest calls
calls-rest (served call ∷ calls) = node-ready (after_all database_part calls) call ∙ calls-rest calls
calls-rest (failed who now ∷ calls) = history-rests (after_all database_part calls) now (failing (part_of (after_all database_part calls)) who)
