-- A statement of a database: from what the database keeps to its history.
use Rattle.std.proofs.Common.{◌≡◌, ℕ, ℤ, Bool, true, false, List, [], ◌∷◌, ◌++◌, Option, Some, None, option_map, Ok, Err, refl, sym, ◌∙◌, ap}
use Rattle.sky_val.specs.declared.event.Event.{Event}
use Rattle.sky_model.specs.declared.stmt.DbStmt.{DbStmt}
use Rattle.sky_model.specs.declared.reply.Refusal.{Refusal}
use Rattle.sky_keys.specs.Waits.{is_waiting}
use Rattle.sky_model.specs.History.{Batch, Mark, sight_taken, History}
use Rattle.sky_model.specs.Consumers.{active_batch}
use Rattle.sky_model.specs.Batches.{batch_events}
use Rattle.sky_model.specs.Selection.{selected}
use Rattle.sky_model.specs.State.{part_of, after_part_marks, Database, database_of, after_mark, after_marks}
use Rattle.sky_model.specs.ShownRows.{rows_by}
use Rattle.sky_model.specs.Allowed.{where_of, allowed}
use Rattle.sky_model.specs.Outcome.{Checked}
use Rattle.sky_model.specs.Made.{takes_sight}
use Rattle.sky_model.specs.Telling.{tells}
use Rattle.sky_model.specs.Reader.{Shown, shown_in, shown_by, database_by_history, database_by_itself, within_part}
use Rattle.sky_model.specs.Settling.{Turn, turn_of, behind_marks, with_settling}
use Rattle.sky_histories.proofs.DaemonTurns.{same-daemon_does}
use Rattle.sky_model.specs.Calls.{form, making, statement, database_turn}
use Rattle.sky_model.specs.SessionMarks.{look_of, Enters, entry_place, enters, entry, failing}
use Rattle.sky_model.specs.Promises.{after_all}
use Rattle.sky_model.specs.DatabaseCalls.{DatabaseCall, stepped, entered, failed, worked, served, IsDatabaseCallInForm, database_does, database_part}
use Rattle.sky_model.specs.DatabaseSteps.{DatabaseSteps, ShowsEvents}
use Rattle.sky_histories.proofs.Legal.{Fine, looks, Chain, Legal, next}
use Rattle.sky_histories.proofs.Marks.{database_of-mark}
pub use Rattle.sky_histories.proofs.Marks.{database_of-marks}
use Rattle.sky_histories.proofs.Rotation.{batch_events-selected}
use Rattle.sky_histories.proofs.RowSights.{same-rows}
use Rattle.sky_histories.proofs.MadeAt.{same-made_by}
use Rattle.sky_histories.proofs.Turns.{ReadAlike, same-with_settling}
use Rattle.sky_histories.proofs.Lawful.{database-reads, good_turn}
use Rattle.sky_histories.proofs.Histories.{good_fails, legal_calls}
use Rattle.sky_histories.proofs.Promised.{promised}
use Rattle.sky_histories.proofs.Entering.{entered-part}
use Rattle.sky_histories.proofs.GatedStanding.{each-past}

-- marks one after another
pub after_marks-append : (d : Database) (xs ys : List Mark) → after_marks d (xs ++ ys) ≡ after_marks (after_marks d xs) ys
after_marks-append d [] ys = refl
after_marks-append d (x ∷ xs) ys = after_marks-append (after_mark d x) xs ys

pub behind-all : (now : ℤ) (d : Database) (marks : List Mark) → behind_marks (within_part database_by_itself now) d marks ≡ after_marks d marks
behind-all now d [] = refl
behind-all now d (mark ∷ marks) = behind-all now (after_mark d mark) marks

-- the queue of an active batch keeps what the batch lists
same-events : (h : History) → Legal h → (id : ℕ) (o : Option Batch) → active_batch id h ≡ o → option_map (batch_events h) o ≡ option_map (selected (database_of h)) o
same-events h l id None is = refl
same-events h l id (Some b) is = ap (λ events. Some events) (batch_events-selected h l id b is)

-- a legal history shows a statement what its database keeps
same-shown : (h : History) → Legal h → shown_in h ≡ shown_by (database_of h)
same-shown h l = λ i. record { events = λ id. same-events h l id (active_batch id h) refl i; rows = same-rows h l i }

-- by the history a statement does what it does by what the database keeps
same-statement : (h : History) → Legal h → (now : ℤ) (who : ℕ) (stmt : DbStmt) → statement database_by_history h now who stmt ≡ statement database_by_itself (database_of h) now who stmt
same-statement h l now who stmt =
    same-made_by (making database_by_history now who stmt) (making database_by_itself now who stmt) (where_of stmt) who h (database_of h) (record {
      sessions = refl;
      waiting = refl;
      outcomes = ap (λ shown. form (database_of h) shown now who stmt) (same-shown h l);
      sessions_behind = ap (λ (d : Database). d.part.session who) (database_of-mark h (sight_taken who));
      outcomes_behind =
          ap (λ shown. form (database_of (sight_taken who ∷ h)) shown now who stmt) (same-shown (sight_taken who ∷ h) (next l (looks who)))
          ∙ ap (λ d. form d (shown_by d) now who stmt) (database_of-mark h (sight_taken who));
    })

-- a legal history reads as what the database keeps of it
record Keeps (h : History) (d : Database) : Type 0 where
  legal : Legal h
  shows : database_of h ≡ d

as-kept : (now : ℤ) → ReadAlike (within_part database_by_history now) (within_part database_by_itself now) Fine Keeps
as-kept now = record {
  parts = λ h d keeps. ap Database.part keeps.shows;
  rows = λ h d keeps. same-rows h keeps.legal ∙ ap (λ (x : Database). rows_by x.part) keeps.shows;
  tells = λ h d keeps. λ i checked. tells (keeps.shows i) now checked;
  behind = λ h d mark keeps fine. record { legal = next keeps.legal fine; shows = database_of-mark h mark ∙ ap (λ x. after_mark x mark) keeps.shows };
}

-- and so do those that it unblocks
settling-kept : (h : History) → Legal h → (now : ℤ) (turn turn' : Turn) → turn ≡ turn' → Chain h (with_settling (within_part database_by_history now) h turn).marks
    → with_settling (within_part database_by_history now) h turn ≡ with_settling (within_part database_by_itself now) (database_of h) turn'
settling-kept h l now turn turn' same chain =
    same-with_settling (within_part database_by_history now) (within_part database_by_itself now) Fine Keeps (as-kept now) h (database_of h) turn turn' (record { legal = l; shows = refl }) same
    (each-past (within_part database_by_history now) (λ g. g) (database-reads now) h _ chain)

pub same-turn_at : (h : History) → Legal h → (now : ℤ) (who : ℕ) (stmt : DbStmt) → database_turn database_by_history h now who stmt ≡ database_turn database_by_itself (database_of h) now who stmt
same-turn_at h l now who stmt =
    settling-kept h l now (turn_of who (statement database_by_history h now who stmt)) (turn_of who (statement database_by_itself (database_of h) now who stmt))
    (ap (turn_of who) (same-statement h l now who stmt)) (good_turn h l now who stmt)

-- so does a call
pub same-database_does : (h : History) → Legal h → (call : DatabaseCall) → database_does database_by_itself (database_of h) call ≡ database_does database_by_history h call
same-database_does h l (stepped who stmt now) = sym (same-turn_at h l now who stmt)
same-database_does h l (entered who outside) = refl
same-database_does h l (worked part now) = sym (same-daemon_does database_by_history database_by_itself database_of (λ g. refl) database_of-mark h part now)
same-database_does h l (served call) = refl
same-database_does h l (failed who now) = sym (settling-kept h l now (failing (part_of h) who) (failing (part_of h) who) refl (good_fails h l who now))

-- the database after a call
behind-does : (h : History) → Legal h → (call : DatabaseCall)
    → after_marks (database_of h) (database_does database_by_itself (database_of h) call).marks ≡ database_of (database_part.after h call)
behind-does h l call =
    ap (λ (turn : Turn). after_marks (database_of h) turn.marks) (same-database_does h l call) ∙ sym (database_of-marks h (database_does database_by_history h call).marks)

-- a call that changes a database as the database itself says keeps its promise
pub database_steps_from_exact : (old new : Database) (call : DatabaseCall) → new ≡ after_marks old (database_does database_by_itself old call).marks
    → DatabaseSteps old new call (database_does database_by_itself old call)
database_steps_from_exact old new call changed =
    promised database_part IsDatabaseCallInForm call (λ d. database_does database_by_itself d call) (λ d. after_marks d (database_does database_by_itself d call).marks)
    (λ calls in_form. same-database_does (after_all database_part calls) (legal_calls calls) call)
    (λ calls in_form. behind-does (after_all database_part calls) (legal_calls calls) call)
    old new (database_does database_by_itself old call) refl changed

-- what a session that enters changes is in the row part
enters-within : (d : Database) (who : ℕ) (sight : Bool) (may : Checked (Unit {0}))
    → record d { part = after_part_marks d.part (enters who (look_of who sight) may).marks } ≡ after_marks d (enters who (look_of who sight) may).marks
enters-within d who true (Ok _) = refl
enters-within d who false (Ok _) = refl
enters-within d who sight (Err refusal) = refl

-- a session that enters keeps it
pub database_enter_from_exact : (old new : Database) (who : ℕ) (outside : Bool) (refusal : Option Refusal) → Enters old.part new.part who (entry_place outside) refusal
    → new ≡ record old { part = new.part } → DatabaseSteps old new (entered who outside) (entry old.part who (entry_place outside))
database_enter_from_exact old new who outside refusal enters but =
    database_steps_from_exact old new (entered who outside)
    (but ∙ ap (λ part. record old { part = part }) (entered-part old.part new.part who (entry_place outside) refusal enters)
    ∙ enters-within old who (takes_sight (entry_place outside) (old.part.session who).sight) (allowed (is_waiting who old.part.waiting) (old.part.session who).is_open (old.part.session who).block (entry_place outside)))

-- the events of an active batch, by what the database keeps, are those of every such history
pub shows-events : (d : Database) (batch : ℕ) (events : List Event) → (shown_by d).events batch ≡ Some events → ShowsEvents d batch events
shows-events d batch events are calls in_form is =
    ap (λ (shown : Shown). shown.events batch) (same-shown (after_all database_part calls) (legal_calls calls)) ∙ ap (λ x. (shown_by x).events batch) (sym is) ∙ are
