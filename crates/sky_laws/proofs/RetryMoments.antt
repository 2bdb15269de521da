-- A retry comes back at the moment of the call that brings it.
use Rattle.std.proofs.Common.{◌≡◌, ℕ, ℤ, List, [], ◌∷◌, Bool, true, false, All, Some, None, Ok, Err, refl, sym, ◌∙◌, ap}
use Rattle.std.specs.Ordering.{int_eq}
use Rattle.std.proofs.lemmas.Bool.Decides.{Decides-int_eq}
use Rattle.std.proofs.lemmas.List.Elements.{All-nil, All-cons}
use Rattle.sky_keys.specs.Waits.{is_waiting}
use Rattle.pgq_retry.specs.declared.retry.Retry.{Retry}
use Rattle.pgq_retry.specs.Retries.{due_now}
use Rattle.sky_model.specs.declared.stmt.DbStmt.{DbStmt}
use Rattle.sky_model.specs.declared.stmt.DbStmt.TheVariants.{Row, Queue}
use Rattle.sky_model.specs.declared.stmt.QueueStmt.TheVariants.{MaintRetryEvents}
use Rattle.sky_model.specs.Permits.{MarkKinds, of_any, of_resumed, may_leave, permit_of}
use Rattle.sky_model.specs.History.{Mark, QueueMark, sight_taken, queued, returned, History}
use Rattle.sky_model.specs.Sessions.{session, has_open, block, own_txid, Session}
use Rattle.sky_model.specs.Locks.{waiting}
use Rattle.sky_model.specs.State.{Database, part_of, database_of}
use Rattle.sky_model.specs.Outcome.{Checked, Outcome, marks_of}
use Rattle.sky_model.specs.Printed.{ReplyHasMoments}
use Rattle.sky_model.specs.Allowed.{where_of, allowed}
use Rattle.sky_model.specs.Made.{takes_sight}
use Rattle.sky_model.specs.StepRetry.{most_back, maint_retry_events}
use Rattle.sky_model.specs.Reader.{Shown, shown_in, database_by_history, within_part}
use Rattle.sky_model.specs.Settling.{Turn, turn_of, behind_marks, settling, with_settling}
use Rattle.sky_model.specs.Calls.{form, making, statement}
use Rattle.sky_model.specs.SessionMarks.{look_of, entry_place, enters, failing}
use Rattle.sky_model.specs.DatabaseCalls.{stepped, entered, failed, worked, served, database_does}
use Rattle.sky_model.specs.LawsOfRetries.{moment_of, IsBackAt, RetriesComeBackAtCalls}
use Rattle.sky_histories.proofs.StatementMarks.{EachMark, each-append, each-rest, when-true, AnyReply, Gives, gives-map, given-runs, gives-tells, is_common, is_told, gives-form, each-failure, settling-gives}
use Rattle.sky_histories.proofs.DaemonTurns.{each-brings, each-daemon_does}
use Rattle.sky_histories.proofs.WorkersRest.{rows-no_work}
use Rattle.sky_histories.proofs.NodeCalls.{node-back}

-- a retry comes back at this moment, or none does
abbrev is_back_at : ℤ → Mark → Bool
is_back_at now (queued (returned retry moment)) = int_eq now moment
is_back_at now _ = true

back-mark : (now : ℤ) (mark : Mark) → is_back_at now mark ≡ true → IsBackAt (Some now) mark
back-mark now (queued (returned retry moment)) is = ap (λ m. Some m) ((Decides-int_eq now moment).0 is)
back-mark now _ is = tt

back-marks : (now : ℤ) (marks : List Mark) → EachMark (is_back_at now) marks → All (IsBackAt (Some now)) marks
back-marks now [] all = All-nil (IsBackAt (Some now))
back-marks now (mark ∷ marks) all =
    All-cons (IsBackAt (Some now)) mark marks (back-mark now mark (when-true _ (is_back_at now mark) all)) (back-marks now marks (each-rest (is_back_at now) mark marks all))

others-back : (now : ℤ) (mark : QueueMark) → is_common mark ≡ true → is_back_at now (queued mark) ≡ true
others-back now (returned retry moment) e = absurd (cc)
others-back now _ e = refl

same-back : (now : ℤ) (retry : Retry) → is_back_at now (queued (returned retry now)) ≡ true
same-back now retry = (Decides-int_eq now now).1 refl

told-back : (now : ℤ) (mark : QueueMark) → is_told mark ≡ true → is_back_at now (queued mark) ≡ true
told-back now (returned retry moment) e = absurd (cc)
told-back now _ e = refl

back-if : (now : ℤ) (k : MarkKinds) → k.brings_back ≡ false → (s : Session) (who : ℕ) (mark : Mark) → may_leave k s who mark ≡ true → is_back_at now mark ≡ true
back-if now k none s who (queued (returned retry moment)) e = absurd (cc (sym e ∙ none))
back-if now k none s who _ e = refl

back-given : (now : ℤ) (c : Checked Outcome) → EachMark (is_back_at now) (marks_of c) → Gives AnyReply (is_back_at now) c
back-given now (Ok o) all = (tt, all)
back-given now (Err refusal) all = tt

-- ---- statements

plain-form : (d : Database) (shown : Shown) (now : ℤ) (who : ℕ) (stmt : DbStmt) → (permit_of stmt).kinds.brings_back ≡ false → Gives AnyReply (is_back_at now) (form d shown now who stmt)
plain-form d shown now who stmt none =
    let k : MarkKinds = (permit_of stmt).kinds in
    gives-map AnyReply AnyReply (may_leave k (d.part.session who) who) (is_back_at now) (λ reply any. any) (back-if now k none (d.part.session who) who) (form d shown now who stmt) (gives-form who d shown now stmt)

back-form : (d : Database) (shown : Shown) (now : ℤ) (who : ℕ) (stmt : DbStmt) → Gives AnyReply (is_back_at now) (form d shown now who stmt)
back-form d shown now who (Row stmt) = plain-form d shown now who (Row stmt) (rows-no_work stmt).1
back-form d shown now who (Queue MaintRetryEvents) =
    back-given now (maint_retry_events d now) (each-brings (is_back_at now) now (others-back now) (same-back now) (λ t. refl) (λ t. refl) d (due_now now most_back d.retries))
back-form d shown now who (Queue stmt) = plain-form d shown now who (Queue stmt) refl

back-statement : (h : History) (now : ℤ) (who : ℕ) (stmt : DbStmt) → EachMark (is_back_at now) (statement database_by_history h now who stmt).marks
back-statement h now who stmt =
    (given-runs AnyReply (is_back_at now) (λ refusal. tt) (back-if now of_any refl) (making database_by_history now who stmt) (where_of stmt) who h
    (allowed (is_waiting who (waiting h)) (has_open who h) (block who h) (where_of stmt)) (back-form (database_of h) (shown_in h) now who stmt)
    (back-form (database_of (sight_taken who ∷ h)) (shown_in (sight_taken who ∷ h)) now who stmt)).1

back-settling : (now : ℤ) (h : History) (turn : Turn) → EachMark (is_back_at now) turn.marks → EachMark (is_back_at now) (with_settling (within_part database_by_history now) h turn).marks
back-settling now h turn all =
    each-append (is_back_at now) turn.marks (settling (within_part database_by_history now) behind).marks all
    (settling-gives (is_back_at now) (λ who. refl) (back-if now of_resumed refl) (within_part database_by_history now)
    (record { tells = λ g c gives. gives-tells (is_back_at now) (told-back now) ReplyHasMoments (database_of g) now c gives }) behind).marks
  where
    behind : History
    behind = behind_marks (within_part database_by_history now) h turn.marks

-- ---- calls

back-enters : (who : ℕ) (sight : Bool) (may : Checked (Unit {0})) → All (IsBackAt None) (enters who (look_of who sight) may).marks
back-enters who true (Ok _) = All-cons (IsBackAt None) (sight_taken who) [] tt (All-nil (IsBackAt None))
back-enters who false (Ok _) = All-nil (IsBackAt None)
back-enters who sight (Err refusal) = All-nil (IsBackAt None)

pub retries_come_back_at_calls : RetriesComeBackAtCalls
retries_come_back_at_calls h (stepped who stmt now) =
    back-marks now (database_does database_by_history h (stepped who stmt now)).marks (back-settling now h (turn_of who (statement database_by_history h now who stmt)) (back-statement h now who stmt))
retries_come_back_at_calls h (entered who alone) =
    back-enters who (takes_sight (entry_place alone) (session h who).sight) (allowed (is_waiting who (waiting h)) (has_open who h) (block who h) (entry_place alone))
retries_come_back_at_calls h (failed who now) =
    back-marks now (database_does database_by_history h (failed who now)).marks
    (back-settling now h (failing (part_of h) who) (each-failure AnyReply (is_back_at now) (λ _. tt) (back-if now of_any refl) who (own_txid who h) (block who h)))
retries_come_back_at_calls h (worked part now) =
    back-marks now (database_does database_by_history h (worked part now)).marks
    (each-daemon_does (is_back_at now) now (others-back now) (same-back now) (λ t. refl) (λ t. refl) database_by_history h part)
retries_come_back_at_calls h (served call) = node-back (moment_of (served call)) (database_of h) call
