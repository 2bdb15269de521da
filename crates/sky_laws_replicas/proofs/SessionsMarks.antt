-- Which marks statements of sessions, and daemons, leave: none of a node, of a copy, of a worker's write, and of a set's trigger.
use Rattle.std.proofs.Common.{◌≡◌, ℕ, ℤ, Bool, true, false, ◌∷◌, Ok, Err, is_some, refl}
use Rattle.std.proofs.lemmas.Bool.{and_parts}
use Rattle.sky_keys.specs.Waits.{is_waiting}
use Rattle.sky_model.specs.declared.stmt.DbStmt.{DbStmt}
use Rattle.sky_model.specs.History.{Mark, QueueMark, of_worker, of_copy, began, ended, sight_taken, tabled, wrote, read_only, queued, raised, put, traced, untraced, noded, History}
use Rattle.sky_model.specs.Permits.{MarkKinds, of_any, of_resumed, may_leave, permit_of}
use Rattle.sky_model.specs.Sessions.{Session, session, has_open, block, own_txid}
use Rattle.sky_model.specs.Locks.{waiting}
use Rattle.sky_model.specs.State.{Database, part_of, database_of}
use Rattle.sky_model.specs.Outcome.{Checked}
use Rattle.sky_model.specs.Printed.{ReplyHasMoments}
use Rattle.sky_model.specs.Allowed.{where_of, allowed}
use Rattle.sky_model.specs.Made.{takes_sight}
use Rattle.sky_model.specs.Reader.{Shown, shown_in, database_by_history, within_part}
use Rattle.sky_model.specs.Settling.{Turn, turn_of, behind_marks, settling, with_settling}
use Rattle.sky_model.specs.SessionMarks.{look_of, entry_place, enters, failing}
use Rattle.sky_model.specs.Calls.{form, making, statement}
use Rattle.sky_model.specs.DatabaseCalls.{DatabaseCall, stepped, entered, failed, worked, served, database_does}
use Rattle.sky_histories.proofs.StatementMarks.{EachMark, each-append, Gives, gives-map, AnyReply, is_common, is_told, gives-tells, gives-form, each-failure, given-runs, settling-gives}
use Rattle.sky_histories.proofs.DaemonTurns.{each-daemon_does}

abbrev pub is_sessions : Mark → Bool
is_sessions (began (of_copy table) t) = false
is_sessions (ended (of_copy table) t committed) = false
is_sessions (tabled (wrote of_worker t table key old new)) = false
is_sessions (tabled (wrote (of_copy n) t table key old new)) = false
is_sessions (tabled (read_only table on)) = false
is_sessions (queued (traced table name trigger)) = is_some name
is_sessions (queued (untraced table)) = false
is_sessions (noded mark) = false
is_sessions _ = true

sessions-if : (k : MarkKinds) (s : Session) (who : ℕ) (mark : Mark) → may_leave k s who mark ≡ true → is_sessions mark ≡ true
sessions-if k s who (queued (traced table name trigger)) e = (and_parts (is_some name) k.traces e).0
sessions-if k s who (began (of_copy table) t) e = e
sessions-if k s who (ended (of_copy table) t committed) e = e
sessions-if k s who (tabled (wrote of_worker t table key old new)) e = e
sessions-if k s who (tabled (wrote (of_copy n) t table key old new)) e = e
sessions-if k s who (tabled (read_only table on)) e = e
sessions-if k s who (queued (untraced table)) e = e
sessions-if k s who (noded mark) e = e
sessions-if k s who _ e = refl

sessions-queued : (mark : QueueMark) → is_common mark ≡ true → is_sessions (queued mark) ≡ true
sessions-queued (traced table name trigger) e = e
sessions-queued (untraced table) e = e
sessions-queued _ e = refl

told-common : (mark : QueueMark) → is_told mark ≡ true → is_common mark ≡ true
told-common (raised q value) e = refl
told-common (put q event) e = refl
told-common _ e = absurd (cc)

sessions-form : (d : Database) (shown : Shown) (now : ℤ) (who : ℕ) (stmt : DbStmt) → Gives AnyReply is_sessions (form d shown now who stmt)
sessions-form d shown now who stmt =
    let k : MarkKinds = (permit_of stmt).kinds in
    gives-map AnyReply AnyReply (may_leave k (d.part.session who) who) is_sessions (λ reply any. any) (sessions-if k (d.part.session who) who) _ (gives-form who d shown now stmt)

sessions-statement : (h : History) (now : ℤ) (who : ℕ) (stmt : DbStmt) → EachMark is_sessions (statement database_by_history h now who stmt).marks
sessions-statement h now who stmt =
    (given-runs AnyReply is_sessions (λ _. tt) (sessions-if of_any) (making database_by_history now who stmt) (where_of stmt) who h
    (allowed (is_waiting who (waiting h)) (has_open who h) (block who h) (where_of stmt))
    (sessions-form (database_of h) (shown_in h) now who stmt) (sessions-form (database_of (sight_taken who ∷ h)) (shown_in (sight_taken who ∷ h)) now who stmt)).1

sessions-settled : (h : History) (now : ℤ) (turn : Turn) → EachMark is_sessions turn.marks → EachMark is_sessions (with_settling (within_part database_by_history now) h turn).marks
sessions-settled h now turn each = each-append is_sessions turn.marks _ each (resumed (behind_marks (within_part database_by_history now) h turn.marks))
  where
    resumed : (g : History) → EachMark is_sessions (settling (within_part database_by_history now) g).marks
    resumed g =
        (settling-gives is_sessions (λ who. refl) (sessions-if of_resumed) (within_part database_by_history now)
        (record { tells = λ x c gives. gives-tells is_sessions (λ mark e. sessions-queued mark (told-common mark e)) ReplyHasMoments (database_of x) now c gives }) g).marks

sessions-enters : (who : ℕ) (sight : Bool) (may : Checked (Unit {0})) → EachMark is_sessions (enters who (look_of who sight) may).marks
sessions-enters who true (Ok _) = tt
sessions-enters who false (Ok _) = tt
sessions-enters who sight (Err refusal) = tt

abbrev pub is_served : DatabaseCall → Bool
is_served (served call) = true
is_served call = false

-- what any call leaves but one for a node
pub sessions-does : (h : History) (call : DatabaseCall) → is_served call ≡ false → EachMark is_sessions (database_does database_by_history h call).marks
sessions-does h (stepped who stmt now) e = sessions-settled h now (turn_of who (statement database_by_history h now who stmt)) (sessions-statement h now who stmt)
sessions-does h (entered who alone) e =
    sessions-enters who (takes_sight (entry_place alone) (session h who).sight) (allowed (is_waiting who (waiting h)) (has_open who h) (block who h) (entry_place alone))
sessions-does h (failed who now) e = sessions-settled h now (failing (part_of h) who) (each-failure AnyReply is_sessions (λ _. tt) (sessions-if of_any) who (own_txid who h) (block who h))
sessions-does h (worked part now) e = each-daemon_does is_sessions now sessions-queued (λ r. refl) (λ t. refl) (λ t. refl) database_by_history h part
sessions-does h (served call) e = absurd (cc)
