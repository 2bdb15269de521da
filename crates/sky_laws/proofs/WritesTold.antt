-- In the history that calls make the events that record a write come right after it.
use Rattle.std.proofs.Common.{◌≡◌, ℕ, zero, suc, ℤ, List, [], ◌∷◌, ◌++◌, Bool, true, false, Option, Some, None, Ok, Err, IfOk, length, refl, sym, ap, subst, pos}
use Rattle.sky_val.specs.declared.val.Val.{Val}
use Rattle.sky_keys.specs.Waits.{Waiting, is_waiting}
use Rattle.sky_model.specs.declared.stmt.DbStmt.{DbStmt}
use Rattle.sky_model.specs.declared.stmt.DbStmt.TheVariants.{Row, Queue}
use Rattle.sky_model.specs.declared.stmt.QueueStmt.{QueueStmt}
use Rattle.sky_model.specs.declared.stmt.QueueStmt.TheVariants.{InsertEvent}
use Rattle.sky_model.specs.Permits.{MarkKinds, of_any, may_leave, permit_of_queue, permit_of}
use Rattle.sky_model.specs.declared.stmt.RowStmt.TheVariants.{Commit}
use Rattle.sky_model.specs.History.{Mark, Whose, of_session, of_worker, sight_taken, tabled, wrote, waited, History, of_copy}
use Rattle.sky_model.specs.Sessions.{Session, session, has_open, block, own_txid}
use Rattle.sky_model.specs.Locks.{waiting}
use Rattle.sky_model.specs.State.{part_of, database_of, after_mark, after_marks}
use Rattle.sky_model.specs.ShownRows.{rows_in}
use Rattle.sky_model.specs.Outcome.{Outcome, Checked, ◌>>=◌, does_marks, marks_of, abort, or_refused}
use Rattle.sky_model.specs.Allowed.{where_of, allowed}
use Rattle.sky_model.specs.Made.{takes_sight, looking, runs_if}
use Rattle.sky_model.specs.StepRows.{attempts}
use Rattle.sky_model.specs.Telling.{events_of_write, told_of, with_told, tells}
use Rattle.sky_model.specs.Reader.{shown_in, part_by_history, database_by_history, within_part}
use Rattle.sky_model.specs.Settling.{Turn, turn_of, behind_marks, marked, and_then, ready, resumed, goes_on, settles, settling, with_settling}
use Rattle.sky_model.specs.Calls.{row_form, form, making, statement, turn}
use Rattle.sky_model.specs.SessionMarks.{look_of, failure, entry_place, enters, failing}
use Rattle.sky_model.specs.Promises.{after_all}
use Rattle.sky_model.specs.StepNode.{node_does}
use Rattle.sky_histories.proofs.NodeCalls.{is_for_nodes, each-node}
use Rattle.sky_model.specs.DatabaseCalls.{DatabaseCall, stepped, entered, failed as failed_call, worked, served, database_does, database_part}
use Rattle.sky_model.specs.LawsOfWrites.{IsTold, WritesAreTold}
use Rattle.sky_histories.proofs.Marks.{database_of-mark, database_of-marks}
use Rattle.sky_histories.proofs.Lawful.{database-reads, past-behind}
use Rattle.sky_histories.proofs.StatementMarks.{each-first, each-rest, AnyReply, gives-map, gives-form, each-failure, given-settled, by_commit, none-first, EachMark}
use Rattle.sky_histories.proofs.GatedLemmas.{is_no_write, WritesNone, plain-if, plain-abort}
use Rattle.std.proofs.lemmas.Result.{IfOk-at_ok}
use Rattle.sky_model.proofs.Cases.{ok-then}
use Rattle.sky_histories.proofs.Resting.{behind-append}
use Rattle.sky_histories.proofs.Inserted.{Inserted, none, with_raised, with_put}
use Rattle.sky_histories.proofs.Telling.{EventMarks, told_by-events}
use Rattle.std.proofs.lemmas.Bool.{cond_both}
use Rattle.sky_model.specs.Daemon.{daemon_does}
use Rattle.sky_histories.proofs.DaemonTurns.{each-daemon_does}

-- the first of a list, and the rest
abbrev pub first : Mark → List Mark → Mark
first mark [] = mark
first mark (x ∷ xs) = x

abbrev pub rest : List Mark → List Mark
rest [] = []
rest (x ∷ xs) = xs

-- each write of a history is recorded in another one, which has it below
abbrev ToldIn : History → History → Type 0
ToldIn k h = (later : List Mark) (p : History) (whose : Whose) (t table : ℕ) (key : List Val) (old new : Option (List Val)) → h ≡ later ++ tabled (wrote whose t table key old new) ∷ p
    → IsTold k (tabled (wrote whose t table key old new)) p

-- and in itself
abbrev pub AllTold : History → Type 0
AllTold h = ToldIn h h

none-told : (k : History) → ToldIn k []
none-told k [] p whose t table key old new e = absurd (cc)
none-told k (x ∷ later) p whose t table key old new e = absurd (cc)

-- it still is with more on top of the one
is-told-later : (k : History) (mark write : Mark) (p : History) → IsTold k write p → IsTold (mark ∷ k) write p
is-told-later k mark write p is = record { time = is.time; events = is.events; told = is.told; later = mark ∷ is.later; stands = ap (λ h. mark ∷ h) is.stands }

told-later : (k h : History) (marks : List Mark) → ToldIn k h → ToldIn (marked k marks) h
told-later k h [] told = told
told-later k h (mark ∷ marks) told =
    told-later (mark ∷ k) h marks (λ later p whose t table key old new e. is-told-later k mark (tabled (wrote whose t table key old new)) p (told later p whose t table key old new e))

-- and with more on top of the other, among which there is no write
told-push : (k h : History) (mark : Mark) → WritesNone (mark ∷ []) → ToldIn k h → ToldIn k (mark ∷ h)
told-push k h mark plain told [] p whose t table key old new e = absurd (subst (λ x. WritesNone (x ∷ [])) (ap (first mark) e) plain)
told-push k h mark plain told (x ∷ later) p whose t table key old new e = told later p whose t table key old new (ap rest e)

told-behind : (k h : History) (marks : List Mark) → WritesNone marks → ToldIn k h → ToldIn k (marked h marks)
told-behind k h [] plain told = told
told-behind k h (mark ∷ marks) plain told =
    told-behind k (mark ∷ h) marks (each-rest is_no_write mark marks plain) (told-push k h mark (each-first is_no_write mark marks [] plain tt) told)

plain-told : (h : History) (marks : List Mark) → WritesNone marks → AllTold h → AllTold (marked h marks)
plain-told h marks plain told = told-behind (marked h marks) h marks plain (told-later h h marks told)

-- ---- a write, and what records it

pub events-plain : (marks : List Mark) → Inserted [] marks → WritesNone marks
events-plain _ none = tt
events-plain _ (with_raised {ys = ys} queue value more) = events-plain ys more
events-plain _ (with_put {ys = ys} queue event more) = events-plain ys more

write-told : (h : History) (time : ℤ) (write : Mark) (events : List Mark) → told_of (database_of (write ∷ h)) time write ≡ Ok events → AllTold h → ToldIn (marked (write ∷ h) events) (write ∷ h)
write-told h time write events same told [] p whose t table key old new e =
    subst (λ x. IsTold (marked (write ∷ h) events) (first write x) (rest x)) e (record { time = time; events = events; told = same; later = []; stands = refl })
write-told h time write events same told (x ∷ later) p whose t table key old new e =
    told-later h h (write ∷ events) told later p whose t table key old new (ap rest e)

-- after a mark and what records it, or if that is refused
abbrev MarkTold : History → Checked (List Mark) → Type 0
MarkTold h x = IfOk x (λ marks. AllTold (marked h marks))

mark-told : (h : History) → AllTold h → (now : ℤ) (mark : Mark) → MarkTold (mark ∷ h) (told_of (database_of (mark ∷ h)) now mark)
mark-told h told now (tabled (wrote (of_session who) t table key old new)) =
    of (told_of (database_of (write ∷ h)) now write) refl (told_by-events (database_of (write ∷ h)) now t (events_of_write (database_of (write ∷ h)) table old new))
  where
    write : Mark
    write = tabled (wrote (of_session who) t table key old new)

    of : (x : Checked (List Mark)) → told_of (database_of (write ∷ h)) now write ≡ x → EventMarks x → MarkTold (write ∷ h) x
    of (Ok events) same only = told-behind (marked (write ∷ h) events) (write ∷ h) events (events-plain events only) (write-told h now write events same told)
    of (Err refusal) same only = tt
mark-told h told now (tabled (wrote of_worker t table key old new)) = write-told h now (tabled (wrote of_worker t table key old new)) [] refl told
mark-told h told now (tabled (wrote (of_copy n) t table key old new)) = write-told h now (tabled (wrote (of_copy n) t table key old new)) [] refl told
mark-told h told now mark = plain-told h (mark ∷ []) tt told

with_told-told : (h : History) → AllTold h → (now : ℤ) (marks : List Mark) → MarkTold h (with_told (database_of h) now marks)
with_told-told h told now [] = told
with_told-told h told now (mark ∷ marks) =
    ok-then _ (told_of (after_mark (database_of h) mark) now mark) _ (λ events same.
    let g : History = marked (mark ∷ h) events in
    let all : AllTold g = IfOk-at_ok _ same (subst (λ d. MarkTold (mark ∷ h) (told_of d now mark)) (database_of-mark h mark) (mark-told h told now mark)) in
    ok-then _ (with_told (after_marks (database_of h) (mark ∷ events)) now marks) _ (λ more is. subst AllTold (sym (behind-append part_by_history (mark ∷ h) events more))
    (IfOk-at_ok _ is (subst (λ d. MarkTold g (with_told d now marks)) (database_of-marks h (mark ∷ events)) (with_told-told g all now marks)))))

-- ---- a statement

tells-told : (h : History) → AllTold h → (now : ℤ) (who : ℕ) (s : Session) (c : Checked Outcome) → AllTold (marked h (or_refused who s (tells (database_of h) now c)).marks)
tells-told h told now who s (Err refusal) = plain-told h (abort who s.block s.txid refusal) (plain-abort who s.block s.txid refusal) told
tells-told h told now who s (Ok o) = of (with_told (database_of h) now o.marks) (with_told-told h told now o.marks)
  where
    of : (x : Checked (List Mark)) → MarkTold h x → AllTold (marked h (or_refused who s (x >>= (λ marks. does_marks o.reply marks))).marks)
    of (Ok marks) all = all
    of (Err refusal) all = plain-told h (abort who s.block s.txid refusal) (plain-abort who s.block s.txid refusal) told

form-plain : (h : History) → AllTold h → (now : ℤ) (who : ℕ) (stmt : DbStmt) → (permit_of stmt).kinds.writes ≡ false
    → AllTold (marked h (or_refused who (session h who) (form (database_of h) (shown_in h) now who stmt)).marks)
form-plain h told now who stmt quiet =
    let k : MarkKinds = (permit_of stmt).kinds in
    let done : Checked Outcome = form (database_of h) (shown_in h) now who stmt in
    plain-told h (or_refused who (session h who) done).marks
    (given-settled AnyReply is_no_write (λ _. tt) (plain-if of_any refl) who (session h who) done
    (gives-map AnyReply AnyReply (may_leave k (session h who) who) is_no_write (λ reply any. any) (plain-if k quiet (session h who) who) done (gives-form who (database_of h) (shown_in h) now stmt))).1 told

-- a statement on queues writes no key
writes-none : (stmt : QueueStmt) → (permit_of_queue stmt).kinds.writes ≡ false
writes-none (InsertEvent event) = refl
writes-none _ = refl

form-told : (h : History) → AllTold h → (now : ℤ) (who : ℕ) (stmt : DbStmt) → AllTold (marked h (or_refused who (session h who) (form (database_of h) (shown_in h) now who stmt)).marks)
form-told h told now who (Row stmt) =
    by_commit (λ s. AllTold (marked h (or_refused who (session h who) (form (database_of h) (shown_in h) now who (Row s))).marks)) (form-plain h told now who (Row Commit) refl)
    (λ s still. subst (λ c. AllTold (marked h (or_refused who (session h who) c).marks)) (sym (none-first (database_of h) now who s _ still)) (tells-told h told now who (session h who) (row_form (part_of h) (rows_in h) who s))) stmt
form-told h told now who (Queue stmt) = form-plain h told now who (Queue stmt) (writes-none stmt)

runs-told : (h : History) → AllTold h → (now : ℤ) (who : ℕ) (stmt : DbStmt) (may : Checked (Unit {0})) → AllTold (marked h (runs_if (making database_by_history now who stmt) (where_of stmt) who h may).marks)
runs-told h told now who stmt (Err refusal) = plain-told h (abort who (session h who).block (session h who).txid refusal) (plain-abort who (session h who).block (session h who).txid refusal) told
runs-told h told now who stmt (Ok _) =
    cond_both (takes_sight (where_of stmt) (session h who).sight) (looking who (or_refused who (session (sight_taken who ∷ h) who) (form (database_of (sight_taken who ∷ h)) (shown_in (sight_taken who ∷ h)) now who stmt))) _ (λ o. AllTold (marked h o.marks))
    (λ _. form-told (sight_taken who ∷ h) (plain-told h (sight_taken who ∷ []) tt told) now who stmt) (λ _. form-told h told now who stmt)

statement-told : (h : History) → AllTold h → (now : ℤ) (who : ℕ) (stmt : DbStmt) → AllTold (marked h (statement database_by_history h now who stmt).marks)
statement-told h told now who stmt = runs-told h told now who stmt (allowed (is_waiting who (waiting h)) (has_open who h) (block who h) (where_of stmt))

-- ---- what it unblocks

then-told : (now : ℤ) (h : History) (turn : Turn) (next : History → Turn) → AllTold (marked h turn.marks) → ((g : History) → AllTold g → AllTold (marked g (next g).marks))
    → AllTold (marked h (and_then (within_part database_by_history now) h turn next).marks)
then-told now h turn next all also =
    subst AllTold (sym (behind-append part_by_history h turn.marks (next (behind_marks (within_part database_by_history now) h turn.marks)).marks))
    (subst (λ g. AllTold (marked (marked h turn.marks) (next g).marks)) (sym (past-behind (within_part database_by_history now) (λ g. g) (database-reads now) h turn.marks))
    (also (marked h turn.marks) all))

resumed-told : (now : ℤ) (h : History) → AllTold h → (w : Waiting) → AllTold (marked h (resumed (within_part database_by_history now) h w).marks)
resumed-told now h told w =
    tells-told behind (plain-told h (tabled (waited w.who) ∷ []) tt told) now w.who (session behind w.who)
    (attempts (part_of behind) ((rows_in behind).key w.who w.table w.key) w.who w.table w.key ((part_of h).attempt w.who))
  where
    behind : History
    behind = tabled (waited w.who) ∷ h

goes_on-told : (now : ℤ) (h : History) → AllTold h → (next : History → Turn) (o : Option Waiting) → ((g : History) → AllTold g → AllTold (marked g (next g).marks))
    → AllTold (marked h (goes_on (within_part database_by_history now) h next o).marks)
goes_on-told now h told next None also = told
goes_on-told now h told next (Some w) also = then-told now h (resumed (within_part database_by_history now) h w) next (resumed-told now h told w) also

settles-told : (now : ℤ) (n : ℕ) (h : History) → AllTold h → AllTold (marked h (settles (within_part database_by_history now) n h).marks)
settles-told now zero h told = told
settles-told now (suc n) h told = goes_on-told now h told (settles (within_part database_by_history now) n) (ready (part_of h)) (settles-told now n)

with_settling-told : (now : ℤ) (h : History) (turn : Turn) → AllTold (marked h turn.marks) → AllTold (marked h (with_settling (within_part database_by_history now) h turn).marks)
with_settling-told now h turn all = then-told now h turn (settling (within_part database_by_history now)) all (λ g told. settles-told now (length (waiting g)) g told)

-- ---- calls

enters-told : (h : History) → AllTold h → (who : ℕ) (sight : Bool) (may : Checked (Unit {0})) → AllTold (marked h (enters who (look_of who sight) may).marks)
enters-told h told who true (Ok _) = plain-told h (sight_taken who ∷ []) tt told
enters-told h told who false (Ok _) = told
enters-told h told who sight (Err refusal) = told

-- a call for a node writes nothing that is recorded
nodes-told : (h : History) (marks : List Mark) → EachMark is_for_nodes marks → AllTold h → AllTold (marked h marks)
nodes-told h [] all told = told
nodes-told h (tabled (wrote (of_session who) t table key old new) ∷ marks) all told = absurd all
nodes-told h (tabled (wrote of_worker t table key old new) ∷ marks) all told =
    let write : Mark = tabled (wrote of_worker t table key old new) in nodes-told (write ∷ h) marks all (write-told h (pos 0) write [] refl told)
nodes-told h (tabled (wrote (of_copy n) t table key old new) ∷ marks) all told =
    let write : Mark = tabled (wrote (of_copy n) t table key old new) in nodes-told (write ∷ h) marks all (write-told h (pos 0) write [] refl told)
nodes-told h (mark ∷ marks) all told = nodes-told (mark ∷ h) marks (each-rest is_for_nodes mark marks all) (plain-told h (mark ∷ []) tt told)

does-told : (h : History) → AllTold h → (call : DatabaseCall) → AllTold (marked h (database_does database_by_history h call).marks)
does-told h told (stepped who stmt now) = with_settling-told now h (turn_of who (statement database_by_history h now who stmt)) (statement-told h told now who stmt)
does-told h told (entered who alone) =
    enters-told h told who (takes_sight (entry_place alone) (session h who).sight) (allowed (is_waiting who (waiting h)) (has_open who h) (block who h) (entry_place alone))
does-told h told (worked part now) =
    plain-told h (daemon_does database_by_history h part now).marks (each-daemon_does is_no_write now (λ mark _. refl) (λ r. refl) (λ t. refl) (λ t. refl) database_by_history h part) told
does-told h told (served call) = nodes-told h (marks_of (node_does (database_of h) call)) (each-node is_for_nodes (λ mark is. is) (database_of h) call) told
does-told h told (failed_call who now) =
    with_settling-told now h (failing (part_of h) who) (plain-told h (failure who (own_txid who h) (block who h)) (each-failure AnyReply is_no_write (λ _. tt) (plain-if of_any refl) who (own_txid who h) (block who h)) told)

told_calls : (calls : List DatabaseCall) → AllTold (after_all database_part calls)
told_calls [] = none-told []
told_calls (call ∷ calls) = does-told (after_all database_part calls) (told_calls calls) call

pub writes_are_told : WritesAreTold
writes_are_told calls = told_calls calls
