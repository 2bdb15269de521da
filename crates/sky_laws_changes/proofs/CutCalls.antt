-- Calls in form cut their history.
use Rattle.std.proofs.Common.{◌≡◌, ℕ, zero, suc, ℤ, nat_le, List, [], ◌∷◌, ◌++◌, Bool, true, false, not, ◌&&◌, ◌==◌, Option, Some, None, Ok, Err, IfOk, IfSome, All, is_some, length, refl, sym, ◌∙◌, ap, subst, if◌then◌else◌, option_map}
use Rattle.std.proofs.lemmas.Bool.{cond_both, not-true}
use Rattle.std.proofs.lemmas.List.Elements.{All-head, All-tail}
use Rattle.std.proofs.lemmas.Result.{IfOk-at_ok}
use Rattle.std.specs.List.{list_any}
use Rattle.sky_val.specs.declared.val.Val.{Val}
use Rattle.sky_keys.specs.Waits.{Waiting, is_waiting}
use Rattle.sky_names.specs.Places.{place_of}
use Rattle.pgq_retry.specs.declared.retry.Retry as retry
use Rattle.pgq_retry.specs.Retries.{due_now}
use Rattle.londiste_state.specs.Nodes.{Node, of_root, of_leaf}
use Rattle.sky_model.specs.declared.stmt.Attempt.TheVariants.{Deletion}
use Rattle.sky_model.specs.declared.stmt.DbStmt.{DbStmt}
use Rattle.sky_model.specs.declared.stmt.DbStmt.TheVariants.{Row, Queue}
use Rattle.sky_model.specs.declared.stmt.QueueStmt.TheVariants.{InsertEvent, MaintRetryEvents, MaintRotateStep2}
use Rattle.sky_model.specs.declared.stmt.RowStmt.{RowStmt}
use Rattle.sky_model.specs.declared.stmt.InsertedEvent.{InsertedEvent}
use Rattle.sky_model.specs.declared.daemon.DaemonPart.{DaemonPart}
use Rattle.sky_model.specs.declared.daemon.DaemonPart.TheVariants as part
use Rattle.sky_model.specs.declared.reply.Refusal.{Refusal}
use Rattle.sky_model.specs.declared.reply.Reply.TheVariants.{Done, Null}
use Rattle.sky_model.specs.declared.reply.Refusal.TheVariants.{NoQueue, ReservedType, QueueExists, TooMany, TableBusy}
use Rattle.sky_model.specs.declared.reply.Limit.TheVariants.{Queues, Triggers}
use Rattle.sky_model.specs.InForm.{IsDbInForm, IsRowInForm}
use Rattle.sky_model.specs.History.{Mark, of_session, of_worker, of_copy, began, ended, sight_taken, tabled, wrote, waits, waited, queued, raised, put, returned, traced, untraced, noded, root_made, set_added, set_removed, leaf_made, leaf_added, copied, restarted, applied, hold_begun, hold_ended, read_only, History, QueueMark, ticked}
use Rattle.sky_model.specs.Permits.{of_any, permit_of_row, permit_of}
use Rattle.sky_model.specs.Sessions.{Block, session, has_open, block, own_txid}
use Rattle.sky_model.specs.Locks.{waiting, attempt}
use Rattle.sky_model.specs.Nodes.{node, is_leaf, is_set_queue}
use Rattle.sky_model.specs.Queues.{NamedQueue, queues, queue_number}
use Rattle.sky_model.specs.Retries.{retries, brought_by}
use Rattle.sky_model.specs.State.{part_of, queue_of, database_of, after_mark, after_marks}
use Rattle.sky_model.specs.ShownRows.{rows_in, least_writer}
use Rattle.sky_model.specs.Outcome.{Outcome, Checked, ◌>>=◌, ◌>>◌, refused_if, refused_by, answers, found_or, does_marks, reply_of, marks_of, abort, or_refused}
use Rattle.sky_model.specs.OwnTransaction.{begin_of, commit_of, next_id, txid_for, in_own}
use Rattle.sky_model.specs.Allowed.{where_of, allowed}
use Rattle.sky_model.specs.Made.{takes_sight, looking, runs_if}
use Rattle.sky_model.specs.StepRows.{attempts}
use Rattle.sky_model.specs.StepQueue.{next_tick, next_event_id, tells_of_rows, made_event, insert_event}
use Rattle.sky_model.specs.StepRetry.{back, brings, most_back, maint_retry_events}
use Rattle.sky_model.specs.Rows.{table_names}
use Rattle.sky_model.specs.Triggers.{triggers, triggers_of}
use Rattle.sky_model.specs.Copies.{copies, copy_txid, Hold, holds}
use Rattle.sky_model.specs.StepCopy.{given_up}
use Rattle.sky_model.specs.StepApply.{applies_batch}
use Rattle.sky_model.specs.StepNode.{makes_root, making_root, set_queue, lists as lists_table, NodeCall, making_leaf, adding, removing, moving, listing, unlisting, beginning_copy, copying_rows, ending_copy, giving_up_copy, applying, holding, letting_go, if_there, may_copy, may_serve, call_form, node_does}
use Rattle.sky_model.specs.Promises.{after_all}
use Rattle.sky_model.specs.DatabaseCalls.{DatabaseCall, stepped, entered, failed as failed_call, worked, served, IsDatabaseCallInForm, database_does, database_part}
use Rattle.sky_model.specs.StepRotation.{held_back, rotates_by_itself, maint_rotate_step2}
use Rattle.sky_model.specs.SessionMarks.{look_of, failure, entry_place, enters, failing}
use Rattle.sky_model.specs.Daemon.{quietly, ticks_of, daemon_does, retries_of, moved_by, again_if, first_steps_of, second_step_of_all}
use Rattle.sky_model.specs.Telling.{events_of_write, told_of, with_told, tells}
use Rattle.sky_model.specs.Reader.{shown_in, part_by_history, database_by_history, within_part}
use Rattle.sky_model.specs.Settling.{Turn, turn_of, behind_marks, marked, and_then, ready, resumed, goes_on, settles, settling, with_settling}
use Rattle.sky_model.specs.Calls.{row_form, form, making, statement}
use Rattle.sky_histories.proofs.NodeReadings.{no-node, same-node}
use Rattle.sky_histories.proofs.NodeCalls.{is_for_consumers, is_consumers, gives-consumers}
use Rattle.sky_histories.proofs.CopyCalls.{is_for_copies, is_copies, gives-copies}
use Rattle.sky_histories.proofs.ApplyCalls.{is_for_applying, gives-applies, applies-leaf}
use Rattle.sky_histories.proofs.Histories.{stands_calls}
use Rattle.sky_histories.proofs.Legal.{queue_of_set}
use Rattle.sky_histories.proofs.Marks.{database_of-mark, database_of-marks}
use Rattle.sky_histories.proofs.Lawful.{database-reads, past-behind}
use Rattle.sky_histories.proofs.Resting.{behind-append}
use Rattle.sky_histories.proofs.StatementMarks.{either, EachMark, each-abort, each-failure, gives-tick, when-true, each-rest, each-given, AnyReply, by_commit, none-first, each-map, is_tick}
use Rattle.sky_histories.proofs.SetQueues.{not-sets}
use Rattle.sky_histories.proofs.Good.{same-session}
use Rattle.sky_histories.proofs.Inserted.{none, with_raised, with_put}
use Rattle.sky_histories.proofs.Telling.{EventMarks, told_by-events}
use Rattle.sky_model.proofs.Cases.{by_test, by_block, ok-then}
use Rattle.sky_laws_changes.proofs.HeldValues.{AreHeld, HeldAttempt}
use Rattle.sky_laws_changes.proofs.HeldRows.{shown-held}
use Rattle.sky_laws_changes.proofs.RowMarks.{Each, RowMark, MarkKinds, row-attempts, row-leaves}
use Rattle.sky_laws_changes.proofs.PlainMarks.{is_plain, plain-mark, PlainLeaves, are_plain, plain-if, plain-form, plain-alone}
use Rattle.sky_laws_changes.proofs.Cuts.{write_of, Tracing, Cut, nothing, plain, writes, leaf_writes, inserts, returns, lists, unlists, roots, Events, node-events, told-only, cut-held}

-- plain marks
pub cut-plain : (h : History) (marks : List Mark) → EachMark is_plain marks → Cut h → Cut (marked h marks)
cut-plain h [] all cut = cut
cut-plain h (mark ∷ marks) all cut =
    cut-plain (mark ∷ h) marks (each-rest is_plain mark marks all) (plain mark cut (plain-mark mark (when-true (EachMark is_plain marks) (is_plain mark) all)))

cut-abort : (h : History) (who : ℕ) (refusal : Refusal) → Cut h → Cut (marked h (abort who (block who h) (own_txid who h) refusal))
cut-abort h who refusal cut =
    cut-plain h (abort who (block who h) (own_txid who h) refusal) (each-abort AnyReply is_plain (λ _. tt) (plain-if of_any refl) who (block who h) (own_txid who h) refusal) cut

-- what is so of no marks, and of those of a call that isn't refused
module _ (P : List Mark → Type 0) (none : P []) where
  after-test : (b : Bool) (refusal : Refusal) (c : Checked Outcome) → (b ≡ false → P (marks_of c)) → P (marks_of (refused_if b refusal >> c))
  after-test true refusal c is = none
  after-test false refusal c is = is refl

  after-refused : (o : Option Refusal) (c : Checked Outcome) → P (marks_of c) → P (marks_of (refused_by o >> c))
  after-refused None c is = is
  after-refused (Some refusal) c is = none

  after-checked : {A : Type 0} (x : Checked A) (next : A → Checked Outcome) → ((a : A) → P (marks_of (next a))) → P (marks_of (x >>= next))
  after-checked (Ok a) next is = is a
  after-checked (Err refusal) next is = none

  after-found : {A : Type 0} (o : Option A) (refusal : Refusal) (next : A → Checked Outcome) → ((a : A) → o ≡ Some a → P (marks_of (next a))) → P (marks_of (found_or o refusal >>= next))
  after-found None refusal next is = none
  after-found (Some a) refusal next is = is a refl

  after-there : {A : Type 0} (o : Option A) (next : A → Checked Outcome) → ((a : A) → P (marks_of (next a))) → P (marks_of (if_there o next))
  after-there None next is = none
  after-there (Some a) next is = is a

-- what a call leaves that isn't refused
abbrev Cuts : History → Checked Outcome → Type 0
Cuts h c = Cut (marked h (marks_of c))

-- a statement, if what it does when it isn't refused is cut
cut-settled : (h : History) → Cut h → (who : ℕ) (c : Checked Outcome) → Cuts h c → Cut (marked h (or_refused who (session h who) c).marks)
cut-settled h cut who (Ok o) also = also
cut-settled h cut who (Err refusal) also = cut-abort h who refusal cut

-- what leaves plain marks alone
plain-cut : (h : History) → Cut h → (c : Checked Outcome) → PlainLeaves c → Cuts h c
plain-cut h cut c all = cut-plain h (marks_of c) (each-given AnyReply is_plain c all) cut

-- ---- writes and what records them

-- a rule that is strict unless the database is a leaf's
abbrev IsStrict : Bool → History → Type 0
IsStrict strict h = is_leaf (node h) ≡ false → strict ≡ true

record CutOn (strict : Bool) (h : History) : Type 0 where
  cut : Cut h
  rule : IsStrict strict h

mark-cut : (strict : Bool) (h : History) → CutOn strict h → (now : ℤ) (mark : Mark) → RowMark strict mark
    → IfOk (told_of (database_of (mark ∷ h)) now mark) (λ events. CutOn strict (marked (mark ∷ h) events))
mark-cut strict h c now (tabled (wrote (of_session who) t table key old new)) is =
    of (told_of (database_of (write ∷ h)) now write) refl (told_by-events (database_of (write ∷ h)) now t (events_of_write (database_of (write ∷ h)) table old new))
  where
    write : Mark
    write = write_of who t table key old new

    of : (x : Checked (List Mark)) → told_of (database_of (write ∷ h)) now write ≡ x → EventMarks x → IfOk x (λ events. CutOn strict (marked (write ∷ h) events))
    of (Ok events) same only = record {
      cut = writes who t table key old new now events c.cut same is.0 (λ free. is.1 (c.rule free));
      rule = subst (λ n. is_leaf n ≡ false → strict ≡ true) (sym (node-events (write ∷ h) events only)) c.rule;
    }
    of (Err refusal) same only = tt
mark-cut strict h c now (tabled (wrote of_worker t table key old new)) is = absurd is
mark-cut strict h c now (tabled (wrote (of_copy n) t table key old new)) is = absurd is
mark-cut strict h c now (queued mark) is = absurd is
mark-cut strict h c now (noded mark) is = absurd is
mark-cut strict h c now mark is = record { cut = plain mark c.cut is; rule = c.rule }

with_told-cut : (strict : Bool) (h : History) → CutOn strict h → (now : ℤ) (marks : List Mark) → Each (RowMark strict) marks → IfOk (with_told (database_of h) now marks) (λ all. CutOn strict (marked h all))
with_told-cut strict h c now [] is = c
with_told-cut strict h c now (mark ∷ marks) is =
    ok-then _ (told_of (after_mark (database_of h) mark) now mark) _ (λ events same.
    let g : History = marked (mark ∷ h) events in
    let all : CutOn strict g = IfOk-at_ok _ same (subst (λ d. IfOk (told_of d now mark) (λ es. CutOn strict (marked (mark ∷ h) es))) (database_of-mark h mark) (mark-cut strict h c now mark is.0)) in
    ok-then _ (with_told (after_marks (database_of h) (mark ∷ events)) now marks) _ (λ more is_more. subst (CutOn strict) (sym (behind-append part_by_history (mark ∷ h) events more))
    (IfOk-at_ok _ is_more (subst (λ d. IfOk (with_told d now marks) (λ es. CutOn strict (marked g es))) (database_of-marks h (mark ∷ events)) (with_told-cut strict g all now marks is.1)))))

abbrev strict_at : History → Bool
strict_at h = not (is_leaf (node h))

on-rule : (h : History) → Cut h → CutOn (strict_at h) h
on-rule h cut = record { cut = cut; rule = λ free. ap not free }

tells-cut : (h : History) → Cut h → (now : ℤ) (who : ℕ) (c : Checked Outcome) → MarkKinds (RowMark (strict_at h)) c → Cut (marked h (or_refused who (session h who) (tells (database_of h) now c)).marks)
tells-cut h cut now who (Err refusal) all = cut-abort h who refusal cut
tells-cut h cut now who (Ok o) all = of (with_told (database_of h) now o.marks) (with_told-cut (strict_at h) h (on-rule h cut) now o.marks all)
  where
    of : (x : Checked (List Mark)) → IfOk x (λ ms. CutOn (strict_at h) (marked h ms)) → Cut (marked h (or_refused who (session h who) (x >>= (λ marks. does_marks o.reply marks))).marks)
    of (Ok marks) c = c.cut
    of (Err refusal) c = cut-abort h who refusal cut

-- what keys show is held, unless the database is a leaf's
shows-held : (h : History) → Cut h → strict_at h ≡ true → (who n : ℕ) (key : List Val) → IfSome ((rows_in h).key who n key).row AreHeld
shows-held h cut strict who n key = shown-held h (cut-held h cut (not-true (is_leaf (node h)) strict)) who n key

-- ---- statements

-- one on rows that makes a table, writes or waits
row-cut : (h : History) → Cut h → (now : ℤ) (who : ℕ) (stmt : RowStmt) → are_plain (permit_of_row stmt).kinds ≡ false → IsRowInForm stmt
    → Cut (marked h (or_refused who (session h who) (form (database_of h) (shown_in h) now who (Row stmt))).marks)
row-cut h cut now who stmt =
    by_commit (λ s. are_plain (permit_of_row s).kinds ≡ false → IsRowInForm s → Cut (marked h (or_refused who (session h who) (form (database_of h) (shown_in h) now who (Row s))).marks))
    (λ e is. absurd (cc))
    (λ s still e is. subst (λ c. Cut (marked h (or_refused who (session h who) c).marks)) (sym (none-first (database_of h) now who s _ still))
    (tells-cut h cut now who (row_form (part_of h) (rows_in h) who s) (row-leaves (strict_at h) who (part_of h) (rows_in h) (shows-held h cut) s e is))) stmt

-- `insert_event`
insert-cut : (h : History) → Cut h → (now : ℤ) (who : ℕ) (event : InsertedEvent) → Cuts h (insert_event (database_of h) now who event)
insert-cut h cut now who event =
    after-found P cut (queue_number event.queue (queues h)) (NoQueue event.queue) _ (λ q found. after-test P cut (is_set_queue event.queue (node h) && tells_of_rows event.ev_type) ReservedType _ (λ may.
    after-checked P cut (txid_for (part_of h) who) _ (λ t. after-checked P cut (next_event_id ((database_of h).queue q)) _ (λ id. puts q t id (may-put q found may)))))
  where
    P : List Mark → Type 0
    P marks = Cut (marked h marks)

    marks_in : (q t id : ℕ) → List Mark
    marks_in q t id = queued (raised q id) ∷ queued (put q (made_event id now t event.ev_type event.ev_data event.extra)) ∷ []

    puts : (q t id : ℕ) → (queue_of_set (queues h) (node h) ≡ Some q → tells_of_rows event.ev_type ≡ false) → P (in_own who t (session h who) (marks_in q t id))
    puts q t id may = of (own_txid who h)
      where
        ends : (g : History) → Cut g → (b : Block) → Cut (marked g (commit_of who t b))
        ends g c b = by_block (λ b. Cut (marked g (commit_of who t b))) (plain (ended (of_session who) t true) c tt) c c b

        of : (o : Option ℕ) → P (begin_of who t o ++ marks_in q t id ++ commit_of who t (block who h))
        of None = ends _ (inserts q id (made_event id now t event.ev_type event.ev_data event.extra) (plain (began (of_session who) t) cut tt) may) (block who h)
        of (Some own) = ends _ (inserts q id (made_event id now t event.ev_type event.ev_data event.extra) cut may) (block who h)

    may-put : (q : ℕ) → queue_number event.queue (queues h) ≡ Some q → (is_set_queue event.queue (node h) && tells_of_rows event.ev_type) ≡ false → queue_of_set (queues h) (node h) ≡ Some q → tells_of_rows event.ev_type ≡ false
    may-put q found both set =
        by_test (λ b. is_set_queue event.queue (node h) ≡ b → (b && tells_of_rows event.ev_type) ≡ false → tells_of_rows event.ev_type ≡ false) (is_set_queue event.queue (node h)) (λ _ _ e. e)
        (λ _ other _. absurd (cc (sym (same-session q) ∙ subst (λ o. IfSome o (λ set. (set == q) ≡ false)) set (not-sets h event.queue q found other)))) refl both

-- retries that come back
cut-back : (h : History) (now : ℤ) (t : ℕ) (rs : List retry.Retry) → Cut h → Cut (marked h (back now t rs ++ ended of_worker t true ∷ []))
cut-back h now t [] cut = plain (ended of_worker t true) cut tt
cut-back h now t (r ∷ rs) cut = cut-back (queued (returned r now) ∷ queued (put r.queue (brought_by t r.event)) ∷ h) now t rs (returns r t now cut)

cut-brings : (h : History) (now : ℤ) (rs : List retry.Retry) → Cut h → Cuts h (brings (database_of h) now rs)
cut-brings h now [] cut = cut
cut-brings h now (r ∷ rs) cut =
    after-checked (λ marks. Cut (marked h marks)) cut (next_id (part_of h)) _ (λ t. cut-back (began of_worker t ∷ h) now t (r ∷ rs) (plain (began of_worker t) cut tt))

plain-form-cut : (h : History) → Cut h → (now : ℤ) (who : ℕ) (stmt : DbStmt) → are_plain (permit_of stmt).kinds ≡ true
    → Cut (marked h (or_refused who (session h who) (form (database_of h) (shown_in h) now who stmt)).marks)
plain-form-cut h cut now who stmt all =
    let c : Checked Outcome = form (database_of h) (shown_in h) now who stmt in
    cut-settled h cut who c (plain-cut h cut c (plain-form (database_of h) (shown_in h) now who stmt all))

form-cut : (h : History) → Cut h → (now : ℤ) (who : ℕ) (stmt : DbStmt) → IsDbInForm stmt → Cut (marked h (or_refused who (session h who) (form (database_of h) (shown_in h) now who stmt)).marks)
form-cut h cut now who (Queue (InsertEvent event)) is =
    cut-settled h cut who (insert_event (database_of h) now who event) (insert-cut h cut now who event)
form-cut h cut now who (Queue MaintRetryEvents) is = cut-settled h cut who (maint_retry_events (database_of h) now) (cut-brings h now (due_now now most_back (retries h)) cut)
form-cut h cut now who (Queue stmt) is = plain-form-cut h cut now who (Queue stmt) refl
form-cut h cut now who (Row stmt) is =
    by_test (λ b. Cut (marked h (or_refused who (session h who) (form (database_of h) (shown_in h) now who (Row stmt))).marks)) (are_plain (permit_of_row stmt).kinds)
    (plain-form-cut h cut now who (Row stmt)) (λ e. row-cut h cut now who stmt e is)

runs-cut : (h : History) → Cut h → (now : ℤ) (who : ℕ) (stmt : DbStmt) → IsDbInForm stmt → (may : Checked (Unit {0})) → Cut (marked h (runs_if (making database_by_history now who stmt) (where_of stmt) who h may).marks)
runs-cut h cut now who stmt is (Err refusal) = cut-abort h who refusal cut
runs-cut h cut now who stmt is (Ok _) =
    cond_both (takes_sight (where_of stmt) (session h who).sight) (looking who (or_refused who (session (sight_taken who ∷ h) who) (form (database_of (sight_taken who ∷ h)) (shown_in (sight_taken who ∷ h)) now who stmt))) _ (λ o. Cut (marked h o.marks))
    (λ _. form-cut (sight_taken who ∷ h) (plain (sight_taken who) cut tt) now who stmt is) (λ _. form-cut h cut now who stmt is)

statement-cut : (h : History) → Cut h → (now : ℤ) (who : ℕ) (stmt : DbStmt) → IsDbInForm stmt → Cut (marked h (statement database_by_history h now who stmt).marks)
statement-cut h cut now who stmt is = runs-cut h cut now who stmt is (allowed (is_waiting who (waiting h)) (has_open who h) (block who h) (where_of stmt))

-- ---- what it unblocks

-- what a session that waits attempts is held
attempt-held : (h : History) → Cut h → (who : ℕ) → HeldAttempt (attempt who h)
attempt-held _ nothing who = tt
attempt-held _ (plain {h = h} (tabled (waits w table key attempted)) cut is) who = by_test (λ b. HeldAttempt (if b then attempted else attempt who h)) (w == who) (λ _. is) (λ _. attempt-held h cut who)
attempt-held _ (plain {h = h} (tabled (waited w)) cut is) who = by_test (λ b. HeldAttempt (if b then Deletion else attempt who h)) (w == who) (λ _. tt) (λ _. attempt-held h cut who)
attempt-held _ (plain {h = h} mark cut is) who = attempt-held h cut who
attempt-held _ (writes {h = h} w t table key old new time events cut told some held) who =
    subst HeldAttempt (sym (attempt-events (write_of w t table key old new ∷ h) events (told-only h time (write_of w t table key old new) events told) who)) (attempt-held h cut who)
  where
    attempt-events : (g : History) (marks : List Mark) → Events marks → (who : ℕ) → attempt who (marked g marks) ≡ attempt who g
    attempt-events g _ none who = refl
    attempt-events g _ (with_raised {ys = ys} queue value more) who = attempt-events (queued (raised queue value) ∷ g) ys more who
    attempt-events g _ (with_put {ys = ys} queue event more) who = attempt-events (queued (put queue event) ∷ g) ys more who
attempt-held _ (leaf_writes {h = h} whose t table key old new cut leaf) who = attempt-held h cut who
attempt-held _ (inserts {h = h} q value e cut is) who = attempt-held h cut who
attempt-held _ (returns {h = h} retry t moment cut) who = attempt-held h cut who
attempt-held _ (lists {h = h} name table q cut traces) who = attempt-held h cut who
attempt-held _ (unlists {h = h} name table cut traces) who = attempt-held h cut who
attempt-held _ (roots {h = h} name queue t time cut bare) who = attempt-held h cut who

abbrev StaysCut : History → Turn → Type 0
StaysCut h turn = Cut (marked h turn.marks)

then-cut : (now : ℤ) (h : History) (turn : Turn) (next : History → Turn) → StaysCut h turn → ((g : History) → Cut g → StaysCut g (next g)) → StaysCut h (and_then (within_part database_by_history now) h turn next)
then-cut now h turn next cut also =
    subst Cut (sym (behind-append part_by_history h turn.marks (next (behind_marks (within_part database_by_history now) h turn.marks)).marks))
    (subst (λ g. Cut (marked (marked h turn.marks) (next g).marks)) (sym (past-behind (within_part database_by_history now) (λ g. g) (database-reads now) h turn.marks))
    (also (marked h turn.marks) cut))

resumed-cut : (now : ℤ) (h : History) → Cut h → (w : Waiting) → StaysCut h (resumed (within_part database_by_history now) h w)
resumed-cut now h cut w =
    tells-cut g (plain (tabled (waited w.who)) cut tt) now w.who (attempts (part_of g) ((rows_in g).key w.who w.table w.key) w.who w.table w.key (attempt w.who h))
    (row-attempts (strict_at g) w.who (part_of g) ((rows_in g).key w.who w.table w.key) w.table w.key (λ strict. shows-held g (plain (tabled (waited w.who)) cut tt) strict w.who w.table w.key) (attempt w.who h) (attempt-held h cut w.who))
  where
    g : History
    g = tabled (waited w.who) ∷ h

goes_on-cut : (now : ℤ) (h : History) → Cut h → (next : History → Turn) (o : Option Waiting) → ((g : History) → Cut g → StaysCut g (next g)) → StaysCut h (goes_on (within_part database_by_history now) h next o)
goes_on-cut now h cut next None also = cut
goes_on-cut now h cut next (Some w) also = then-cut now h (resumed (within_part database_by_history now) h w) next (resumed-cut now h cut w) also

settles-cut : (now : ℤ) (n : ℕ) (h : History) → Cut h → StaysCut h (settles (within_part database_by_history now) n h)
settles-cut now zero h cut = cut
settles-cut now (suc n) h cut = goes_on-cut now h cut (settles (within_part database_by_history now) n) (ready (part_of h)) (settles-cut now n)

settling-cut : (now : ℤ) (h : History) (turn : Turn) → StaysCut h turn → StaysCut h (with_settling (within_part database_by_history now) h turn)
settling-cut now h turn cut = then-cut now h turn (settling (within_part database_by_history now)) cut (λ g also. settles-cut now (length (waiting g)) g also)

-- ---- daemons

plain-tick : (mark : QueueMark) → is_tick mark ≡ true → is_plain (queued mark) ≡ true
plain-tick (ticked q id time seq) e = refl
plain-tick _ e = absurd (cc)

ticks-cut : (now : ℤ) (left : List NamedQueue) (h : History) → Cut h → StaysCut h (ticks_of database_by_history now left h)
ticks-cut now [] h cut = cut
ticks-cut now (q ∷ left) h cut =
    let c : Checked Outcome = next_tick (database_of h) now q.number in
    then-cut now h (quietly c) (ticks_of database_by_history now left) (plain-cut h cut c (gives-tick is_plain plain-tick (database_of h) now q.number)) (ticks-cut now left)

again-cut : (rest : History → Turn) → ((h : History) → Cut h → StaysCut h (rest h)) → (b : Bool) (h : History) → Cut h → StaysCut h (again_if b rest h)
again-cut rest also true h cut = also h cut
again-cut rest also false h cut = cut

retries-cut : (now : ℤ) (n : ℕ) (h : History) → Cut h → StaysCut h (retries_of database_by_history now n h)
retries-cut now zero h cut = cut
retries-cut now (suc n) h cut =
    let c : Checked Outcome = maint_retry_events (database_of h) now in
    let full : Bool = nat_le most_back (moved_by (reply_of c)) in
    then-cut now h (quietly c) (again_if full (retries_of database_by_history now n)) (cut-brings h now (due_now now most_back (retries h)) cut)
    (again-cut (retries_of database_by_history now n) (retries-cut now n) full)

first_steps-cut : (now : ℤ) (left : List NamedQueue) (h : History) → Cut h → StaysCut h (first_steps_of database_by_history now left h)
first_steps-cut now [] h cut = cut
first_steps-cut now (q ∷ left) h cut =
    then-cut now h (quietly (rotates_by_itself (database_of h) now q.number)) (first_steps_of database_by_history now left)
    (plain-cut h cut (rotates_by_itself (database_of h) now q.number) (plain-alone (database_of h) now q.number (held_back now (queue_of h q.number)))) (first_steps-cut now left)

daemon-cut : (h : History) → Cut h → (work : DaemonPart) (now : ℤ) → StaysCut h (daemon_does database_by_history h work now)
daemon-cut h cut part.Tick now = ticks-cut now (queues h) h cut
daemon-cut h cut part.Retry now = retries-cut now (length (retries h)) h cut
daemon-cut h cut part.Maintain now =
    then-cut now h (first_steps_of database_by_history now (queues h) h) (second_step_of_all database_by_history) (first_steps-cut now (queues h) h cut)
    (λ g also. plain-cut g also (maint_rotate_step2 (database_of g)) (plain-form (database_of g) (shown_in g) now 0 (Queue MaintRotateStep2) refl))

-- ---- calls

enters-cut : (h : History) → Cut h → (who : ℕ) (sight : Bool) (may : Checked (Unit {0})) → Cut (marked h (enters who (look_of who sight) may).marks)
enters-cut h cut who true (Ok _) = plain (sight_taken who) cut tt
enters-cut h cut who false (Ok _) = cut
enters-cut h cut who sight (Err refusal) = cut

consumers-plain : (mark : Mark) → is_for_consumers mark ≡ true → is_plain mark ≡ true
consumers-plain (tabled mark) e = absurd (cc)
consumers-plain (queued (put q event)) e = absurd (cc)
consumers-plain (queued (returned retry moment)) e = absurd (cc)
consumers-plain (queued (traced table name trigger)) e = absurd (cc)
consumers-plain (queued (untraced table)) e = absurd (cc)
consumers-plain (noded (root_made name queue)) e = absurd (cc)
consumers-plain (noded (set_added table)) e = absurd (cc)
consumers-plain (noded (set_removed table)) e = absurd (cc)
consumers-plain _ e = refl

-- the marks of a copy, in a leaf's database
copies-cut : (h : History) (marks : List Mark) → EachMark is_for_copies marks → is_leaf (node h) ≡ true → Cut h → Cut (marked h marks)
copies-cut h [] all leaf cut = cut
copies-cut h (began (of_copy table) t ∷ marks) all leaf cut = copies-cut (began (of_copy table) t ∷ h) marks all leaf (plain (began (of_copy table) t) cut tt)
copies-cut h (ended (of_copy table) t committed ∷ marks) all leaf cut = copies-cut (ended (of_copy table) t committed ∷ h) marks all leaf (plain (ended (of_copy table) t committed) cut tt)
copies-cut h (tabled (wrote (of_copy n) t table key old new) ∷ marks) all leaf cut =
    copies-cut (tabled (wrote (of_copy n) t table key old new) ∷ h) marks all leaf (leaf_writes (of_copy n) t table key old new cut leaf)
copies-cut h (noded (copied table snapshot tick) ∷ marks) all leaf cut =
    copies-cut (noded (copied table snapshot tick) ∷ h) marks all ((same-node (copied table snapshot tick) refl (node h)).leaf ∙ leaf) (plain (noded (copied table snapshot tick)) cut tt)
copies-cut h (noded (restarted table) ∷ marks) all leaf cut = copies-cut (noded (restarted table) ∷ h) marks all leaf (plain (noded (restarted table)) cut tt)
copies-cut h (noded (hold_begun hold) ∷ marks) all leaf cut = copies-cut (noded (hold_begun hold) ∷ h) marks all leaf (plain (noded (hold_begun hold)) cut tt)
copies-cut h (noded (hold_ended hold) ∷ marks) all leaf cut = copies-cut (noded (hold_ended hold) ∷ h) marks all leaf (plain (noded (hold_ended hold)) cut tt)
copies-cut h (_ ∷ marks) all leaf cut = absurd all

-- those of a batch that is applied, in such a database
applying-cut : (h : History) (marks : List Mark) → EachMark is_for_applying marks → is_leaf (node h) ≡ true → Cut h → Cut (marked h marks)
applying-cut h [] all leaf cut = cut
applying-cut h (began of_worker t ∷ marks) all leaf cut = applying-cut (began of_worker t ∷ h) marks all leaf (plain (began of_worker t) cut tt)
applying-cut h (ended of_worker t committed ∷ marks) all leaf cut = applying-cut (ended of_worker t committed ∷ h) marks all leaf (plain (ended of_worker t committed) cut tt)
applying-cut h (tabled (wrote of_worker t table key old new) ∷ marks) all leaf cut =
    applying-cut (tabled (wrote of_worker t table key old new) ∷ h) marks all leaf (leaf_writes of_worker t table key old new cut leaf)
applying-cut h (noded (applied pick tick) ∷ marks) all leaf cut =
    applying-cut (noded (applied pick tick) ∷ h) marks all ((same-node (applied pick tick) refl (node h)).leaf ∙ leaf) (plain (noded (applied pick tick)) cut tt)
applying-cut h (_ ∷ marks) all leaf cut = absurd all

-- plain marks after those by which a copy is given up
given_up-cut : (h : History) → Cut h → (table : ℕ) (name : List ℕ) (o : Option ℕ) (marks : List Mark) → EachMark is_plain marks → Cut (marked h (given_up table name o ++ marks))
given_up-cut h cut table name None marks all = cut-plain h marks all cut
given_up-cut h cut table name (Some t) marks all = cut-plain h (ended (of_copy table) t false ∷ noded (restarted name) ∷ marks) all cut

a-leaf : (name : List ℕ) (n : Option Node) → may_copy name n ≡ true → is_leaf n ≡ true
a-leaf name None e = absurd (cc)
a-leaf name (Some (of_root r)) e = absurd (cc)
a-leaf name (Some (of_leaf l)) e = refl

-- marks after which the history is cut, if each table of the set has its trigger after them, and no other table has
abbrev CutBy : History → List Mark → Type 0
CutBy h marks = Tracing (marked h marks) → Cut (marked h marks)

abbrev CutIf : History → Checked Outcome → Type 0
CutIf h c = CutBy h (marks_of c)

lists-cut : (h : History) → Cut h → (name : List ℕ) (q table : ℕ) → CutIf h (lists_table (database_of h) q table name)
lists-cut h cut name q table =
    after-test (CutBy h) (λ _. cut) (nat_le 8 (length (triggers_of table (triggers h)))) (TooMany Triggers) _ (λ _.
    after-refused (CutBy h) (λ _. cut) (option_map TableBusy (least_writer (part_of h) table)) _ (λ traces. lists name table q cut traces))

copy-cut : (h : History) → Cut h → (call : NodeCall) → is_copies call ≡ true → is_leaf (node h) ≡ true → CutIf h (call_form (database_of h) call)
copy-cut h cut call copy leaf _ =
    copies-cut h (marks_of (call_form (database_of h) call)) (each-given AnyReply is_for_copies (call_form (database_of h) call) (gives-copies (database_of h) call copy)) leaf cut

consumer-cut : (h : History) → Cut h → (call : NodeCall) → is_consumers call ≡ true → CutIf h (call_form (database_of h) call)
consumer-cut h cut call own _ =
    let marks : List Mark = marks_of (call_form (database_of h) call) in
    cut-plain h marks (each-map is_for_consumers is_plain consumers-plain marks (each-given AnyReply is_for_consumers (call_form (database_of h) call) (gives-consumers (database_of h) call own))) cut

root-cut : (h : History) → Cut h → (now : ℤ) (name queue : List ℕ) → node h ≡ None → Cuts h (makes_root (database_of h) now name queue)
root-cut h cut now name queue bare =
    after-test P cut (is_some (queue_number queue (queues h))) (QueueExists queue) _ (λ _. after-test P cut (nat_le 64 (length (queues h))) (TooMany Queues) _ (λ _.
    after-checked P cut (next_id (part_of h)) _ (λ t. roots name queue t now (cut-plain h (began of_worker t ∷ ended of_worker t true ∷ []) tt cut) bare)))
  where
    P : List Mark → Type 0
    P marks = Cut (marked h marks)

call-cut : (h : History) → Cut h → (call : NodeCall) → may_serve call (node h) ≡ true → CutIf h (call_form (database_of h) call)
call-cut h cut (listing name) may = after-there (CutBy h) (λ _. cut) (set_queue (database_of h)) _ (λ q. after-there (CutBy h) (λ _. cut) (place_of name (table_names h)) _ (λ table. lists-cut h cut name q table))
call-cut h cut (unlisting name) may = after-there (CutBy h) (λ _. cut) (place_of name (table_names h)) _ (λ table traces. unlists name table cut traces)
call-cut h cut (making_root name queue now) may = λ _. root-cut h cut now name queue (no-node (node h) may)
call-cut h cut (making_leaf name provider tick) may = λ _. plain (noded (leaf_made name provider tick)) cut tt
call-cut h cut (adding name) may =
    after-there (CutBy h) (λ _. cut) (place_of name (table_names h)) _ (λ table. after-refused (CutBy h) (λ _. cut) (option_map TableBusy (least_writer (part_of h) table)) _ (λ _.
    plain (tabled (read_only table true)) (plain (noded (leaf_added name)) cut tt) tt))
call-cut h cut (removing name) may = after-there (CutBy h) (λ _. cut) (place_of name (table_names h)) _ (λ table _. given_up-cut h cut table name (copy_txid table (copies h)) _ tt)
call-cut h cut (moving name state) may = after-there (CutBy h) (λ _. cut) (place_of name (table_names h)) _ (λ table _. given_up-cut h cut table name (copy_txid table (copies h)) _ tt)
call-cut h cut (beginning_copy name) may = copy-cut h cut (beginning_copy name) refl (a-leaf name (node h) may)
call-cut h cut (copying_rows name rows) may = copy-cut h cut (copying_rows name rows) refl (a-leaf name (node h) may)
call-cut h cut (ending_copy name snapshot tick) may = copy-cut h cut (ending_copy name snapshot tick) refl (a-leaf name (node h) may)
call-cut h cut (giving_up_copy name) may = copy-cut h cut (giving_up_copy name) refl (a-leaf name (node h) may)
call-cut h cut (applying events pick tick) may = λ _.
    applying-cut h (marks_of (applies_batch (database_of h) pick tick events))
    (each-given AnyReply is_for_applying (applies_batch (database_of h) pick tick events) (gives-applies (database_of h) pick tick events)) (applies-leaf pick (node h) may) cut
call-cut h cut holding may = λ _. plain (noded (hold_begun _)) cut tt
call-cut h cut (letting_go hold) may =
    λ _. plain-cut h cut _ (either AnyReply is_plain (list_any (λ (x : Hold). x.number == hold) (holds h)) (does_marks Done (noded (hold_ended hold) ∷ [])) (answers Null) (tt, tt) (tt, tt))
call-cut h cut call may = consumer-cut h cut call refl

node-cut : (h : History) → Cut h → (call : NodeCall) → CutIf h (node_does (database_of h) call)
node-cut h cut call = by_test (λ b. may_serve call (node h) ≡ b → CutIf h (if b then call_form (database_of h) call else answers Null)) (may_serve call (node h)) (λ _ may. call-cut h cut call may) (λ _ _ _. cut) refl

-- ---- all calls

does-cut : (h : History) → Cut h → (call : DatabaseCall) → IsDatabaseCallInForm call → Tracing (marked h (database_does database_by_history h call).marks) → Cut (marked h (database_does database_by_history h call).marks)
does-cut h cut (stepped who stmt now) is traces = settling-cut now h (turn_of who (statement database_by_history h now who stmt)) (statement-cut h cut now who stmt is)
does-cut h cut (entered who alone) is traces =
    enters-cut h cut who (takes_sight (entry_place alone) (session h who).sight) (allowed (is_waiting who (waiting h)) (has_open who h) (block who h) (entry_place alone))
does-cut h cut (worked work now) is traces = daemon-cut h cut work now
does-cut h cut (served call) is traces = node-cut h cut call traces
does-cut h cut (failed_call who now) is traces = settling-cut now h (failing (part_of h) who)
    (cut-plain h (failure who (own_txid who h) (block who h)) (each-failure AnyReply is_plain (λ _. tt) (plain-if of_any refl) who (own_txid who h) (block who h)) cut)

pub cut_calls : (calls : List DatabaseCall) → All IsDatabaseCallInForm calls → Cut (after_all database_part calls)
cut_calls [] all = nothing
cut_calls (call ∷ calls) all =
    does-cut (after_all database_part calls) (cut_calls calls (All-tail IsDatabaseCallInForm call calls all)) call (All-head IsDatabaseCallInForm call calls all) (stands_calls (call ∷ calls)).tracing
