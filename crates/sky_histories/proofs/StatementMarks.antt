-- Which marks statements leave, once for every test of marks and every property of answers.
use Rattle.std.proofs.Common.{◌≡◌, ℕ, zero, suc, ℤ, ◌+◌, ◌^◌, nat_le, List, [], ◌∷◌, ◌++◌, Bool, true, false, ◌==◌, Option, Some, None, Ok, Err, IfOk, is_some, is_none, ◌||◌, length, refl, sym, ◌∙◌, ap, subst, arith, if◌then◌else◌, ◌&&◌}
use Rattle.std.proofs.lemmas.List.Elements.{All-cons, All-append}
use Rattle.sky_val.specs.declared.val.Val.{Val}
use Rattle.sky_val.specs.declared.event.Event.{Event}
use Rattle.sky_keys.specs.Waits.{Waiting, other_holder, is_waiting}
use Rattle.sky_urlenc.specs.RowEvents.{RowEvent}
use Rattle.sky_model.specs.declared.stmt.Attempt.{Attempt}
use Rattle.sky_model.specs.declared.stmt.Attempt.TheVariants.{Insertion, Changes, Deletion}
use Rattle.sky_model.specs.declared.stmt.RowStmt.{RowStmt}
use Rattle.sky_model.specs.declared.stmt.RowStmt.TheVariants.{OpenDb, Close, Cancel, Begin, BeginRepeatableRead, Commit, Rollback, TxidCurrent, TxidCurrentSnapshot, TxidVisibleInSnapshot, CreateTable, Insert, Update, Delete, Get, Scan}
use Rattle.sky_model.specs.declared.stmt.DbStmt.{DbStmt}
use Rattle.sky_model.specs.declared.stmt.DbStmt.TheVariants.{Row, Queue}
use Rattle.sky_model.specs.declared.stmt.QueueStmt.{QueueStmt}
use Rattle.sky_model.specs.declared.stmt.QueueStmt.TheVariants.{CreateQueue, DropQueue, SetQueueConfig, QueueInfo, InsertEvent, AddTrigger, Ticker, ForceTick, RegisterConsumer, RegisterConsumerAt, UnregisterConsumer, NextBatch, GetBatchEvents, GetBatchInfo, EventRetry, FinishBatch, MaintRetryEvents, MaintRotateStep1, MaintRotateStep2, ConsumerInfo}
use Rattle.sky_model.specs.Permits.{MarkKinds, of_any, of_rows, attempt_kinds, of_resumed, may_put, may_leave, permit_of_row, permit_of_queue, permit_of}
use Rattle.sky_model.specs.declared.stmt.Where.{Where}
use Rattle.sky_model.specs.declared.reply.Reply.{Reply}
use Rattle.sky_model.specs.declared.reply.Reply.TheVariants.{Refused}
use Rattle.sky_model.specs.declared.reply.Refusal.{Refusal}
use Rattle.sky_model.specs.declared.reply.Refusal.TheVariants.{Canceled, IdsSpent}
use Rattle.sky_model.specs.History.{Batch, Mark, QueueMark, TableMark, of_session, of_worker, began, ended, sight_taken, block_failed, tabled, wrote, waits, waited, queued, raised, put, ticked, switching, switched, second_step, returned, traced, untraced, of_copy, block_ended}
use Rattle.sky_model.specs.declared.reply.HeldBack.{HeldBack}
use Rattle.sky_model.specs.Queues.{NamedQueue, Tick, tick, is_pending}
use Rattle.sky_model.specs.StepRotation.{held_back, switch_of, rotates, second_steps, lack_second_step, ends_switches, switches_by, switches_of, committed_by}
use Rattle.sky_model.specs.Consumers.{Subscription}
use Rattle.sky_model.specs.Sessions.{Block, outside, inside, failed, Session, session, is_outside}
use Rattle.sky_model.specs.State.{RowPart, Database, after_mark, after_marks}
use Rattle.sky_model.specs.ShownRows.{KeyShown, RowsShown}
use Rattle.sky_model.specs.Outcome.{Outcome, Checked, marks_of, ◌>>=◌, ◌>>◌, refused_if, does_marks, after_marks_of, end_of, aborts, abort, or_refused}
use Rattle.sky_model.specs.OwnTransaction.{begin_of, commit_of, in_own}
use Rattle.sky_model.specs.StepLocks.{once_free}
use Rattle.sky_model.specs.StepSession.{open_db, begin, begin_repeatable_read, leaves, commit, rollback, close, cancel}
use Rattle.sky_model.specs.SessionMarks.{failure}
use Rattle.sky_model.specs.StepRows.{writes_key, changes, attempts, row_or_none}
use Rattle.sky_model.specs.StepQueue.{queue_called, next_event_id, next_tick, is_due, newest_id}
use Rattle.sky_model.specs.StepConsumer.{leaves as leaves_queue, opens_batch, takes_batch, finishes}
use Rattle.pgq_retry.specs.declared.retry.Retry.{Retry}
use Rattle.pgq_retry.specs.Retries.{due_now}
use Rattle.sky_model.specs.OwnTransaction.{next_id, txid_for}
use Rattle.sky_model.specs.StepRetry.{back, brings, most_back}
use Rattle.sky_model.specs.Retries.{brought_by}
use Rattle.sky_model.specs.Telling.{events_of_write, told_event, event_marks, told_by, told_of, with_told, tells}
use Rattle.sky_model.specs.Printed.{ReplyHasMoments, HaveMoments}
use Rattle.sky_model.specs.Made.{Making, takes_sight, looking, runs_if}
use Rattle.sky_model.specs.Reader.{Shown, PartReader}
use Rattle.sky_model.specs.Gates.{Gate, gated}
use Rattle.sky_model.specs.Settling.{Turn, turn_of, behind_marks, and_then, ready, attempted, resumed, goes_on, settles, settling}
use Rattle.sky_model.specs.Calls.{row_form, switches_first, queue_form, form}
use Rattle.std.proofs.lemmas.Bool.{cond_both, and_parts}
use Rattle.std.proofs.lemmas.Result.{IfOk-at_ok}
use Rattle.sky_model.proofs.Cases.{by_test, ok-then, by_block}
use Rattle.sky_histories.proofs.Good.{same-session}

-- it is so, and the test holds
abbrev pub When : Bool → Type 0 → Type 0
When true T = T
When false T = ⊥

-- each of the marks passes a test
abbrev pub EachMark : (Mark → Bool) → List Mark → Type 0
EachMark p [] = Unit {0}
EachMark p (mark ∷ marks) = When (p mark) (EachMark p marks)

when-map : {T U : Type 0} (b c : Bool) → (b ≡ true → c ≡ true) → (T → U) → When b T → When c U
when-map {U = U} true c implies f t = subst (λ x. When x U) (sym (implies refl)) (f t)
when-map false c implies f t = absurd t

pub each-map : (p q : Mark → Bool) → ((mark : Mark) → p mark ≡ true → q mark ≡ true) → (marks : List Mark) → EachMark p marks → EachMark q marks
each-map p q implies [] all = tt
each-map p q implies (mark ∷ marks) all = when-map (p mark) (q mark) (implies mark) (each-map p q implies marks) all

pub each-append : (p : Mark → Bool) (xs ys : List Mark) → EachMark p xs → EachMark p ys → EachMark p (xs ++ ys)
each-append p [] ys all also = also
each-append p (x ∷ xs) ys all also = when-map (p x) (p x) (λ e. e) (λ rest. each-append p xs ys rest also) all

-- with a mark before them
pub each-front : (p : Mark → Bool) (mark : Mark) (marks : List Mark) → p mark ≡ true → EachMark p marks → EachMark p (mark ∷ marks)
each-front p mark marks e all = subst (λ b. When b (EachMark p marks)) (sym e) all

-- in particular the test holds
pub when-true : (T : Type 0) (b : Bool) → When b T → b ≡ true
when-true T true t = refl
when-true T false t = absurd t

-- with others after it
pub each-first : (p : Mark → Bool) (mark : Mark) (marks later : List Mark) → EachMark p (mark ∷ marks) → EachMark p later → EachMark p (mark ∷ later)
each-first p mark marks later all also = when-map (p mark) (p mark) (λ e. e) (λ _. also) all

-- and without it
pub each-rest : (p : Mark → Bool) (mark : Mark) (marks : List Mark) → EachMark p (mark ∷ marks) → EachMark p marks
each-rest p mark marks all = of (p mark) all
  where
    of : (b : Bool) → When b (EachMark p marks) → EachMark p marks
    of true all = all
    of false all = absurd all

-- ---- what a statement does

-- its answer is such, and so is each of its marks
abbrev pub Given : (Reply → Type 0) → (Mark → Bool) → Outcome → Type 0
Given R p o = R o.reply × EachMark p o.marks

-- if it isn't refused
abbrev pub Gives : (Reply → Type 0) → (Mark → Bool) → Checked Outcome → Type 0
Gives R p (Ok o) = Given R p o
Gives R p (Err refusal) = Unit {0}

-- any answer
abbrev pub AnyReply : Reply → Type 0
AnyReply reply = Unit {0}

pub gives-map : (R S : Reply → Type 0) (p q : Mark → Bool) → ((reply : Reply) → R reply → S reply) → ((mark : Mark) → p mark ≡ true → q mark ≡ true)
    → (c : Checked Outcome) → Gives R p c → Gives S q c
gives-map R S p q replies marks (Ok o) given = (replies o.reply given.0, each-map p q marks o.marks given.1)
gives-map R S p q replies marks (Err refusal) given = tt

-- the marks of a statement that does so, if it isn't refused
pub each-given : (R : Reply → Type 0) (p : Mark → Bool) (c : Checked Outcome) → Gives R p c → EachMark p (marks_of c)
each-given R p (Ok o) given = given.1
each-given R p (Err refusal) given = tt

-- with something else before it
pub after : {A : Type 0} (R : Reply → Type 0) (p : Mark → Bool) (x : Checked A) (c : Checked Outcome) → Gives R p c → Gives R p (x >> c)
after R p (Ok a) c gives = gives
after R p (Err refusal) c gives = tt

pub checked : {A : Type 0} (R : Reply → Type 0) (p : Mark → Bool) (x : Checked A) (c : A → Checked Outcome) → ((a : A) → Gives R p (c a)) → Gives R p (x >>= c)
checked R p (Ok a) c gives = gives a
checked R p (Err refusal) c gives = tt

pub either : (R : Reply → Type 0) (p : Mark → Bool) (b : Bool) (c e : Checked Outcome) → Gives R p c → Gives R p e → Gives R p (if b then c else e)
either R p true c e gives also = gives
either R p false c e gives also = also

-- ---- which marks there may be

-- a mark of a queue by which no retry comes back, and no table gets or loses a set's trigger
abbrev pub is_common : QueueMark → Bool
is_common (returned retry moment) = false
is_common (traced table name trigger) = is_some name
is_common (untraced table) = false
is_common _ = true

-- one that records a write; one of a tick; of a switch that is made, or pending; of a second step
abbrev pub is_told : QueueMark → Bool
is_told (raised q value) = true
is_told (put q e) = is_none e.ev_owner
is_told _ = false

abbrev pub is_tick : QueueMark → Bool
is_tick (ticked q id time seq) = true
is_tick _ = false

abbrev pub is_switch : QueueMark → Bool
is_switch (switched q time) = true
is_switch _ = false

abbrev pub is_rotation : QueueMark → Bool
is_rotation (switching q t) = true
is_rotation mark = is_switch mark

abbrev pub is_second : QueueMark → Bool
is_second (second_step q t) = true
is_second _ = false

-- with more kinds there may be more marks
pub told-left : (k : MarkKinds) → k.raises ≡ true → k.puts ≡ true → (s : Session) (who : ℕ) (mark : QueueMark) → is_told mark ≡ true → may_leave k s who (queued mark) ≡ true
told-left k raises puts s who (raised q value) e = raises
told-left k raises puts s who (put q event) e = of event.ev_owner e
  where
    of : (o : Option ℕ) → is_none o ≡ true → may_put k o ≡ true
    of None e = puts
    of (Some sub) e = absurd (cc)
told-left k raises puts s who _ e = absurd (cc)

switch-left : (k : MarkKinds) → k.switches ≡ true → k.commits ≡ true → (s : Session) (who : ℕ) (mark : QueueMark) → is_switch mark ≡ true → may_leave k s who (queued mark) ≡ true
switch-left k switches commits s who (switched q time) e = ap (λ b. b && (k.commits || is_outside s.block)) switches ∙ ap (λ b. b || is_outside s.block) commits
switch-left k switches commits s who _ e = absurd (cc)

-- kinds that aren't of queues have no mark of one
pub no-queued : (k : MarkKinds) (s : Session) (who : ℕ) (mark : QueueMark) → may_leave (of_rows k) s who (queued mark) ≡ true → ⊥
no-queued k s who (put q event) e = of event.ev_owner e
  where
    of : (o : Option ℕ) → may_put (of_rows k) o ≡ true → ⊥
    of None e = cc
    of (Some sub) e = cc
no-queued k s who (traced table name trigger) e = let both = and_parts (is_some name) false e in cc
no-queued k s who _ e = cc

-- ---- what every session leaves

own-when : (b : Bool) (who : ℕ) → b ≡ true → When (b && who == who) (Unit {0})
own-when b who e = subst (λ x. When (x && who == who) (Unit {0})) (sym e) (subst (λ x. When x (Unit {0})) (sym (same-session who)) tt)

left-commit : (k : MarkKinds) → k.takes_id ≡ true → (who t : ℕ) (s : Session) → EachMark (may_leave k s who) (commit_of who t s.block)
left-commit k takes who t s =
    by_block (λ b. EachMark (may_leave k (record s { block = b }) who) (commit_of who t b)) (own-when (k.takes_id && true || k.commits) who (ap (λ b. b && true || k.commits) takes)) tt tt s.block

left-written : (k : MarkKinds) → k.takes_id ≡ true → (who t : ℕ) (s : Session) (marks : List Mark) → EachMark (may_leave k s who) marks → EachMark (may_leave k s who) (in_own who t s marks)
left-written k takes who t s marks all = of s.txid (each-append (may_leave k s who) marks (commit_of who t s.block) all (left-commit k takes who t s))
  where
    of : (o : Option ℕ) → EachMark (may_leave k s who) (marks ++ commit_of who t s.block) → EachMark (may_leave k s who) (begin_of who t o ++ marks ++ commit_of who t s.block)
    of None all = subst (λ b. When b (EachMark (may_leave k s who) (marks ++ commit_of who t s.block))) (sym takes) all
    of (Some own) all = all

-- a block that ends
left-committed : (k : MarkKinds) → k.commits ≡ true → k.ends ≡ true → (s : Session) (who : ℕ) (txid : Option ℕ) → EachMark (may_leave k s who) (leaves true who txid)
left-committed k commits ends s who None = subst (λ b. When b (Unit {0})) (sym ends) tt
left-committed k commits ends s who (Some t) =
    each-front (may_leave k s who) (ended (of_session who) t true) (block_ended who ∷ [])
    (ap (λ b. (k.takes_id && is_outside s.block || b) && who == who) commits ∙ ap (λ b. b && who == who) (or-true (k.takes_id && is_outside s.block)) ∙ same-session who)
    (subst (λ b. When b (Unit {0})) (sym ends) tt)
  where
    or-true : (b : Bool) → (b || true) ≡ true
    or-true true = refl
    or-true false = refl

left-rolled_back : (k : MarkKinds) → k.rolls_back ≡ true → k.ends ≡ true → (s : Session) (who : ℕ) (txid : Option ℕ) → EachMark (may_leave k s who) (leaves false who txid)
left-rolled_back k rolls ends s who None = subst (λ b. When b (Unit {0})) (sym ends) tt
left-rolled_back k rolls ends s who (Some t) =
    each-front (may_leave k s who) (ended (of_session who) t false) (block_ended who ∷ []) rolls (subst (λ b. When b (Unit {0})) (sym ends) tt)

left-abort : (k : MarkKinds) → k.rolls_back ≡ true → k.aborts ≡ true → (s : Session) (who : ℕ) (b : Block) (txid : Option ℕ) (refusal : Refusal) → EachMark (may_leave k s who) (abort who b txid refusal)
left-abort k rolls fails s who outside txid refusal = tt
left-abort k rolls fails s who inside txid refusal = by (aborts refusal) txid
  where
    last : EachMark (may_leave k s who) (block_failed who ∷ [])
    last = subst (λ b. When b (Unit {0})) (sym fails) tt

    by : (kind : Bool) (o : Option ℕ) → EachMark (may_leave k s who) (if kind then end_of false who o ++ block_failed who ∷ [] else [])
    by true None = last
    by true (Some t) = each-front (may_leave k s who) (ended (of_session who) t false) (block_failed who ∷ []) rolls last
    by false o = tt
left-abort k rolls fails s who failed txid refusal = tt

-- ---- statements on rows

module _ (who : ℕ) where
  -- a statement of a session in a state may leave such marks, and no event is its answer
  abbrev RowGives : MarkKinds → Session → Checked Outcome → Type 0
  RowGives k s c = Gives ReplyHasMoments (may_leave k s who) c

  gives-writes : (held : Bool) (d : RowPart) (table : ℕ) (key : List Val) (old new : Option (List Val))
      → RowGives (of_rows (attempt_kinds held)) (d.session who) (writes_key d who table key old new)
  gives-writes held d table key old new = search (checked, left-written)

  gives-once_free : (d : RowPart) (table : ℕ) (key : List Val) (attempt : Attempt) (other : Option ℕ) (c : Checked Outcome)
      → RowGives (of_rows (attempt_kinds (is_some other))) (d.session who) c → RowGives (of_rows (attempt_kinds (is_some other))) (d.session who) (once_free d who table key attempt other c)
  gives-once_free d table key attempt None c gives = gives
  gives-once_free d table key attempt (Some holder) c gives =
      let own : When (who == who) (Unit {0}) = subst (λ b. When b (Unit {0})) (sym (same-session who)) tt in
      search (after)

  gives-changes : (d : RowPart) (shown : KeyShown) (table : ℕ) (key : List Val) (attempt : Attempt) (new_of : List Val → Checked (Option (List Val))) (row : Option (List Val))
      → RowGives (of_rows (attempt_kinds (is_some (other_holder d.holder who table key)))) (d.session who) (changes d shown who table key attempt new_of row)
  gives-changes d shown table key attempt new_of None = (tt, tt)
  gives-changes d shown table key attempt new_of (Some row) = search (gives-once_free, after, checked, gives-writes)

  -- an attempt with a key
  pub gives-attempts : (d : RowPart) (shown : KeyShown) (table : ℕ) (key : List Val) (attempt : Attempt)
      → RowGives (of_rows (attempt_kinds (is_some (other_holder d.holder who table key)))) (d.session who) (attempts d shown who table key attempt)
  gives-attempts d shown table key (Insertion row) = search (gives-once_free, after, gives-writes)
  gives-attempts d shown table key (Changes sets) = search (gives-changes)
  gives-attempts d shown table key Deletion = search (gives-changes)

  -- if it isn't known whether another session holds it
  pub gives-attempt : (d : RowPart) (shown : KeyShown) (table : ℕ) (key : List Val) (attempt : Attempt)
      → RowGives (of_rows (attempt_kinds true)) (d.session who) (attempts d shown who table key attempt)
  gives-attempt d shown table key attempt =
      gives-map ReplyHasMoments ReplyHasMoments (may_leave (of_rows (attempt_kinds held)) (d.session who) who) (may_leave (of_rows (attempt_kinds true)) (d.session who) who) (λ reply has. has)
      (also held) _ (gives-attempts d shown table key attempt)
    where
      held : Bool
      held = is_some (other_holder d.holder who table key)

      also : (b : Bool) (mark : Mark) → may_leave (of_rows (attempt_kinds b)) (d.session who) who mark ≡ true → may_leave (of_rows (attempt_kinds true)) (d.session who) who mark ≡ true
      also true mark e = e
      also false (tabled (waits v n at attempt)) e = absurd (cc)
      also false mark e = e

  gives-row_or_none : (k : MarkKinds) (s : Session) (row : Option (List Val)) → RowGives k s (row_or_none row)
  gives-row_or_none k s None = (tt, tt)
  gives-row_or_none k s (Some row) = (tt, tt)

  gives-close : (s : Session) (txid : Option ℕ) (b : Block) → RowGives (of_rows (permit_of_row Close).kinds) s (close who txid b)
  gives-close s txid outside = (tt, tt)
  gives-close s None _ = (tt, tt)
  gives-close s (Some t) _ = (tt, tt)

  -- a statement on rows
  pub gives-row_form : (d : RowPart) (shown : RowsShown) (stmt : RowStmt) → RowGives (of_rows (permit_of_row stmt).kinds) (d.session who) (row_form d shown who stmt)
  gives-row_form d shown (OpenDb name) =
      by_test (λ b. RowGives (of_rows (permit_of_row (OpenDb name)).kinds) (record (d.session who) { is_open = b }) (open_db who b)) (d.session who).is_open (λ _. tt) (λ _. (tt, tt))
  gives-row_form d shown Close = gives-close (d.session who) (d.session who).txid (d.session who).block
  gives-row_form d shown Cancel =
      by_test (λ b. RowGives (of_rows (permit_of_row Cancel).kinds) (d.session who) (cancel who (d.session who).txid (d.session who).block b)) (is_waiting who d.waiting)
      (λ _. (tt, left-abort (of_rows (permit_of_row Cancel).kinds) refl refl (d.session who) who (d.session who).block (d.session who).txid Canceled)) (λ _. (tt, tt))
  gives-row_form d shown Begin = by_block (λ b. RowGives (of_rows (permit_of_row Begin).kinds) (record (d.session who) { block = b }) (begin who b)) (tt, tt) (tt, tt) (tt, tt) (d.session who).block
  gives-row_form d shown BeginRepeatableRead =
      by_block (λ b. RowGives (of_rows (permit_of_row BeginRepeatableRead).kinds) (record (d.session who) { block = b }) (begin_repeatable_read who b)) (tt, tt) (tt, tt) (tt, tt) (d.session who).block
  gives-row_form d shown Commit =
      let k : MarkKinds = of_rows (permit_of_row Commit).kinds in
      by_block (λ b. RowGives k (d.session who) (commit who (d.session who).txid b)) (tt, tt) (tt, left-committed k refl refl (d.session who) who (d.session who).txid)
      (tt, left-rolled_back k refl refl (d.session who) who (d.session who).txid) (d.session who).block
  gives-row_form d shown Rollback =
      let k : MarkKinds = of_rows (permit_of_row Rollback).kinds in
      let left : EachMark (may_leave k (d.session who) who) (leaves false who (d.session who).txid) = left-rolled_back k refl refl (d.session who) who (d.session who).txid in
      by_block (λ b. RowGives k (d.session who) (rollback who (d.session who).txid b)) (tt, tt) (tt, left) (tt, left) (d.session who).block
  gives-row_form d shown TxidCurrent = search (checked, left-written)
  gives-row_form d shown TxidCurrentSnapshot = (tt, tt)
  gives-row_form d shown (TxidVisibleInSnapshot txid snapshot) = search (checked)
  gives-row_form d shown (CreateTable name columns) = search (after)
  gives-row_form d shown (Insert name row) = search (checked, after, gives-attempt) depth 8
  gives-row_form d shown (Update name key sets) = search (checked, after, gives-attempt) depth 8
  gives-row_form d shown (Delete name key) = search (checked, after, gives-attempt) depth 8
  gives-row_form d shown (Get name key) = search (checked, after, gives-row_or_none)
  gives-row_form d shown (Scan name) = search (checked)

-- ---- what records writes

-- marks that may be refused
abbrev EachChecked : (Mark → Bool) → Checked (List Mark) → Type 0
EachChecked p c = IfOk c (EachMark p)

-- a session's write
abbrev is_write : Mark → Bool
is_write (tabled (wrote (of_session who) t table key old new)) = true
is_write _ = false

-- where a write is allowed, the marks that record it are
module _ (p : Mark → Bool) (of_writes : (mark : Mark) → is_write mark ≡ true → p mark ≡ true → (event : QueueMark) → is_told event ≡ true → p (queued event) ≡ true) where
  each-told_by : (mark : Mark) → is_write mark ≡ true → p mark ≡ true → (d : Database) (now : ℤ) (t : ℕ) (es : List RowEvent) → EachChecked p (told_by d now t es)
  each-told_by mark written may d now t [] = tt
  each-told_by mark written may d now t (e ∷ es) =
      ok-then (EachMark p) (next_event_id (d.queue e.queue)) _ (λ id _.
      let behind : Database = after_marks d (event_marks e.queue (told_event id now t e)) in
      ok-then (EachMark p) (told_by behind now t es) _ (λ rest is.
      each-front p (queued (raised e.queue id)) (queued (put e.queue (told_event id now t e)) ∷ rest) (of_writes mark written may (raised e.queue id) refl)
      (each-front p (queued (put e.queue (told_event id now t e))) rest (of_writes mark written may (put e.queue (told_event id now t e)) refl)
      (IfOk-at_ok (EachMark p) is (each-told_by mark written may behind now t es)))))

  each-told_of : (d : Database) (now : ℤ) (mark : Mark) → p mark ≡ true → EachChecked p (told_of d now mark)
  each-told_of d now (tabled (wrote (of_session who) t table key old new)) may =
      each-told_by (tabled (wrote (of_session who) t table key old new)) refl may d now t (events_of_write d table old new)
  each-told_of d now _ may = tt

  each-with_told : (d : Database) (now : ℤ) (marks : List Mark) → EachMark p marks → EachChecked p (with_told d now marks)
  each-with_told d now [] all = tt
  each-with_told d now (mark ∷ marks) all =
      ok-then (EachMark p) (told_of (after_mark d mark) now mark) _ (λ told same.
      ok-then (EachMark p) (with_told (after_marks d (mark ∷ told)) now marks) _ (λ rest is.
      each-first p mark marks (told ++ rest) all
      (each-append p told rest (IfOk-at_ok (EachMark p) same (each-told_of (after_mark d mark) now mark (when-true (EachMark p marks) (p mark) all)))
      (IfOk-at_ok (EachMark p) is (each-with_told (after_marks d (mark ∷ told)) now marks (each-rest p mark marks all))))))

  -- a statement does the same once its writes are recorded
  gives-told : (R : Reply → Type 0) (d : Database) (now : ℤ) (c : Checked Outcome) → Gives R p c → Gives R p (tells d now c)
  gives-told R d now (Err refusal) given = tt
  gives-told R d now (Ok o) given = of (with_told d now o.marks) (each-with_told d now o.marks given.1)
    where
      of : (c : Checked (List Mark)) → EachChecked p c → Gives R p (c >>= (λ marks. does_marks o.reply marks))
      of (Ok marks) also = (given.0, also)
      of (Err refusal) also = tt

-- they are always
pub gives-tells : (p : Mark → Bool) → ((mark : QueueMark) → is_told mark ≡ true → p (queued mark) ≡ true) → (R : Reply → Type 0) (d : Database) (now : ℤ) (c : Checked Outcome)
    → Gives R p c → Gives R p (tells d now c)
gives-tells p of_queues = gives-told p (λ mark written may event is. of_queues event is)

-- a tick that is due, if it isn't refused
pub gives-tick : (p : Mark → Bool) → ((mark : QueueMark) → is_tick mark ≡ true → p (queued mark) ≡ true) → (d : Database) (now : ℤ) (queue : ℕ) → Gives AnyReply p (next_tick d now queue)
gives-tick p of_queues d now queue =
    either AnyReply p (is_due now (d.queue queue)) _ _
    (after AnyReply p (refused_if (nat_le (2 ^ 64) (newest_id (d.queue queue) + 1)) IdsSpent) _
    (tt, each-front p (queued (ticked queue (newest_id (d.queue queue) + 1) now (d.queue queue).seq)) [] (of_queues (ticked queue (newest_id (d.queue queue) + 1) now (d.queue queue).seq) refl) tt)) (tt, tt)

-- ---- which statement makes switches

-- a statement on rows other than `commit` makes none
abbrev pub SwitchesNone : RowStmt → Type 0
SwitchesNone stmt = (d : Database) (now : ℤ) (who : ℕ) → switches_first d now who stmt ≡ []

pub by_commit : (P : RowStmt → Type 0) → P Commit → ((stmt : RowStmt) → SwitchesNone stmt → P stmt) → (stmt : RowStmt) → P stmt
by_commit P commits other (OpenDb name) = other (OpenDb name) (λ d now who. refl)
by_commit P commits other Close = other Close (λ d now who. refl)
by_commit P commits other Cancel = other Cancel (λ d now who. refl)
by_commit P commits other Begin = other Begin (λ d now who. refl)
by_commit P commits other BeginRepeatableRead = other BeginRepeatableRead (λ d now who. refl)
by_commit P commits other Commit = commits
by_commit P commits other Rollback = other Rollback (λ d now who. refl)
by_commit P commits other TxidCurrent = other TxidCurrent (λ d now who. refl)
by_commit P commits other TxidCurrentSnapshot = other TxidCurrentSnapshot (λ d now who. refl)
by_commit P commits other (TxidVisibleInSnapshot txid snapshot) = other (TxidVisibleInSnapshot txid snapshot) (λ d now who. refl)
by_commit P commits other (CreateTable table columns) = other (CreateTable table columns) (λ d now who. refl)
by_commit P commits other (Insert table row) = other (Insert table row) (λ d now who. refl)
by_commit P commits other (Update table key sets) = other (Update table key sets) (λ d now who. refl)
by_commit P commits other (Delete table key) = other (Delete table key) (λ d now who. refl)
by_commit P commits other (Get table key) = other (Get table key) (λ d now who. refl)
by_commit P commits other (Scan table) = other (Scan table) (λ d now who. refl)

-- with no marks before, a statement does the same
pub none-before : (c : Checked Outcome) → after_marks_of [] c ≡ c
none-before (Ok outcome) = refl
none-before (Err refusal) = refl

pub none-first : (d : Database) (now : ℤ) (who : ℕ) (stmt : RowStmt) (c : Checked Outcome) → SwitchesNone stmt → after_marks_of (switches_first d now who stmt) c ≡ c
none-first d now who stmt c none = ap (λ marks. after_marks_of marks c) (none d now who) ∙ none-before c

-- ---- the marks are of queues

module _ (p : Mark → Bool) (of_queues : (mark : QueueMark) → is_switch mark ≡ true → p (queued mark) ≡ true) where
  pub each-switches_by : (d : Database) (now : ℤ) (t : ℕ) (queues : List NamedQueue) → EachMark p (switches_by d now t queues)
  each-switches_by d now t [] = tt
  each-switches_by d now t (q ∷ queues) =
      by_test (λ b. EachMark p (if b then queued (switched q.number now) ∷ switches_by d now t queues else switches_by d now t queues)) (is_pending t (d.queue q.number).event_tables)
      (λ _. each-front p (queued (switched q.number now)) (switches_by d now t queues) (of_queues (switched q.number now) refl) (each-switches_by d now t queues)) (λ _. each-switches_by d now t queues)

  each-switches_of : (d : Database) (now : ℤ) (txid : Option ℕ) → EachMark p (switches_of d now txid)
  each-switches_of d now None = tt
  each-switches_of d now (Some t) = each-switches_by d now t d.queues

  pub each-switches_first : (d : Database) (now : ℤ) (who : ℕ) (stmt : RowStmt) → EachMark p (switches_first d now who stmt)
  each-switches_first d now who stmt =
      by_commit (λ s. EachMark p (switches_first d now who s)) (each-switches_of d now (committed_by (d.part.session who).block (d.part.session who).txid))
      (λ s none. subst (EachMark p) (sym (none d now who)) tt) stmt

  -- so a statement still gives such marks with them
  pub gives-first : (R : Reply → Type 0) (d : Database) (now : ℤ) (who : ℕ) (stmt : RowStmt) (c : Checked Outcome) → Gives R p c → Gives R p (after_marks_of (switches_first d now who stmt) c)
  gives-first R d now who stmt (Err refusal) gives = tt
  gives-first R d now who stmt (Ok outcome) gives = (gives.0, each-append p (switches_first d now who stmt) outcome.marks (each-switches_first d now who stmt) gives.1)

-- a statement on rows, once its writes are recorded, gives what its permit says
module _ (who : ℕ) (stmt : RowStmt) where
  abbrev row_leaves : MarkKinds
  row_leaves = (permit_of_row stmt).kinds

  recorded : (s : Session) (mark : Mark) → is_write mark ≡ true → may_leave row_leaves s who mark ≡ true → (event : QueueMark) → is_told event ≡ true → may_leave row_leaves s who (queued event) ≡ true
  recorded s (tabled (wrote (of_session v) t table key old new)) written may =
      let both = records stmt may in told-left row_leaves both.0 both.1 s who
    where
      records : (r : RowStmt) → (permit_of_row r).kinds.writes ≡ true → ((permit_of_row r).kinds.raises ≡ true) × ((permit_of_row r).kinds.puts ≡ true)
      records (Insert table row) e = (refl, refl)
      records (Update table key sets) e = (refl, refl)
      records (Delete table key) e = (refl, refl)
      records _ e = absurd (cc)
  recorded s _ written may = absurd (cc)

  rows-too : (s : Session) (mark : Mark) → may_leave (of_rows row_leaves) s who mark ≡ true → may_leave row_leaves s who mark ≡ true
  rows-too s (began of_worker t) e = absurd (cc)
  rows-too s (ended of_worker t committed) e = absurd (cc)
  rows-too s (queued mark) e = absurd (no-queued row_leaves s who mark e)
  rows-too s _ e = e

  gives-recorded : (d : Database) (shown : Shown) (now : ℤ) → Gives AnyReply (may_leave row_leaves (d.part.session who) who) (form d shown now who (Row stmt))
  gives-recorded d shown now =
      let s : Session = d.part.session who in
      gives-switches _ (gives-told (may_leave row_leaves s who) (recorded s) AnyReply d now _
      (gives-map ReplyHasMoments AnyReply (may_leave (of_rows row_leaves) s who) (may_leave row_leaves s who) (λ reply has. tt) (rows-too s) _ (gives-row_form who d.part shown.rows stmt)))
    where
      first : (r : RowStmt) → EachMark (may_leave (permit_of_row r).kinds (d.part.session who) who) (switches_first d now who r)
      first r =
          by_commit (λ r. EachMark (may_leave (permit_of_row r).kinds (d.part.session who) who) (switches_first d now who r))
          (each-switches_of (may_leave (permit_of_row Commit).kinds (d.part.session who) who) (switch-left (permit_of_row Commit).kinds refl refl (d.part.session who) who) d now
          (committed_by (d.part.session who).block (d.part.session who).txid))
          (λ r none. subst (EachMark (may_leave (permit_of_row r).kinds (d.part.session who) who)) (sym (none d now who)) tt) r

      gives-switches : (c : Checked Outcome) → Gives AnyReply (may_leave row_leaves (d.part.session who) who) c
          → Gives AnyReply (may_leave row_leaves (d.part.session who) who) (after_marks_of (switches_first d now who stmt) c)
      gives-switches (Err refusal) gives = tt
      gives-switches (Ok o) gives = (tt, each-append (may_leave row_leaves (d.part.session who) who) (switches_first d now who stmt) o.marks (first stmt) gives.1)

-- and with a gate for its writes
pub gives-gated : {G : Type 0} (R : Reply → Type 0) (p : Mark → Bool) (gate : Gate G) (g : G) (c : Checked Outcome) → Gives R p c → Gives R p (gated gate g c)
gives-gated R p gate g (Err refusal) given = tt
gives-gated R p gate g (Ok o) given = search (after)

-- ---- statements on queues

-- the marks of a first step, and those of second steps
pub each-switch_of : (p : Mark → Bool) → ((mark : QueueMark) → is_rotation mark ≡ true → p (queued mark) ≡ true) → (q t : ℕ) (now : ℤ) (b : Block) → EachMark p (switch_of q t now b)
each-switch_of p of_queues q t now b =
    by_block (λ c. EachMark p (switch_of q t now c))
    (each-front p (queued (switching q t)) (queued (switched q now) ∷ []) (of_queues (switching q t) refl) (each-front p (queued (switched q now)) [] (of_queues (switched q now) refl) tt))
    (each-front p (queued (switching q t)) [] (of_queues (switching q t) refl) tt) (each-front p (queued (switching q t)) [] (of_queues (switching q t) refl) tt) b

pub each-second_steps : (p : Mark → Bool) → ((mark : QueueMark) → is_second mark ≡ true → p (queued mark) ≡ true) → (t : ℕ) (queues : List NamedQueue) → EachMark p (second_steps t queues)
each-second_steps p of_queues t [] = tt
each-second_steps p of_queues t (q ∷ queues) = each-front p (queued (second_step q.number t)) (second_steps t queues) (of_queues (second_step q.number t) refl) (each-second_steps p of_queues t queues)

module _ (who : ℕ) where
  -- a statement on queues of a session in a state gives what its permit says
  abbrev QueueGives : QueueStmt → Session → Checked Outcome → Type 0
  QueueGives stmt s c = Gives AnyReply (may_leave (permit_of_queue stmt).kinds s who) c

  rotation-left : (name : List ℕ) (s : Session) (q t : ℕ) (now : ℤ) → EachMark (may_leave (permit_of_queue (MaintRotateStep1 name)).kinds s who) (switch_of q t now s.block)
  rotation-left name s q t now =
      by_block (λ b. EachMark (may_leave (permit_of_queue (MaintRotateStep1 name)).kinds (record s { block = b }) who) (switch_of q t now b)) tt tt tt s.block

  second-left : (s : Session) (mark : QueueMark) → is_second mark ≡ true → may_leave (permit_of_queue MaintRotateStep2).kinds s who (queued mark) ≡ true
  second-left s (second_step q t) e = refl
  second-left s _ e = absurd (cc)

  tick-left : (name : List ℕ) (s : Session) (mark : QueueMark) → is_tick mark ≡ true → may_leave (permit_of_queue (Ticker name)).kinds s who (queued mark) ≡ true
  tick-left name s (ticked q id time seq) e = refl
  tick-left name s _ e = absurd (cc)

  gives-opens : (name consumer : List ℕ) (s : Session) (d : Database) (q : ℕ) (sub : Subscription) (o : Option Tick) → QueueGives (NextBatch name consumer) s (opens_batch d q consumer sub o)
  gives-opens name consumer s d q sub None = (tt, tt)
  gives-opens name consumer s d q sub (Some t) = search (after)

  gives-takes : (name consumer : List ℕ) (s : Session) (d : Database) (q : ℕ) (sub : Subscription) (o : Option ℕ) → QueueGives (NextBatch name consumer) s (takes_batch d q consumer sub o)
  gives-takes name consumer s d q sub (Some batch) = (tt, tt)
  gives-takes name consumer s d q sub None = gives-opens name consumer s d q sub (tick (sub.position + 1) (d.queue q).tick_list)

  gives-leaves : (name consumer : List ℕ) (s : Session) (q : ℕ) (o : Option Subscription) → QueueGives (UnregisterConsumer name consumer) s (leaves_queue q consumer o)
  gives-leaves name consumer s q None = (tt, tt)
  gives-leaves name consumer s q (Some sub) = (tt, tt)

  put-back : (t : ℕ) (s : Session) (q : ℕ) (e : Event) → may_leave (permit_of_queue MaintRetryEvents).kinds s who (queued (put q (brought_by t e))) ≡ true
  put-back t s q e = of e.ev_owner
    where
      of : (o : Option ℕ) → may_put (permit_of_queue MaintRetryEvents).kinds o ≡ true
      of None = refl
      of (Some sub) = refl

  each-back : (s : Session) (now : ℤ) (t : ℕ) (rs : List Retry) → EachMark (may_leave (permit_of_queue MaintRetryEvents).kinds s who) (back now t rs)
  each-back s now t [] = tt
  each-back s now t (r ∷ rs) = each-front (may_leave (permit_of_queue MaintRetryEvents).kinds s who) (queued (put r.queue (brought_by t r.event))) (queued (returned r now) ∷ back now t rs) (put-back t s r.queue r.event) (each-back s now t rs)

  gives-brings : (s : Session) (d : Database) (now : ℤ) (rs : List Retry) → QueueGives MaintRetryEvents s (brings d now rs)
  gives-brings s d now [] = (tt, tt)
  gives-brings s d now (r ∷ rs) =
      checked AnyReply _ (next_id d.part) _ (λ t. (tt, each-append (may_leave (permit_of_queue MaintRetryEvents).kinds s who) (back now t (r ∷ rs)) (ended of_worker t true ∷ []) (each-back s now t (r ∷ rs)) tt))

  gives-rotates : (name : List ℕ) (d : Database) (now : ℤ) (q : ℕ) (why : Option HeldBack) → QueueGives (MaintRotateStep1 name) (d.part.session who) (rotates d now who q why)
  gives-rotates name d now q (Some why) = (tt, tt)
  gives-rotates name d now q None =
      checked AnyReply _ (txid_for d.part who) _ (λ t. (
        tt,
        left-written (permit_of_queue (MaintRotateStep1 name)).kinds refl who t (d.part.session who) (switch_of q t now (d.part.session who).block)
            (rotation-left name (d.part.session who) q t now),
      ))

  gives-ends_switches : (s : Session) (d : Database) (queues : List NamedQueue) → QueueGives MaintRotateStep2 s (ends_switches d queues)
  gives-ends_switches s d [] = (tt, tt)
  gives-ends_switches s d (q ∷ queues) =
      checked AnyReply _ (next_id d.part) _ (λ t. (
        tt,
        each-append (may_leave (permit_of_queue MaintRotateStep2).kinds s who) (second_steps t (q ∷ queues)) (ended of_worker t true ∷ [])
            (each-second_steps (may_leave (permit_of_queue MaintRotateStep2).kinds s who) (second-left s) t (q ∷ queues)) tt,
      ))

  gives-finishes : (id : ℕ) (s : Session) (d : Database) (o : Option Batch) → QueueGives (FinishBatch id) s (finishes d o)
  gives-finishes id s d None = (tt, tt)
  gives-finishes id s d (Some batch) = search (after)

  -- a statement on queues
  gives-queue_form : (d : Database) (shown : Shown) (now : ℤ) (stmt : QueueStmt) → QueueGives stmt (d.part.session who) (queue_form d shown now who stmt)
  gives-queue_form d shown now (CreateQueue name) = search (either, after, checked, each-append, left-written) depth 8
  gives-queue_form d shown now (DropQueue name) = search (checked, after) depth 8
  gives-queue_form d shown now (SetQueueConfig setting) = search (checked) depth 8
  gives-queue_form d shown now (QueueInfo name) = search (checked)
  gives-queue_form d shown now (InsertEvent event) = search (checked, after, left-written) depth 10
  gives-queue_form d shown now (AddTrigger trigger) = search (checked, after) depth 10
  gives-queue_form d shown now (Ticker name) =
      checked AnyReply _ (queue_called name d) _ (gives-tick (may_leave (permit_of_queue (Ticker name)).kinds (d.part.session who) who) (tick-left name (d.part.session who)) d now)
  gives-queue_form d shown now (ForceTick name) = search (checked, after)
  gives-queue_form d shown now (RegisterConsumer name consumer) = search (checked, after, either) depth 8
  gives-queue_form d shown now (RegisterConsumerAt position) = search (checked, after, either) depth 10
  gives-queue_form d shown now (UnregisterConsumer name consumer) = search (checked, after, gives-leaves) depth 8
  gives-queue_form d shown now (NextBatch name consumer) = search (checked, after, gives-takes) depth 8
  gives-queue_form d shown now (GetBatchEvents batch) = search (checked)
  gives-queue_form d shown now (GetBatchInfo batch) = search (checked)
  gives-queue_form d shown now (EventRetry again) = search (checked, after, either) depth 12
  gives-queue_form d shown now (FinishBatch batch) = gives-finishes batch (d.part.session who) d (d.batch batch)
  gives-queue_form d shown now MaintRetryEvents = gives-brings (d.part.session who) d now (due_now now most_back d.retries)
  gives-queue_form d shown now (MaintRotateStep1 name) = checked AnyReply _ (queue_called name d) _ (λ q. gives-rotates name d now q (held_back now (d.queue q)))
  gives-queue_form d shown now MaintRotateStep2 = gives-ends_switches (d.part.session who) d (lack_second_step d)
  gives-queue_form d shown now (ConsumerInfo name consumer) = search (checked) depth 8

  -- any statement
  pub gives-form : (d : Database) (shown : Shown) (now : ℤ) (stmt : DbStmt) → Gives AnyReply (may_leave (permit_of stmt).kinds (d.part.session who) who) (form d shown now who stmt)
  gives-form d shown now (Row stmt) = gives-recorded who stmt d shown now
  gives-form d shown now (Queue stmt) = gives-queue_form d shown now stmt

-- ---- how it is settled, and what resumes

-- a test that each mark passes which every session may leave, and answers among which is every refusal
module _ (R : Reply → Type 0) (p : Mark → Bool) (refuses : (refusal : Refusal) → R (Refused refusal)) (plain : (s : Session) (who : ℕ) (mark : Mark) → may_leave of_any s who mark ≡ true → p mark ≡ true) where
  pub each-abort : (who : ℕ) (b : Block) (txid : Option ℕ) (refusal : Refusal) → EachMark p (abort who b txid refusal)
  each-abort who b txid refusal = let s : Session = session [] who in each-map (may_leave of_any s who) p (plain s who) (abort who b txid refusal) (left-abort of_any refl refl s who b txid refusal)

  pub each-failure : (who : ℕ) (txid : Option ℕ) (b : Block) → EachMark p (failure who txid b)
  each-failure who txid outside = tt
  each-failure who txid inside = each-abort who inside txid Canceled
  each-failure who txid failed = tt

  pub given-settled : (who : ℕ) (s : Session) (c : Checked Outcome) → Gives R p c → Given R p (or_refused who s c)
  given-settled who s (Ok o) given = given
  given-settled who s (Err refusal) given = (refuses refusal, each-abort who s.block s.txid refusal)

  -- a statement of a session, if it does so here and after the mark of its sight
  pub given-runs : {P : Type 0} (m : Making P) (place : Where) (who : ℕ) (x : P) (may : Checked (Unit {0})) → Gives R p (m.outcome x) → Gives R p (m.outcome (m.behind x (sight_taken who)))
      → Given R p (runs_if m place who x may)
  given-runs m place who x (Err refusal) here behind = given-settled who (m.session x) (Err refusal) tt
  given-runs {P = P} m place who x (Ok _) here behind =
      let y : P = m.behind x (sight_taken who) in
      let given : Given R p (or_refused who (m.session y) (m.outcome y)) = given-settled who (m.session y) (m.outcome y) behind in
      cond_both (takes_sight place (m.session x).sight) (looking who (or_refused who (m.session y) (m.outcome y))) (or_refused who (m.session x) (m.outcome x)) (Given R p)
      (λ _. (given.0, each-front p (sight_taken who) (or_refused who (m.session y) (m.outcome y)).marks (plain (m.session y) who (sight_taken who) refl) given.1)) (λ _. given-settled who (m.session x) (m.outcome x) here)

-- a place whose statements leave such marks still, once their writes are recorded
pub record KeepsMarks {P : Type 0} (p : Mark → Bool) (r : PartReader P) : Type 0 where
  pub tells : (x : P) (c : Checked Outcome) → Gives ReplyHasMoments p c → Gives ReplyHasMoments p (r.tells x c)

-- a turn without events, whose marks pass a test
pub record TurnGives (p : Mark → Bool) (turn : Turn) : Type 0 where
  pub moments : HaveMoments turn.answers
  pub marks : EachMark p turn.marks

pub turn_of-gives : (p : Mark → Bool) (who : ℕ) (o : Outcome) → Given ReplyHasMoments p o → TurnGives p (turn_of who o)
turn_of-gives p who o given = record { moments = All-cons (λ answer. ReplyHasMoments answer.1) (who, o.reply) [] given.0 (λ k a within. absurd (omega arith)); marks = given.1 }

pub then-gives : {P : Type 0} (p : Mark → Bool) (r : PartReader P) (x : P) (turn : Turn) (rest : P → Turn) → TurnGives p turn → ((y : P) → TurnGives p (rest y)) → TurnGives p (and_then r x turn rest)
then-gives p r x turn rest gives also =
    let later : TurnGives p (rest (behind_marks r x turn.marks)) = also (behind_marks r x turn.marks) in
    record {
      moments = All-append (λ answer. ReplyHasMoments answer.1) turn.answers (rest (behind_marks r x turn.marks)).answers gives.moments later.moments;
      marks = each-append p turn.marks (rest (behind_marks r x turn.marks)).marks gives.marks later.marks;
    }

module _ {P : Type 0} (p : Mark → Bool) (wakes : (who : ℕ) → p (tabled (waited who)) ≡ true) (tried : (s : Session) (who : ℕ) (mark : Mark) → may_leave of_resumed s who mark ≡ true → p mark ≡ true)
    (r : PartReader P) (keeps : KeepsMarks p r) where
  resumed-gives : (x : P) (w : Waiting) → TurnGives p (resumed r x w)
  resumed-gives x w =
      let s : Session = (r.part behind).session w.who in
      let run : TurnGives p (turn_of w.who (attempted r w ((r.part x).attempt w.who) behind)) = turn_of-gives p w.who _ (given-settled ReplyHasMoments p (λ refusal. tt) plain w.who s _
      (keeps.tells behind _ (gives-map ReplyHasMoments ReplyHasMoments (may_leave (of_rows (attempt_kinds true)) s w.who) p (λ reply has. has) (attempt-tried s w.who) _
      (gives-attempt w.who (r.part behind) ((r.rows behind).key w.who w.table w.key) w.table w.key ((r.part x).attempt w.who))))) in
      record { moments = run.moments; marks = each-front p (tabled (waited w.who)) _ (wakes w.who) run.marks }
    where
      behind : P
      behind = r.behind x (tabled (waited w.who))

      attempt-tried : (s : Session) (who : ℕ) (mark : Mark) → may_leave (of_rows (attempt_kinds true)) s who mark ≡ true → p mark ≡ true
      attempt-tried s who (queued mark) e = absurd (no-queued (attempt_kinds true) s who mark e)
      attempt-tried s who (sight_taken v) e = absurd (cc)
      attempt-tried s who (block_failed v) e = absurd (cc)
      attempt-tried s who (ended (of_session v) t false) e = absurd (cc)
      attempt-tried s who mark e = tried s who mark e

      plain : (s : Session) (who : ℕ) (mark : Mark) → may_leave of_any s who mark ≡ true → p mark ≡ true
      plain s who (queued mark) e = absurd (no-queued of_any s who mark e)
      plain s who (tabled mark) e = absurd (none mark e)
        where
          none : (m : TableMark) → may_leave of_any s who (tabled m) ≡ true → ⊥
          none (wrote of_worker t table key old new) e = cc
          none (wrote (of_session v) t table key old new) e = cc
          none (wrote (of_copy n) t table key old new) e = cc
          none _ e = cc
      plain s who (began of_worker t) e = absurd (cc)
      plain s who (began (of_session v) t) e = absurd (cc)
      plain s who (began (of_copy n) t) e = absurd (cc)
      plain s who (ended (of_session v) t true) e = absurd (cc)
      plain s who (ended of_worker t c) e = absurd (cc)
      plain s who mark e = tried s who mark e

  settles-gives : (n : ℕ) (x : P) → TurnGives p (settles r n x)
  settles-gives zero x = record { moments = λ k a within. absurd (omega arith); marks = tt }
  settles-gives (suc n) x = of (ready (r.part x)) (settles-gives n)
    where
      of : (o : Option Waiting) → ((y : P) → TurnGives p (settles r n y)) → TurnGives p (goes_on r x (settles r n) o)
      of None also = record { moments = λ k a within. absurd (omega arith); marks = tt }
      of (Some w) also = then-gives p r x (resumed r x w) (settles r n) (resumed-gives x w) also

  -- those that resume
  pub settling-gives : (x : P) → TurnGives p (settling r x)
  settling-gives x = settles-gives (length (r.part x).waiting) x
