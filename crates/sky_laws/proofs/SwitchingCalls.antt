-- What calls do, by what the first steps of rotations, commits of blocks and plain marks do: once for every property of marks at their places.
use Rattle.std.proofs.Common.{◌≡◌, ℕ, zero, suc, ℤ, List, [], ◌∷◌, ◌++◌, Bool, true, false, Option, Some, None, Ok, Err, is_ok, length, nat_le, refl, sym, ap, subst, ◌^◌, if◌then◌else◌}
use Rattle.std.proofs.lemmas.Bool.{cond_both}
use Rattle.sky_keys.specs.Waits.{Waiting, is_waiting}
use Rattle.pgq_retry.specs.declared.retry.Retry.{Retry}
use Rattle.pgq_retry.specs.Retries.{due_now}
use Rattle.sky_model.specs.declared.reply.HeldBack.{HeldBack}
use Rattle.sky_model.specs.declared.reply.Reply.TheVariants.{Number}
use Rattle.sky_model.specs.declared.reply.Refusal.{Refusal}
use Rattle.sky_model.specs.declared.reply.Refusal.TheVariants.{TxidsSpent, NoQueue, Canceled}
use Rattle.sky_model.specs.declared.stmt.DbStmt.{DbStmt}
use Rattle.sky_model.specs.declared.stmt.RowStmt.TheVariants.{Begin, BeginRepeatableRead, Commit}
use Rattle.sky_model.specs.declared.stmt.DbStmt.TheVariants.{Row, Queue}
use Rattle.sky_model.specs.declared.stmt.QueueStmt.TheVariants.{MaintRetryEvents, MaintRotateStep1}
use Rattle.sky_model.specs.declared.stmt.Where.TheVariants.{WhenReading}
use Rattle.sky_model.specs.declared.daemon.DaemonPart.{DaemonPart}
use Rattle.sky_model.specs.declared.daemon.DaemonPart.TheVariants as part
use Rattle.sky_model.specs.History.{Mark, of_session, of_worker, began, ended, block_begun, repeats, block_ended, sight_taken, tabled, waited, read_only, queued, registered, unregistered, opened, closed, traced, untraced, switching, switched, noded, History, of_copy, wrote, made}
use Rattle.sky_model.specs.Transactions.{next_txid}
use Rattle.sky_model.specs.Sessions.{Block, outside, inside, failed, session, has_open, block, own_txid}
use Rattle.sky_model.specs.Locks.{waiting, attempt}
use Rattle.sky_model.specs.Queues.{NamedQueue, queues, queue_number}
use Rattle.sky_model.specs.Retries.{retries}
use Rattle.sky_model.specs.OwnTransaction.{next_id, own_or_next, begin_of, commit_of}
use Rattle.sky_model.specs.State.{part_of, queue_of, database_of}
use Rattle.sky_model.specs.Outcome.{Outcome, Checked, ◌>>=◌, ◌>>◌, refused_if, found_or, does_marks, after_marks_of, marks_of, reply_of, abort, or_refused}
use Rattle.sky_model.specs.Allowed.{where_of, allowed}
use Rattle.sky_model.specs.Made.{takes_sight, looking, runs_if}
use Rattle.sky_model.specs.ShownRows.{rows_in}
use Rattle.sky_model.specs.StepQueue.{next_tick}
use Rattle.sky_model.specs.StepRetry.{brings, most_back, maint_retry_events}
use Rattle.sky_model.specs.StepRotation.{held_back, switch_of, rotates, rotates_alone, rotates_by_itself, lack_second_step, maint_rotate_step2, switches_by, switches_of, committed_by}
use Rattle.sky_model.specs.StepRows.{attempts}
use Rattle.sky_model.specs.StepSession.{begin, begin_repeatable_read, commit}
use Rattle.sky_model.specs.Telling.{tells}
use Rattle.sky_model.specs.Reader.{shown_in, database_by_history, within_part}
use Rattle.sky_model.specs.Settling.{Turn, turn_of, behind_marks, marked, and_then, ready, resumed, goes_on, settles, settling, with_settling}
use Rattle.sky_model.specs.Daemon.{quietly, ticks_of, moved_by, again_if, retries_of, first_steps_of, second_step_of_all, daemon_does}
use Rattle.sky_model.specs.Calls.{form, making, statement}
use Rattle.sky_model.specs.SessionMarks.{look_of, failure, entry_place, enters, failing}
use Rattle.sky_model.specs.DatabaseCalls.{stepped, entered, failed as failed_call, worked, served, database_does}
use Rattle.sky_model.specs.StepNode.{NodeCall}
use Rattle.sky_histories.proofs.NodeCalls.{is_for_nodes, each-node}
use Rattle.sky_histories.proofs.Lawful.{database-reads, past-behind}
use Rattle.sky_model.proofs.Cases.{by_block}
use Rattle.sky_histories.proofs.Good.{same-session, MayStand}
use Rattle.sky_histories.proofs.StatementMarks.{EachMark, each-given, AnyReply, Gives}
use Rattle.sky_laws.proofs.PlainStatements.{IsOut, out-here, may_do, abort-plain, does-attempts, does-ends_switches, does-tick, does-form}

-- a property of marks at their place that what calls leave has, at a moment
pub record IsOfCalls (now : ℤ) (K : History → List Mark → Type 0) : Type 0 where
  pub joined : (h : History) (xs ys : List Mark) → K h xs → K (marked h xs) ys → K h (xs ++ ys)
  pub plain : (b : Block) (who : ℕ) (h : History) (marks : List Mark) → IsOut b who h → EachMark (may_do b who) marks → K h marks
  pub begins : (h : History) (who : ℕ) → K h (block_begun who ∷ [])
  pub switches : (h : History) (who q t : ℕ) (b : Block) → own_txid who h ≡ Some t → block who h ≡ b → (b ≡ failed → ⊥) → held_back now (queue_of h q) ≡ None
      → K h (switch_of q t now b ++ commit_of who t b)
  pub switches_alone : (h : History) (q t : ℕ) → held_back now (queue_of h q) ≡ None → K h (queued (switching q t) ∷ queued (switched q now) ∷ ended of_worker t true ∷ [])
  pub brings_back : (h : History) (rs : List Retry) → K h (marks_of (brings (database_of h) now rs))
  pub commits : (h : History) (who t : ℕ) → K h (switches_by (database_of h) now t (queues h) ++ ended (of_session who) t true ∷ block_ended who ∷ [])

may-fail : (waits is_open : Bool) → is_ok (allowed waits is_open failed WhenReading) ≡ true → ⊥
may-fail true is_open is = cc
may-fail false true is = cc
may-fail false false is = cc

-- entering leaves plain marks
each-enters : (who : ℕ) (sight : Bool) (may : Checked (Unit {0})) → EachMark (may_do inside who) (enters who (look_of who sight) may).marks
each-enters who true (Ok _) = tt
each-enters who false (Ok _) = tt
each-enters who sight (Err refusal) = tt

pub each-entered : (h : History) (who : ℕ) (alone : Bool) → EachMark (may_do inside who) (database_does database_by_history h (entered who alone)).marks
each-entered h who alone = each-enters who (takes_sight (entry_place alone) (session h who).sight) (allowed (is_waiting who (waiting h)) (has_open who h) (block who h) (entry_place alone))

-- and so does a call for a node
for-nodes : (mark : Mark) → is_for_nodes mark ≡ true → may_do inside 0 mark ≡ true
for-nodes (queued (registered q name sub tick)) e = refl
for-nodes (queued (unregistered q name sub)) e = refl
for-nodes (queued (opened batch)) e = refl
for-nodes (queued (closed batch)) e = refl
for-nodes (queued (traced table name trigger)) e = refl
for-nodes (queued (untraced table)) e = refl
for-nodes (queued (made name t time)) e = refl
for-nodes (tabled (read_only table on)) e = refl
for-nodes (noded mark) e = refl
for-nodes (began (of_copy table) t) e = refl
for-nodes (ended (of_copy table) t committed) e = refl
for-nodes (tabled (wrote (of_copy n) t table key old new)) e = refl
for-nodes (began of_worker t) e = refl
for-nodes (ended of_worker t committed) e = refl
for-nodes (tabled (wrote of_worker t table key old new)) e = refl
for-nodes _ e = absurd (cc)

pub each-served : (h : History) (call : NodeCall) → EachMark (may_do inside 0) (database_does database_by_history h (served call)).marks
each-served h call = each-node (may_do inside 0) for-nodes (database_of h) call

module _ (now : ℤ) (K : History → List Mark → Type 0) (is : IsOfCalls now K) where
  -- of a session that isn't outside blocks, or of a worker
  within : (h : History) (who : ℕ) (marks : List Mark) → EachMark (may_do inside who) marks → K h marks
  within h who marks each = is.plain inside who h marks (λ e _. absurd (cc)) each

  here : (h : History) (who : ℕ) (marks : List Mark) → EachMark (may_do (block who h) who) marks → K h marks
  here h who marks each = is.plain (block who h) who h marks (out-here who h) each

  none : (h : History) → K h []
  none h = within h 0 [] tt

  of-then : (h : History) (turn : Turn) (rest : History → Turn) → K h turn.marks → ((g : History) → K g (rest g).marks)
      → K h (and_then (within_part database_by_history now) h turn rest).marks
  of-then h turn rest first also =
      is.joined h turn.marks (rest (behind_marks (within_part database_by_history now) h turn.marks)).marks first
      (subst (λ y. K (marked h turn.marks) (rest y).marks) (sym (past-behind (within_part database_by_history now) (λ g. g) (database-reads now) h turn.marks)) (also (marked h turn.marks)))

  -- ---- a statement

  of-abort : (h : History) (who : ℕ) (refusal : Refusal) → K h (abort who (block who h) (own_txid who h) refusal)
  of-abort h who refusal = here h who (abort who (block who h) (own_txid who h) refusal) (abort-plain (block who h) who (block who h) (own_txid who h) refusal)

  of-settled : (h : History) (who : ℕ) (c : Checked Outcome) → K h (marks_of c) → K h (or_refused who (session h who) c).marks
  of-settled h who (Ok o) leaves = leaves
  of-settled h who (Err refusal) leaves = of-abort h who refusal

  of-plain : (h : History) (who : ℕ) (c : Checked Outcome) → Gives AnyReply (may_do (block who h) who) c → K h (or_refused who (session h who) c).marks
  of-plain h who c gives = of-settled h who c (here h who (marks_of c) (each-given AnyReply (may_do (block who h) who) c gives))

  -- the first step of a rotation
  of-rotates : (h : History) (who q : ℕ) → MayStand h who WhenReading → (why : Option HeldBack) → held_back now (queue_of h q) ≡ why
      → K h (or_refused who (session h who) (rotates (database_of h) now who q why)).marks
  of-rotates h who q may (Some why) held = none h
  of-rotates h who q may None free = by_own (own_txid who h) refl
    where
      sound : block who h ≡ failed → ⊥
      sound is = may-fail (is_waiting who (waiting h)) (has_open who h) (subst (λ b. is_ok (allowed (is_waiting who (waiting h)) (has_open who h) b WhenReading) ≡ true) is may)

      of : (spent : Bool) → K h (or_refused who (session h who) ((refused_if spent TxidsSpent >> Ok (next_txid h)) >>= (λ t. does_marks (Number 1) (began (of_session who) t ∷ switch_of q t now (block who h) ++ commit_of who t (block who h))))).marks
      of true = of-abort h who TxidsSpent
      of false =
          is.joined h (began (of_session who) (next_txid h) ∷ []) (switch_of q (next_txid h) now (block who h) ++ commit_of who (next_txid h) (block who h)) (within h who (began (of_session who) (next_txid h) ∷ []) tt)
          (is.switches (began (of_session who) (next_txid h) ∷ h) who q (next_txid h) (block who h) (ap (λ b. if b then Some (next_txid h) else own_txid who h) (same-session who)) refl sound free)

      by_own : (o : Option ℕ) → own_txid who h ≡ o
          → K h (or_refused who (session h who) (own_or_next (part_of h) o >>= (λ t. does_marks (Number 1) (begin_of who t o ++ switch_of q t now (block who h) ++ commit_of who t (block who h))))).marks
      by_own None mine = of (nat_le (2 ^ 62) (next_txid h))
      by_own (Some t) mine = is.switches h who q t (block who h) mine refl sound free

  of-step1 : (h : History) (who : ℕ) (name : List ℕ) → MayStand h who WhenReading → (found : Option ℕ)
      → K h (or_refused who (session h who) (found_or found (NoQueue name) >>= (λ q. rotates (database_of h) now who q (held_back now (queue_of h q))))).marks
  of-step1 h who name may None = of-abort h who (NoQueue name)
  of-step1 h who name may (Some q) = of-rotates h who q may (held_back now (queue_of h q)) refl

  of-commit : (h : History) (who : ℕ) (b : Block) (o : Option ℕ)
      → K h (or_refused who (session h who) (after_marks_of (switches_of (database_of h) now (committed_by b o)) (tells (database_of h) now (commit who o b)))).marks
  of-commit h who outside o = none h
  of-commit h who inside None = within h who (block_ended who ∷ []) tt
  of-commit h who inside (Some t) = is.commits h who t
  of-commit h who failed None = within h who (block_ended who ∷ []) tt
  of-commit h who failed (Some t) = within h who (ended (of_session who) t false ∷ block_ended who ∷ []) tt

  of-form : (h : History) (who : ℕ) (stmt : DbStmt) → MayStand h who (where_of stmt) → K h (or_refused who (session h who) (form (database_of h) (shown_in h) now who stmt)).marks
  of-form h who (Row Begin) may =
      by_block (λ b. K h (or_refused who (session h who) (after_marks_of [] (tells (database_of h) now (begin who b)))).marks) (is.begins h who) (none h) (none h) (block who h)
  of-form h who (Row BeginRepeatableRead) may =
      by_block (λ b. K h (or_refused who (session h who) (after_marks_of [] (tells (database_of h) now (begin_repeatable_read who b)))).marks)
      (is.joined h (block_begun who ∷ []) (repeats who ∷ []) (is.begins h who) (within (block_begun who ∷ h) who (repeats who ∷ []) tt)) (none h) (none h) (block who h)
  of-form h who (Row Commit) may = of-commit h who (block who h) (own_txid who h)
  of-form h who (Queue (MaintRotateStep1 name)) may = of-step1 h who name may (queue_number name (queues h))
  of-form h who (Queue MaintRetryEvents) may = of-settled h who (maint_retry_events (database_of h) now) (is.brings_back h (due_now now most_back (retries h)))
  of-form h who stmt may = of-plain h who (form (database_of h) (shown_in h) now who stmt)
      (does-form who (database_of h) (shown_in h) now stmt (record { begins = refl; commits = refl; rotates = refl; switches = refl; brings_back = refl }))

  of-runs : (h : History) (who : ℕ) (stmt : DbStmt) (may : Checked (Unit {0})) → allowed (is_waiting who (waiting h)) (has_open who h) (block who h) (where_of stmt) ≡ may
      → K h (runs_if (making database_by_history now who stmt) (where_of stmt) who h may).marks
  of-runs h who stmt (Err refusal) same = of-abort h who refusal
  of-runs h who stmt (Ok _) same =
      cond_both (takes_sight (where_of stmt) (session h who).sight) (looking who (or_refused who (session (sight_taken who ∷ h) who) (form (database_of (sight_taken who ∷ h)) (shown_in (sight_taken who ∷ h)) now who stmt))) _ (λ o. K h o.marks)
      (λ _. is.joined h (sight_taken who ∷ []) (or_refused who (session (sight_taken who ∷ h) who) (form (database_of (sight_taken who ∷ h)) (shown_in (sight_taken who ∷ h)) now who stmt)).marks (within h who (sight_taken who ∷ []) tt)
      (of-form (sight_taken who ∷ h) who stmt (ap is_ok same))) (λ _. of-form h who stmt (ap is_ok same))

  of-statement : (h : History) (who : ℕ) (stmt : DbStmt) → K h (statement database_by_history h now who stmt).marks
  of-statement h who stmt = of-runs h who stmt (allowed (is_waiting who (waiting h)) (has_open who h) (block who h) (where_of stmt)) refl

  -- ---- what follows it

  of-resumed : (h : History) (w : Waiting) → K h (resumed (within_part database_by_history now) h w).marks
  of-resumed h w =
      let g : History = tabled (waited w.who) ∷ h in
      let tried : Checked Outcome = attempts (part_of g) ((rows_in g).key w.who w.table w.key) w.who w.table w.key (attempt w.who h) in
      is.joined h (tabled (waited w.who) ∷ []) (or_refused w.who (session g w.who) (tells (database_of g) now tried)).marks (within h w.who (tabled (waited w.who) ∷ []) tt)
      (of-plain g w.who (tells (database_of g) now tried)
      (does-attempts w.who (database_of g) now ((rows_in g).key w.who w.table w.key) w.table w.key (attempt w.who h)))

  of-settles : (n : ℕ) (h : History) → K h (settles (within_part database_by_history now) n h).marks
  of-settles zero h = none h
  of-settles (suc n) h = of (ready (part_of h)) (of-settles n)
    where
      of : (o : Option Waiting) → ((g : History) → K g (settles (within_part database_by_history now) n g).marks)
          → K h (goes_on (within_part database_by_history now) h (settles (within_part database_by_history now) n) o).marks
      of None also = none h
      of (Some w) also = of-then h (resumed (within_part database_by_history now) h w) (settles (within_part database_by_history now) n) (of-resumed h w) also

  of-settling : (h : History) (turn : Turn) → K h turn.marks → K h (with_settling (within_part database_by_history now) h turn).marks
  of-settling h turn leaves = of-then h turn (settling (within_part database_by_history now)) leaves (λ g. of-settles (length (waiting g)) g)

  of-failure : (h : History) (who : ℕ) → K h (failure who (own_txid who h) (block who h))
  of-failure h who =
      by_block (λ b. K h (failure who (own_txid who h) b)) (none h) (within h who (abort who inside (own_txid who h) Canceled) (abort-plain inside who inside (own_txid who h) Canceled)) (none h) (block who h)

  -- ---- daemons

  of-idle : (h : History) (c : Checked Outcome) → Gives AnyReply (may_do inside 0) c → K h (marks_of c)
  of-idle h c gives = within h 0 (marks_of c) (each-given AnyReply (may_do inside 0) c gives)

  of-ticks : (left : List NamedQueue) (h : History) → K h (ticks_of database_by_history now left h).marks
  of-ticks [] h = none h
  of-ticks (q ∷ left) h =
      let c : Checked Outcome = next_tick (database_of h) now q.number in
      of-then h (quietly c) (ticks_of database_by_history now left) (of-idle h c (does-tick 0 inside (database_of h) now q.number)) (of-ticks left)

  of-again : (rest : History → Turn) (h : History) → K h (rest h).marks → (b : Bool) → K h (again_if b rest h).marks
  of-again rest h also true = also
  of-again rest h also false = none h

  of-retries : (n : ℕ) (h : History) → K h (retries_of database_by_history now n h).marks
  of-retries zero h = none h
  of-retries (suc n) h =
      let c : Checked Outcome = maint_retry_events (database_of h) now in
      let full : Bool = nat_le most_back (moved_by (reply_of c)) in
      of-then h (quietly c) (again_if full (retries_of database_by_history now n)) (is.brings_back h (due_now now most_back (retries h)))
      (λ g. of-again (retries_of database_by_history now n) g (of-retries n g) full)

  of-alone : (h : History) (q : ℕ) (why : Option HeldBack) → held_back now (queue_of h q) ≡ why → K h (marks_of (rotates_alone (database_of h) now q why))
  of-alone h q (Some why) held = none h
  of-alone h q None free = of (next_id (part_of h))
    where
      of : (c : Checked ℕ) → K h (marks_of (c >>= (λ t. does_marks (Number 1) (began of_worker t ∷ queued (switching q t) ∷ queued (switched q now) ∷ ended of_worker t true ∷ []))))
      of (Err refusal) = none h
      of (Ok t) =
          is.joined h (began of_worker t ∷ []) (queued (switching q t) ∷ queued (switched q now) ∷ ended of_worker t true ∷ []) (within h 0 (began of_worker t ∷ []) tt) (is.switches_alone (began of_worker t ∷ h) q t free)

  of-first_steps : (left : List NamedQueue) (h : History) → K h (first_steps_of database_by_history now left h).marks
  of-first_steps [] h = none h
  of-first_steps (q ∷ left) h =
      of-then h (quietly (rotates_by_itself (database_of h) now q.number)) (first_steps_of database_by_history now left)
      (of-alone h q.number (held_back now (queue_of h q.number)) refl) (of-first_steps left)

  of-daemon : (h : History) (work : DaemonPart) → K h (daemon_does database_by_history h work now).marks
  of-daemon h part.Tick = of-ticks (queues h) h
  of-daemon h part.Retry = of-retries (length (retries h)) h
  of-daemon h part.Maintain =
      of-then h (first_steps_of database_by_history now (queues h) h) (second_step_of_all database_by_history) (of-first_steps (queues h) h)
      (λ g. of-idle g (maint_rotate_step2 (database_of g)) (does-ends_switches 0 inside (database_of g) (lack_second_step (database_of g))))

  -- ---- calls

  pub of_stepped : (h : History) (who : ℕ) (stmt : DbStmt) → K h (database_does database_by_history h (stepped who stmt now)).marks
  of_stepped h who stmt = of-settling h (turn_of who (statement database_by_history h now who stmt)) (of-statement h who stmt)

  pub of_failed : (h : History) (who : ℕ) → K h (database_does database_by_history h (failed_call who now)).marks
  of_failed h who = of-settling h (failing (part_of h) who) (of-failure h who)

  pub of_worked : (h : History) (work : DaemonPart) → K h (database_does database_by_history h (worked work now)).marks
  of_worked h work = of-daemon h work

  pub of_entered : (h : History) (who : ℕ) (alone : Bool) → K h (database_does database_by_history h (entered who alone)).marks
  of_entered h who alone = within h who (database_does database_by_history h (entered who alone)).marks (each-entered h who alone)

  pub of_served : (h : History) (call : NodeCall) → K h (database_does database_by_history h (served call)).marks
  of_served h call = within h 0 (database_does database_by_history h (served call)).marks (each-served h call)
