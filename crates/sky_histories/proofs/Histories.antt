-- Whatever is called, the history of each database is one that its own calls make; and those are legal.
use Rattle.std.proofs.Common.{zero, suc, ◌≡◌, All, ℕ, ℤ, List, [], ◌∷◌, ◌++◌, Bool, true, false, nat_le, ◌+◌, ◌^◌, arith, Option, Some, None, Ok, Err, map, length, refl, sym, ◌∙◌, ap, subst, if◌then◌else◌}
use Rattle.sky_model.specs.StepRetry.{most_back, maint_retry_events}
use Rattle.sky_model.specs.Retries.{retries}
use Rattle.std.proofs.lemmas.List.Elements.{All-nil, All-cons, All-head, All-tail, All-weaker}
use Rattle.sky_model.specs.declared.stmt.Stmt.{Stmt}
use Rattle.sky_model.specs.declared.stmt.DbStmt.{DbStmt}
use Rattle.sky_model.specs.declared.stmt.WorldStmt.{WorldStmt}
use Rattle.sky_model.specs.declared.stmt.WorldStmt.TheVariants.{Clock, PgqdOn, PgqdOff}
use Rattle.sky_model.specs.declared.reply.Refusal.{Refusal}
use Rattle.sky_model.specs.InForm.{IsDbInForm, IsInForm}
use Rattle.sky_keys.specs.Waits.{is_waiting}
use Rattle.sky_names.specs.Places.{place_of}
use Rattle.sky_model.specs.History.{Mark, History, Fact, appeared, founded, entered as came, within, queued, ticked, daemon_off, Past}
use Rattle.sky_model.specs.Sessions.{has_open, block, session}
use Rattle.sky_model.specs.Locks.{waiting}
use Rattle.sky_model.specs.State.{part_of, queue_of, database_of}
use Rattle.sky_model.specs.Outcome.{Outcome, Checked, ◌>>◌, refused_if, answers, does_marks, reply_of, marks_of}
use Rattle.sky_model.specs.Allowed.{allowed}
use Rattle.sky_model.specs.World.{world_of, history_in, on_top, session_names, database_names, home}
use Rattle.sky_model.specs.Reader.{database_by_history, within_part, within_database, by_past, Deed, appears}
use Rattle.sky_model.specs.Made.{takes_sight}
use Rattle.sky_model.specs.Settling.{Turn, marked, and_then}
use Rattle.sky_model.specs.Clock.{deed_in, waits_at}
use Rattle.sky_model.specs.declared.daemon.DaemonPart.{DaemonPart}
use Rattle.sky_model.specs.declared.daemon.DaemonPart.TheVariants.{Tick, Retry, Maintain}
use Rattle.sky_model.specs.declared.stmt.Stmt.TheVariants.{Db, Node, World as OnWorld}
use Rattle.sky_model.specs.declared.reply.Reply.TheVariants.{Number, Null}
use Rattle.sky_model.specs.declared.reply.Refusal.TheVariants.{IdsSpent}
use Rattle.sky_model.specs.Queues.{NamedQueue, queues, ticks, newest_tick}
use Rattle.sky_model.specs.StepQueue.{is_due, newest_id}
use Rattle.sky_model.specs.Queues.{id_of}
use Rattle.sky_model.specs.Daemon.{quietly, ticks_of, daemon_does, retries_of, moved_by, again_if, first_steps_of, second_step_of_all}
use Rattle.sky_histories.proofs.Rotation.{newest-kept}
use Rattle.sky_histories.proofs.Commits.{all-among}
use Rattle.sky_histories.proofs.Rotating.{may_rotate, rotates-stay, may_end_switches}
use Rattle.sky_model.specs.StepRotation.{held_back, rotates_by_itself}
use Rattle.sky_histories.proofs.DaemonTurns.{same-daemon_does}
use Rattle.sky_histories.proofs.ClockSteps.{after-clock}
use Rattle.sky_model.specs.StepNode.{NodeCall, node_does}
use Rattle.sky_histories.proofs.NodeCalls.{IsBetween, node-chain}
use Rattle.sky_histories.proofs.NodesStanding.{NodeStands, stands-start, stands-does}
use Rattle.sky_histories.proofs.CallsRest.{calls-rest}
use Rattle.sky_model.specs.Nodes.{node, leaf_tables}
use Rattle.sky_model.specs.Rows.{table_names}
use Rattle.sky_model.specs.LawsOfNodes.{is_one_of}
use Rattle.sky_histories.proofs.NodeDeeds.{after-node_does, after-refused, after-switches}
use Rattle.sky_model.specs.Calls.{database_turn, opening, opens, outside_does, is_leaving, left_if, db_stmt_does, fails_if, refused_in, on_unless, world_stmt_does, turn, Call, called, past_of}
use Rattle.sky_model.specs.SessionMarks.{look_of, entry_place, enters, failing}
use Rattle.sky_model.specs.Promises.{after_all}
use Rattle.sky_model.specs.DatabaseCalls.{DatabaseCall, stepped, entered, failed, worked, served, IsDatabaseCallInForm, database_does, database_part}
use Rattle.sky_model.specs.HistoryPlaces.{IsPlace}
use Rattle.sky_model.specs.Steps.{IsCallInForm}
use Rattle.sky_model.specs.LawsOfHistories.{HistoriesAreMadeByOwnCalls}
use Rattle.sky_histories.proofs.Legal.{IsAmong, IsQueue, AllWritable, Fine, looks, ticks_next, Chain, done, more, Legal, start, next}
use Rattle.sky_histories.proofs.Good.{same-session, good_failure}
use Rattle.sky_histories.proofs.LawfulTelling.{good_append, legal_behind}
use Rattle.sky_histories.proofs.Turns.{ReadsAs, same-turn_read, same-fails_read}
use Rattle.sky_histories.proofs.Lawful.{past-behind, database-reads, good_with_settling-by, good_turn, good_then, maint_may}
use Rattle.sky_histories.proofs.PastHistories.{on_top-append, history-marks, AreOutside, history-outside, left-outside, on-quiet, off-quiet}
use Rattle.sky_model.proofs.Cases.{by_same}
use Rattle.sky_histories.proofs.CopiesCovered.{AllCovered, covered-start}
use Rattle.sky_histories.proofs.CoveredCalls.{covered-does}
use Rattle.sky_histories.proofs.WorkersRest.{Rests, rests-does}

-- ---- calls of a database

-- what a session does that enters may come
pub good_enters : (h : History) (who : ℕ) (sight : Bool) (may : Checked (Unit {0})) → Chain h (enters who (look_of who sight) may).marks
good_enters h who true (Ok _) = more (looks who) done
good_enters h who false (Ok _) = done
good_enters h who sight (Err refusal) = done

-- and so may the ticks of queues that stand
abbrev MayTick : ℤ → List NamedQueue → Type 0
MayTick now left = (h : History) → Legal h → All (λ q. IsQueue h q.number) left → Chain h (ticks_of database_by_history now left h).marks

good_tick : (now : ℤ) (q : NamedQueue) (left : List NamedQueue) → MayTick now left → MayTick now (q ∷ left)
good_tick now q left may h l are = by (is_due now ((database_of h).queue q.number)) (nat_le (2 ^ 64) id)
  where
    id : ℕ
    id = newest_id ((database_of h).queue q.number) + 1

    mark : Mark
    mark = queued (ticked q.number id now ((database_of h).queue q.number).seq)

    is : IsQueue h q.number
    is = All-head (λ q. IsQueue h q.number) q left are

    others : All (λ q. IsQueue h q.number) left
    others = All-tail (λ q. IsQueue h q.number) q left are

    fine : Fine h mark
    fine =
        let all : newest_id ((database_of h).queue q.number) ≡ id_of (newest_tick (ticks q.number h)) = ap id_of (newest-kept h l q.number is) in
        ticks_next q.number id now _ is (omega arith) (omega (arith, all))

    by : (due spent : Bool) → Chain h (and_then (within_part database_by_history now) h (quietly (if due then (refused_if spent IdsSpent >> does_marks (Number id) (mark ∷ [])) else answers Null))
        (ticks_of database_by_history now left)).marks
    by true true = may h l others
    by true false = more fine (may (mark ∷ h) (next l fine) others)
    by false spent = may h l others

good_ticks : (now : ℤ) (left : List NamedQueue) → MayTick now left
good_ticks now [] h l are = done
good_ticks now (q ∷ left) h l are = good_tick now q left (good_ticks now left) h l are

-- and retries that come back
good_again : (rest : History → Turn) → ((h : History) → Legal h → Chain h (rest h).marks) → (b : Bool) (h : History) → Legal h → Chain h (again_if b rest h).marks
good_again rest good true h l = good h l
good_again rest good false h l = done

good_retries : (now : ℤ) (n : ℕ) (h : History) → Legal h → Chain h (retries_of database_by_history now n h).marks
good_retries now zero h l = done
good_retries now (suc n) h l =
    let c : Checked Outcome = maint_retry_events (database_of h) now in
    let full : Bool = nat_le most_back (moved_by (reply_of c)) in
    good_then (within_part database_by_history now) (λ g. g) (database-reads now) h l (quietly c) (again_if full (retries_of database_by_history now n))
    (maint_may h l now) (good_again (retries_of database_by_history now n) (good_retries now n) full)

-- and the first steps of rotations
good_first_steps : (now : ℤ) (left : List NamedQueue) (h : History) → Legal h → All (λ q. IsQueue h q.number) left → Chain h (first_steps_of database_by_history now left h).marks
good_first_steps now [] h l are = done
good_first_steps now (q ∷ left) h l are =
    let turn : Turn = quietly (rotates_by_itself (database_of h) now q.number) in
    good_append h turn.marks _ chain
    (subst (λ g. Chain g (first_steps_of database_by_history now left g).marks) (sym (past-behind (within_part database_by_history now) (λ g. g) (database-reads now) h turn.marks))
    (good_first_steps now left (marked h turn.marks) (legal_behind h turn.marks l chain)
    (All-weaker (λ q. IsQueue h q.number) (λ q. IsQueue (marked h turn.marks) q.number) (λ x is. subst (IsAmong x.number) (sym (rotates-stay h now q.number (held_back now (queue_of h q.number)))) is)
    left (All-tail (λ q. IsQueue h q.number) q left are))))
  where
    chain : Chain h (quietly (rotates_by_itself (database_of h) now q.number)).marks
    chain = may_rotate h l now q.number (All-head (λ q. IsQueue h q.number) q left are) (held_back now (queue_of h q.number)) refl

-- and what a daemon does
good_daemon_does : (h : History) → Legal h → (part : DaemonPart) (now : ℤ) → Chain h (daemon_does database_by_history h part now).marks
good_daemon_does h l Tick now = good_ticks now (queues h) h l (all-among (queues h))
good_daemon_does h l Retry now = good_retries now (length (retries h)) h l
good_daemon_does h l Maintain now =
    good_then (within_part database_by_history now) (λ g. g) (database-reads now) h l (first_steps_of database_by_history now (queues h) h) (second_step_of_all database_by_history)
    (good_first_steps now (queues h) h l (all-among (queues h))) (λ g legal. may_end_switches g legal)

-- and what a failure does
pub good_fails : (h : History) → Legal h → (who : ℕ) (now : ℤ) → Chain h (database_does database_by_history h (failed who now)).marks
good_fails h l who now = good_with_settling-by (within_part database_by_history now) (λ g. g) (database-reads now) h l (failing (part_of h) who) (good_failure h who)

-- and so may what a call does
pub good_does : (h : History) → Legal h → IsBetween h → (call : DatabaseCall) → Chain h (database_does database_by_history h call).marks
good_does h l between (stepped who stmt now) = good_turn h l now who stmt
good_does h l between (entered who outside) = good_enters h who (takes_sight (entry_place outside) (session h who).sight) (allowed (is_waiting who (waiting h)) (has_open who h) (block who h) (entry_place outside))
good_does h l between (worked part now) = good_daemon_does h l part now
good_does h l between (served call) = node-chain h l between call
good_does h l between (failed who now) = good_fails h l who now

-- the history that calls make is legal, its workers rest, its node is lawful, and its copies are
record IsLawful (h : History) : Type 0 where
  legal : Legal h
  rests : Rests h
  stands : NodeStands h
  covered : AllCovered h

-- so a database without a node has no read-only table
bare-writable : (h : History) → NodeStands h → node h ≡ None → AllWritable h
bare-writable h stands bare table = stands.guarding table ∙ ap (λ n. is_one_of (table_names h) (leaf_tables n) table) bare

lawful_calls : (calls : List DatabaseCall) → IsLawful (after_all database_part calls)
lawful_calls [] = record { legal = start; rests = record { calm = tt; idle = refl }; stands = stands-start; covered = covered-start }
lawful_calls (call ∷ calls) =
    let h : History = after_all database_part calls in
    let before : IsLawful h = lawful_calls calls in
    let chain : Chain h (database_does database_by_history h call).marks =
    good_does h before.legal (record { rests = calls-rest calls; idle = before.rests.idle; writable = bare-writable h before.stands; guarding = before.stands.guarding; covered = before.covered }) call in
    record {
      legal = legal_behind h (database_does database_by_history h call).marks before.legal chain;
      rests = rests-does h before.legal before.rests call;
      stands = stands-does h before.legal before.stands call chain;
      covered = covered-does h before.legal before.covered call chain;
    }

pub legal_calls : (calls : List DatabaseCall) → Legal (after_all database_part calls)
legal_calls calls = (lawful_calls calls).legal

-- after calls no worker's transaction is running but those of copies
pub rests_calls : (calls : List DatabaseCall) → Rests (after_all database_part calls)
rests_calls calls = (lawful_calls calls).rests

pub stands_calls : (calls : List DatabaseCall) → NodeStands (after_all database_part calls)
stands_calls calls = (lawful_calls calls).stands

-- ---- calls of the world

-- in the past a database reads as its history does
reads-within : (d : ℕ) → ReadsAs (within_database by_past d) database_by_history (λ p. history_in p d)
reads-within d = record {
  database = λ p. refl;
  shown = λ p. refl;
  behind = λ p mark. ap (λ b. if b then mark ∷ history_in p d else history_in p d) (same-session d);
}

-- so does a statement, with what it unblocks, and what fails in a session's name
pub same-turn-within : (past : Past) (d : ℕ) (now : ℤ) (who : ℕ) (stmt : DbStmt) → database_turn (within_database by_past d) past now who stmt ≡ database_turn database_by_history (history_in past d) now who stmt
same-turn-within past d now who stmt = same-turn_read (within_database by_past d) database_by_history (λ p. history_in p d) (reads-within d) past now who stmt

pub same-fails-within : (past : Past) (d : ℕ) (now : ℤ) (who : ℕ) (aborts : Bool) → fails_if (within_database by_past d) past now who aborts ≡ fails_if database_by_history (history_in past d) now who aborts
same-fails-within past d now who aborts = same-fails_read (within_database by_past d) database_by_history (λ p. history_in p d) (reads-within d) past now who aborts

-- such calls of a database make a history, and are in form if this holds
record Made (formed : Type 0) (h : History) : Type 0 where
  calls : List DatabaseCall
  in_form : formed → All IsDatabaseCallInForm calls
  make : after_all database_part calls ≡ h

-- a past in which that is so of each database
abbrev AllMade : Type 0 → Past → Type 0
AllMade formed past = (d : ℕ) → Made formed (history_in past d)

-- a history with what a statement does is made so too, and one with what a failure does
made_turn : (formed : Type 0) (h : History) (now : ℤ) (who : ℕ) (stmt : DbStmt) → (formed → IsDbInForm stmt) → Made formed h → Made formed (marked h (database_turn database_by_history h now who stmt).marks)
made_turn formed h now who stmt is_form made = record {
  calls = stepped who stmt now ∷ made.calls;
  in_form = λ holds. All-cons IsDatabaseCallInForm (stepped who stmt now) made.calls (is_form holds) (made.in_form holds);
  make = λ i. marked (made.make i) (database_turn database_by_history (made.make i) now who stmt).marks;
}

made_failed : (formed : Type 0) (h : History) (now : ℤ) (who : ℕ) → Made formed h → Made formed (marked h (fails_if database_by_history h now who true).marks)
made_failed formed h now who made = record {
  calls = failed who now ∷ made.calls;
  in_form = λ holds. All-cons IsDatabaseCallInForm (failed who now) made.calls tt (made.in_form holds);
  make = λ i. marked (made.make i) (fails_if database_by_history (made.make i) now who true).marks;
}

made_if : (formed : Type 0) (past : Past) (b : Bool) (x y : Deed) → AllMade formed (on_top past x.facts) → AllMade formed (on_top past y.facts) → AllMade formed (on_top past (if b then x else y).facts)
made_if formed past true x y all also = all
made_if formed past false x y all also = also

-- marks in a database with which its history is made so
made_within : (formed : Type 0) (past : Past) (d : ℕ) (marks : List Mark) → Made formed (marked (history_in past d) marks) → AllMade formed past → AllMade formed (on_top past (map (within d) marks))
made_within formed past d marks here all = λ n.
    subst (Made formed) (sym (history-marks past d marks n))
    (by_same (λ b. Made formed (if b then marked (history_in past n) marks else history_in past n)) d n
    (λ same. subst (λ m. Made formed (marked (history_in past m) marks)) same here) (λ _. all n))

-- facts that change no history
made_behind : (formed : Type 0) (past : Past) (facts outside : List Fact) → AreOutside outside → AllMade formed (on_top past facts) → AllMade formed (on_top past (facts ++ outside))
made_behind formed past facts outside none all = λ n. subst (Made formed) (sym (history-outside past facts outside n none)) (all n)

-- a statement in a database, with what it changes outside of databases
made_deed : (formed : Type 0) (past : Past) (d who : ℕ) (stmt : DbStmt) (outside : List Fact) → AreOutside outside → (formed → IsDbInForm stmt) → AllMade formed past
    → AllMade formed (on_top past (deed_in d outside (database_turn (within_database by_past d) past (world_of past).now who stmt)).facts)
made_deed formed past d who stmt outside none is_form all =
    made_behind formed past (map (within d) turn_within.marks) outside none (made_within formed past d turn_within.marks here all)
  where
    turn_within : Turn
    turn_within = database_turn (within_database by_past d) past (world_of past).now who stmt

    here : Made formed (marked (history_in past d) turn_within.marks)
    here = subst (λ (x : Turn). Made formed (marked (history_in past d) x.marks)) (sym (same-turn-within past d (world_of past).now who stmt))
        (made_turn formed (history_in past d) (world_of past).now who stmt is_form (all d))

-- a refusal in a database
made_refused : (formed : Type 0) (past : Past) (who d : ℕ) (refusal : Refusal) → AllMade formed past → AllMade formed (on_top past (refused_in by_past past who d refusal).facts)
made_refused formed past who d refusal all =
    after-refused (AllMade formed) past who d refusal all
    (made_within formed past d fails.marks
    (subst (λ (x : Turn). Made formed (marked (history_in past d) x.marks)) (sym (same-fails-within past d (world_of past).now who true)) (made_failed formed (history_in past d) (world_of past).now who (all d))) all)
  where
    fails : Turn
    fails = fails_if (within_database by_past d) past (world_of past).now who true

made_opens : (formed : Type 0) (past : Past) (who : ℕ) (stmt : DbStmt) (name : List ℕ) (found : Option ℕ) → (formed → IsDbInForm stmt) → AllMade formed past
    → AllMade formed (on_top past (opens by_past past who stmt name found).facts)
made_opens formed past who stmt name (Some d) is_form all = made_deed formed past d who stmt (came who d ∷ []) (λ p n. refl) is_form all
made_opens formed past who stmt name None is_form all =
    let d : ℕ = length (database_names past) in
    made_if formed past (nat_le 16 d) _ _ all (made_deed formed (founded name ∷ past) d who stmt (came who d ∷ []) (λ p n. refl) is_form all)

made_outside : (formed : Type 0) (past : Past) (who : ℕ) (stmt : DbStmt) (name : Option (List ℕ)) → (formed → IsDbInForm stmt) → AllMade formed past
    → AllMade formed (on_top past (outside_does by_past past who stmt name).facts)
made_outside formed past who stmt None is_form all = all
made_outside formed past who stmt (Some name) is_form all = made_opens formed past who stmt name (place_of name (database_names past)) is_form all

made_served : (formed : Type 0) (h : History) (call : NodeCall) → Made formed h → Made formed (marked h (marks_of (node_does (database_of h) call)))
made_served formed h call made = record {
  calls = served call ∷ made.calls;
  in_form = λ holds. All-cons IsDatabaseCallInForm (served call) made.calls tt (made.in_form holds);
  make = λ i. marked (made.make i) (marks_of (node_does (database_of (made.make i)) call));
}

-- a call for a node in a database
made_called-in : (formed : Type 0) (past : Past) (d : ℕ) (call : NodeCall) → AllMade formed past
    → AllMade formed (on_top past (map (within d) (marks_of (node_does (database_of (history_in past d)) call))))
made_called-in formed past d call all =
    made_within formed past d (marks_of (node_does (database_of (history_in past d)) call)) (made_served formed (history_in past d) call (all d)) all

made_db : (formed : Type 0) (past : Past) (who : ℕ) (stmt : DbStmt) (home : Option ℕ) → (formed → IsDbInForm stmt) → AllMade formed past → AllMade formed (on_top past (db_stmt_does by_past past who stmt home).facts)
made_db formed past who stmt None is_form all = made_outside formed past who stmt (opening stmt) is_form all
made_db formed past who stmt (Some d) is_form all =
    let leaving : Bool = is_leaving (is_waiting who ((world_of past).database d).part.waiting) stmt in
    made_deed formed past d who stmt (left_if who leaving) (left-outside who leaving) is_form all

-- what a daemon does, by the past and by its database's history
pub same-daemon-within : (past : Past) (d : ℕ) (part : DaemonPart) (now : ℤ) → daemon_does (within_database by_past d) past part now ≡ daemon_does database_by_history (history_in past d) part now
same-daemon-within past d part now =
    same-daemon_does (within_database by_past d) database_by_history (λ p. history_in p d) (λ p. refl) (λ p mark. ap (λ b. if b then mark ∷ history_in p d else history_in p d) (same-session d)) past part now

made_daemon : (formed : Type 0) (h : History) (part : DaemonPart) (now : ℤ) → Made formed h → Made formed (marked h (daemon_does database_by_history h part now).marks)
made_daemon formed h part now made = record {
  calls = worked part now ∷ made.calls;
  in_form = λ holds. All-cons IsDatabaseCallInForm (worked part now) made.calls tt (made.in_form holds);
  make = λ i. marked (made.make i) (daemon_does database_by_history (made.make i) part now).marks;
}

made_works : (formed : Type 0) (past : Past) (d : ℕ) (part : DaemonPart) (now : ℤ) → AllMade formed past
    → AllMade formed (on_top past (map (within d) (daemon_does (within_database by_past d) past part now).marks))
made_works formed past d part now all =
    made_within formed past d (daemon_does (within_database by_past d) past part now).marks
    (subst (λ (x : Turn). Made formed (marked (history_in past d) x.marks)) (sym (same-daemon-within past d part now)) (made_daemon formed (history_in past d) part now (all d))) all

made_world : (formed : Type 0) (past : Past) (who : ℕ) (stmt : WorldStmt) (home : Option ℕ) → AllMade formed past → AllMade formed (on_top past (world_stmt_does by_past past who stmt home).facts)
made_world formed past who (Clock time) home all =
    after-clock (AllMade formed) (λ p moment made. made) (made_works formed) past who time (waits_at (world_of past) who home) all
made_world formed past who PgqdOn home all =
    after-switches (AllMade formed) past who (λ d. on_unless d ((world_of past).daemons d)) home
    (λ d. made_behind formed past [] (on_unless d ((world_of past).daemons d)) (on-quiet d ((world_of past).daemons d)).histories all) (λ d refusal. made_refused formed past who d refusal all) all
made_world formed past who PgqdOff home all =
    after-switches (AllMade formed) past who (λ d. daemon_off d ∷ []) home (λ d. made_behind formed past [] (daemon_off d ∷ []) (off-quiet d).histories all)
    (λ d refusal. made_refused formed past who d refusal all) all

made_statement : (formed : Type 0) (past : Past) (who : ℕ) (stmt : Stmt) → (formed → IsInForm stmt) → AllMade formed past → AllMade formed (on_top past (turn by_past who stmt past).facts)
made_statement formed past who (Db stmt) is_form all = made_db formed past who stmt (home past who) is_form all
made_statement formed past who (Node stmt) is_form all =
    after-node_does (AllMade formed) (λ p e made. made) (λ p e table hand made. made) (λ p e batch made. made) (made_called-in formed) past who stmt (home past who)
    (λ d refusal. made_refused formed past who d refusal all) all
made_statement formed past who (OnWorld stmt) is_form all = made_world formed past who stmt (home past who) all

made_called : (formed : Type 0) (past : Past) (call : Call) (found : Option ℕ) → (formed → IsInForm call.stmt) → AllMade formed past → AllMade formed (on_top past (called by_past past call found).facts)
made_called formed past call (Some who) is_form all = made_statement formed past who call.stmt is_form all
made_called formed past call None is_form all =
    made_if formed past (nat_le 256 (length (session_names past))) _ _ all
    (λ d. subst (λ p. Made formed (history_in p d)) (sym (on_top-append past (appears call.who).facts (turn by_past (length (session_names past)) call.stmt (appeared call.who ∷ past)).facts))
    (made_statement formed (appeared call.who ∷ past) (length (session_names past)) call.stmt is_form all d))

-- if something else holds that implies it
made_if_given : (formed given : Type 0) → (given → formed) → (h : History) → Made formed h → Made given h
made_if_given formed given gives h made = record { calls = made.calls; in_form = λ holds. made.in_form (gives holds); make = made.make }

made_past : (calls : List Call) → AllMade (All IsCallInForm calls) (past_of calls)
made_past [] d = record { calls = []; in_form = λ holds. All-nil IsDatabaseCallInForm; make = refl }
made_past (call ∷ calls) d =
    made_called (All IsCallInForm (call ∷ calls)) (past_of calls) call (place_of call.who (session_names (past_of calls)))
    (λ holds. (All-head IsCallInForm call calls holds).1)
    (λ n. made_if_given (All IsCallInForm calls) (All IsCallInForm (call ∷ calls)) (All-tail IsCallInForm call calls) (history_in (past_of calls) n) (made_past calls n)) d

pub histories_are_made_by_own_calls : HistoriesAreMadeByOwnCalls
histories_are_made_by_own_calls calls database =
    let made : Made (All IsCallInForm calls) (history_in (past_of calls) database) = made_past calls database in
    record { own_calls = made.calls; in_form = made.in_form; make = made.make }

-- so a place of the world is one of its database's calls
pub world_place : (calls : List Call) (database : ℕ) (later : List Mark) (p : History) → All IsCallInForm calls → history_in (past_of calls) database ≡ later ++ p → IsPlace p
world_place calls database later p in_form is =
    let made : Made (All IsCallInForm calls) (history_in (past_of calls) database) = made_past calls database in
    record { calls = made.calls; in_form = made.in_form in_form; later = later; below = made.make ∙ is }

-- the history of each database is legal
abbrev pub AllLegal : Past → Type 0
AllLegal past = (d : ℕ) → Legal (history_in past d)

pub legal_past : (calls : List Call) → AllLegal (past_of calls)
legal_past calls d = let made : Made (All IsCallInForm calls) (history_in (past_of calls) d) = made_past calls d in subst Legal made.make (legal_calls made.calls)
