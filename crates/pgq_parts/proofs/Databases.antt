-- What a database shows, after what the code changed in it.
use Rattle.std.proofs.Common.{Err, ◌≡◌, ℕ, ℤ, ◌+◌, ◌<◌, ◌≤◌, ◌^◌, List, [], ◌∷◌, ◌++◌, Bool, true, false, nat_le, Option, Some, None, Result, Ok, IfOk, OnOk, length, append_assoc, option_map, refl, sym, ◌∙◌, ap, subst, arith, if◌then◌else◌, ◌↔◌, ◌==◌}
use Rattle.std.proofs.lemmas.Bool.Decides.{nat_tests}
use Rattle.sky_val.specs.declared.event.Event.{Event}
use Rattle.sky_txid.specs.Snapshot.{SnapshotView}
use Rattle.sky_names.specs.Places.{place_of}
use Rattle.sky_model.specs.declared.stmt.InsertedEvent.{InsertedEvent}
use Rattle.sky_names.proofs.PlaceLemmas.{place_of_within}
use Rattle.sky_model.specs.StepNode.{table_number}
use Rattle.sky_model.specs.declared.reply.Reply.{Reply}
use Rattle.std.specs.Prelude.{not, ◌&&◌}
use Rattle.sky_model.specs.declared.reply.Reply.TheVariants.{Number, Refused}
use Rattle.sky_model.specs.declared.reply.Refusal.{Refusal}
use Rattle.sky_model.specs.declared.reply.Refusal.TheVariants.{HasConsumers, HasTriggers, QueueBusy, ReservedType, SetQueue, EventIdsSpent, IdsSpent}
use Rattle.sky_model.specs.declared.stmt.DbStmt.{DbStmt}
use Rattle.sky_model.specs.declared.stmt.Where.{Where}
use Rattle.sky_model.specs.History.{Mark, sight_taken, queued, QueueMark, made, raised, put, dropped}
use Rattle.sky_model.specs.Sessions.{Block, outside}
use Rattle.sky_model.specs.Nodes.{is_set_queue}
use Rattle.sky_model.specs.Triggers.{TableTrigger}
use Rattle.sky_model.specs.Printed.{ReplyHasMoments}
use Rattle.sky_model.specs.State.{RowPart, after_part_marks, Database, after_mark, after_marks}
use Rattle.sky_model.specs.ShownRows.{snapshot_now}
use Rattle.sky_model.specs.Outcome.{Outcome, Checked, ◌>>=◌, ◌>>◌, refused_if, refused_by, answers, does_marks, reply_of, or_refused}
use Rattle.sky_model.specs.OwnTransaction.{txid_for, begin_of, commit_of, in_own}
use Rattle.sky_model.specs.StepQueue.{drop_queue, first_trigger_into, shown_name, least_producer, insert_event, tells_of_rows, queue_called, next_event_id, made_event}
use Rattle.sky_model.specs.Allowed.{where_of}
use Rattle.sky_model.specs.Made.{Making, takes_sight, runs, looking, runs_if}
use Rattle.sky_model.specs.Reader.{database_by_itself, within_part, shown_by}
use Rattle.sky_model.specs.Settling.{Turn, behind_marks, settling, with_settling}
use Rattle.sky_model.specs.Calls.{form, making, statement}
use Rattle.sky_model.specs.DatabaseCalls as call
use Rattle.sky_model.specs.DatabaseSteps.{DatabaseSteps}
use Rattle.sky_histories.proofs.DatabaseStanding.{after_marks-append, behind-all, database_enter_from_exact}
use Rattle.sky_model.specs.SessionMarks.{look_of, Enters, entry, entry_place}
use Rattle.sky_state.specs.Seen.{seen}
use Rattle.pgq_queues.specs.Views.{QueuesView}
use Rattle.pgq_queues.specs.Seen.{seen_with, Beside}
use Rattle.pgq_parts.specs.Views.{DbView}
use Rattle.pgq_parts.specs.Seen.{with_node, seen_database}
use Rattle.pgq_parts.specs.Gives.{Gives, Adds, Answers, Does}
use Rattle.sky_model.specs.Stops.{Refuses, Stops}
use Rattle.sky_model.specs.declared.stop.Stop.{Stop}
use Rattle.pgq_tick.specs.declared.ticks.TickFault.{TickFault}
use Rattle.pgq_tick.specs.declared.ticks.TickFault.TheVariants as tick
use Rattle.pgq_tick.specs.Faults.{stop_of}
use Rattle.std.specs.Result.{IfErr, IsErrAnd}

-- marks of the queues are marks of the database
pub marked-as : (v now : DbView) (queues : QueuesView) (mark : QueuesView → QueueMark) → v ≡ now → ((beside : Beside) → seen_with beside queues ≡ after_mark (seen_with beside v.queues) (queued (mark v.queues)))
    → seen_database (record v { queues = queues }) ≡ after_mark (seen_database now) (queued (mark now.queues))
marked-as v now queues mark same is = is (with_node v.node (seen v.rows)) ∙ ap (λ (w : DbView). after_mark (seen_database w) (queued (mark w.queues))) same

-- of those with a snapshot if it is that of the row part
pub ticked-as : (v now : DbView) (queues : QueuesView) (snapshot : SnapshotView) (marks : QueuesView → List Mark) → v ≡ now → snapshot ≡ snapshot_now (seen now.rows)
    → ((beside : Beside) → snapshot ≡ snapshot_now beside.part → seen_with beside queues ≡ after_marks (seen_with beside v.queues) (marks v.queues))
    → seen_database (record v { queues = queues }) ≡ after_marks (seen_database now) (marks now.queues)
ticked-as v now queues snapshot marks same snap is =
    is (with_node v.node (seen v.rows)) (snap ∙ ap (λ (w : DbView). snapshot_now (seen w.rows)) (sym same)) ∙ ap (λ (w : DbView). after_marks (seen_database w) (marks w.queues)) same

-- what holds of an error holds of it as it is given on
pub err-and : {T E : Type 0} {P Q : E → Type 0} (r : Result T E) → IsErrAnd r P → ((e : E) → P e → Q e) → IfErr r Q
err-and (Ok x) is f = absurd is
err-and (Err e) is f = f e is

-- a tick whose id is spent is refused
pub tick-stops : (r : Result ℕ TickFault) (fault : TickFault) (stop : Stop) (old new : Database) (n m : ℕ) → r ≡ Err fault → n ≡ m → ((r ≡ Err tick.IdsSpent) ↔ (2 ^ 64 ≤ n)) → new ≡ old
    → stop ≡ stop_of fault → Stops stop old new (refused_if (nat_le (2 ^ 64) m) IdsSpent)
tick-stops r tick.IdsSpent stop old new n m is same spent kept to =
    let high : 2 ^ 64 ≤ n = spent.0 is in
    let full : nat_le (2 ^ 64) m ≡ true = grind (arith, nat_tests) in
    subst (λ s. Stops s old new (refused_if (nat_le (2 ^ 64) m) IdsSpent)) (sym to) (record { refused = ap (λ b. refused_if b IdsSpent) full; same = kept })
tick-stops r tick.NoMemory stop old new n m is same spent kept to = subst (λ s. Stops s old new (refused_if (nat_le (2 ^ 64) m) IdsSpent)) (sym to) tt

-- and where there is none it is as it was
pub unmarked-as : (v now : DbView) (queues : QueuesView) → v ≡ now → ((beside : Beside) → seen_with beside queues ≡ seen_with beside v.queues) → seen_database (record v { queues = queues }) ≡ seen_database now
unmarked-as v now queues same is = is (with_node v.node (seen v.rows)) ∙ ap seen_database same

-- what a session writes may come after the marks of its transaction
event-written : (d : Database) (who t : ℕ) (o : Option ℕ) (b : Block) (q id : ℕ) (event : Event)
    → after_mark (after_mark (after_marks d (begin_of who t o ++ commit_of who t b)) (queued (raised q id))) (queued (put q event))
    ≡ after_marks d (begin_of who t o ++ (queued (raised q id) ∷ queued (put q event) ∷ []) ++ commit_of who t b)
event-written d who t None outside q id event = refl
event-written d who t (Some own) outside q id event = refl
event-written d who t _ _ q id event = refl

-- what a form gives that isn't refused
abbrev pub Runs : Database → Database → (before after : List (ℕ × Reply)) → ℕ → Checked Outcome → Type 0
Runs old new before after who checked = Does old new before after who checked × ReplyHasMoments (reply_of checked)

-- once the queue of an event is found, and may have it
behind-queue : (d : Database) (name : List ℕ) (ev_type : Option (List ℕ)) (q : ℕ) → queue_called name d ≡ Ok q → (is_set_queue name d.node && tells_of_rows ev_type) ≡ false
    → (rest : ℕ → Checked Outcome) → (queue_called name d >>= (λ n. refused_if (is_set_queue name d.node && tells_of_rows ev_type) ReservedType >> rest n)) ≡ rest q
behind-queue d name ev_type q place plain rest =
    ap (λ c. c >>= (λ n. refused_if (is_set_queue name d.node && tells_of_rows ev_type) ReservedType >> rest n)) place ∙ ap (λ b. refused_if b ReservedType >> rest q) plain

-- what an inserted event gives
pub gives-event : (d s1 s2 s3 : Database) (now time : ℤ) (who : ℕ) (inserted : InsertedEvent) (q seq t : ℕ) (event : Event) (before after : List (ℕ × Reply))
    → queue_called inserted.queue d ≡ Ok q → (is_set_queue inserted.queue d.node && tells_of_rows inserted.ev_type) ≡ false → txid_for d.part who ≡ Ok t → seq ≡ (d.queue q).seq → seq + 1 < 2 ^ 62 → time ≡ now
    → event ≡ made_event (seq + 1) time t inserted.ev_type inserted.ev_data inserted.extra
    → s1 ≡ after_marks d (begin_of who t (d.part.session who).txid ++ commit_of who t (d.part.session who).block)
    → s2 ≡ after_mark s1 (queued (raised q (seq + 1))) → s3 ≡ after_mark s2 (queued (put q event))
    → after ≡ before ++ (who, Number (seq + 1)) ∷ [] → Runs d s3 before after who (insert_event d now who inserted)
gives-event d s1 s2 s3 now time who inserted q seq t event before after place plain txid is room at made_is m1 m2 m3 pushed =
    subst (Runs d s3 before after who) (sym whole) (
      record {
        accepted = refl;
        replied = pushed;
        changed = m3 ∙ ap (λ s. after_mark s (queued (put q event))) (m2 ∙ ap (λ s. after_mark s (queued (raised q (seq + 1)))) m1)
            ∙ event-written d who t (d.part.session who).txid (d.part.session who).block q (seq + 1) event
            ∙ ap (λ e. after_marks d (in_own who t (d.part.session who) (queued (raised q (seq + 1)) ∷ queued (put q e) ∷ [])))
            (made_is ∙ ap (λ x. made_event (seq + 1) x t inserted.ev_type inserted.ev_data inserted.extra) at);
      },
      tt,
    )
  where
    unspent : nat_le (2 ^ 62) ((d.queue q).seq + 1) ≡ false
    unspent = grind (arith, nat_tests)

    result : ℕ → Checked Outcome
    result id = does_marks (Number id) (in_own who t (d.part.session who) (queued (raised q id) ∷ queued (put q (made_event id now t inserted.ev_type inserted.ev_data inserted.extra)) ∷ []))

    whole : insert_event d now who inserted ≡ result (seq + 1)
    whole =
        behind-queue d inserted.queue inserted.ev_type q place plain (λ n. txid_for d.part who >>= (λ x. next_event_id (d.queue n) >>= (λ id.
        does_marks (Number id) (in_own who x (d.part.session who) (queued (raised n id) ∷ queued (put n (made_event id now x inserted.ev_type inserted.ev_data inserted.extra)) ∷ [])))))
        ∙ ap (λ c. c >>= (λ x. next_event_id (d.queue q) >>= (λ id.
        does_marks (Number id) (in_own who x (d.part.session who) (queued (raised q id) ∷ queued (put q (made_event id now x inserted.ev_type inserted.ev_data inserted.extra)) ∷ []))))) txid
        ∙ ap (λ b. (refused_if b EventIdsSpent >> Ok ((d.queue q).seq + 1)) >>= result) unspent
        ∙ ap (λ n. result (n + 1)) (sym is)

queue-written : (d : Database) (who t : ℕ) (o : Option ℕ) (b : Block) (name : List ℕ) (time : ℤ)
    → after_mark (after_marks d (begin_of who t o ++ commit_of who t b)) (queued (made name t time))
    ≡ after_marks d ((begin_of who t o ++ [] ++ commit_of who t b) ++ queued (made name t time) ∷ [])
queue-written d who t None outside name time = refl
queue-written d who t (Some own) outside name time = refl
queue-written d who t _ _ name time = refl

-- a queue that is made, once its transaction has ended
pub made-queue : (d s1 s2 : Database) (now time : ℤ) (who t : ℕ) (name copied : List ℕ) → copied ≡ name → time ≡ now
    → s1 ≡ after_marks d (begin_of who t (d.part.session who).txid ++ commit_of who t (d.part.session who).block)
    → s2 ≡ after_mark s1 (queued (made copied t time))
    → s2 ≡ after_marks d (in_own who t (d.part.session who) [] ++ queued (made name t now) ∷ [])
made-queue d s1 s2 now time who t name copied same at m1 m2 =
    m2 ∙ ap (λ s. after_mark s (queued (made copied t time))) m1
    ∙ queue-written d who t (d.part.session who).txid (d.part.session who).block copied time
    ∙ ap (λ n. after_marks d (in_own who t (d.part.session who) [] ++ queued (made n t time) ∷ [])) same
    ∙ ap (λ x. after_marks d (in_own who t (d.part.session who) [] ++ queued (made name t x) ∷ [])) at

-- ---- a queue that is dropped, and why one isn't

module _ (d : Database) (name : List ℕ) (q : ℕ) (found : queue_called name d ≡ Ok q) (unset : is_set_queue name d.node ≡ false) where
  -- what is left once its number is known
  abbrev untested : Checked Outcome
  untested = refused_by (option_map (λ t. HasTriggers (shown_name t)) (first_trigger_into q d.triggers)) >> (refused_by (option_map QueueBusy (least_producer d q)) >> does_marks (Number 1) (queued (dropped q) ∷ []))

  abbrev of_number : ℕ → Checked Outcome
  of_number n =
      refused_if (not (length (d.queue n).members == 0)) (HasConsumers (length (d.queue n).members))
      >> (refused_by (option_map (λ t. HasTriggers (shown_name t)) (first_trigger_into n d.triggers)) >> (refused_by (option_map QueueBusy (least_producer d n)) >> does_marks (Number 1) (queued (dropped n) ∷ [])))

  tested : (b : Bool) → (length (d.queue q).members == 0) ≡ b → drop_queue d name ≡ (refused_if (not b) (HasConsumers (length (d.queue q).members)) >> untested)
  tested b is =
      ap (λ c. c >>= (λ n. refused_if (is_set_queue name d.node) SetQueue >> of_number n)) found ∙ ap (λ x. refused_if x SetQueue >> of_number q) unset
      ∙ ap (λ x. refused_if (not x) (HasConsumers (length (d.queue q).members)) >> untested) is

  unused : length (d.queue q).members ≡ 0 → drop_queue d name ≡ untested
  unused none = let yes : (length (d.queue q).members == 0) ≡ true = grind (arith, nat_tests) in tested true yes

  pub drop-triggers : (t : TableTrigger) (shown : List ℕ) → length (d.queue q).members ≡ 0 → Some t ≡ first_trigger_into q d.triggers → shown ≡ shown_name t → drop_queue d name ≡ Err (HasTriggers shown)
  drop-triggers t shown none is named =
      unused none
      ∙ ap (λ o. refused_by (option_map (λ x. HasTriggers (shown_name x)) o) >> (refused_by (option_map QueueBusy (least_producer d q)) >> does_marks (Number 1) (queued (dropped q) ∷ []))) (sym is)
      ∙ ap (λ n. Err (HasTriggers n)) (sym named)

  untold : length (d.queue q).members ≡ 0 → first_trigger_into q d.triggers ≡ None → drop_queue d name ≡ (refused_by (option_map QueueBusy (least_producer d q)) >> does_marks (Number 1) (queued (dropped q) ∷ []))
  untold none is =
      unused none ∙ ap (λ o. refused_by (option_map (λ x. HasTriggers (shown_name x)) o) >> (refused_by (option_map QueueBusy (least_producer d q)) >> does_marks (Number 1) (queued (dropped q) ∷ []))) is

-- what a statement answers that came in
pub answers-entered : (d s1 s2 : Database) (time now : ℤ) (who : ℕ) (stmt : DbStmt) (place : Where) (before after : List (ℕ × Reply)) → time ≡ now → place ≡ where_of stmt
    → Enters d.part s1.part who place None → s1 ≡ record d { part = s1.part }
    → Answers s1 s2 before after who (or_refused who (s1.part.session who) (form s1 (shown_by s1) time who stmt))
    → Answers d s2 before after who (statement database_by_itself d now who stmt)
answers-entered d s1 s2 time now who stmt place before after at is enters but gives =
    subst (Answers d s2 before after who) (sym whole) (of (takes_sight (where_of stmt) (d.part.session who).sight) behind)
  where
    m : Making Database
    m = making database_by_itself now who stmt

    entered : Enters d.part s1.part who (where_of stmt) None
    entered = subst (λ p. Enters d.part s1.part who p None) is enters

    whole : statement database_by_itself d now who stmt ≡ runs_if m (where_of stmt) who d (Ok tt)
    whole = ap (runs_if m (where_of stmt) who d) entered.0

    behind : s1 ≡ record d { part = after_part_marks d.part (look_of who (takes_sight (where_of stmt) (d.part.session who).sight)) }
    behind = but ∙ ap (λ part. record d { part = part }) entered.1

    there : (x : Database) → s1 ≡ x → Answers x s2 before after who (or_refused who (x.part.session who) (form x (shown_by x) now who stmt))
    there x e =
        subst (λ (y : Database). Answers y s2 before after who (or_refused who (y.part.session who) (form y (shown_by y) now who stmt))) e
        (subst (λ t. Answers s1 s2 before after who (or_refused who (s1.part.session who) (form s1 (shown_by s1) t who stmt))) at gives)

    of : (b : Bool) → s1 ≡ record d { part = after_part_marks d.part (look_of who b) }
        → Answers d s2 before after who (if b then looking who (runs m who (after_mark d (sight_taken who))) else runs m who d)
    of true e = (let g = there (after_mark d (sight_taken who)) e in (record { replied = g.0.replied; changed = g.0.changed }, g.1))
    of false e = there d e

-- and one that was refused at the door
pub answers-turned_away : (d s1 s2 : Database) (now : ℤ) (who : ℕ) (stmt : DbStmt) (place : Where) (before after : List (ℕ × Reply)) (refusal : Refusal) → place ≡ where_of stmt
    → Enters d.part s1.part who place (Some refusal) → s1 ≡ record d { part = s1.part }
    → Answers s1 s2 before after who (or_refused who (s1.part.session who) (Err refusal)) → Answers d s2 before after who (statement database_by_itself d now who stmt)
answers-turned_away d s1 s2 now who stmt place before after refusal is enters but answers =
    subst (Answers d s2 before after who) (sym (ap (runs_if (making database_by_itself now who stmt) (where_of stmt) who d) turned.0))
    (subst (λ (x : Database). Answers x s2 before after who (or_refused who (x.part.session who) (Err refusal))) (but ∙ ap (λ part. record d { part = part }) turned.1) answers)
  where
    turned : Enters d.part s1.part who (where_of stmt) (Some refusal)
    turned = subst (λ p. Enters d.part s1.part who p (Some refusal)) is enters

-- the reply alone
pub reply-entered : (d s1 : Database) (now : ℤ) (who : ℕ) (stmt : DbStmt) (place : Where) → place ≡ where_of stmt → Enters d.part s1.part who place None → s1 ≡ record d { part = s1.part }
    → (statement database_by_itself d now who stmt).reply ≡ (or_refused who (s1.part.session who) (form s1 (shown_by s1) now who stmt)).reply
reply-entered d s1 now who stmt place is enters but =
    ap (λ o. (runs_if m (where_of stmt) who d o).reply) entered.0
    ∙ of (takes_sight (where_of stmt) (d.part.session who).sight) (but ∙ ap (λ part. record d { part = part }) entered.1)
  where
    m : Making Database
    m = making database_by_itself now who stmt

    entered : Enters d.part s1.part who (where_of stmt) None
    entered = subst (λ p. Enters d.part s1.part who p None) is enters

    of : (b : Bool) → s1 ≡ record d { part = after_part_marks d.part (look_of who b) }
        → (if b then looking who (runs m who (after_mark d (sight_taken who))) else runs m who d).reply ≡ (or_refused who (s1.part.session who) (form s1 (shown_by s1) now who stmt)).reply
    of true e = ap (λ (x : Database). (or_refused who (x.part.session who) (form x (shown_by x) now who stmt)).reply) (sym e)
    of false e = ap (λ (x : Database). (or_refused who (x.part.session who) (form x (shown_by x) now who stmt)).reply) (sym e)

pub reply-turned_away : (d s1 : Database) (now : ℤ) (who : ℕ) (stmt : DbStmt) (place : Where) (refusal : Refusal) → place ≡ where_of stmt → Enters d.part s1.part who place (Some refusal)
    → (statement database_by_itself d now who stmt).reply ≡ Refused refusal
reply-turned_away d s1 now who stmt place refusal is enters =
    ap (λ o. (runs_if (making database_by_itself now who stmt) (where_of stmt) who d o).reply) (subst (λ p. Enters d.part s1.part who p (Some refusal)) is enters).0

-- what a statement answers that isn't refused, and one that is
pub answers-done : (d s : Database) (before after : List (ℕ × Reply)) (who : ℕ) (checked : Checked Outcome) → Runs d s before after who checked
    → Answers d s before after who (or_refused who (d.part.session who) checked)
answers-done d s before after who (Ok outcome) runs = (record { replied = runs.0.replied; changed = runs.0.changed }, runs.1)
answers-done d s before after who (Err refusal) runs = (let accepted = runs.0.accepted in absurd (cc))

pub answers-refused : (d s1 s2 : Database) (before between after : List (ℕ × Reply)) (who : ℕ) (refusal : Refusal) (checked : Checked Outcome) → Refuses d s1 refusal checked → between ≡ before
    → Answers s1 s2 between after who (or_refused who (s1.part.session who) (Err refusal)) → Answers d s2 before after who (or_refused who (d.part.session who) checked)
answers-refused d s1 s2 before between after who refusal checked refuses kept answers =
    subst (λ c. Answers d s2 before after who (or_refused who (d.part.session who) c)) (sym refuses.refused)
    (subst (λ (x : Database). Answers x s2 before after who (or_refused who (x.part.session who) (Err refusal))) refuses.same
    (subst (λ xs. Answers s1 s2 xs after who (or_refused who (s1.part.session who) (Err refusal))) kept answers))

-- what was done, and then what is done by the statements that resume
pub adds-then : (now : ℤ) (d s1 s2 : Database) (turn : Turn) (before between after : List (ℕ × Reply)) → Adds d s1 before between turn
    → Adds s1 s2 between after (settling (within_part database_by_itself now) s1) → Adds d s2 before after (with_settling (within_part database_by_itself now) d turn)
adds-then now d s1 s2 turn before between after first later = record {
  replied = later.replied
      ∙ ap (λ xs. xs ++ (settling (within_part database_by_itself now) s1).answers) first.replied
      ∙ append_assoc before turn.answers (settling (within_part database_by_itself now) s1).answers
      ∙ ap (λ x. before ++ (turn.answers ++ (settling (within_part database_by_itself now) x).answers)) there;
  changed = later.changed
      ∙ ap (λ x. after_marks x (settling (within_part database_by_itself now) x).marks) there
      ∙ ap (λ x. after_marks x (settling (within_part database_by_itself now) place).marks) (behind-all now d turn.marks)
      ∙ sym (after_marks-append d turn.marks (settling (within_part database_by_itself now) place).marks);
}
  where
    place : Database
    place = behind_marks (within_part database_by_itself now) d turn.marks

    there : s1 ≡ place
    there = first.changed ∙ sym (behind-all now d turn.marks)

-- the same in a new list
pub gives-added : (d s : Database) (before after : List (ℕ × Reply)) (turn : Turn) → before ≡ [] → Adds d s before after turn → Gives d s after turn
gives-added d s before after turn none adds = record { replied = adds.replied ∙ ap (λ xs. xs ++ turn.answers) none; changed = adds.changed }

-- a transaction that got its id, and ended if it is in no block
pub took : (d : Database) (left : RowPart) (who t : ℕ) → left ≡ after_part_marks d.part (in_own who t (d.part.session who) [])
    → record d { part = left } ≡ after_marks d (begin_of who t (d.part.session who).txid ++ commit_of who t (d.part.session who).block)
took d left who t is = ap (λ part. record d { part = part }) is ∙ joined (d.part.session who).txid (d.part.session who).block
  where
    joined : (o : Option ℕ) (b : Block) → record d { part = after_part_marks d.part (begin_of who t o ++ [] ++ commit_of who t b) } ≡ after_marks d (begin_of who t o ++ commit_of who t b)
    joined None outside = refl
    joined (Some u) outside = refl
    joined _ _ = refl

-- a session that entered, or was refused, keeps its promise
pub entered-steps : {E : Type 0} (d s : Database) (who : ℕ) (alone : Bool) (r : Result (Option Refusal) E) → IfOk r (λ refusal. Enters d.part s.part who (entry_place alone) refusal)
    → s ≡ record d { part = s.part } → OnOk r (DatabaseSteps d s (call.entered who alone) (entry d.part who (entry_place alone)))
entered-steps d s who alone (Ok refusal) enters but = database_enter_from_exact d s who alone refusal enters but
entered-steps d s who alone (Err e) enters but = tt

-- a table that the database has is among those of the rows
pub table-there : (v now : DbView) (table : List ℕ) (n : ℕ) → v ≡ now → table_number (seen_database now) table ≡ Some n → place_of table (seen v.rows).tables ≡ Some n
table-there v now table n same number = subst (λ (w : DbView). place_of table (seen w.rows).tables ≡ Some n) (sym same) number

pub table-low : (v now : DbView) (table : List ℕ) (n : ℕ) → v ≡ now → table_number (seen_database now) table ≡ Some n → n < length (seen v.rows).tables
table-low v now table n same number = place_of_within table (seen v.rows).tables n (table-there v now table n same number)
