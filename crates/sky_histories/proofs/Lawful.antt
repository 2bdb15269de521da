-- Whatever is called of a database, its history is legal.
use Rattle.std.proofs.Common.{Bool, ◌≡◌, All, ℕ, suc, zero, ℤ, ◌+◌, ◌<◌, List, [], ◌∷◌, ◌++◌, true, false, ◌==◌, ◌||◌, ◌&&◌, ◌≤◌, nat_le, nat_lt, Option, Some, None, Ok, Err, is_ok, option_map, unwrap_or, find, not, length, is_some, refl, sym, ◌∙◌, ap, subst, arith, ◌^◌, if◌then◌else◌}
use Rattle.std.proofs.lemmas.Bool.{cond_both}
use Rattle.std.proofs.lemmas.Bool.Decides.{nat_tests}
use Rattle.sky_model.specs.declared.stmt.DbStmt.{DbStmt}
use Rattle.sky_model.specs.declared.stmt.InsertedEvent.{InsertedEvent}
use Rattle.sky_model.specs.declared.stmt.RowStmt.{RowStmt}
use Rattle.sky_model.specs.declared.stmt.DbStmt.TheVariants.{Row, Queue}
use Rattle.sky_model.specs.declared.stmt.QueueStmt.{QueueStmt}
use Rattle.sky_model.specs.declared.stmt.QueueStmt.TheVariants.{CreateQueue, DropQueue, SetQueueConfig, QueueInfo, InsertEvent, AddTrigger, Ticker, ForceTick, RegisterConsumer, RegisterConsumerAt, UnregisterConsumer, NextBatch, GetBatchEvents, GetBatchInfo, EventRetry, FinishBatch, MaintRetryEvents, MaintRotateStep1, MaintRotateStep2, ConsumerInfo}
use Rattle.sky_model.specs.declared.reply.Reply.{Reply}
use Rattle.sky_model.specs.declared.reply.Reply.TheVariants.{Number}
use Rattle.sky_model.specs.declared.reply.Limit.TheVariants.{Queues, Triggers}
use Rattle.sky_model.specs.declared.reply.Refusal.TheVariants.{BadColumn, BadValue, NodeConsumer, ReservedType, SetQueue, HasConsumers, HasTriggers, NoParam, NoQueue, NoTable, QueueBusy, TableBusy, TooMany, TriggerExists, TxidsSpent, EventIdsSpent, NoBatch, NoConsumer, NoEvent}
use Rattle.sky_keys.specs.Waits.{Waiting, is_waiting}
use Rattle.pgq_retry.specs.declared.retry.Retry.{Retry}
use Rattle.pgq_retry.specs.Retries.{is_asked, due_now}
use Rattle.sky_model.specs.Batches.{batch_events}
use Rattle.sky_model.specs.Retries.{retries}
use Rattle.sky_model.specs.StepRetry.{retry_of, brings, most_back, maint_retry_events, back}
use Rattle.sky_names.specs.Places.{place_of}
use Rattle.sky_model.specs.History.{Batch, Mark, of_session, of_worker, began, ended, sight_taken, tabled, waited, queued, made, raised, put, moved, unregistered, opened, closed, History}
use Rattle.sky_model.specs.Transactions.{next_txid, running}
use Rattle.sky_model.specs.Sessions.{Block, outside, inside, failed, has_open, block, own_txid, session}
use Rattle.sky_model.specs.Rows.{table_names, columns_of}
use Rattle.sky_model.specs.Triggers.{triggers, triggers_of}
use Rattle.sky_model.specs.StepTrigger.{has_trigger, may_ignore}
use Rattle.sky_model.specs.Config.{param_of, configured_by}
use Rattle.sky_model.specs.Queues.{queues, queue_number, config, Tick, ticks, kept_ticks, tick, newest_tick, sequence, events, event_tables}
use Rattle.sky_model.specs.Consumers.{consumers, subscription_id, position, active, Subscription, subscription, active_batch}
use Rattle.sky_model.specs.Nodes.{node, is_set_queue}
use Rattle.sky_model.specs.Locks.{waiting}
use Rattle.sky_model.specs.State.{RowPart, part_of, queue_of, database_of}
use Rattle.sky_model.specs.ShownRows.{RowsShown, rows_in, least_writer}
use Rattle.sky_model.specs.OwnTransaction.{own_or_next, begin_of, commit_of, in_own}
use Rattle.sky_model.specs.Outcome.{Outcome, Checked, ◌>>=◌, ◌>>◌, refused_if, answers, does_marks, after_marks_of, abort, or_refused, marks_of}
use Rattle.sky_model.specs.Allowed.{where_of_row, where_of, allowed}
use Rattle.sky_model.specs.StepRows.{attempts}
use Rattle.sky_model.specs.StepQueue.{create_queue, first_trigger_into, shown_name, has_part_in, least_producer, tells_of_rows, insert_event, next_tick, is_due, forced, newest_id, next_event_id, made_event}
use Rattle.sky_model.specs.Queues.{id_of}
use Rattle.sky_model.specs.declared.stmt.RowStmt.TheVariants.{Commit}
use Rattle.sky_model.specs.StepConsumer.{floor, is_nodes, is_nodes_batch, registers as registers_at, leaves, opens_batch, takes_batch, finishes}
use Rattle.sky_model.specs.Reader.{shown_in, PartReader, part_by_history, database_by_history, within_part}
use Rattle.sky_model.specs.Gates.{Gate, takes_all, gated, by_gate}
use Rattle.sky_model.specs.Made.{takes_sight, looking, runs_if}
use Rattle.sky_model.specs.Settling.{Turn, turn_of, behind_marks, and_then, ready, attempted, resumed, goes_on, settles, settling, with_settling}
use Rattle.sky_model.specs.Calls.{row_form, queue_form, form, row_making, making, row_statement, row_turn, statement, database_turn, turn}
use Rattle.sky_histories.proofs.Legal.{MayWait, IsQueue, begins, ends, looks, begins_work, ends_work, ends_waiting, makes, asks, raises, puts, ticks_next, registers, opens as opens_fine, closes, moves, unregisters, configures, drops, traces, Chain, done, more, Legal, next}
use Rattle.sky_histories.proofs.Good.{MayStand, Good, same-session, good_test, good_test_then, good_found, good_if, good_refused, good_refused_by, good_commits}
use Rattle.sky_histories.proofs.RowOutcomes.{OfRows, attempts-rows, form-rows}
use Rattle.sky_histories.proofs.LawfulTelling.{good_append, legal_behind, good_tells}
use Rattle.sky_histories.proofs.WaitersFit.{may_go_on}
use Rattle.sky_histories.proofs.LawfulRows.{no-one, nothing, good_leaves, good_attempts, good_row_form}
use Rattle.sky_histories.proofs.QueueNumbers.{among-number}
use Rattle.sky_histories.proofs.SetQueues.{not-sets}
use Rattle.sky_histories.proofs.Rotation.{newest-kept, kept-made, floor-newest}
use Rattle.sky_histories.proofs.Commits.{good_switches}
use Rattle.sky_histories.proofs.Rotating.{good_rotates, may_end_switches}
use Rattle.sky_model.specs.StepRotation.{held_back, maint_rotate_step2, switches_of, committed_by}
use Rattle.sky_model.specs.StepSession.{commit, leaves as leaves_block}
use Rattle.sky_model.specs.Telling.{tells}
use Rattle.sky_histories.proofs.StatementMarks.{by_commit, none-first}
use Rattle.sky_histories.proofs.ActiveBatches.{IsActive, of_another-is, active_batches}
use Rattle.sky_histories.proofs.RetriesBack.{AreBack, due-back, good_back, listed_is_stored, found_is_listed}
use Rattle.sky_histories.proofs.Snapshots.{just_begun, sound}
use Rattle.sky_histories.proofs.Unneeded.{no-member, none-into, none-put}
use Rattle.sky_histories.proofs.Selecting.{events_below-next}
use Rattle.sky_names.proofs.PlaceLemmas.{place_of_within}

-- an active batch is found by its id
active_batch-id : (h : History) (id : ℕ) (batch : Batch) → active_batch id h ≡ Some batch → batch.id ≡ id
active_batch-id [] id batch is = absurd (cc)
active_batch-id (queued (opened b) ∷ h) id batch is = grind (arith, nat_tests, active_batch-id h id batch)
active_batch-id (queued (closed b) ∷ h) id batch is = grind (arith, active_batch-id h id batch)
active_batch-id (queued (moved q name tick) ∷ h) id batch is = active_batch-id h id batch (of_another-is q name (active_batch id h) batch is).0
active_batch-id (queued (unregistered q name sub) ∷ h) id batch is = active_batch-id h id batch (of_another-is q name (active_batch id h) batch is).0
active_batch-id (_ ∷ h) id batch is = active_batch-id h id batch is

-- a queue is made by a transaction of the session, and then others may come, with the node that the database had
good_makes : (h : History) (now : ℤ) (who : ℕ) (name : List ℕ) (reply : Reply) (rest : List Mark)
    → ((g : History) (t : ℕ) → node g ≡ node h → Chain (queued (made name t now) ∷ g) rest) → queue_number name (queues h) ≡ None
    → Good h who (own_or_next (part_of h) (own_txid who h) >>= (λ t. does_marks reply (in_own who t (session h who) [] ++ queued (made name t now) ∷ rest)))
good_makes h now who name reply rest good new = by_own (own_txid who h) refl
  where
    body : (g : History) (t : ℕ) (b : Block) → own_txid who g ≡ Some t → queue_number name (queues g) ≡ None → node g ≡ node h → Chain g (commit_of who t b ++ queued (made name t now) ∷ rest)
    body g t outside mine free still = more (ends who t true mine) (more (makes name t now free) (good (ended (of_session who) t true ∷ g) t still))
    body g t _ mine free still = more (makes name t now free) (good g t still)

    by_own : (o : Option ℕ) → own_txid who h ≡ o → Good h who (own_or_next (part_of h) o >>= (λ t.
        does_marks reply ((begin_of who t o ++ [] ++ commit_of who t (block who h)) ++ queued (made name t now) ∷ rest)))
    by_own None none =
        good_test_then h who (nat_le (2 ^ 62) (next_txid h)) TxidsSpent (next_txid h) _
        (more (begins who none) (body (began (of_session who) (next_txid h) ∷ h) (next_txid h) (block who h) (ap (λ b. if b then Some (next_txid h) else own_txid who h) (same-session who)) new refl))
    by_own (Some t) mine = body h t (block who h) mine new refl

good_create_queue : (h : History) → Legal h → (now : ℤ) (who : ℕ) (name : List ℕ) → Good h who (create_queue (database_of h) now who name)
good_create_queue h l now who name =
    by_place (queue_number name (queues h)) refl
  where
    by_place : (o : Option ℕ) → queue_number name (queues h) ≡ o → Good h who (if is_some o then answers (Number 0) else (
        refused_if (nat_le 64 (length (queues h))) (TooMany Queues) >> (own_or_next (part_of h) (own_txid who h) >>= (λ t.
        does_marks (Number 1) (in_own who t (session h who) [] ++ queued (made name t now) ∷ [])))))
    by_place (Some n) is = done
    by_place None is = good_test h who (nat_le 64 (length (queues h))) (TooMany Queues) _ (λ _. good_makes h now who name (Number 1) [] (λ g t still. done) is)

good_insert_event : (h : History) → Legal h → (now : ℤ) (who : ℕ) (event : InsertedEvent)
    → Good h who (insert_event (database_of h) now who event)
good_insert_event h l now who event =
    good_found h who (queue_number event.queue (queues h)) (NoQueue event.queue) _ (λ q is.
    good_test h who (is_set_queue event.queue (node h) && tells_of_rows event.ev_type) ReservedType _ (λ _. by_own q (among-number event.queue (queues h) q is) (own_txid who h) refl))
  where
    body : (g : History) → Legal g → (q n t : ℕ) (b : Block) → own_txid who g ≡ Some t → IsQueue g q → sequence q g ≡ n
        → Chain g (queued (raised q (n + 1)) ∷ queued (put q (made_event (n + 1) now t event.ev_type event.ev_data event.extra)) ∷ commit_of who t b)
    body g l q n t b mine below is =
        more (raises q (n + 1) below (omega arith))
        (more (puts who q _ below (ap (λ b. if b then n + 1 else sequence q g) (sym (same-session q))) mine (subst (λ m. All (λ e. e.ev_id < m + 1) (events q g)) is (events_below-next g l q below)))
        (good_commits (queued (put q (made_event (n + 1) now t event.ev_type event.ev_data event.extra)) ∷ queued (raised q (n + 1)) ∷ g) who t b mine))

    by_own : (q : ℕ) → IsQueue h q → (o : Option ℕ) → own_txid who h ≡ o → Good h who (own_or_next (part_of h) o >>= (λ t.
        next_event_id ((database_of h).queue q) >>= (λ id.
        does_marks (Number id) (begin_of who t o ++ (queued (raised q id) ∷ queued (put q (made_event id now t event.ev_type event.ev_data event.extra)) ∷ []) ++ commit_of who t (block who h)))))
    by_own q below None none =
        good_test_then h who (nat_le (2 ^ 62) (next_txid h)) TxidsSpent (next_txid h) _
        (good_test_then h who (nat_le (2 ^ 62) (sequence q h + 1)) EventIdsSpent (sequence q h + 1) _
        (more (begins who none) (body (began (of_session who) (next_txid h) ∷ h) (next l (begins who none)) q (sequence q h) (next_txid h) (block who h) (ap (λ b. if b then Some (next_txid h) else own_txid who h) (same-session who)) below refl)))
    by_own q below (Some t) mine =
        good_test_then h who (nat_le (2 ^ 62) (sequence q h + 1)) EventIdsSpent (sequence q h + 1) _
        (body h l q (sequence q h) t (block who h) mine below refl)

good_opens_batch : (h : History) (who q : ℕ) (consumer : List ℕ) (sub : Subscription) (found : Option Tick)
    → IsQueue h q → subscription q consumer h ≡ Some (record { id = sub.id; position = sub.position; active = None }) → ((t : Tick) → found ≡ Some t → tick (sub.position + 1) (ticks q h) ≡ Some t)
    → Good h who (opens_batch (database_of h) q consumer sub found)
good_opens_batch h who q consumer sub None below stands is = done
good_opens_batch h who q consumer sub (Some t) below stands is =
    good_test h who (nat_le (2 ^ 64) ((database_of h).last_batch_id + 1)) _ _ (λ _.
    more (opens_fine _ (record { within = below; stands = stands; fresh = omega arith; closing = t; made = is t refl; to = refl })) done)

pub good_takes_batch : (h : History) → Legal h → (who q : ℕ) (consumer : List ℕ) (sub : Subscription) (batch : Option ℕ)
    → IsQueue h q → subscription q consumer h ≡ Some (record { id = sub.id; position = sub.position; active = batch })
    → Good h who (takes_batch (database_of h) q consumer sub batch)
good_takes_batch h l who q consumer sub (Some batch) below stands = done
good_takes_batch h l who q consumer sub None below stands =
    good_opens_batch h who q consumer sub (tick (sub.position + 1) (kept_ticks q h)) below stands (λ t found. kept-made h l q below (sub.position + 1) t found)

-- a new consumer, whose position is a tick that is made
pub good_registers : (h : History) (who q : ℕ) (consumer : List ℕ) (at : ℕ) → IsQueue h q → subscription_id q consumer h ≡ None → at ≤ id_of (newest_tick (ticks q h)) → floor (queue_of h q) ≤ at
    → Good h who (registers_at (database_of h) q consumer at)
good_registers h who q consumer at below new within low =
    good_test h who (nat_le 256 (length ((database_of h).queue q).members)) _ _ (λ room.
    good_test h who (nat_le (2 ^ 64) ((database_of h).last_sub_id + 1)) _ _ (λ _.
    more (registers q consumer _ at below new (omega arith) within low (grind (arith, nat_tests, room))) done))

-- one that leaves
pub good_leaves_queue : (h : History) (who q : ℕ) (consumer : List ℕ) (o : Option ℕ) → IsQueue h q → subscription_id q consumer h ≡ o
    → Good h who (leaves q consumer (option_map (λ id. record { id = id; position = position q consumer h; active = active q consumer h }) o))
good_leaves_queue h who q consumer None below stands = done
good_leaves_queue h who q consumer (Some sub) below stands = more (unregisters q consumer sub below stands) done

-- retries that are due come back
pub brings_may : (h : History) → Legal h → (now : ℤ) (rs : List Retry) → AreBack h now rs → Chain h (marks_of (brings (database_of h) now rs))
brings_may h l now [] are = done
brings_may h l now (r ∷ rs) are = of (nat_le (2 ^ 62) (next_txid h))
  where
    t : ℕ
    t = next_txid h

    of : (spent : Bool) → Chain h (marks_of ((refused_if spent TxidsSpent >> Ok t) >>= (λ id. does_marks (Number (length (r ∷ rs))) (began of_worker id ∷ back now id (r ∷ rs) ++ ended of_worker id true ∷ []))))
    of true = done
    of false =
        more begins_work (good_back now t (r ∷ rs) (ended of_worker t true ∷ []) (λ g legal is. more (ends_work t true is.work) done)
        (began of_worker t ∷ h) (next l begins_work) (just_begun h (sound h l))
        (record { wait = are.wait; once = are.once; due = are.due }))

pub maint_may : (h : History) → Legal h → (now : ℤ) → Chain h (marks_of (maint_retry_events (database_of h) now))
maint_may h l now = brings_may h l now (due_now now most_back (retries h)) (due-back h l now most_back)

-- what a worker does may come in a session's statement too
good_by_worker : (h : History) (who : ℕ) (c : Checked Outcome) → Chain h (marks_of c) → Good h who c
good_by_worker h who (Ok outcome) chain = chain
good_by_worker h who (Err refusal) chain = good_refused h who refusal

good_maint : (h : History) → Legal h → (now : ℤ) (who : ℕ) → Good h who (maint_retry_events (database_of h) now)
good_maint h l now who = good_by_worker h who (maint_retry_events (database_of h) now) (maint_may h l now)

-- `commit`, which makes the switches that its transaction has pending
good_commit : (h : History) → Legal h → (now : ℤ) (who : ℕ) → Good h who (form (database_of h) (shown_in h) now who (Row Commit))
good_commit h l now who = of (block who h) (own_txid who h) refl
  where
    of : (b : Block) (o : Option ℕ) → own_txid who h ≡ o
        → Good h who (after_marks_of (switches_of (database_of h) now (committed_by b o)) (tells (database_of h) now (commit who o b)))
    of outside o mine = done
    of inside None mine = good_leaves h who true None mine
    of inside (Some t) mine =
        good_switches h l now (Some t) (leaves_block true who (Some t)) (λ f. own_txid who f ≡ Some t) mine (λ f q is. is) (λ f _ is. good_leaves f who true (Some t) is)
    of failed None mine = good_leaves h who false None mine
    of failed (Some t) mine = good_leaves h who false (Some t) mine

-- an active batch may be finished
pub good_closes : (h : History) (id : ℕ) (batch : Batch) → active_batch id h ≡ Some batch → Chain h (queued (closed batch) ∷ [])
good_closes h id batch is = more (closes batch (ap (λ n. active_batch n h) (active_batch-id h id batch is) ∙ is)) done

good_finishes : (h : History) (who id : ℕ) (batch : Option Batch) → active_batch id h ≡ batch → Good h who (finishes (database_of h) batch)
good_finishes h who id None is = done
good_finishes h who id (Some batch) is =
    good_test h who (is_nodes_batch (database_of h) batch) NodeConsumer _ (λ _. good_closes h id batch is)

-- a tick that is due
pub good_next_tick : (h : History) → Legal h → (now : ℤ) (who q : ℕ) → IsQueue h q → Good h who (next_tick (database_of h) now q)
good_next_tick h l now who q is =
    let all : newest_id ((database_of h).queue q) ≡ id_of (newest_tick (ticks q h)) = ap id_of (newest-kept h l q is) in
    good_if h who (is_due now ((database_of h).queue q)) _ _
    (good_test h who (nat_le (2 ^ 64) (newest_id ((database_of h).queue q) + 1)) _ _ (λ _.
    more (ticks_next q _ now _ is (omega arith) (omega (arith, all))) done)) (λ _. done)

good_queue_form : (h : History) → Legal h → (now : ℤ) (who : ℕ) (stmt : QueueStmt) → Good h who (queue_form (database_of h) (shown_in h) now who stmt)
good_queue_form h l now who (CreateQueue queue) = good_create_queue h l now who queue
good_queue_form h l now who (DropQueue name) =
    good_found h who (queue_number name (queues h)) (NoQueue name) _ (λ q is.
    good_test h who (is_set_queue name (node h)) SetQueue _ (λ other.
    good_test h who (not (length (consumers q h) == 0)) (HasConsumers (length (consumers q h))) _ (λ none.
    good_refused_by h who (option_map (λ t. HasTriggers (shown_name t)) (first_trigger_into q (triggers h))) _ (λ untold.
    good_refused_by h who (option_map QueueBusy (least_producer (database_of h) q)) _ (λ idle.
    more (drops q (no-member h q none) (none-into q (triggers h) untold) (none-put (has_part_in (event_tables q h)) (running h) idle) (not-sets h name q is other)) done)))))
good_queue_form h l now who (SetQueueConfig setting) =
    good_found h who (queue_number setting.queue (queues h)) (NoQueue setting.queue) _ (λ q is.
    good_found h who (param_of setting.param) (NoParam setting.param) _ (λ p known.
    good_found h who (configured_by (config q h) p setting.value) (BadValue setting.param) _ (λ c set.
    more (configures q c (among-number setting.queue (queues h) q is)) done)))
good_queue_form h l now who (QueueInfo name) = good_found h who (queue_number name (queues h)) (NoQueue name) _ (λ q is. done)
good_queue_form h l now who (InsertEvent event) = good_insert_event h l now who event
good_queue_form h l now who (AddTrigger trigger) =
    good_found h who (place_of trigger.table (table_names h)) (NoTable trigger.table) _ (λ table there.
    good_found h who (queue_number trigger.queue (queues h)) (NoQueue trigger.queue) _ (λ queue is.
    good_test h who (is_set_queue trigger.queue (node h)) SetQueue _ (λ other.
    good_test h who (has_trigger trigger.name (triggers_of table (triggers h))) (TriggerExists trigger.name) _ (λ new.
    good_test h who (nat_le 8 (length (triggers_of table (triggers h)))) (TooMany Triggers) _ (λ _.
    good_refused_by h who (option_map BadColumn (find (λ column. not (may_ignore (columns_of table h) column)) trigger.ignored)) _ (λ _.
    good_refused_by h who (option_map TableBusy (least_writer (part_of h) table)) _ (λ _.
    more (traces table (Some trigger.name) _ (place_of_within trigger.table (table_names h) table there) (among-number trigger.queue (queues h) queue is) (new, not-sets h trigger.queue queue is other)) done)))))))
good_queue_form h l now who (Ticker name) =
    good_found h who (queue_number name (queues h)) (NoQueue name) _ (λ q is. good_next_tick h l now who q (among-number name (queues h) q is))
good_queue_form h l now who (ForceTick name) =
    good_found h who (queue_number name (queues h)) (NoQueue name) _ (λ q is.
    good_test h who (nat_le (2 ^ 62) (sequence q h + forced (config q h))) _ _ (λ _.
    more (raises q _ (among-number name (queues h) q is) (omega arith)) done))
good_queue_form h l now who (RegisterConsumer name consumer) =
    good_found h who (queue_number name (queues h)) (NoQueue name) _ (λ q is.
    good_test h who (is_nodes (database_of h) name consumer) _ _ (λ _.
    good_if h who (is_some (((database_of h).queue q).sub consumer)) _ _ done (λ new.
    let all : newest_id ((database_of h).queue q) ≡ id_of (newest_tick (ticks q h)) = ap id_of (newest-kept h l q (among-number name (queues h) q is)) in
    good_registers h who q consumer _ (among-number name (queues h) q is) (no-one _ (subscription_id q consumer h) (nothing _ new)) (omega arith) (omega (arith, all, floor-newest h l q (among-number name (queues h) q is))))))
good_queue_form h l now who (RegisterConsumerAt to) =
    good_found h who (queue_number to.queue (queues h)) (NoQueue to.queue) _ (λ q is.
    good_test h who (is_nodes (database_of h) to.queue to.consumer) _ _ (λ _.
    good_test h who (to.tick == 0 || nat_lt (newest_id ((database_of h).queue q)) to.tick) _ _ (λ within.
    good_test h who (nat_lt to.tick (floor (queue_of h q))) _ _ (λ low. good_at q is within low (subscription_id q to.consumer h) refl))))
  where
    stands_as : ℕ → Option ℕ → Option Subscription
    stands_as q o = option_map (λ id. record { id = id; position = position q to.consumer h; active = active q to.consumer h }) o

    good_at : (q : ℕ) → queue_number to.queue (queues h) ≡ Some q → (to.tick == 0 || nat_lt (newest_id ((database_of h).queue q)) to.tick) ≡ false → nat_lt to.tick (floor (queue_of h q)) ≡ false
        → (o : Option ℕ) → subscription_id q to.consumer h ≡ o
        → Good h who (if is_some (((database_of h).queue q).sub to.consumer) then does_marks (Number 0) (queued (moved q to.consumer to.tick) ∷ []) else registers_at (database_of h) q to.consumer to.tick)
    good_at q is within low (Some sub) stands =
        let all : newest_id ((database_of h).queue q) ≡ id_of (newest_tick (ticks q h)) = ap id_of (newest-kept h l q (among-number to.queue (queues h) q is)) in
        good_if h who (is_some (((database_of h).queue q).sub to.consumer)) _ _
        (more (moves q to.consumer sub to.tick (among-number to.queue (queues h) q is) stands (grind (arith, nat_tests, within)) (grind (arith, nat_tests, within, all)) (grind (arith, nat_tests, low))) done)
        (λ new. good_registers h who q to.consumer to.tick (among-number to.queue (queues h) q is) (no-one _ (subscription_id q to.consumer h) (nothing _ new)) (grind (arith, nat_tests, within, all)) (grind (arith, nat_tests, low)))
    good_at q is within low None stands =
        let all : newest_id ((database_of h).queue q) ≡ id_of (newest_tick (ticks q h)) = ap id_of (newest-kept h l q (among-number to.queue (queues h) q is)) in
        subst (λ o. Good h who (if is_some (stands_as q o) then does_marks (Number 0) (queued (moved q to.consumer to.tick) ∷ []) else registers_at (database_of h) q to.consumer to.tick))
        (sym stands) (good_registers h who q to.consumer to.tick (among-number to.queue (queues h) q is) stands (grind (arith, nat_tests, within, all)) (grind (arith, nat_tests, low)))
good_queue_form h l now who (UnregisterConsumer name consumer) =
    good_found h who (queue_number name (queues h)) (NoQueue name) _ (λ q is.
    good_test h who (is_nodes (database_of h) name consumer) _ _ (λ _. good_leaves_queue h who q consumer (subscription_id q consumer h) (among-number name (queues h) q is) refl))
good_queue_form h l now who (NextBatch name consumer) =
    good_found h who (queue_number name (queues h)) (NoQueue name) _ (λ q is.
    good_test h who (is_nodes (database_of h) name consumer) _ _ (λ _.
    good_found h who (((database_of h).queue q).sub consumer) (NoConsumer consumer) _ (λ sub stands.
    good_takes_batch h l who q consumer sub sub.active (among-number name (queues h) q is) stands)))
good_queue_form h l now who (GetBatchEvents batch) = good_found h who ((shown_in h).events batch) _ _ (λ b _. done)
good_queue_form h l now who (GetBatchInfo batch) = good_found h who (active_batch batch h) _ _ (λ b _. done)
good_queue_form h l now who (EventRetry again) =
    good_found h who ((shown_in h).events again.batch) NoBatch _ (λ es listed.
    good_found h who (active_batch again.batch h) NoBatch _ (λ b active.
    good_test h who (is_nodes_batch (database_of h) b) NodeConsumer _ (λ _.
    good_found h who (find (λ e. e.ev_id == again.event) es) NoEvent _ (λ e found.
    good_if h who (is_asked b.sub e.ev_id (retries h)) _ _ done (λ fresh.
    let a : IsActive h again.batch b = active_batches h l again.batch b active in
    let is : find (λ e. e.ev_id == again.event) (batch_events h b) ≡ Some e =
    subst (λ xs. find (λ e. e.ev_id == again.event) xs ≡ Some e) (sym (ap (λ o. unwrap_or o []) (ap (option_map (batch_events h)) (sym active) ∙ listed))) found in
    more (asks b.consumer e (retry_of now again.seconds b e) (record {
      registered = a.owned;
      stored = listed_is_stored h b e again.event is;
      copied = refl;
      listed = record {
        batch = b;
        active = subst (λ i. active_batch i h ≡ Some b) (sym a.named) active;
        of_queue = refl;
        of_subscription = refl;
        listed = found_is_listed (batch_events h b) (λ e. e.ev_id == again.event) e is;
      };
      fresh = fresh;
    })) done)))))
good_queue_form h l now who (FinishBatch batch) = good_finishes h who batch (active_batch batch h) refl
good_queue_form h l now who MaintRetryEvents = good_maint h l now who
good_queue_form h l now who (MaintRotateStep1 name) =
    good_found h who (queue_number name (queues h)) (NoQueue name) _ (λ q is. good_rotates h l now who q (among-number name (queues h) q is) (held_back now (queue_of h q)) refl)
good_queue_form h l now who MaintRotateStep2 = good_by_worker h who (maint_rotate_step2 (database_of h)) (may_end_switches h l)
good_queue_form h l now who (ConsumerInfo name consumer) =
    good_found h who (queue_number name (queues h)) (NoQueue name) _ (λ q is.
    good_found h who (subscription q consumer h) (NoConsumer consumer) _ (λ sub _. done))

good_form : (h : History) → Legal h → (now : ℤ) (who : ℕ) (stmt : DbStmt) → MayStand h who (where_of stmt) → Good h who (form (database_of h) (shown_in h) now who stmt)
good_form h l now who (Row stmt) may =
    by_commit (λ s. MayStand h who (where_of_row s) → Good h who (form (database_of h) (shown_in h) now who (Row s))) (λ _. good_commit h l now who)
    (λ s none may. subst (Good h who) (sym (none-first (database_of h) now who s _ none)) (good_tells h l now who _ (form-rows (part_of h) (rows_in h) who s) (good_row_form h l who s may))) stmt may
good_form h l now who (Queue stmt) may = good_queue_form h l now who stmt

good_runs_if : (h : History) → Legal h → (now : ℤ) (who : ℕ) (stmt : DbStmt) (may : Checked (Unit {0})) → allowed (is_waiting who (waiting h)) (has_open who h) (block who h) (where_of stmt) ≡ may
    → Chain h (runs_if (making database_by_history now who stmt) (where_of stmt) who h may).marks
good_runs_if h l now who stmt (Err refusal) is = good_refused h who refusal
good_runs_if h l now who stmt (Ok _) is =
    cond_both (takes_sight (where_of stmt) (session h who).sight) (looking who (or_refused who (session (sight_taken who ∷ h) who) (form (database_of (sight_taken who ∷ h)) (shown_in (sight_taken who ∷ h)) now who stmt))) _ (λ o. Chain h o.marks)
    (λ _. more (looks who) (good_form (sight_taken who ∷ h) (next l (looks who)) now who stmt (ap is_ok is))) (λ _. good_form h l now who stmt (ap is_ok is))

good_statement : (h : History) → Legal h → (now : ℤ) (who : ℕ) (stmt : DbStmt) → Chain h (statement database_by_history h now who stmt).marks
good_statement h l now who stmt = good_runs_if h l now who stmt (allowed (is_waiting who (waiting h)) (has_open who h) (block who h) (where_of stmt)) refl

-- a place that reads as its past does; what a statement on rows does and may come there, still may once its writes are recorded
pub record ReadsPast {P : Type 0} (r : PartReader P) (past : P → History) : Type 0 where
  pub part : (p : P) → r.part p ≡ part_of (past p)
  pub rows : (p : P) → r.rows p ≡ rows_in (past p)
  pub behind : (p : P) (mark : Mark) → past (r.behind p mark) ≡ mark ∷ past p
  pub tells : (p : P) → Legal (past p) → (who : ℕ) (c : Checked Outcome) → OfRows c → Good (past p) who c → Good (past p) who (r.tells p c)

-- a history does so itself
pub history-reads : ReadsPast part_by_history (λ h. h)
history-reads = record { part = λ h. refl; rows = λ h. refl; behind = λ h mark. refl; tells = λ h l who c rows good. good }

-- and so does one of a whole database
pub database-reads : (now : ℤ) → ReadsPast (within_part database_by_history now) (λ h. h)
database-reads now = record { part = λ h. refl; rows = λ h. refl; behind = λ h mark. refl; tells = λ h l who c rows good. good_tells h l now who c rows good }

-- what a gate accepts may come where it might without the gate
pub good_gated : {G : Type 0} (gate : Gate G) (g : G) (h : History) (who : ℕ) (c : Checked Outcome) → Good h who c → Good h who (gated gate g c)
good_gated gate g h who (Err refusal) good = good
good_gated gate g h who (Ok o) good = good_test h who (not (takes_all gate g o.marks)) EventIdsSpent (Ok o) (λ _. good)

-- so a place still does with a gate
pub by_gate-reads : {G P : Type 0} (gate : Gate G) (r : PartReader P) (past : P → History) → ReadsPast r past → ReadsPast (by_gate gate r) (λ p. past p.0)
by_gate-reads gate r past reads = record {
  part = λ p. reads.part p.0;
  rows = λ p. reads.rows p.0;
  behind = λ p mark. reads.behind p.0 mark;
  tells = λ p l who c rows good. good_gated gate p.1 (past p.0) who (r.tells p.0 c) (reads.tells p.0 l who c rows good);
}

module _ {P : Type 0} (r : PartReader P) (past : P → History) (reads : ReadsPast r past) where
  -- the past after marks
  pub past-behind : (p : P) (marks : List Mark) → past (behind_marks r p marks) ≡ behind_marks part_by_history (past p) marks
  past-behind p [] = refl
  past-behind p (mark ∷ marks) = past-behind (r.behind p mark) marks ∙ ap (λ h. behind_marks part_by_history h marks) (reads.behind p mark)

  -- what a session does there may come, once its writes are recorded
  good_told : (p : P) → Legal (past p) → (who : ℕ) (c : Checked Outcome) → OfRows c → Good (past p) who c → Chain (past p) (or_refused who ((r.part p).session who) (r.tells p c)).marks
  good_told p l who c rows good =
      subst (λ (d : RowPart). Chain (past p) (or_refused who (d.session who) (r.tells p c)).marks) (sym (reads.part p)) (reads.tells p l who c rows good)

  pub good_then : (p : P) → Legal (past p) → (turn : Turn) (rest : P → Turn) → Chain (past p) turn.marks → ((q : P) → Legal (past q) → Chain (past q) (rest q).marks) → Chain (past p) (and_then r p turn rest).marks
  good_then p l turn rest chain also =
      good_append (past p) turn.marks _ chain
      (subst (λ h. Chain h (rest (behind_marks r p turn.marks)).marks) (past-behind p turn.marks)
      (also (behind_marks r p turn.marks) (subst Legal (sym (past-behind p turn.marks)) (legal_behind (past p) turn.marks l chain))))

  good_resumed : (p : P) → Legal (past p) → (w : Waiting) → ready (r.part p) ≡ Some w → Chain (past p) (resumed r p w).marks
  good_resumed p l w is =
      more (ends_waiting w.who) (subst (λ h. Chain h (attempted r w ((r.part p).attempt w.who) behind).marks) gone (good_told behind legal w.who _ (attempts-rows (r.part behind) ((r.rows behind).key w.who w.table w.key) w.who w.table w.key ((r.part p).attempt w.who)) tried))
    where
      behind : P
      behind = r.behind p (tabled (waited w.who))

      gone : past behind ≡ tabled (waited w.who) ∷ past p
      gone = reads.behind p (tabled (waited w.who))

      legal : Legal (past behind)
      legal = subst Legal (sym gone) (next l (ends_waiting w.who))

      -- it no longer waits, and what it attempts fits as it did when it began to wait
      may : MayWait (part_of (past behind)) (node (past behind)) w.who w.table w.key ((r.part p).attempt w.who)
      may =
          subst (λ h. MayWait (part_of h) (node h) w.who w.table w.key ((r.part p).attempt w.who)) (sym gone)
          (subst (λ (d : RowPart). MayWait (part_of (tabled (waited w.who) ∷ past p)) (node (past p)) w.who w.table w.key (d.attempt w.who)) (sym (reads.part p))
          (may_go_on (past p) l w (ap ready (sym (reads.part p)) ∙ is)))

      tried : Good (past behind) w.who (attempts (r.part behind) ((r.rows behind).key w.who w.table w.key) w.who w.table w.key ((r.part p).attempt w.who))
      tried =
          subst (λ d. Good (past behind) w.who (attempts d ((r.rows behind).key w.who w.table w.key) w.who w.table w.key ((r.part p).attempt w.who))) (sym (reads.part behind))
          (subst (λ (rows : RowsShown). Good (past behind) w.who (attempts (part_of (past behind)) (rows.key w.who w.table w.key) w.who w.table w.key ((r.part p).attempt w.who))) (sym (reads.rows behind))
          (good_attempts (past behind) legal w.who w.table w.key ((r.part p).attempt w.who) may))

  good_goes_on : (p : P) → Legal (past p) → (rest : P → Turn) (o : Option Waiting) → ready (r.part p) ≡ o → ((q : P) → Legal (past q) → Chain (past q) (rest q).marks) → Chain (past p) (goes_on r p rest o).marks
  good_goes_on p l rest None is also = done
  good_goes_on p l rest (Some w) is also = good_then p l (resumed r p w) rest (good_resumed p l w is) also

  good_settles : (n : ℕ) (p : P) → Legal (past p) → Chain (past p) (settles r n p).marks
  good_settles zero p l = done
  good_settles (suc n) p l = good_goes_on p l (settles r n) (ready (r.part p)) refl (good_settles n)

  -- a turn with those that it unblocks, at a place that reads as its past
  pub good_with_settling-by : (p : P) → Legal (past p) → (turn : Turn) → Chain (past p) turn.marks → Chain (past p) (with_settling r p turn).marks
  good_with_settling-by p l turn chain = good_then p l turn (settling r) chain (λ q legal. good_settles (length (r.part q).waiting) q legal)

  good_row_runs : (p : P) → Legal (past p) → (who : ℕ) (stmt : RowStmt) (may : Checked (Unit {0}))
      → allowed (is_waiting who (r.part p).waiting) ((r.part p).session who).is_open ((r.part p).session who).block (where_of_row stmt) ≡ may → Chain (past p) (runs_if (row_making r who stmt) (where_of_row stmt) who p may).marks
  good_row_runs p l who stmt (Err refusal) is =
      subst (λ (d : RowPart). Chain (past p) (abort who (d.session who).block (d.session who).txid refusal)) (sym (reads.part p)) (good_refused (past p) who refusal)
  good_row_runs p l who stmt (Ok _) is =
      cond_both (takes_sight (where_of_row stmt) ((r.part p).session who).sight) (looking who (or_refused who ((r.part behind).session who) (r.tells behind (row_form (r.part behind) (r.rows behind) who stmt)))) _ (λ o. Chain (past p) o.marks)
      (λ _. more (looks who) (subst (λ h. Chain h (or_refused who ((r.part behind).session who) (r.tells behind (row_form (r.part behind) (r.rows behind) who stmt))).marks) (reads.behind p (sight_taken who))
      (runs_at behind (subst Legal (sym (reads.behind p (sight_taken who))) (next l (looks who)))
      (subst (λ h. MayStand h who (where_of_row stmt)) (sym (reads.behind p (sight_taken who))) stands))))
      (λ _. runs_at p l stands)
    where
      behind : P
      behind = r.behind p (sight_taken who)

      stands : MayStand (past p) who (where_of_row stmt)
      stands = ap is_ok (ap (λ (d : RowPart). allowed (is_waiting who d.waiting) (d.session who).is_open (d.session who).block (where_of_row stmt)) (sym (reads.part p)) ∙ is)

      runs_at : (q : P) → Legal (past q) → MayStand (past q) who (where_of_row stmt) → Chain (past q) (or_refused who ((r.part q).session who) (r.tells q (row_form (r.part q) (r.rows q) who stmt))).marks
      runs_at q legal stands = good_told q legal who _ (form-rows (r.part q) (r.rows q) who stmt)
          (subst (λ d. Good (past q) who (row_form d (r.rows q) who stmt)) (sym (reads.part q))
          (subst (λ rows. Good (past q) who (row_form (part_of (past q)) rows who stmt)) (sym (reads.rows q)) (good_row_form (past q) legal who stmt stands)))

  -- and a statement on rows with those that it unblocks
  pub good_row_turn-by : (p : P) → Legal (past p) → (who : ℕ) (stmt : RowStmt) → Chain (past p) (row_turn r p who stmt).marks
  good_row_turn-by p l who stmt =
      good_with_settling-by p l (turn_of who (row_statement r p who stmt))
      (good_row_runs p l who stmt (allowed (is_waiting who (r.part p).waiting) ((r.part p).session who).is_open ((r.part p).session who).block (where_of_row stmt)) refl)

-- so may a statement of a whole database by its history
pub good_turn : (h : History) → Legal h → (now : ℤ) (who : ℕ) (stmt : DbStmt) → Chain h (database_turn database_by_history h now who stmt).marks
good_turn h l now who stmt =
    good_with_settling-by (within_part database_by_history now) (λ g. g) (database-reads now) h l (turn_of who (statement database_by_history h now who stmt)) (good_statement h l now who stmt)
