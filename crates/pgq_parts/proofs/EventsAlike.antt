-- The queues keep what a database's triggers need: so a statement that has them as its gate does what it does in the database.
use Rattle.std.proofs.Common.{◌≡◌, ℕ, suc, ℤ, ◌+◌, ◌<◌, ◌^◌, Bool, true, false, nat_le, ◌==◌, List, [], ◌∷◌, ◌++◌, Option, Some, None, Ok, Err, is_ok, map, length, get_or, slice_set, refl, sym, ◌∙◌, ap, subst, arith, if◌then◌else◌}
use Rattle.std.specs.Prelude.{not, ◌&&◌, option_map, slice_get, unwrap_or}
use Rattle.std.specs.List.{All}
use Rattle.std.proofs.lemmas.Bool.Decides.{nat_tests}
use Rattle.std.proofs.lemmas.List.{length-set, length-map}
use Rattle.std.proofs.lemmas.List.Elements.{All-map, All-filter}
use Rattle.sky_val.specs.declared.val.Val.{Val}
use Rattle.sky_val.specs.declared.event.Event.{Event}
use Rattle.sky_names.specs.Named.{value_of}
use Rattle.sky_urlenc.specs.RowEvents.{RowEvent, Trigger, events_of, event_of}
use Rattle.sky_model.specs.declared.reply.Refusal.TheVariants.{EventIdsSpent}
use Rattle.pgq_parts.specs.Views.{NodePart}
use Rattle.sky_model.specs.History.{Mark, Whose, of_session, of_worker, of_copy, began, ended, tabled, wrote, read_only, queued, raised, put, noded}
use Rattle.sky_model.specs.Triggers.{TableTrigger, triggers_of}
use Rattle.sky_model.specs.Queues.{without_transaction}
use Rattle.sky_model.specs.State.{Queue, RowPart, after_part, after_part_marks, Database, changed_at, with_tables, after_mark, after_marks}
use Rattle.sky_model.specs.Outcome.{Checked, ◌>>=◌, ◌>>◌, refused_if}
use Rattle.sky_model.specs.Telling.{write_in, events_of_write, told_event, event_marks, told_by, told_of}
use Rattle.sky_model.specs.Reader.{part_by_itself, database_by_itself, within_part}
use Rattle.sky_model.specs.Gates.{RowWrite, takes, passed, passed_all, by_gate}
use Rattle.sky_model.specs.Settling.{Turn}
use Rattle.sky_histories.proofs.RowOutcomes.{RowMarks, TurnOfRows, failure-rows, itself-rows, by_gate-rows, settling-rows-by, row_turn-rows-by}
use Rattle.sky_histories.proofs.Telling.{IsOther, TellsAlike, SameTold, settling-told, row_turn-told}
use Rattle.sky_histories.proofs.Inserted.{Inserted}
use Rattle.sky_histories.proofs.Inserted as inserted
use Rattle.sky_histories.proofs.GatedLemmas.{is_no_write, WritesNone, plain-if}
use Rattle.sky_histories.proofs.StatementMarks.{AnyReply, each-failure}
use Rattle.sky_model.specs.Permits.{of_any}
use Rattle.sky_model.specs.SessionMarks.{failure}
use Rattle.sky_model.specs.Sessions.{Block}
use Rattle.pgq_queue.specs.Views.{QueueView}
use Rattle.pgq_queues.specs.Views.{TracedTableView, QueuesView}
use Rattle.pgq_queue.specs.Seen.{no_queue, seen_queue}
use Rattle.pgq_queues.specs.Seen.{sub_at, batch_by, kept, seen_with}
use Rattle.pgq_queues.specs.Traced.{traced_by, traced_at, IsTraced, AreTables}
use Rattle.pgq_queues.specs.EventRule.{events_at, sequences, ids_left, telling_all, event_rule}
use Rattle.pgq_queue.specs.Changed.{telling, undone_in}
use Rattle.pgq_queues.proofs.Marked.{get_or-slice_set}
use Rattle.pgq_queues.proofs.Telling.{telling-length}
use Rattle.pgq_queues.proofs.RotatedQueues.{undone-as}
use Rattle.pgq_tables.specs.Tables.{with_stored}
use Rattle.pgq_parts.specs.Seen.{with_node}
use Rattle.pgq_parts.specs.RowRuns.{RowRun, statement, commit, resuming, run_turn}
use Rattle.sky_model.specs.declared.stmt.RowStmt.TheVariants.{Commit}
use Rattle.pgq_parts.proofs.Tables.{tables-kept}

-- ---- events that record writes, and those that queues store

-- what queues show
abbrev shown : List QueueView → ℕ → Queue
shown queues n = seen_queue (get_or queues n no_queue)

-- an event's marks change what a queue shows as storing it does
next-shown : (queues : List QueueView) (now : ℤ) (t : ℕ) (e : RowEvent) → e.queue < length queues
    → changed_at e.queue (with_tables (with_stored (told_event ((shown queues e.queue).seq + 1) now t e))) (changed_at e.queue (λ q. record q { seq = (shown queues e.queue).seq + 1 }) (shown queues))
    ≡ shown (slice_set queues e.queue (telling now t e (get_or queues e.queue no_queue)))
next-shown queues now t e lt = λ i n. pointwise n i
  where
    one : QueueView
    one = get_or queues e.queue no_queue

    stores : Queue → Queue
    stores q = with_tables (with_stored (told_event (one.seq + 1) now t e)) q

    raises : Queue → Queue
    raises q = record q { seq = one.seq + 1 }

    by : (n : ℕ) (b : Bool) → (e.queue == n) ≡ b → (if b then stores (if b then raises (shown queues n) else shown queues n) else (if b then raises (shown queues n) else shown queues n))
        ≡ seen_queue (if b then telling now t e one else get_or queues n no_queue)
    by n true is = let same : n ≡ e.queue = grind (arith, nat_tests) in ap (λ m. stores (raises (shown queues m))) same
    by n false is = refl

    pointwise : (n : ℕ) → changed_at e.queue stores (changed_at e.queue raises (shown queues)) n ≡ shown (slice_set queues e.queue (telling now t e one)) n
    pointwise n = by n (e.queue == n) refl ∙ ap seen_queue (sym (get_or-slice_set queues e.queue n (telling now t e one) lt))

next-seqs : (f : ℕ → Queue) (q : ℕ) (event : Event)
    → (λ n. (changed_at q (with_tables (with_stored event)) (changed_at q (λ x. record x { seq = (f q).seq + 1 }) f) n).seq) ≡ changed_at q (λ n. n + 1) (λ n. (f n).seq)
next-seqs f q event = λ i n. by n (q == n) refl i
  where
    stores : Queue → Queue
    stores x = with_tables (with_stored event) x

    raises : Queue → Queue
    raises x = record x { seq = (f q).seq + 1 }

    by : (n : ℕ) (b : Bool) → (q == n) ≡ b → Queue.seq (if b then stores (if b then raises (f n) else f n) else (if b then raises (f n) else f n)) ≡ (if b then (f n).seq + 1 else (f n).seq)
    by n true e = let same : q ≡ n = grind (arith, nat_tests) in ap (λ m. (f m).seq + 1) same
    by n false e = refl

is_ok-then : {A B : Type 0} (c : Checked A) (f : A → B) → is_ok (c >>= (λ a. Ok (f a))) ≡ is_ok c
is_ok-then (Ok a) f = refl
is_ok-then (Err refusal) f = refl

-- there are ids for events if the sequences have them
told-ids : (es : List RowEvent) (d : Database) (now : ℤ) (t : ℕ) → is_ok (told_by d now t es) ≡ ids_left (λ n. (d.queue n).seq) es
told-ids [] d now t = refl
told-ids (e ∷ es) d now t = by (nat_le (2 ^ 62) ((d.queue e.queue).seq + 1)) (told-ids es behind now t)
  where
    behind : Database
    behind = after_marks d (event_marks e.queue (told_event ((d.queue e.queue).seq + 1) now t e))

    by : (b : Bool) → is_ok (told_by behind now t es) ≡ ids_left (λ n. (behind.queue n).seq) es → is_ok ((refused_if b EventIdsSpent >> Ok ((d.queue e.queue).seq + 1)) >>= (λ id.
        told_by (after_marks d (event_marks e.queue (told_event id now t e))) now t es >>= (λ rest. Ok (event_marks e.queue (told_event id now t e) ++ rest))))
        ≡ (not b && ids_left (changed_at e.queue (λ n. n + 1) (λ n. (d.queue n).seq)) es)
    by true ih = refl
    by false ih =
        is_ok-then (told_by behind now t es) (λ rest. event_marks e.queue (told_event ((d.queue e.queue).seq + 1) now t e) ++ rest)
        ∙ ih
        ∙ ap (λ f. ids_left f es) (next-seqs d.queue e.queue (told_event ((d.queue e.queue).seq + 1) now t e))

ok-is : {A : Type 0} (x y : A) (c : Checked A) → c ≡ Ok x → c ≡ Ok y → x ≡ y
ok-is x y c e also = cc

-- what events leave that record writes
told-behind : (es : List RowEvent) (queues : List QueueView) (d : Database) (now : ℤ) (t : ℕ) (told : List Mark) → All (λ e. e.queue < length queues) es → d.queue ≡ shown queues
    → told_by d now t es ≡ Ok told → after_marks d told ≡ record d { queue = shown (telling_all now t es queues) }
told-behind [] queues d now t told within is ok = ap (after_marks d) (sym (ok-is [] told (Ok []) refl ok)) ∙ (λ i. record d { queue = is i })
told-behind (e ∷ es) queues d now t told within is ok = by (nat_le (2 ^ 62) ((d.queue e.queue).seq + 1)) (told-behind es next behind now t) ok
  where
    low : e.queue < length queues
    low = within 0 e (omega arith)

    first : List Mark
    first = event_marks e.queue (told_event ((d.queue e.queue).seq + 1) now t e)

    behind : Database
    behind = after_marks d first

    next : List QueueView
    next = slice_set queues e.queue (telling now t e (get_or queues e.queue no_queue))

    there : behind.queue ≡ shown next
    there =
        (λ i. changed_at e.queue (with_tables (with_stored (told_event ((is i e.queue).seq + 1) now t e))) (changed_at e.queue (λ q. record q { seq = (is i e.queue).seq + 1 }) (is i)))
        ∙ next-shown queues now t e low

    later : All (λ x. x.queue < length next) es
    later = λ k d lt. subst (λ n. (get_or es k d).queue < n) (sym (length-set queues e.queue (telling now t e (get_or queues e.queue no_queue)))) (within (suc k) d (omega (arith, lt)))

    joined : (c : Checked (List Mark)) → ((rest : List Mark) → c ≡ Ok rest → after_marks behind rest ≡ record behind { queue = shown (telling_all now t es next) })
        → (c >>= (λ rest. Ok (first ++ rest))) ≡ Ok told → after_marks d told ≡ record d { queue = shown (telling_all now t es next) }
    joined (Ok rest) ih ok = ap (after_marks d) (sym (ok-is (first ++ rest) told (Ok (first ++ rest)) refl ok)) ∙ ih rest refl
    joined (Err refusal) ih ok = absurd (cc)

    by : (b : Bool) → ((rest : List Mark) → All (λ x. x.queue < length next) es → behind.queue ≡ shown next → told_by behind now t es ≡ Ok rest → after_marks behind rest ≡ record behind { queue = shown (telling_all now t es next) })
        → ((refused_if b EventIdsSpent >> Ok ((d.queue e.queue).seq + 1)) >>= (λ id.
        told_by (after_marks d (event_marks e.queue (told_event id now t e))) now t es >>= (λ rest. Ok (event_marks e.queue (told_event id now t e) ++ rest)))) ≡ Ok told
        → after_marks d told ≡ record d { queue = shown (telling_all now t es next) }
    by true ih ok = absurd (cc)
    by false ih ok = joined (told_by behind now t es) (λ rest. ih rest later there) ok

-- events change no subscription
subs-told : (es : List RowEvent) (queues : List QueueView) (now : ℤ) (t : ℕ) → All (λ e. e.queue < length queues) es → sub_at (telling_all now t es queues) ≡ sub_at queues
subs-told [] queues now t within = refl
subs-told (e ∷ es) queues now t within = subs-told es (slice_set queues e.queue one) now t later ∙ (λ i n consumer. pointwise n consumer i)
  where
    one : QueueView
    one = telling now t e (get_or queues e.queue no_queue)

    later : All (λ x. x.queue < length (slice_set queues e.queue one)) es
    later = λ k d lt. subst (λ n. (get_or es k d).queue < n) (sym (length-set queues e.queue one)) (within (suc k) d (omega (arith, lt)))

    by : (n : ℕ) (consumer : List ℕ) (b : Bool) → (e.queue == n) ≡ b → value_of consumer (QueueView.subs (if b then one else get_or queues n no_queue)) ≡ sub_at queues n consumer
    by n consumer true is = let same : e.queue ≡ n = grind (arith, nat_tests) in ap (λ m. sub_at queues m consumer) same
    by n consumer false is = refl

    pointwise : (n : ℕ) (consumer : List ℕ) → sub_at (slice_set queues e.queue one) n consumer ≡ sub_at queues n consumer
    pointwise n consumer =
        ap (λ (q : QueueView). value_of consumer q.subs) (get_or-slice_set queues e.queue n one (within 0 e (omega arith))) ∙ by n consumer (e.queue == n) refl

-- a rollback leaves what the queues show after it; the copies are the same
pub undone-shown : (node : NodePart) (p : RowPart) (q : QueuesView) (whose : Whose) (t : ℕ)
    → record (after_mark (seen_with (with_node node p) q) (ended whose t false)) { copies = node.copies } ≡ seen_with (with_node node (after_part p (ended whose t false))) (event_rule.undone q t)
undone-shown node p q whose t = sym (undone-as q q (map (undone_in t) q.queues) t refl refl (with_node node (after_part p (ended whose t false))))

-- marks of rows leave the copies, with marks of events among them too
copies-kept : {xs ys : List Mark} → Inserted xs ys → (d : Database) → RowMarks xs → (after_marks d ys).copies ≡ d.copies
copies-kept inserted.none d rows = refl
copies-kept (inserted.with_raised q value more) d rows = copies-kept more (after_mark d (queued (raised q value))) rows
copies-kept (inserted.with_put q event more) d rows = copies-kept more (after_mark d (queued (put q event))) rows
copies-kept (inserted.kept (queued mark) more) d rows = absurd rows
copies-kept (inserted.kept (noded mark) more) d rows = absurd rows
copies-kept (inserted.kept (tabled (read_only table on)) more) d rows = absurd rows
copies-kept (inserted.kept (began (of_copy table) t) more) d rows = absurd rows
copies-kept (inserted.kept (ended (of_copy table) t committed) more) d rows = absurd rows
copies-kept (inserted.kept (tabled (wrote of_worker t table key old new)) more) d rows = absurd rows
copies-kept (inserted.kept (ended whose t true) more) d rows = copies-kept more (after_mark d (ended whose t true)) rows
copies-kept (inserted.kept (ended whose t false) more) d rows = copies-kept more (after_mark d (ended whose t false)) rows
copies-kept (inserted.kept mark more) d rows = copies-kept more (after_mark d mark) rows

-- ---- a database, its node, its row part, and its queues

-- a database but for its copies, its node, its row part and its queues at a time
pub record Alike (now : ℤ) (node : NodePart) (d : Database) (p : RowPart) (q : QueuesView) : Type 0 where
  pub whole : record d { copies = node.copies } ≡ seen_with (with_node node p) q
  pub time : q.time ≡ now
  pub tables : AreTables p q
  pub within : All (λ t. t.trigger.queue < length q.queues) q.triggers

module _ (now : ℤ) (node : NodePart) where
  abbrev Here : Database → RowPart → QueuesView → Type 0
  Here d p q = Alike now node d p q

  whole-other : (d : Database) (p : RowPart) (q : QueuesView) (mark : Mark) → IsOther mark → record d { copies = node.copies } ≡ seen_with (with_node node p) q
      → record (after_mark d mark) { copies = node.copies } ≡ seen_with (with_node node (after_part p mark)) q
  whole-other d p q (began whose t) other is = λ i. record (is i) { part = after_part (is i).part (began whose t) }
  whole-other d p q (ended whose t true) other is = λ i. record (is i) { part = after_part (is i).part (ended whose t true) }
  whole-other d p q (ended whose t false) other is = absurd other
  whole-other d p q (queued mark) other is = absurd other
  whole-other d p q (noded mark) other is = absurd other
  whole-other d p q mark other is = ap (λ x. after_mark x mark) is

  other-alike : (d : Database) (p : RowPart) (q : QueuesView) (mark : Mark) → IsOther mark → Here d p q → Here (after_mark d mark) (after_part p mark) q
  other-alike d p q mark other is = record { whole = whole-other d p q mark other is.whole; time = is.time; tables = tables-kept p mark q is.tables; within = is.within }

  -- a rollback
  undone-alike : (d : Database) (p : RowPart) (q : QueuesView) (whose : Whose) (t : ℕ) → Here d p q → Here (after_mark d (ended whose t false)) (after_part p (ended whose t false)) (event_rule.undone q t)
  undone-alike d p q whose t is = record {
    whole = (λ i. record (is.whole i) { part = after_part (is.whole i).part (ended whose t false); queue = λ n. with_tables (without_transaction t) ((is.whole i).queue n) }) ∙ undone-shown node p q whose t;
    time = is.time;
    tables = tables-kept p (ended whose t false) (event_rule.undone q t) is.tables;
    within = λ k x lt. subst (λ n. (get_or q.triggers k x).trigger.queue < n) (sym (length-map q.queues (undone_in t))) (is.within k x lt);
  }

  -- the events of a write are those that the queues store
  same-events : (d : Database) (p : RowPart) (q : QueuesView) (table : ℕ) (old new : Option (List Val)) → Here d p q
      → events_of_write d table old new ≡ events_at (traced_at q table) (record { table = table; old = old; new = new })
  same-events d p q table old new is = ap (λ x. events_of_write x table old new) is.whole ∙ by (kept q.traced_tables table) (is.tables table)
    where
      told_by_them : RowPart → List TableTrigger → List RowEvent
      told_by_them x ts = events_of (record { table = unwrap_or (slice_get x.tables table) []; columns = x.columns table; old = old; new = new }) (map TableTrigger.trigger ts)

      by : (o : Option TracedTableView) → IsTraced p table q.triggers o
          → told_by_them p (triggers_of table q.triggers) ≡ events_at (option_map (traced_by (triggers_of table q.triggers)) o) (record { table = table; old = old; new = new })
      by None none = ap (told_by_them p) none
      by (Some t) there = λ i. events_of (record { table = unwrap_or (there.0 i) []; columns = there.1 i; old = old; new = new }) (map TableTrigger.trigger (triggers_of table q.triggers))

  room-alike : (d : Database) (p : RowPart) (q : QueuesView) (who t table : ℕ) (key : List Val) (old new : Option (List Val)) → Here d p q
      → takes event_rule q (tabled (wrote (of_session who) t table key old new))
      ≡ is_ok (told_of (after_mark d (tabled (wrote (of_session who) t table key old new))) now (tabled (wrote (of_session who) t table key old new)))
  room-alike d p q who t table key old new is =
      ap (λ es. ids_left (sequences q.queues) es) (sym (same-events d p q table old new is))
      ∙ ap (λ (x : Database). ids_left (λ n. (x.queue n).seq) (events_of_write d table old new)) (sym is.whole)
      ∙ sym (told-ids (events_of_write d table old new) (after_mark d (tabled (wrote (of_session who) t table key old new))) now t)

  wrote-alike : (d : Database) (p : RowPart) (q : QueuesView) (who t table : ℕ) (key : List Val) (old new : Option (List Val)) (told : List Mark) → Here d p q
      → told_of (after_mark d (tabled (wrote (of_session who) t table key old new))) now (tabled (wrote (of_session who) t table key old new)) ≡ Ok told
      → Here (after_marks d (tabled (wrote (of_session who) t table key old new) ∷ told)) (after_part p (tabled (wrote (of_session who) t table key old new))) (passed event_rule q (tabled (wrote (of_session who) t table key old new)))
  wrote-alike d p q who t table key old new told is ok =
      subst (λ (s : Database). Here s (after_part p write) (passed event_rule q write)) (sym behind) (record {
        whole = λ i. record (ap (λ x. after_mark x write) is.whole i) {
          queues_made = (ap Database.queues_made is.whole ∙ sym (telling-length q.time t (events_at (traced_at q table) change) q.queues)) i;
          queue = shown (stored i);
          batch = batches i;
        };
        time = is.time;
        tables = tables-kept p write (passed event_rule q write) is.tables;
        within = λ k x lt. subst (λ n. (get_or q.triggers k x).trigger.queue < n) (sym (telling-length q.time t (events_at (traced_at q table) change) q.queues)) (is.within k x lt);
      })
    where
      write : Mark
      write = tabled (wrote (of_session who) t table key old new)

      change : RowWrite
      change = record { table = table; old = old; new = new }

      events : List RowEvent
      events = events_of_write d table old new

      within : All (λ e. e.queue < length q.queues) events
      within =
          All-map (λ e. e.queue < length q.queues) (event_of (write_in d table old new)) _ (All-filter _ (λ (x : Trigger). x.queue < length q.queues) _
          (All-map (λ (x : Trigger). x.queue < length q.queues) TableTrigger.trigger (triggers_of table d.triggers)
          (All-filter _ (λ x. x.trigger.queue < length q.queues) d.triggers (subst (All (λ (x : TableTrigger). x.trigger.queue < length q.queues)) (sym (ap Database.triggers is.whole)) is.within))))

      stored : telling_all now t events q.queues ≡ telling_all q.time t (events_at (traced_at q table) change) q.queues
      stored = λ i. telling_all (sym is.time i) t (same-events d p q table old new is i) q.queues

      batches : d.batch ≡ (λ id. batch_by (sub_at (telling_all q.time t (events_at (traced_at q table) change) q.queues)) id (kept q.batches id))
      batches =
          ap Database.batch is.whole
          ∙ ap (λ subs. λ id. batch_by subs id (kept q.batches id)) (sym (subs-told events q.queues now t within))
          ∙ ap (λ queues. λ id. batch_by (sub_at queues) id (kept q.batches id)) stored

      behind : after_marks d (write ∷ told) ≡ record (after_mark d write) { queue = shown (telling_all now t events q.queues) }
      behind = told-behind events q.queues (after_mark d write) now t told within (ap Database.queue is.whole) ok

  pub events-alike : TellsAlike event_rule now Here
  events-alike = record { part = λ d p q is. ap Database.part is.whole; other = other-alike; undone = undone-alike; room = room-alike; wrote = wrote-alike }

  -- ---- what a database gives

  -- what the row part runs does the same with the queues as its gate and in the database
  pub run-told : (d : Database) (p : RowPart) (q : QueuesView) (what : RowRun) → Here d p q
      → SameTold event_rule Here d p q (run_turn (by_gate event_rule part_by_itself) (p, q) what) (run_turn (within_part database_by_itself now) d what)
  run-told d p q (statement who stmt) is = row_turn-told event_rule now Here events-alike d p q who stmt is
  run-told d p q (commit who checked) is = row_turn-told event_rule now Here events-alike d p q who Commit is
  run-told d p q resuming is = settling-told event_rule now Here events-alike d p q is

  -- after a turn the row part and the queues show the database
  pub told-changed : (d : Database) (p after : RowPart) (q left : QueuesView) (gated told : Turn) → SameTold event_rule Here d p q gated told → TurnOfRows gated → d.copies ≡ node.copies
      → after ≡ after_part_marks p gated.marks → left ≡ passed_all event_rule q gated.marks → seen_with (with_node node after) left ≡ after_marks d told.marks
  told-changed d p after q left gated told same rows copies part_is left_is =
      (λ i. seen_with (with_node node (part_is i)) (left_is i))
      ∙ sym same.stands.whole
      ∙ (λ i. record (after_marks d told.marks) { copies = sym (copies-kept same.inserted d rows.marks ∙ copies) i })

  -- and what is kept of tables is true
  pub told-tables : (d : Database) (p after : RowPart) (q left : QueuesView) (gated told : Turn) → SameTold event_rule Here d p q gated told
      → after ≡ after_part_marks p gated.marks → left ≡ passed_all event_rule q gated.marks → AreTables after left
  told-tables d p after q left gated told same part_is left_is = subst (AreTables after) (sym left_is) (subst (λ x. AreTables x (passed_all event_rule q gated.marks)) (sym part_is) same.stands.tables)

-- queues to which a time was given
pub alike-at : (now : ℤ) (node : NodePart) (at : ℤ) (p : RowPart) (was q : QueuesView) → q ≡ record was { time = at } → at ≡ now → AreTables p was → All (λ t. t.trigger.queue < length q.queues) q.triggers
    → Alike now node (seen_with (with_node node p) was) p q
alike-at now node at p was q is time tables within = record { whole = λ i. seen_with (with_node node p) (sym is i); time = ap QueuesView.time is ∙ time; tables = subst (AreTables p) (sym is) tables; within = within }

-- after a turn from there what is kept of tables is true
pub tables-behind_turn : (now : ℤ) (node : NodePart) (at : ℤ) (p after : RowPart) (was q left : QueuesView) (gated told : Turn)
    → (Alike now node (seen_with (with_node node p) was) p q → SameTold event_rule (Alike now node) (seen_with (with_node node p) was) p q gated told)
    → q ≡ record was { time = at } → at ≡ now → AreTables p was → All (λ t. t.trigger.queue < length q.queues) q.triggers → after ≡ after_part_marks p gated.marks → left ≡ passed_all event_rule q gated.marks → AreTables after left
tables-behind_turn now node at p after was q left gated told tells is time tables within =
    told-tables now node (seen_with (with_node node p) was) p after q left gated told (tells (alike-at now node at p was q is time tables within))

-- its turn does marks of rows, and lists no event
pub run-rows : (p : RowPart) (q : QueuesView) (what : RowRun) → TurnOfRows (run_turn (by_gate event_rule part_by_itself) (p, q) what)
run-rows p q (statement who stmt) = row_turn-rows-by (by_gate event_rule part_by_itself) (by_gate-rows event_rule part_by_itself itself-rows) (p, q) who stmt
run-rows p q (commit who checked) = row_turn-rows-by (by_gate event_rule part_by_itself) (by_gate-rows event_rule part_by_itself itself-rows) (p, q) who Commit
run-rows p q resuming = settling-rows-by (by_gate event_rule part_by_itself) (by_gate-rows event_rule part_by_itself itself-rows) (p, q)

-- ---- a block that is rolled back

-- marks of rows among which there is no write
pub unwritten : (node : NodePart) (p : RowPart) (q : QueuesView) (marks : List Mark) → RowMarks marks → WritesNone marks
    → seen_with (with_node node (after_part_marks p marks)) (passed_all event_rule q marks) ≡ after_marks (seen_with (with_node node p) q) marks
unwritten node p q [] rows plain = refl
unwritten node p q (queued mark ∷ marks) rows plain = absurd rows
unwritten node p q (noded mark ∷ marks) rows plain = absurd rows
unwritten node p q (tabled (wrote who t table key old new) ∷ marks) rows plain = absurd plain
unwritten node p q (tabled (read_only table on) ∷ marks) rows plain = absurd rows
unwritten node p q (began (of_copy table) t ∷ marks) rows plain = absurd rows
unwritten node p q (ended (of_copy table) t committed ∷ marks) rows plain = absurd rows
unwritten node p q (ended (of_session who) t false ∷ marks) rows plain =
    unwritten node (after_part p (ended (of_session who) t false)) (event_rule.undone q t) marks rows plain ∙ ap (λ x. after_marks x marks) (sym (undone-shown node p q (of_session who) t))
unwritten node p q (ended of_worker t false ∷ marks) rows plain =
    unwritten node (after_part p (ended of_worker t false)) (event_rule.undone q t) marks rows plain ∙ ap (λ x. after_marks x marks) (sym (undone-shown node p q of_worker t))
unwritten node p q (ended whose t true ∷ marks) rows plain = unwritten node (after_part p (ended whose t true)) q marks rows plain
unwritten node p q (mark ∷ marks) rows plain = unwritten node (after_part p mark) q marks rows plain

pub failure-unwritten : (node : NodePart) (p : RowPart) (q : QueuesView) (who : ℕ) (o : Option ℕ) (b : Block)
    → seen_with (with_node node (after_part_marks p (failure who o b))) (passed_all event_rule q (failure who o b)) ≡ after_marks (seen_with (with_node node p) q) (failure who o b)
failure-unwritten node p q who o b =
    unwritten node p q (failure who o b) (failure-rows who o b) (each-failure AnyReply is_no_write (λ _. tt) (plain-if of_any refl) who o b)
