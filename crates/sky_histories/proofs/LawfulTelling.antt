-- A statement on rows leaves a legal history legal once its writes are recorded.
use Rattle.std.proofs.Common.{◌≡◌, ℕ, ℤ, ◌+◌, ◌^◌, List, [], ◌∷◌, ◌++◌, Bool, true, false, not, ◌==◌, nat_le, Option, Some, Ok, Err, IfOk, map, get_or, refl, sym, ◌∙◌, ap, subst, arith, if◌then◌else◌, All}
use Rattle.std.proofs.lemmas.List.Elements.{All-nil, All-head, All-tail, All-push, All-weaker, All-map, All-filter}
use Rattle.sky_val.specs.declared.val.Val.{Val}
use Rattle.sky_txid.specs.Ids.{contains}
use Rattle.sky_keys.specs.Waits.{other_than, is_waiting}
use Rattle.sky_names.specs.Places.{place_of}
use Rattle.sky_urlenc.specs.RowEvents.{Trigger, TracedWrite, event_of, RowEvent, events_of}
use Rattle.sky_model.specs.declared.reply.Refusal.TheVariants.{EventIdsSpent}
use Rattle.sky_model.specs.History.{Mark, of_session, began, tabled, wrote, queued, made, raised, put, dropped, traced, untraced, noded, read_only, History, of_worker, of_copy, ended}
use Rattle.sky_model.specs.Sessions.{has_open, Block, block, own_txid}
use Rattle.sky_model.specs.Nodes.{node}
use Rattle.sky_model.specs.Triggers.{TableTrigger, is_sets, triggers, triggers_of}
use Rattle.sky_model.specs.Queues.{NamedQueue, queues_made, queues, sequence}
use Rattle.sky_model.specs.State.{RowPart, part_of, after_part, database_of, after_mark, after_marks}
use Rattle.sky_model.specs.Outcome.{Outcome, Checked, ◌>>=◌, ◌>>◌, refused_if, does_marks}
use Rattle.sky_model.specs.Telling.{write_in, events_of_write, told_event, event_marks, told_by, told_of, with_told, tells}
use Rattle.sky_model.specs.Reader.{part_by_history}
use Rattle.sky_model.specs.Settling.{behind_marks, marked}
use Rattle.sky_histories.proofs.Legal.{Replaces, MayWait, IsAmong, IsQueue, Fine, begins, ends, begins_work, ends_work, begins_block, fails_block, ends_block, connects, disconnects, repeats_block, looks, makes_table, writes, begins_waiting, ends_waiting, raises, puts, drops, traces, Chain, done, more, Legal, next, legal-below_mark, CopiesRow, copies_row}
use Rattle.sky_histories.proofs.QueueNumbers.{among-before, among-others}
use Rattle.sky_histories.proofs.Marks.{part_of-mark, database_of-mark, database_of-marks}
use Rattle.sky_histories.proofs.Selecting.{events_below-next}
use Rattle.sky_histories.proofs.Good.{Good, same-session, good_refused}
use Rattle.std.proofs.lemmas.Result.{IfOk-at_ok}
use Rattle.sky_model.proofs.Cases.{ok-then}
use Rattle.sky_histories.proofs.StatementMarks.{each-rest}
use Rattle.sky_histories.proofs.RowOutcomes.{is_of_rows, RowMarks, OfRows}
use Rattle.sky_model.specs.Copies.{Copy, copies, is_copys}
use Rattle.londiste_state.specs.Nodes.{Node}

-- marks that may come next, and after them more that may
pub good_append : (h : History) (xs ys : List Mark) → Chain h xs → Chain (behind_marks part_by_history h xs) ys → Chain h (xs ++ ys)
good_append h [] ys done also = also
good_append h (x ∷ xs) ys (more fine chain) also = more fine (good_append (x ∷ h) xs ys chain also)

pub legal_behind : (h : History) (marks : List Mark) → Legal h → Chain h marks → Legal (behind_marks part_by_history h marks)
legal_behind h [] l done = l
legal_behind h (mark ∷ marks) l (more fine chain) = legal_behind (mark ∷ h) marks (next l fine) chain

-- ---- the events of triggers go to queues

traced-queue : {h : History} {table : ℕ} {name : Option (List ℕ)} {trigger : Trigger} → Legal (queued (traced table name trigger) ∷ h) → IsQueue h trigger.queue
traced-queue (next l (traces table name trigger below is new)) = is

undropped-triggers : {h : History} {q : ℕ} → Legal (queued (dropped q) ∷ h) → All (λ t. (t.trigger.queue == q) ≡ false) (triggers h)
undropped-triggers (next l (drops q none untold idle aside)) = untold

-- the queues of triggers are among these
abbrev pub TriggersAmong : List NamedQueue → List TableTrigger → Type 0
TriggersAmong queues ts = All (λ t. IsAmong t.trigger.queue queues) ts

-- and those of events
abbrev EventsAmong : List NamedQueue → List RowEvent → Type 0
EventsAmong queues es = All (λ e. IsAmong e.queue queues) es

-- triggers are of queues that stand
pub trigger-queues : (h : History) → Legal h → TriggersAmong (queues h) (triggers h)
trigger-queues [] l = All-nil (λ t. IsAmong t.trigger.queue [])
trigger-queues (queued (made name t time) ∷ h) l =
    let last : NamedQueue = record { number = queues_made h; name = name } in
    All-weaker (λ t. IsAmong t.trigger.queue (queues h)) (λ t. IsAmong t.trigger.queue (queues h ++ last ∷ [])) (λ t among. among-before (queues h) last t.trigger.queue among) (triggers h) (trigger-queues h (legal-below_mark l))
trigger-queues (queued (traced table name trigger) ∷ h) l =
    All-push (λ t. IsAmong t.trigger.queue (queues h)) (triggers h) (record { table = table; name = name; trigger = trigger }) (trigger-queues h (legal-below_mark l)) (traced-queue l)
trigger-queues (queued (dropped q) ∷ h) l =
    λ k t less. among-others q (queues h) (get_or (triggers h) k t).trigger.queue (trigger-queues h (legal-below_mark l) k t less) (undropped-triggers l k t less)
trigger-queues (queued (untraced table) ∷ h) l =
    All-filter (λ t. not (is_sets table t)) (λ t. IsAmong t.trigger.queue (queues h)) (triggers h) (trigger-queues h (legal-below_mark l))
trigger-queues (_ ∷ h) l = trigger-queues h (legal-below_mark l)

-- so are the events of a write
events-queues : (queues : List NamedQueue) (w : TracedWrite) (ts : List TableTrigger) → TriggersAmong queues ts → EventsAmong queues (events_of w (map TableTrigger.trigger ts))
events-queues queues w ts among =
    All-map (λ e. IsAmong e.queue queues) (event_of w) _ (All-filter _ (λ t. IsAmong t.queue queues) (map TableTrigger.trigger ts) (All-map (λ t. IsAmong t.queue queues) TableTrigger.trigger ts among))

-- ---- what records a mark may come after it

-- the node of a database, and the copies that run there
abbrev besides : History → Option Node × List Copy
besides h = (node h, copies h)

-- marks that may come next, and leave the row part, the node and the copies as they were; or a refusal
abbrev ToldWell : History → Checked (List Mark) → Type 0
ToldWell h x = IfOk x (λ marks. Chain h marks × (part_of (marked h marks) ≡ part_of h) × (besides (marked h marks) ≡ besides h))

told-well : (h : History) → Legal h → (now : ℤ) (who t : ℕ) (es : List RowEvent) → own_txid who h ≡ Some t → EventsAmong (queues h) es
    → ToldWell h (told_by (database_of h) now t es)
told-well h l now who t [] mine among = (done, refl, refl)
told-well h l now who t (e ∷ es) mine among =
    of (nat_le (2 ^ 62) id)
    (subst (λ d. ToldWell behind (told_by d now t es)) (database_of-marks h (event_marks e.queue (told_event id now t e))) (told-well behind (next (next l raised_fine) put_fine) now who t es mine (All-tail (λ e. IsAmong e.queue (queues h)) e es among)))
  where
    id : ℕ
    id = sequence e.queue h + 1

    there : IsQueue h e.queue
    there = All-head (λ e. IsAmong e.queue (queues h)) e es among

    behind : History
    behind = queued (put e.queue (told_event id now t e)) ∷ queued (raised e.queue id) ∷ h

    raised_fine : Fine h (queued (raised e.queue id))
    raised_fine = raises e.queue id there (omega arith)

    put_fine : Fine (queued (raised e.queue id) ∷ h) (queued (put e.queue (told_event id now t e)))
    put_fine = puts who e.queue (told_event id now t e) there (ap (λ b. if b then id else sequence e.queue h) (sym (same-session e.queue))) mine (events_below-next h l e.queue there)

    of : (b : Bool) → ToldWell behind (told_by (after_marks (database_of h) (event_marks e.queue (told_event id now t e))) now t es)
        → ToldWell h ((refused_if b EventIdsSpent >> Ok id) >>= (λ n. told_by (after_marks (database_of h) (event_marks e.queue (told_event n now t e))) now t es
        >>= (λ rest. Ok (event_marks e.queue (told_event n now t e) ++ rest))))
    of true well = tt
    of false well = ok-then _ (told_by (after_marks (database_of h) (event_marks e.queue (told_event id now t e))) now t es) _ (λ rest is.
        let told = IfOk-at_ok _ is well in (more raised_fine (more put_fine told.0), told.1, told.2))

writer-owns : {h : History} {who t table : ℕ} {key : List Val} {old new : Option (List Val)} → Fine h (tabled (wrote (of_session who) t table key old new)) → own_txid who h ≡ Some t
writer-owns (writes who t table key old new mine free stands) = mine

told_of-well : (h : History) → Legal h → (now : ℤ) (mark : Mark) → Fine h mark → ToldWell (mark ∷ h) (told_of (database_of (mark ∷ h)) now mark)
told_of-well h l now (tabled (wrote (of_session who) t table key old new)) fine =
    told-well (tabled (wrote (of_session who) t table key old new) ∷ h) (next l fine) now who t (events_of_write (database_of (tabled (wrote (of_session who) t table key old new) ∷ h)) table old new) (writer-owns fine)
    (events-queues (queues h) (write_in (database_of (tabled (wrote (of_session who) t table key old new) ∷ h)) table old new) (triggers_of table (triggers h)) (All-filter (λ t. t.table == table) (λ t. IsAmong t.trigger.queue (queues h)) (triggers h) (trigger-queues h l)))
told_of-well h l now _ fine = (done, refl, refl)

-- ---- marks of rows may come wherever the row part is the same

own-alike : (h g : History) → part_of h ≡ part_of g → (who : ℕ) (o : Option ℕ) → own_txid who h ≡ o → own_txid who g ≡ o
own-alike h g same who o is = sym (ap (λ (d : RowPart). (d.session who).txid) same) ∙ is

block-alike : (h g : History) → part_of h ≡ part_of g → (who : ℕ) (b : Block) → block who h ≡ b → block who g ≡ b
block-alike h g same who b is = sym (ap (λ (d : RowPart). (d.session who).block) same) ∙ is

open-alike : (h g : History) → part_of h ≡ part_of g → (who : ℕ) (b : Bool) → has_open who h ≡ b → has_open who g ≡ b
open-alike h g same who b is = sym (ap (λ (d : RowPart). (d.session who).is_open) same) ∙ is

fine-alike : (h g : History) → part_of h ≡ part_of g → besides h ≡ besides g → (mark : Mark) (marks : List Mark) → RowMarks (mark ∷ marks) → Fine h mark → Fine g mark
fine-alike h g same still (queued mark) marks rows fine = absurd rows
fine-alike h g same still (noded mark) marks rows fine = absurd rows
fine-alike h g same still (tabled (read_only table on)) marks rows fine = absurd rows
fine-alike h g same still (tabled (wrote of_worker t table key old new)) marks rows fine = absurd rows
fine-alike h g same still (began (of_copy table) t) marks rows fine = absurd rows
fine-alike h g same still (ended (of_copy table) t committed) marks rows fine = absurd rows
fine-alike h g same still _ marks rows (begins who none) = subst (λ n. Fine g (began (of_session who) n)) (sym (ap RowPart.next same)) (begins who (own-alike h g same who _ none))
fine-alike h g same still _ marks rows (ends who t committed mine) = ends who t committed (own-alike h g same who _ mine)
fine-alike h g same still _ marks rows begins_work = subst (λ n. Fine g (began of_worker n)) (sym (ap RowPart.next same)) begins_work
fine-alike h g same still _ marks rows (ends_work t committed is) = ends_work t committed (record {
  works = sym (ap (λ (d : RowPart). contains t d.workers) same) ∙ is.works;
  apart = sym (ap (λ x. is_copys t x.1) still) ∙ is.apart;
})
fine-alike h g same still _ marks rows (begins_block who is is_open) = begins_block who (block-alike h g same who _ is) (open-alike h g same who _ is_open)
fine-alike h g same still _ marks rows (fails_block who is none) = fails_block who (block-alike h g same who _ is) (own-alike h g same who _ none)
fine-alike h g same still _ marks rows (ends_block who none) = ends_block who (own-alike h g same who _ none)
fine-alike h g same still _ marks rows (connects who closed) = connects who (open-alike h g same who _ closed)
fine-alike h g same still _ marks rows (disconnects who quiet away) =
    disconnects who (sym (ap (λ (d : RowPart). is_waiting who d.waiting) same) ∙ quiet) (block-alike h g same who _ away)
fine-alike h g same still _ marks rows (repeats_block who) = repeats_block who
fine-alike h g same still _ marks rows (looks who) = looks who
fine-alike h g same still _ marks rows (makes_table name columns new) = makes_table name columns (sym (ap (λ (d : RowPart). place_of name d.tables) same) ∙ new)
fine-alike h g same still _ marks rows (writes who t table key old new mine free stands) =
    writes who t table key old new (own-alike h g same who _ mine) (sym (ap (λ (d : RowPart). other_than who (d.holder table key)) same) ∙ free)
    (subst (λ n. Replaces (part_of g) n who table key old new) (ap (λ x. x.0) still) (subst (λ d. Replaces d (node h) who table key old new) same stands))
fine-alike h g same still _ marks rows (copies_row table t key old new is) =
    copies_row table t key old new (subst (λ cs. CopiesRow (part_of g) cs table t key old new) (ap (λ x. x.1) still) (subst (λ d. CopiesRow d (copies h) table t key old new) same is))
fine-alike h g same still _ marks rows (begins_waiting who table key attempt may) =
    begins_waiting who table key attempt (subst (λ n. MayWait (part_of g) n who table key attempt) (ap (λ x. x.0) still) (subst (λ d. MayWait d (node h) who table key attempt) same may))
fine-alike h g same still _ marks rows (ends_waiting who) = ends_waiting who

-- they leave the node and the copies as they were
besides-still : (h : History) (mark : Mark) (marks : List Mark) → RowMarks (mark ∷ marks) → besides (mark ∷ h) ≡ besides h
besides-still h (noded mark) marks rows = absurd rows
besides-still h (began (of_copy table) t) marks rows = absurd rows
besides-still h (ended (of_copy table) t committed) marks rows = absurd rows
besides-still h _ marks rows = refl

chain-alike : (h g : History) → part_of h ≡ part_of g → besides h ≡ besides g → (marks : List Mark) → RowMarks marks → Chain h marks → Chain g marks
chain-alike h g same still [] rows done = done
chain-alike h g same still (mark ∷ marks) rows (more fine chain) =
    more (fine-alike h g same still mark marks rows fine)
    (chain-alike (mark ∷ h) (mark ∷ g) (part_of-mark h mark ∙ ap (λ d. after_part d mark) same ∙ sym (part_of-mark g mark))
    (besides-still h mark marks rows ∙ still ∙ sym (besides-still g mark marks rows)) marks (each-rest is_of_rows mark marks rows) chain)

-- ---- what a statement does

abbrev ChainOf : History → Checked (List Mark) → Type 0
ChainOf h x = IfOk x (Chain h)

-- marks may come with what records them
with_told-well : (h : History) → Legal h → (now : ℤ) (marks : List Mark) → RowMarks marks → Chain h marks → ChainOf h (with_told (database_of h) now marks)
with_told-well h l now [] rows chain = done
with_told-well h l now (mark ∷ marks) rows (more fine chain) =
    ok-then (Chain h) (told_of (after_mark (database_of h) mark) now mark) _ (λ told same.
    let well = IfOk-at_ok _ same (subst (λ d. ToldWell (mark ∷ h) (told_of d now mark)) (database_of-mark h mark) (told_of-well h l now mark fine)) in
    let g : History = marked (mark ∷ h) told in
    let rest_rows = each-rest is_of_rows mark marks rows in
    ok-then (Chain h) (with_told (after_marks (database_of h) (mark ∷ told)) now marks) _ (λ rest is. more fine (good_append (mark ∷ h) told rest well.0
    (IfOk-at_ok (Chain g) is (subst (λ d. ChainOf g (with_told d now marks)) (database_of-marks h (mark ∷ told))
    (with_told-well g (legal_behind (mark ∷ h) told (next l fine) well.0) now marks rest_rows (chain-alike (mark ∷ h) g (sym well.1) (sym well.2) marks rest_rows chain)))))))

-- so what a statement on rows does may come where it might, once its writes are recorded
pub good_tells : (h : History) → Legal h → (now : ℤ) (who : ℕ) (c : Checked Outcome) → OfRows c → Good h who c → Good h who (tells (database_of h) now c)
good_tells h l now who (Err refusal) rows good = good
good_tells h l now who (Ok o) rows good = of (with_told (database_of h) now o.marks) (with_told-well h l now o.marks rows.1 good)
  where
    of : (x : Checked (List Mark)) → ChainOf h x → Good h who (x >>= (λ marks. does_marks o.reply marks))
    of (Err refusal) chain = good_refused h who refusal
    of (Ok marks) chain = chain
