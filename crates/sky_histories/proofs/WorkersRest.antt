-- A worker's transaction begins and commits in one turn, without a tick or a new retry in between; and retries come back at the moment of their call.
use Rattle.sky_model.specs.declared.reply.Limit.TheVariants.{Queues}
use Rattle.std.specs.List.{list_any}
use Rattle.std.proofs.Common.{◌≡◌, ℕ, zero, suc, ℤ, ◌||◌, List, [], ◌∷◌, ◌++◌, Bool, true, false, ◌&&◌, not, filter, Option, Some, None, Ok, Err, length, nat_le, append_assoc, refl, sym, ap, subst, ◌∙◌, arith, All, Contains, ◌==◌, ◌+◌, ◌^◌, ◌<◌, ◌≤◌, if◌then◌else◌, is_some}
use Rattle.std.proofs.lemmas.Bool.Decides.{nat_tests}
use Rattle.std.proofs.lemmas.Bool.{cond_both, false_from_ne_true}
use Rattle.std.proofs.lemmas.List.Elements.{All-head, All-tail, All-contains}
use Rattle.sky_val.specs.declared.event.Event.{Event}
use Rattle.sky_txid.specs.Ids.{contains}
use Rattle.sky_keys.specs.Waits.{is_waiting}
use Rattle.pgq_tables.specs.Listed.{is_for}
use Rattle.sky_model.specs.declared.reply.Refusal.TheVariants.{TxidsSpent, QueueExists, TooMany}
use Rattle.pgq_retry.specs.declared.retry.Retry.{Retry}
use Rattle.pgq_retry.specs.Retries.{is_event, due_now}
use Rattle.sky_model.specs.declared.stmt.DbStmt.{DbStmt}
use Rattle.sky_model.specs.declared.stmt.RowStmt.{RowStmt}
use Rattle.sky_model.specs.declared.stmt.RowStmt.TheVariants.{OpenDb}
use Rattle.sky_model.specs.declared.stmt.DbStmt.TheVariants.{Row, Queue}
use Rattle.sky_model.specs.declared.stmt.QueueStmt.TheVariants.{MaintRetryEvents, MaintRotateStep2}
use Rattle.sky_model.specs.Permits.{MarkKinds, of_any, of_resumed, may_leave, permit_of_row, permit_of}
use Rattle.sky_model.specs.declared.daemon.DaemonPart.{DaemonPart}
use Rattle.sky_model.specs.declared.daemon.DaemonPart.TheVariants as part
use Rattle.sky_model.specs.declared.reply.Reply.TheVariants.{Number, Null, Done}
use Rattle.sky_model.specs.declared.reply.HeldBack.{HeldBack}
use Rattle.sky_model.specs.History.{Mark, QueueMark, Pick, of_worker, tabled, wrote, noded, applied, began, ended, sight_taken, queued, made, put, ticked, asked, returned, switching, switched, History, root_made}
use Rattle.sky_model.specs.Transactions.{next_txid}
use Rattle.sky_model.specs.Sessions.{Session, session, has_open, block, own_txid}
use Rattle.sky_model.specs.Locks.{waiting}
use Rattle.sky_model.specs.Queues.{NamedQueue, queues, events, queue_number}
use Rattle.sky_model.specs.Retries.{retries, brought_by}
use Rattle.sky_model.specs.OwnTransaction.{next_id}
use Rattle.sky_model.specs.State.{RowPart, part_of, after_part, Database, queue_of, database_of}
use Rattle.sky_model.specs.Nodes.{node}
use Rattle.sky_model.specs.Printed.{ReplyHasMoments}
use Rattle.sky_model.specs.Outcome.{Outcome, Checked, ◌>>=◌, ◌>>◌, refused_if, answers, does_marks, marks_of, reply_of, abort, or_refused}
use Rattle.sky_model.specs.Allowed.{where_of, allowed}
use Rattle.sky_model.specs.Made.{takes_sight, looking, runs_if}
use Rattle.sky_model.specs.StepQueue.{next_tick}
use Rattle.sky_model.specs.StepRetry.{back, brings, most_back, maint_retry_events}
use Rattle.sky_model.specs.StepRotation.{held_back, rotates_alone, rotates_by_itself, second_steps, lack_second_step, ends_switches, maint_rotate_step2}
use Rattle.sky_model.specs.Reader.{Shown, shown_in, part_by_history, database_by_history, within_part}
use Rattle.sky_model.specs.Settling.{Turn, turn_of, behind_marks, marked, and_then, settling, with_settling}
use Rattle.sky_model.specs.Daemon.{quietly, ticks_of, moved_by, again_if, retries_of, first_steps_of, second_step_of_all, daemon_does}
use Rattle.sky_model.specs.Calls.{form, making, statement}
use Rattle.sky_model.specs.SessionMarks.{look_of, failure, entry_place, enters, failing}
use Rattle.sky_model.specs.StepApply.{picked, applies_events, applies_in, ends_applying, applies_picked, is_of_copied, applies_batch}
use Rattle.sky_model.specs.StepNode.{NodeCall, applying, may_serve, node_does, makes_root, making_root}
use Rattle.sky_histories.proofs.NodeCalls.{is_for_others, each-other}
use Rattle.sky_histories.proofs.ApplyCalls.{is_written, each-event}
use Rattle.sky_model.specs.DatabaseCalls.{DatabaseCall, stepped, entered, failed as failed_call, worked, served, database_does}
use Rattle.sky_histories.proofs.Lawful.{database-reads, past-behind, maint_may}
use Rattle.sky_model.specs.LawsOfRetries.{IsRetry}
use Rattle.sky_histories.proofs.Resting.{behind-append}
use Rattle.sky_model.proofs.Cases.{by_test, by_same}
use Rattle.sky_histories.proofs.Legal.{looks, puts, puts_back, Legal, start, next, brief}
use Rattle.sky_histories.proofs.Snapshots.{sound, runs-below}
use Rattle.sky_histories.proofs.LawfulTelling.{legal_behind}
use Rattle.sky_histories.proofs.RetryCopies.{copies}
use Rattle.sky_histories.proofs.RetriesBack.{AreBack, due-back}
use Rattle.sky_histories.proofs.EventsBegun.{events-begun}
use Rattle.sky_histories.proofs.StatementMarks.{EachMark, each-map, each-first, each-rest, each-given, AnyReply, Gives, gives-map, gives-tick, gives-tells, is_told, is_tick, gives-form, each-abort, each-failure, settling-gives}

-- no mark of a worker's transaction, and none by which a retry comes back
abbrev pub is_no_work : Mark → Bool
is_no_work (began of_worker t) = false
is_no_work (ended of_worker t committed) = false
is_no_work (queued (returned retry moment)) = false
is_no_work _ = true

no_work-told : (mark : QueueMark) → is_told mark ≡ true → is_no_work (queued mark) ≡ true
no_work-told (returned retry moment) e = absurd (cc)
no_work-told _ e = refl

no_work-tick : (mark : QueueMark) → is_tick mark ≡ true → is_no_work (queued mark) ≡ true
no_work-tick (returned retry moment) e = absurd (cc)
no_work-tick _ e = refl

no_work-if : (k : MarkKinds) → k.works ≡ false → k.brings_back ≡ false → (s : Session) (who : ℕ) (mark : Mark) → may_leave k s who mark ≡ true → is_no_work mark ≡ true
no_work-if k none never s who (began of_worker t) e = absurd (cc)
no_work-if k none never s who (ended of_worker t committed) e = absurd (cc)
no_work-if k none never s who (queued (returned retry moment)) e = absurd (cc)
no_work-if k none never s who _ e = refl

no_work-abort : (who : ℕ) (s : Session) (refusal : _) → EachMark is_no_work (abort who s.block s.txid refusal)
no_work-abort who s refusal = each-abort AnyReply is_no_work (λ _. tt) (no_work-if of_any refl refl) who s.block s.txid refusal

pub rows-no_work : (stmt : RowStmt) → ((permit_of_row stmt).kinds.works ≡ false) × ((permit_of_row stmt).kinds.brings_back ≡ false)
rows-no_work (OpenDb name) = (refl, refl)
rows-no_work _ = (refl, refl)

-- an event of this id and this transaction that is for a subscription
abbrev pub is_hit : ℕ → ℕ → ℕ → Event → Bool
is_hit sub id t e = e.ev_txid == t && e.ev_id == id && is_for sub e.ev_owner

-- how many there are
abbrev pub hits : ℕ → ℕ → ℕ → List Event → ℕ
hits sub id t es = length (filter (is_hit sub id t) es)

pub hits-push : (sub id t : ℕ) (es : List Event) (e : Event) → hits sub id t (es ++ e ∷ []) ≡ hits sub id t es + (if is_hit sub id t e then 1 else 0)
hits-push sub id t [] e = grind arith
hits-push sub id t (x ∷ es) e = let ih = hits-push sub id t es e in grind (arith, ih)

-- an event that is put is the first of its id and its transaction for whom it is for
abbrev pub IsNew : History → ℕ → Event → Type 0
IsNew h q e = (sub : ℕ) → is_for sub e.ev_owner ≡ true → hits sub e.ev_id e.ev_txid (events q h) ≡ 0

-- whether a transaction has put an event
abbrev pub has_put : ℕ → History → Bool
has_put t [] = false
has_put t (queued (put q event) ∷ h) = event.ev_txid == t || has_put t h
has_put t (_ ∷ h) = has_put t h

-- what a worker's transaction leaves besides its beginning and end, and events
abbrev is_at_work : Mark → Bool
is_at_work (queued (ticked q id time seq)) = false
is_at_work (queued (asked retry)) = false
is_at_work (queued (put q event)) = false
is_at_work (queued (made name t time)) = false
is_at_work (queued mark) = true
is_at_work (tabled (wrote whose t table key old new)) = true
is_at_work _ = false

-- each tick was made, each queue too, and each retry asked for, while no worker's transaction was running; those commit that have put events, and put none
-- twice
abbrev pub Calm : History → Type 0
Calm [] = Unit {0}
Calm (queued (ticked q id time seq) ∷ h) = (brief h ≡ []) × Calm h
Calm (queued (asked retry) ∷ h) = (brief h ≡ []) × Calm h
Calm (queued (put q event) ∷ h) = (contains event.ev_txid (brief h) ≡ true → IsNew h q event) × Calm h
Calm (queued (made name t time) ∷ h) = (brief h ≡ []) × Calm h
Calm (ended of_worker t committed ∷ h) = (committed ≡ false → has_put t h ≡ false) × Calm h
Calm (_ ∷ h) = Calm h

-- and none is running now
pub record Rests (h : History) : Type 0 where
  pub calm : Calm h
  pub idle : brief h ≡ []

-- ---- marks

rests-mark : (h : History) (mark : Mark) → EachMark is_no_work (mark ∷ []) → Rests h → Rests (mark ∷ h)
rests-mark h (queued (ticked q id time seq)) all r = record { calm = (r.idle, r.calm); idle = r.idle }
rests-mark h (queued (asked retry)) all r = record { calm = (r.idle, r.calm); idle = r.idle }
rests-mark h (queued (put q event)) all r = record { calm = (λ is. absurd (cc (sym is ∙ ap (contains event.ev_txid) r.idle)), r.calm); idle = r.idle }
rests-mark h (queued (made name t time)) all r = record { calm = (r.idle, r.calm); idle = r.idle }
rests-mark h (began of_worker t) all r = absurd all
rests-mark h (ended of_worker t committed) all r = absurd all
rests-mark h _ all r = record { calm = r.calm; idle = r.idle }

rests-marks : (h : History) (marks : List Mark) → EachMark is_no_work marks → Rests h → Rests (marked h marks)
rests-marks h [] all r = r
rests-marks h (mark ∷ marks) all r =
    rests-marks (mark ∷ h) marks (each-rest is_no_work mark marks all) (rests-mark h mark (each-first is_no_work mark marks [] all tt) r)

-- at work: the worker's transaction alone is running
record Works (h : History) (t : ℕ) : Type 0 where
  calm : Calm h
  one : brief h ≡ t ∷ []

works-mark : (h : History) (t : ℕ) (mark : Mark) → EachMark is_at_work (mark ∷ []) → Works h t → Works (mark ∷ h) t
works-mark h t (queued (ticked q id time seq)) all w = absurd all
works-mark h t (queued (asked retry)) all w = absurd all
works-mark h t (queued (put q event)) all w = absurd all
works-mark h t (queued (made name u time)) all w = absurd all
works-mark h t (queued mark) all w = record { calm = w.calm; one = w.one }
works-mark h t (tabled (wrote whose u table key old new)) all w = record { calm = w.calm; one = w.one }
works-mark h t _ all w = absurd all

works-marks : (h : History) (t : ℕ) (committed : Bool) (marks : List Mark) → EachMark is_at_work marks → (committed ≡ false → has_put t h ≡ false) → Works h t → Rests (marked h (marks ++ ended of_worker t committed ∷ []))
works-marks h t committed [] all unput w = record { calm = (unput, w.calm); idle = ap (filter (λ u. not (u == t))) w.one ∙ grind (arith, nat_tests) }
works-marks h t committed (mark ∷ marks) all unput w =
    works-marks (mark ∷ h) t committed marks (each-rest is_at_work mark marks all) (λ e. unput-mark h t mark (each-first is_at_work mark marks [] all tt) ∙ unput e) (works-mark h t mark (each-first is_at_work mark marks [] all tt) w)
  where
    unput-mark : (h : History) (t : ℕ) (mark : Mark) → EachMark is_at_work (mark ∷ []) → has_put t (mark ∷ h) ≡ has_put t h
    unput-mark h t (queued (put q event)) all = absurd all
    unput-mark h t _ all = refl

-- a transaction that has put an event has begun
put-begun : (h : History) → Legal h → (t : ℕ) → has_put t h ≡ true → t < next_txid h
put-begun [] start t is = absurd (cc)
put-begun (began whose u ∷ h) (next l fine) t is = omega (arith, put-begun h l t is)
put-begun _ (next {h = h} l (puts who q event i at mine newest)) t is =
    by_same (λ b. (b || has_put t h) ≡ true → t < next_txid h) event.ev_txid t
    (λ same _. subst (λ k. k < next_txid h) same (runs-below h (sound h l) event.ev_txid ((sound h l).owns who event.ev_txid mine))) (λ _ is. put-begun h l t is) is
put-begun _ (next {h = h} l (puts_back retry u back)) t is =
    by_same (λ b. (b || has_put t h) ≡ true → t < next_txid h) u t
    (λ same _. subst (λ k. k < next_txid h) same (runs-below h (sound h l) u ((sound h l).works u back.works))) (λ _ is. put-begun h l t is) is
put-begun _ (next {h = h} l _) t is = put-begun h l t is

-- a worker's transaction, from its beginning to its end
rests-work : (h : History) (t : ℕ) (marks : List Mark) → EachMark is_at_work marks → Rests h → Rests (marked h (began of_worker t ∷ marks ++ ended of_worker t true ∷ []))
rests-work h t marks all r = works-marks (began of_worker t ∷ h) t true marks all (λ never. absurd (cc)) (record { calm = r.calm; one = ap (λ ts. ts ++ t ∷ []) r.idle })

-- one that puts no event, whether it commits or not
rests-unput : (h : History) → Legal h → (committed : Bool) (marks : List Mark) → EachMark is_at_work marks → Rests h
    → Rests (marked h (began of_worker (next_txid h) ∷ marks ++ ended of_worker (next_txid h) committed ∷ []))
rests-unput h l committed marks all r =
    works-marks (began of_worker (next_txid h) ∷ h) (next_txid h) committed marks all
    (λ _. false_from_ne_true (has_put (next_txid h) h) (λ is. let below = put-begun h l (next_txid h) is in absurd (omega (arith, below))))
    (record { calm = r.calm; one = ap (λ ts. ts ++ next_txid h ∷ []) r.idle })

-- ---- what workers do

-- retries that are still to come back in a worker's transaction: with what it has put there are no two of an id for a subscription
record Brings (h : History) (t : ℕ) (rs : List Retry) : Type 0 where
  works : Works h t
  few : (q sub id : ℕ) → hits sub id t (events q h) + length (filter (is_event sub id) rs) ≤ 1
  owned : All (λ r. r.event.ev_owner ≡ Some r.sub) rs

length-kept : (test : Bool) (r : Retry) (rs : List Retry) → length (if test then r ∷ rs else rs) ≡ length rs + (if test then 1 else 0)
length-kept test r rs = grind arith

works-back : (h : History) (t : ℕ) (now : ℤ) (rs : List Retry) → Brings h t rs → Rests (marked h (back now t rs ++ ended of_worker t true ∷ []))
works-back h t now [] b = works-marks h t true [] tt (λ never. absurd (cc)) b.works
works-back h t now (r ∷ rs) b =
    works-back behind t now rs (record { works = record { calm = (λ _. new, b.works.calm); one = b.works.one }; few = few; owned = All-tail (λ r. r.event.ev_owner ≡ Some r.sub) r rs b.owned })
  where
    e : Event
    e = brought_by t r.event

    behind : History
    behind = queued (returned r now) ∷ queued (put r.queue e) ∷ h

    owner : r.event.ev_owner ≡ Some r.sub
    owner = All-head (λ r. r.event.ev_owner ≡ Some r.sub) r rs b.owned

    counted : (q sub id : ℕ) → hits sub id t (events q h) + (length (filter (is_event sub id) rs) + (if is_event sub id r then 1 else 0)) ≤ 1
    counted q sub id = subst (λ n. hits sub id t (events q h) + n ≤ 1) (length-kept (is_event sub id r) r (filter (is_event sub id) rs)) (b.few q sub id)

    new : IsNew h r.queue e
    new sub is =
        let own : (r.sub == sub) ≡ true = sym (ap (is_for sub) owner) ∙ is in
        let it : is_event sub r.event.ev_id r ≡ true = grind (arith, nat_tests, own) in
        let all = counted r.queue sub r.event.ev_id in
        subst (λ c. hits sub r.event.ev_id t (events r.queue h) + (length (filter (is_event sub r.event.ev_id) rs) + (if c then 1 else 0)) ≤ 1 → hits sub r.event.ev_id t (events r.queue h) ≡ 0)
        (sym it) (λ n. omega (arith, n)) all

    same : (sub id : ℕ) → is_hit sub id t e ≡ is_event sub id r
    same sub id = ap (λ o. t == t && r.event.ev_id == id && is_for sub o) owner ∙ grind (arith, nat_tests)

    few : (q sub id : ℕ) → hits sub id t (events q behind) + length (filter (is_event sub id) rs) ≤ 1
    few q sub id =
        let all = counted q sub id in
        by_test (λ c. hits sub id t (if c then events q h ++ e ∷ [] else events q h) + length (filter (is_event sub id) rs) ≤ 1) (r.queue == q)
        (λ _. let pushed : hits sub id t (events q h ++ e ∷ []) ≡ hits sub id t (events q h) + (if is_event sub id r then 1 else 0) = hits-push sub id t (events q h) e ∙ ap (λ c. hits sub id t (events q h) + (if c then 1 else 0)) (same sub id) in
        omega (arith, pushed, all)) (λ _. omega (arith, all))

-- none of a transaction that has no id yet
none-begun : (t : ℕ) (es : List Event) → All (λ e. e.ev_txid < t) es → (sub id : ℕ) → hits sub id t es ≡ 0
none-begun t [] all sub id = refl
none-begun t (e ∷ es) all sub id =
    let less : e.ev_txid < t = All-head (λ e. e.ev_txid < t) e es all in
    let ih = none-begun t es (All-tail (λ e. e.ev_txid < t) e es all) sub id in
    grind (arith, nat_tests, less, ih)

owned-retries : (h : History) → Legal h → (rs : List Retry) → All (Contains (retries h)) rs → All (λ r. r.event.ev_owner ≡ Some r.sub) rs
owned-retries h l rs all = λ k r within. (All-contains (IsRetry h) (retries h) _ (copies h l) (all k r within)).owned

rests-brings : (h : History) → Legal h → (now : ℤ) (rs : List Retry) → AreBack h now rs → Rests h → Rests (marked h (marks_of (brings (database_of h) now rs)))
rests-brings h l now [] are r = r
rests-brings h l now (x ∷ rs) are r = of (nat_le (2 ^ 62) (next_txid h))
  where
    t : ℕ
    t = next_txid h

    bring : Brings (began of_worker t ∷ h) t (x ∷ rs)
    bring = record {
      works = record { calm = r.calm; one = ap (λ ts. ts ++ t ∷ []) r.idle };
      few = λ q sub id. let none = none-begun t (events q h) (events-begun h l q) sub id in let most = are.once sub id in omega (arith, none, most);
      owned = owned-retries h l (x ∷ rs) are.wait;
    }

    of : (spent : Bool) → Rests (marked h (marks_of ((refused_if spent TxidsSpent >> Ok t) >>= (λ id. does_marks (Number (length (x ∷ rs))) (began of_worker id ∷ back now id (x ∷ rs) ++ ended of_worker id true ∷ [])))))
    of true = r
    of false = works-back (began of_worker t ∷ h) t now (x ∷ rs) bring

rests-maint : (h : History) → Legal h → (now : ℤ) → Rests h → Rests (marked h (marks_of (maint_retry_events (database_of h) now)))
rests-maint h l now r = rests-brings h l now (due_now now most_back (retries h)) (due-back h l now most_back) r

each-second : (t : ℕ) (queues : List NamedQueue) → EachMark is_at_work (second_steps t queues)
each-second t [] = tt
each-second t (q ∷ queues) = each-second t queues

rests-ends_switches : (h : History) (d : Database) (queues : List NamedQueue) → Rests h → Rests (marked h (marks_of (ends_switches d queues)))
rests-ends_switches h d [] r = r
rests-ends_switches h d (q ∷ queues) r = of (next_id d.part)
  where
    of : (c : Checked ℕ) → Rests (marked h (marks_of (c >>= (λ t. does_marks (Number (length (q ∷ queues))) (began of_worker t ∷ second_steps t (q ∷ queues) ++ ended of_worker t true ∷ [])))))
    of (Ok t) = rests-work h t (second_steps t (q ∷ queues)) (each-second t (q ∷ queues)) r
    of (Err refusal) = r

rests-rotates : (h : History) (d : Database) (now : ℤ) (q : ℕ) (why : Option HeldBack) → Rests h → Rests (marked h (marks_of (rotates_alone d now q why)))
rests-rotates h d now q (Some why) r = r
rests-rotates h d now q None r = of (next_id d.part)
  where
    of : (c : Checked ℕ)
        → Rests (marked h (marks_of (c >>= (λ t. does_marks (Number 1) (began of_worker t ∷ queued (switching q t) ∷ queued (switched q now) ∷ ended of_worker t true ∷ [])))))
    of (Ok t) = rests-work h t (queued (switching q t) ∷ queued (switched q now) ∷ []) tt r
    of (Err refusal) = r

-- ---- a statement

rests-settled : (h : History) (who : ℕ) (s : Session) (c : Checked Outcome) → Rests h → Rests (marked h (marks_of c)) → Rests (marked h (or_refused who s c).marks)
rests-settled h who s (Ok o) r also = also
rests-settled h who s (Err refusal) r also = rests-marks h (abort who s.block s.txid refusal) (no_work-abort who s refusal) r

rests-plain : (h : History) (who : ℕ) (s : Session) (c : Checked Outcome) → Gives AnyReply is_no_work c → Rests h → Rests (marked h (or_refused who s c).marks)
rests-plain h who s c gives r = rests-settled h who s c r (rests-marks h (marks_of c) (each-given AnyReply is_no_work c gives) r)

plain-form : (d : Database) (shown : Shown) (now : ℤ) (who : ℕ) (stmt : DbStmt) → (permit_of stmt).kinds.works ≡ false → (permit_of stmt).kinds.brings_back ≡ false
    → Gives AnyReply is_no_work (form d shown now who stmt)
plain-form d shown now who stmt none never =
    let k : MarkKinds = (permit_of stmt).kinds in
    gives-map AnyReply AnyReply (may_leave k (d.part.session who) who) is_no_work (λ reply any. any) (no_work-if k none never (d.part.session who) who) _ (gives-form who d shown now stmt)

rests-form : (h : History) → Legal h → Rests h → (now : ℤ) (who : ℕ) (stmt : DbStmt) → Rests (marked h (or_refused who (session h who) (form (database_of h) (shown_in h) now who stmt)).marks)
rests-form h l r now who (Row stmt) =
    let none = rows-no_work stmt in
    rests-plain h who (session h who) (form (database_of h) (shown_in h) now who (Row stmt)) (plain-form (database_of h) (shown_in h) now who (Row stmt) none.0 none.1) r
rests-form h l r now who (Queue MaintRetryEvents) =
    rests-settled h who (session h who) (maint_retry_events (database_of h) now) r (rests-maint h l now r)
rests-form h l r now who (Queue MaintRotateStep2) =
    rests-settled h who (session h who) (maint_rotate_step2 (database_of h)) r (rests-ends_switches h (database_of h) (lack_second_step (database_of h)) r)
rests-form h l r now who (Queue stmt) =
    rests-plain h who (session h who) (form (database_of h) (shown_in h) now who (Queue stmt)) (plain-form (database_of h) (shown_in h) now who (Queue stmt) refl refl) r

rests-runs : (h : History) → Legal h → Rests h → (now : ℤ) (who : ℕ) (stmt : DbStmt) (may : Checked (Unit {0})) → Rests (marked h (runs_if (making database_by_history now who stmt) (where_of stmt) who h may).marks)
rests-runs h l r now who stmt (Err refusal) = rests-marks h (abort who (session h who).block (session h who).txid refusal) (no_work-abort who (session h who) refusal) r
rests-runs h l r now who stmt (Ok _) =
    cond_both (takes_sight (where_of stmt) (session h who).sight) (looking who (or_refused who (session (sight_taken who ∷ h) who) (form (database_of (sight_taken who ∷ h)) (shown_in (sight_taken who ∷ h)) now who stmt))) _ (λ o. Rests (marked h o.marks))
    (λ _. rests-form (sight_taken who ∷ h) (next l (looks who)) (rests-mark h (sight_taken who) tt r) now who stmt) (λ _. rests-form h l r now who stmt)

rests-statement : (h : History) → Legal h → Rests h → (now : ℤ) (who : ℕ) (stmt : DbStmt) → Rests (marked h (statement database_by_history h now who stmt).marks)
rests-statement h l r now who stmt = rests-runs h l r now who stmt (allowed (is_waiting who (waiting h)) (has_open who h) (block who h) (where_of stmt))

-- ---- what follows it

rests-then : (now : ℤ) (h : History) (turn : Turn) (rest : History → Turn) → Rests (marked h turn.marks) → ((g : History) → Rests g → Rests (marked g (rest g).marks))
    → Rests (marked h (and_then (within_part database_by_history now) h turn rest).marks)
rests-then now h turn rest r also =
    subst Rests (sym (behind-append part_by_history h turn.marks (rest (behind_marks (within_part database_by_history now) h turn.marks)).marks))
    (subst (λ g. Rests (marked (marked h turn.marks) (rest g).marks)) (sym (past-behind (within_part database_by_history now) (λ g. g) (database-reads now) h turn.marks))
    (also (marked h turn.marks) r))

settling-no_work : (h : History) (now : ℤ) → EachMark is_no_work (settling (within_part database_by_history now) h).marks
settling-no_work h now =
    (settling-gives is_no_work (λ who. refl) (no_work-if of_resumed refl refl) (within_part database_by_history now)
    (record { tells = λ g c gives. gives-tells is_no_work no_work-told ReplyHasMoments (database_of g) now c gives }) h).marks

rests-settling : (now : ℤ) (h : History) (turn : Turn) → Rests (marked h turn.marks) → Rests (marked h (with_settling (within_part database_by_history now) h turn).marks)
rests-settling now h turn r =
    rests-then now h turn (settling (within_part database_by_history now)) r (λ g rests. rests-marks g (settling (within_part database_by_history now) g).marks (settling-no_work g now) rests)

-- ---- daemons

rests-ticks : (now : ℤ) (left : List NamedQueue) (h : History) → Rests h → Rests (marked h (ticks_of database_by_history now left h).marks)
rests-ticks now [] h r = r
rests-ticks now (q ∷ left) h r =
    let c : Checked Outcome = next_tick (database_of h) now q.number in
    rests-then now h (quietly c) (ticks_of database_by_history now left)
    (rests-marks h (marks_of c) (each-given AnyReply is_no_work c (gives-tick is_no_work no_work-tick (database_of h) now q.number)) r) (rests-ticks now left)

rests-again : (rest : History → Turn) (h : History) → Rests (marked h (rest h).marks) → (b : Bool) → Rests h → Rests (marked h (again_if b rest h).marks)
rests-again rest h also true r = also
rests-again rest h also false r = r

rests-retries : (now : ℤ) (n : ℕ) (h : History) → Legal h → Rests h → Rests (marked h (retries_of database_by_history now n h).marks)
rests-retries now zero h l r = r
rests-retries now (suc n) h l r =
    let c : Checked Outcome = maint_retry_events (database_of h) now in
    let full : Bool = nat_le most_back (moved_by (reply_of c)) in
    let g : History = marked h (marks_of c) in
    let behind : Rests g = rests-maint h l now r in
    subst Rests (sym (behind-append part_by_history h (marks_of c) (again_if full (retries_of database_by_history now n) (behind_marks (within_part database_by_history now) h (marks_of c))).marks))
    (subst (λ x. Rests (marked g (again_if full (retries_of database_by_history now n) x).marks)) (sym (past-behind (within_part database_by_history now) (λ g. g) (database-reads now) h (marks_of c)))
    (rests-again (retries_of database_by_history now n) g (rests-retries now n g (legal_behind h (marks_of c) l (maint_may h l now)) behind) full behind))

rests-first_steps : (now : ℤ) (left : List NamedQueue) (h : History) → Rests h → Rests (marked h (first_steps_of database_by_history now left h).marks)
rests-first_steps now [] h r = r
rests-first_steps now (q ∷ left) h r =
    rests-then now h (quietly (rotates_by_itself (database_of h) now q.number)) (first_steps_of database_by_history now left)
    (rests-rotates h (database_of h) now q.number (held_back now (queue_of h q.number)) r) (rests-first_steps now left)

rests-daemon : (h : History) → Legal h → Rests h → (work : DaemonPart) (now : ℤ) → Rests (marked h (daemon_does database_by_history h work now).marks)
rests-daemon h l r part.Tick now = rests-ticks now (queues h) h r
rests-daemon h l r part.Retry now = rests-retries now (length (retries h)) h l r
rests-daemon h l r part.Maintain now =
    rests-then now h (first_steps_of database_by_history now (queues h) h) (second_step_of_all database_by_history) (rests-first_steps now (queues h) h r)
    (λ g rests. rests-ends_switches g (database_of g) (lack_second_step (database_of g)) rests)

-- ---- calls

rests-enters : (h : History) → Rests h → (who : ℕ) (sight : Bool) (may : Checked (Unit {0})) → Rests (marked h (enters who (look_of who sight) may).marks)
rests-enters h r who true (Ok _) = rests-mark h (sight_taken who) tt r
rests-enters h r who false (Ok _) = r
rests-enters h r who sight (Err refusal) = r

for-others : (mark : Mark) → is_for_others mark ≡ true → is_no_work mark ≡ true
for-others (began of_worker t) e = absurd (cc)
for-others (ended of_worker t committed) e = absurd (cc)
for-others (queued (returned retry moment)) e = absurd (cc)
for-others _ e = refl

each-written : (d : RowPart) (t : ℕ) (events : List Event) → EachMark is_at_work (applies_events d t events).marks
each-written d t events = each-map is_written is_at_work written-too (applies_events d t events).marks (each-event d t events)
  where
    written-too : (mark : Mark) → is_written mark ≡ true → is_at_work mark ≡ true
    written-too (tabled (wrote of_worker u table key old new)) e = refl
    written-too _ e = absurd (cc)

-- a batch is applied in one transaction of a worker
rests-ends : (h : History) → Legal h → Rests h → (pick : Pick) (tick many : ℕ) (marks : List Mark) → EachMark is_at_work marks → (bad : Option ℕ)
    → Rests (marked h (marks_of (ends_applying pick tick (next_txid h) many marks bad)))
rests-ends h l r pick tick many marks all None =
    subst (λ ms. Rests (marked h ms)) (append_assoc (began of_worker (next_txid h) ∷ marks) (ended of_worker (next_txid h) true ∷ []) (noded (applied pick tick) ∷ []))
    (subst Rests (sym (behind-append part_by_history h (began of_worker (next_txid h) ∷ marks ++ ended of_worker (next_txid h) true ∷ []) (noded (applied pick tick) ∷ [])))
    (rests-mark (marked h (began of_worker (next_txid h) ∷ marks ++ ended of_worker (next_txid h) true ∷ [])) (noded (applied pick tick)) tt (rests-unput h l true marks all r)))
rests-ends h l r pick tick many marks all (Some id) = rests-unput h l false marks all r

rests-picked : (h : History) → Legal h → Rests h → (pick : Pick) (tick : ℕ) (events : List Event) → Rests (marked h (marks_of (applies_picked (database_of h) pick tick events)))
rests-picked h l r pick tick events = of (nat_le (2 ^ 62) (next_txid h))
  where
    of : (spent : Bool) → Rests (marked h (marks_of ((refused_if spent TxidsSpent >> Ok (next_txid h)) >>= (λ t. ends_applying pick tick t (length events) (applies_in (part_of h) t events).marks (applies_in (part_of h) t events).bad))))
    of true = r
    of false =
        rests-ends h l r pick tick (length events) (applies_in (part_of h) (next_txid h) events).marks (each-written (after_part (part_of h) (began of_worker (next_txid h))) (next_txid h) events)
        (applies_in (part_of h) (next_txid h) events).bad

rests-applies : (h : History) → Legal h → Rests h → (pick : Pick) (tick : ℕ) (events : List Event) → Rests (marked h (marks_of (applies_batch (database_of h) pick tick events)))
rests-applies h l r pick tick events =
    cond_both (list_any (is_of_copied (database_of h)) (picked (node h) pick events)) (answers Null) (applies_picked (database_of h) pick tick (picked (node h) pick events)) (λ c. Rests (marked h (marks_of c)))
    (λ _. r) (λ _. rests-picked h l r pick tick (picked (node h) pick events))

-- a root is made once the worker's transaction has ended
rests-makes : (h : History) → Legal h → Rests h → (name queue : List ℕ) (now : ℤ) → Rests (marked h (marks_of (makes_root (database_of h) now name queue)))
rests-makes h l r name queue now =
    by (is_some (queue_number queue (queues h))) (nat_le 64 (length (queues h))) (nat_le (2 ^ 62) (next_txid h))
  where
    t : ℕ
    t = next_txid h

    begun : Rests (marked h (began of_worker t ∷ ended of_worker t true ∷ []))
    begun = rests-work h t [] tt r

    by : (there full spent : Bool) → Rests (marked h (marks_of (refused_if there (QueueExists queue) >> (refused_if full (TooMany Queues) >> ((refused_if spent TxidsSpent >> Ok t) >>= (λ t.
        does_marks Done (began of_worker t ∷ ended of_worker t true ∷ queued (made queue t now) ∷ noded (root_made name queue) ∷ [])))))))
    by true full spent = r
    by false true spent = r
    by false false true = r
    by false false false = rests-marks (ended of_worker t true ∷ began of_worker t ∷ h) (queued (made queue t now) ∷ noded (root_made name queue) ∷ []) tt begun

rests-served : (h : History) → Legal h → Rests h → (call : NodeCall) → Rests (marked h (marks_of (node_does (database_of h) call)))
rests-served h l r (applying events pick tick) =
    cond_both (may_serve (applying events pick tick) (node h)) (applies_batch (database_of h) pick tick events) (answers Null) (λ c. Rests (marked h (marks_of c))) (λ _. rests-applies h l r pick tick events) (λ _. r)
rests-served h l r (making_root name queue now) =
    cond_both (may_serve (making_root name queue now) (node h)) (makes_root (database_of h) now name queue) (answers Null) (λ c. Rests (marked h (marks_of c))) (λ _. rests-makes h l r name queue now) (λ _. r)
rests-served h l r call = rests-marks h (marks_of (node_does (database_of h) call)) (each-other is_no_work for-others (database_of h) call refl) r

-- after a call no worker's transaction is running, if none was before
pub rests-does : (h : History) → Legal h → Rests h → (call : DatabaseCall) → Rests (marked h (database_does database_by_history h call).marks)
rests-does h l r (stepped who stmt now) = rests-settling now h (turn_of who (statement database_by_history h now who stmt)) (rests-statement h l r now who stmt)
rests-does h l r (entered who alone) =
    rests-enters h r who (takes_sight (entry_place alone) (session h who).sight) (allowed (is_waiting who (waiting h)) (has_open who h) (block who h) (entry_place alone))
rests-does h l r (worked work now) = rests-daemon h l r work now
rests-does h l r (served call) = rests-served h l r call
rests-does h l r (failed_call who now) =
    rests-settling now h (failing (part_of h) who)
    (rests-marks h (failure who (own_txid who h) (block who h)) (each-failure AnyReply is_no_work (λ _. tt) (no_work-if of_any refl refl) who (own_txid who h) (block who h)) r)
