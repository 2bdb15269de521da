-- What the daemon of a database leaves: of each queue, one after another, the tick that is due, or the steps of its rotation.
use Rattle.std.proofs.Common.{◌≡◌, ℕ, zero, suc, ℤ, ◌+◌, ◌<◌, ◌≤◌, ◌^◌, nat_le, List, [], ◌∷◌, Bool, true, false, Option, Some, None, Ok, Err, length, drop, get_or, refl, sym, ◌∙◌, ap, subst, arith, if◌then◌else◌}
use Rattle.sky_model.specs.declared.reply.Reply.TheVariants.{Number, Null}
use Rattle.sky_model.specs.declared.reply.Refusal.TheVariants.{IdsSpent}
use Rattle.sky_model.specs.declared.daemon.DaemonPart.{DaemonPart}
use Rattle.sky_model.specs.History.{Mark, QueueMark, of_worker, began, ended, queued, ticked, made, raised, put, registered, moved, unregistered, opened, closed, asked, returned, switching, switched, second_step, configured, dropped, traced, untraced}
use Rattle.sky_histories.proofs.StatementMarks.{EachMark}
use Rattle.sky_histories.proofs.DaemonTurns.{each-daemon_does}
use Rattle.sky_model.specs.Queues.{NamedQueue}
use Rattle.sky_model.specs.State.{Database, after_mark, after_marks}
use Rattle.sky_model.specs.Outcome.{Checked, ◌>>=◌, ◌>>◌, refused_if, answers, does_marks, reply_of, marks_of}
use Rattle.sky_model.specs.OwnTransaction.{next_id}
use Rattle.sky_model.specs.StepRotation.{held_back, rotates_alone, rotates_by_itself, maint_rotate_step2}
use Rattle.sky_model.specs.declared.daemon.DaemonPart.TheVariants.{Maintain}
use Rattle.sky_model.specs.declared.reply.HeldBack.{HeldBack}
use Rattle.sky_model.specs.StepRetry.{brings, most_back, maint_retry_events}
use Rattle.pgq_retry.specs.declared.retry.Retry.{Retry}
use Rattle.pgq_retry.specs.Retries.{due_now}
use Rattle.sky_histories.proofs.RetryRounds.{fewer-wait}
use Rattle.sky_model.specs.StepQueue.{next_tick, is_due, newest_id}
use Rattle.sky_model.specs.Reader.{database_by_itself}
use Rattle.sky_model.specs.Daemon.{quietly, ticks_of, moved_by, again_if, retries_of, first_steps_of, daemon_does}
use Rattle.sky_histories.proofs.DatabaseStanding.{after_marks-append, behind-all}
use Rattle.std.proofs.lemmas.List.{drop_more}
use Rattle.std.proofs.Math.ListN.{drop_of_length-le}
use Rattle.pgq_queues.specs.Seen.{unnamed}

-- which queues there are stays
pub record StaysAs (old new : Database) : Type 0 where
  pub queues : new.queues ≡ old.queues
  pub made : new.queues_made ≡ old.queues_made

-- what is left to be done from a queue on, of what is done of each
pub record IsLeft (end : List NamedQueue → Database → Database) (old cur : Database) (place : ℕ) : Type 0 where
  pub ends : end old.queues old ≡ end (drop place cur.queues) cur
  pub stays : StaysAs old cur

-- there are as many queues as before
pub left-count : (end : List NamedQueue → Database → Database) (old cur : Database) (place : ℕ) → IsLeft end old cur place → length cur.queues ≡ length old.queues
left-count end old cur place left = ap length left.stays.queues

-- that of the first, and then those of the others
left-next : (end : List NamedQueue → Database → Database) (one : ℕ → Database → Database) → ((d : Database) (q : NamedQueue) (queues : List NamedQueue) → end (q ∷ queues) d ≡ end queues (one q.number d))
    → ((queue : ℕ) (d : Database) → StaysAs d (one queue d)) → (old cur next : Database) (place queue : ℕ) → place < length cur.queues → queue ≡ (get_or cur.queues place unnamed).number → IsLeft end old cur place
    → next ≡ one queue cur → IsLeft end old next (place + 1)
left-next end one first still old cur next place queue low numbered left is =
    subst (λ d. IsLeft end old d (place + 1)) (sym is) (record {
      ends = left.ends
          ∙ ap (λ qs. end qs cur) (drop_more cur.queues place unnamed low)
          ∙ first cur (get_or cur.queues place unnamed) (drop (place + 1) cur.queues)
          ∙ ap (λ n. end (drop (place + 1) cur.queues) (one n cur)) (sym numbered)
          ∙ ap (λ qs. end (drop (place + 1) qs) (one queue cur)) (sym stays.queues);
      stays = record { queues = stays.queues ∙ left.stays.queues; made = stays.made ∙ left.stays.made };
    })
  where
    stays : StaysAs cur (one queue cur)
    stays = still queue cur

-- at the end nothing is left
left-none : (end : List NamedQueue → Database → Database) → ((d : Database) → end [] d ≡ d) → (old cur : Database) (place : ℕ) → length cur.queues ≤ place → IsLeft end old cur place → cur ≡ end old.queues old
left-none end nothing old cur place all left = sym (left.ends ∙ ap (λ qs. end qs cur) (drop_of_length-le cur.queues all) ∙ nothing cur)

-- ---- ticks

-- the database after the tick that is due
abbrev pub ticked_at : ℤ → ℕ → Database → Database
ticked_at now queue d = after_marks d (quietly (next_tick d now queue)).marks

-- the end of the ticks of queues
abbrev pub ticks_end : ℤ → List NamedQueue → Database → Database
ticks_end now queues d = after_marks d (ticks_of database_by_itself now queues d).marks

tick-stays : (now : ℤ) (queue : ℕ) (d : Database) → StaysAs d (ticked_at now queue d)
tick-stays now queue d = by (is_due now (d.queue queue)) (nat_le (2 ^ 64) (newest_id (d.queue queue) + 1))
  where
    by : (due spent : Bool) → StaysAs d (after_marks d (quietly (if due then (refused_if spent IdsSpent >> does_marks (Number (newest_id (d.queue queue) + 1))
        (queued (ticked queue (newest_id (d.queue queue) + 1) now (d.queue queue).seq) ∷ [])) else answers Null)).marks)
    by true true = record { queues = refl; made = refl }
    by true false = record { queues = refl; made = refl }
    by false spent = record { queues = refl; made = refl }

ticks-next : (now : ℤ) (d : Database) (q : NamedQueue) (queues : List NamedQueue) → ticks_end now (q ∷ queues) d ≡ ticks_end now queues (ticked_at now q.number d)
ticks-next now d q queues =
    let marks : List Mark = (quietly (next_tick d now q.number)).marks in
    after_marks-append d marks _ ∙ ap (λ x. after_marks (after_marks d marks) (ticks_of database_by_itself now queues x).marks) (behind-all now d marks)

pub ticks-left : (now : ℤ) (old cur next : Database) (place queue : ℕ) → place < length cur.queues → queue ≡ (get_or cur.queues place unnamed).number → IsLeft (ticks_end now) old cur place
    → next ≡ ticked_at now queue cur → IsLeft (ticks_end now) old next (place + 1)
ticks-left now = left-next (ticks_end now) (ticked_at now) (ticks-next now) (tick-stays now)

-- ---- rotation

-- the database after the first step of a queue's rotation
abbrev pub rotated_at : ℤ → ℕ → Database → Database
rotated_at now queue d = after_marks d (quietly (rotates_by_itself d now queue)).marks

-- the end of the first steps of queues
abbrev pub steps_end : ℤ → List NamedQueue → Database → Database
steps_end now queues d = after_marks d (first_steps_of database_by_itself now queues d).marks

rotate-stays : (now : ℤ) (queue : ℕ) (d : Database) → StaysAs d (rotated_at now queue d)
rotate-stays now queue d = by (held_back now (d.queue queue)) (next_id d.part)
  where
    of : (c : Checked ℕ) → StaysAs d (after_marks d (marks_of (c >>= (λ t. does_marks (Number 1) (began of_worker t ∷ queued (switching queue t) ∷ queued (switched queue now) ∷ ended of_worker t true ∷ [])))))
    of (Ok t) = record { queues = refl; made = refl }
    of (Err refusal) = record { queues = refl; made = refl }

    by : (why : Option HeldBack) (c : Checked ℕ) → StaysAs d (after_marks d (marks_of (rotates_alone d now queue why)))
    by (Some why) c = record { queues = refl; made = refl }
    by None c = of (next_id d.part)

steps-next : (now : ℤ) (d : Database) (q : NamedQueue) (queues : List NamedQueue) → steps_end now (q ∷ queues) d ≡ steps_end now queues (rotated_at now q.number d)
steps-next now d q queues =
    let marks : List Mark = (quietly (rotates_by_itself d now q.number)).marks in
    after_marks-append d marks _ ∙ ap (λ x. after_marks (after_marks d marks) (first_steps_of database_by_itself now queues x).marks) (behind-all now d marks)

pub steps-left : (now : ℤ) (old cur next : Database) (place queue : ℕ) → place < length cur.queues → queue ≡ (get_or cur.queues place unnamed).number → IsLeft (steps_end now) old cur place
    → next ≡ rotated_at now queue cur → IsLeft (steps_end now) old next (place + 1)
steps-left now = left-next (steps_end now) (rotated_at now) (steps-next now) (rotate-stays now)

-- and then the second steps
pub rotated-all : (d e s : Database) (now : ℤ) → e ≡ steps_end now d.queues d → s ≡ after_marks e (marks_of (maint_rotate_step2 e)) → s ≡ after_marks d (daemon_does database_by_itself d Maintain now).marks
rotated-all d e s now begun over =
    let first : List Mark = (first_steps_of database_by_itself now d.queues d).marks in
    over
    ∙ ap (λ x. after_marks x (marks_of (maint_rotate_step2 x))) begun
    ∙ ap (λ x. after_marks (after_marks d first) (marks_of (maint_rotate_step2 x))) (sym (behind-all now d first))
    ∙ sym (after_marks-append d first _)

-- ---- events that are retried

-- the database after a call of `maint_retry_events`
abbrev pub after_call : ℤ → Database → Database
after_call now d = after_marks d (quietly (maint_retry_events d now)).marks

-- whether it moves as many events as it may
abbrev pub moves_most : ℤ → Database → Bool
moves_most now d = nat_le most_back (moved_by (reply_of (maint_retry_events d now)))

-- the end of so many calls
abbrev pub retries_end : ℤ → ℕ → Database → Database
retries_end now n d = after_marks d (retries_of database_by_itself now n d).marks

-- those calls are the first, and then others if it moved as many as it may
retries-next : (d : Database) (now : ℤ) (n : ℕ) → retries_end now (suc n) d ≡ after_marks (after_call now d) (again_if (moves_most now d) (retries_of database_by_itself now n) (after_call now d)).marks
retries-next d now n =
    let marks : List Mark = (quietly (maint_retry_events d now)).marks in
    after_marks-append d marks _ ∙ ap (λ x. after_marks (after_marks d marks) (again_if (moves_most now d) (retries_of database_by_itself now n) x).marks) (behind-all now d marks)

-- what is left to be done: not more calls than there are retries that wait
pub record IsRetrying (old cur : Database) (now : ℤ) : Type 0 where
  pub left : ℕ
  pub ends : retries_end now (length old.retries) old ≡ retries_end now left cur
  pub enough : length cur.retries ≤ left

-- fewer wait after a call that moves as many as it may
pub retrying-fewer : (cur next : Database) (now : ℤ) → true ≡ moves_most now cur → next ≡ after_call now cur → length next.retries < length cur.retries
retrying-fewer cur next now most is = subst (λ (d : Database). length d.retries < length cur.retries) (sym is) (fewer-wait cur now (sym most))

-- and then others are left
pub retrying-more : (old cur next : Database) (now : ℤ) → IsRetrying old cur now → true ≡ moves_most now cur → next ≡ after_call now cur → IsRetrying old next now
retrying-more old cur next now retrying most is = subst (λ d. IsRetrying old d now) (sym is) (of retrying.left retrying.ends retrying.enough)
  where
    fewer : length (after_call now cur).retries < length cur.retries
    fewer = fewer-wait cur now (sym most)

    of : (n : ℕ) → retries_end now (length old.retries) old ≡ retries_end now n cur → length cur.retries ≤ n → IsRetrying old (after_call now cur) now
    of zero ends enough = absurd (omega (arith, enough, fewer))
    of (suc n) ends enough = record {
      left = n;
      ends = ends ∙ retries-next cur now n ∙ ap (λ b. after_marks (after_call now cur) (again_if b (retries_of database_by_itself now n) (after_call now cur)).marks) (sym most);
      enough = omega (arith, enough, fewer);
    }

-- after one that doesn't none is
pub retrying-done : (old cur next : Database) (now : ℤ) → IsRetrying old cur now → false ≡ moves_most now cur → next ≡ after_call now cur → next ≡ retries_end now (length old.retries) old
retrying-done old cur next now retrying most is = is ∙ of retrying.left retrying.ends retrying.enough
  where
    none-left : (rs : List Retry) → length rs ≤ 0 → after_marks cur (marks_of (brings cur now (due_now now most_back rs))) ≡ cur
    none-left [] none = refl
    none-left (r ∷ rs) none = absurd (omega (arith, none))

    of : (n : ℕ) → retries_end now (length old.retries) old ≡ retries_end now n cur → length cur.retries ≤ n → after_call now cur ≡ retries_end now (length old.retries) old
    of zero ends enough = none-left cur.retries enough ∙ sym ends
    of (suc n) ends enough =
        sym (ends ∙ retries-next cur now n ∙ ap (λ b. after_marks (after_call now cur) (again_if b (retries_of database_by_itself now n) (after_call now cur)).marks) (sym most))

-- ---- who waits

-- a mark of queues, or of a worker's transaction, by which nobody begins to wait or ceases to
abbrev leaves_waits : Mark → Bool
leaves_waits (queued mark) = true
leaves_waits (began of_worker t) = true
leaves_waits (ended of_worker t true) = true
leaves_waits _ = false

queue-waits : (d : Database) (mark : QueueMark) → (after_mark d (queued mark)).part.waiting ≡ d.part.waiting
queue-waits d (made name t time) = refl
queue-waits d (raised q value) = refl
queue-waits d (put q event) = refl
queue-waits d (ticked q id time seq) = refl
queue-waits d (registered q name sub tick) = refl
queue-waits d (moved q name tick) = refl
queue-waits d (unregistered q name sub) = refl
queue-waits d (opened batch) = refl
queue-waits d (closed batch) = refl
queue-waits d (asked retry) = refl
queue-waits d (returned retry moment) = refl
queue-waits d (switching q t) = refl
queue-waits d (switched q time) = refl
queue-waits d (second_step q t) = refl
queue-waits d (configured q config) = refl
queue-waits d (dropped q) = refl
queue-waits d (traced table name trigger) = refl
queue-waits d (untraced table) = refl

waits-stay : (d : Database) (marks : List Mark) → EachMark leaves_waits marks → (after_marks d marks).part.waiting ≡ d.part.waiting
waits-stay d [] all = refl
waits-stay d (queued mark ∷ marks) all = waits-stay (after_mark d (queued mark)) marks all ∙ queue-waits d mark
waits-stay d (began of_worker t ∷ marks) all = waits-stay (after_mark d (began of_worker t)) marks all
waits-stay d (ended of_worker t true ∷ marks) all = waits-stay (after_mark d (ended of_worker t true)) marks all
waits-stay d (_ ∷ marks) all = absurd all

pub daemon-waits : (d : Database) (part : DaemonPart) (now : ℤ) → (after_marks d (daemon_does database_by_itself d part now).marks).part.waiting ≡ d.part.waiting
daemon-waits d part now =
    waits-stay d (daemon_does database_by_itself d part now).marks (each-daemon_does leaves_waits now (λ mark _. refl) (λ r. refl) (λ t. refl) (λ t. refl) database_by_itself d part)
