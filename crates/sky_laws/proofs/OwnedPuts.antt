-- An event with an owner is put by a retry that comes back, and by nothing else.
use Rattle.std.proofs.Common.{◌≡◌, ℕ, ℤ, pos, List, [], ◌∷◌, ◌++◌, Bool, true, Option, Some, None, is_none, Ok, Err, length, refl, sym, ◌∙◌, ap, subst, if◌then◌else◌}
use Rattle.sky_val.specs.declared.event.Event.{Event}
use Rattle.pgq_retry.specs.declared.retry.Retry.{Retry}
use Rattle.sky_model.specs.declared.reply.Reply.TheVariants.{Number}
use Rattle.sky_model.specs.History.{Mark, of_session, of_worker, began, ended, block_ended, queued, put, returned, switched, History}
use Rattle.sky_model.specs.Sessions.{Block, outside, inside, failed}
use Rattle.sky_model.specs.Queues.{NamedQueue, queues, is_pending}
use Rattle.sky_model.specs.Retries.{brought_by}
use Rattle.sky_model.specs.OwnTransaction.{next_id, commit_of}
use Rattle.sky_model.specs.State.{Database, part_of, database_of}
use Rattle.sky_model.specs.Outcome.{Checked, ◌>>=◌, does_marks, marks_of}
use Rattle.sky_model.specs.StepRetry.{back, brings}
use Rattle.sky_model.specs.StepRotation.{switch_of, switches_by}
use Rattle.sky_model.specs.Reader.{part_by_history, database_by_history}
use Rattle.sky_model.specs.Settling.{marked}
use Rattle.sky_model.specs.Promises.{after_all}
use Rattle.sky_model.specs.DatabaseCalls.{DatabaseCall, stepped, entered, failed as failed_call, worked, served, database_does, database_part}
use Rattle.sky_model.specs.LawsOfRetries.{BeginsBack, OwnedEventsComeBack}
use Rattle.sky_histories.proofs.Resting.{behind-append}
use Rattle.sky_model.proofs.Cases.{by_test}
use Rattle.sky_histories.proofs.StatementMarks.{EachMark, each-map, each-rest, when-true}
use Rattle.sky_laws.proofs.PlainStatements.{may_do}
use Rattle.sky_laws.proofs.SwitchingCalls.{IsOfCalls, of_stepped, of_failed, of_worked, of_entered, of_served}

-- each event with an owner has the mark of a retry right after it
abbrev Even : History → Type 0
Even [] = Unit {0}
Even (queued (put q e) ∷ h) = (e.ev_owner ≡ None) × Even h
Even (queued (returned retry moment) ∷ queued (put q e) ∷ h) = Even h
Even (_ ∷ h) = Even h

abbrev pub is_unowned : Mark → Bool
is_unowned (queued (put q e)) = is_none e.ev_owner
is_unowned _ = true

no-owner : (o : Option ℕ) → is_none o ≡ true → o ≡ None
no-owner None is = refl
no-owner (Some n) is = absurd (cc)

even-mark : (h : History) (mark : Mark) → is_unowned mark ≡ true → Even h → Even (mark ∷ h)
even-mark h (queued (put q e)) is even = (no-owner e.ev_owner is, even)
even-mark (queued (put p e) ∷ h) (queued (returned retry moment)) is even = even.1
even-mark [] (queued (returned retry moment)) is even = even
even-mark (_ ∷ h) (queued (returned retry moment)) is even = even
even-mark h _ is even = even

even-marks : (h : History) (marks : List Mark) → EachMark is_unowned marks → Even h → Even (marked h marks)
even-marks h [] each even = even
even-marks h (mark ∷ marks) each even =
    even-marks (mark ∷ h) marks (each-rest is_unowned mark marks each) (even-mark h mark (when-true (EachMark is_unowned marks) (is_unowned mark) each) even)

-- what statements do that bring no retry back
pub plain-unowned : (b : Block) (who : ℕ) (mark : Mark) → may_do b who mark ≡ true → is_unowned mark ≡ true
plain-unowned b who (queued (put q e)) is = is
plain-unowned b who _ is = refl

pub unowned-switch : (q t : ℕ) (now : ℤ) (who : ℕ) (b : Block) → EachMark is_unowned (switch_of q t now b ++ commit_of who t b)
unowned-switch q t now who outside = tt
unowned-switch q t now who inside = tt
unowned-switch q t now who failed = tt

pub unowned-switches : (d : Database) (now : ℤ) (t : ℕ) (qs : List NamedQueue) (marks : List Mark) → EachMark is_unowned marks → EachMark is_unowned (switches_by d now t qs ++ marks)
unowned-switches d now t [] marks rest = rest
unowned-switches d now t (q ∷ qs) marks rest =
    by_test (λ b. EachMark is_unowned ((if b then queued (switched q.number now) ∷ switches_by d now t qs else switches_by d now t qs) ++ marks)) (is_pending t (d.queue q.number).event_tables)
    (λ _. unowned-switches d now t qs marks rest) (λ _. unowned-switches d now t qs marks rest)

-- retries that come back
even-back : (h : History) (now : ℤ) (t : ℕ) (rs : List Retry) → Even h → Even (marked h (back now t rs ++ ended of_worker t true ∷ []))
even-back h now t [] even = even
even-back h now t (r ∷ rs) even = even-back (queued (returned r now) ∷ queued (put r.queue (brought_by t r.event)) ∷ h) now t rs even

even-brings : (h : History) (now : ℤ) (rs : List Retry) → Even h → Even (marked h (marks_of (brings (database_of h) now rs)))
even-brings h now [] even = even
even-brings h now (r ∷ rs) even = of (next_id (part_of h))
  where
    of : (c : Checked ℕ) → Even (marked h (marks_of (c >>= (λ t. does_marks (Number (length (r ∷ rs))) (began of_worker t ∷ back now t (r ∷ rs) ++ ended of_worker t true ∷ [])))))
    of (Ok t) = even-back (began of_worker t ∷ h) now t (r ∷ rs) even
    of (Err refusal) = even

abbrev StaysEven : History → List Mark → Type 0
StaysEven h marks = Even h → Even (marked h marks)

stay-even : (now : ℤ) → IsOfCalls now StaysEven
stay-even now = record {
  joined = λ h xs ys first also even. subst Even (sym (behind-append part_by_history h xs ys)) (also (first even));
  plain = λ b who h marks out each. even-marks h marks (each-map (may_do b who) is_unowned (plain-unowned b who) marks each);
  begins = λ h who even. even;
  switches = λ h who q t b mine is sound free. even-marks h (switch_of q t now b ++ commit_of who t b) (unowned-switch q t now who b);
  switches_alone = λ h q t free even. even;
  brings_back = λ h rs. even-brings h now rs;
  commits = λ h who t. even-marks h (switches_by (database_of h) now t (queues h) ++ ended (of_session who) t true ∷ block_ended who ∷ [])
      (unowned-switches (database_of h) now t (queues h) (ended (of_session who) t true ∷ block_ended who ∷ []) tt);
}

even-does : (h : History) (call : DatabaseCall) → StaysEven h (database_does database_by_history h call).marks
even-does h (stepped who stmt now) = of_stepped now StaysEven (stay-even now) h who stmt
even-does h (entered who alone) = of_entered (pos 0) StaysEven (stay-even (pos 0)) h who alone
even-does h (worked work now) = of_worked now StaysEven (stay-even now) h work
even-does h (served call) = of_served (pos 0) StaysEven (stay-even (pos 0)) h call
even-does h (failed_call who now) = of_failed now StaysEven (stay-even now) h who

even-calls : (calls : List DatabaseCall) → Even (after_all database_part calls)
even-calls [] = tt
even-calls (call ∷ calls) = even-does (after_all database_part calls) call (even-calls calls)

begins-longer : (mark : Mark) (later : List Mark) → BeginsBack later → BeginsBack (mark ∷ later)
begins-longer mark later b = record { rest = mark ∷ b.rest; retry = b.retry; moment = b.moment; first = ap (λ ms. mark ∷ ms) b.first }

owned-back : (later : List Mark) (p : History) (queue : ℕ) (event : Event) (sub : ℕ) → Even (later ++ queued (put queue event) ∷ p) → event.ev_owner ≡ Some sub → BeginsBack later
owned-back [] p queue event sub even owned = absurd (cc (sym even.0 ∙ owned))
owned-back (queued (returned retry moment) ∷ []) p queue event sub even owned = record { rest = []; retry = retry; moment = moment; first = refl }
owned-back (queued (returned retry moment) ∷ queued (put q e) ∷ later) p queue event sub even owned =
    begins-longer (queued (returned retry moment)) (queued (put q e) ∷ later) (begins-longer (queued (put q e)) later (owned-back later p queue event sub even owned))
owned-back (queued (put q e) ∷ later) p queue event sub even owned = begins-longer (queued (put q e)) later (owned-back later p queue event sub even.1 owned)
owned-back (queued (returned retry moment) ∷ x ∷ later) p queue event sub even owned =
    begins-longer (queued (returned retry moment)) (x ∷ later) (owned-back (x ∷ later) p queue event sub even owned)
owned-back (x ∷ []) p queue event sub even owned = absurd (cc (sym even.0 ∙ owned))
owned-back (x ∷ y ∷ later) p queue event sub even owned = begins-longer x (y ∷ later) (owned-back (y ∷ later) p queue event sub even owned)

pub owned_events_come_back : OwnedEventsComeBack
owned_events_come_back calls later p queue event sub is owned = owned-back later p queue event sub (subst Even is (even-calls calls)) owned
