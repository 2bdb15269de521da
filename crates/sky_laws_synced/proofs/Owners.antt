-- A subscription for which no event is asked once more owns none.
use Rattle.std.proofs.Common.{◌≡◌, ℕ, ℤ, ◌==◌, List, [], ◌∷◌, ◌++◌, length, Bool, true, false, not, All, Contains, Option, Some, None, is_none, Ok, Err, refl, sym, ap, subst, ◌∙◌, if◌then◌else◌}
use Rattle.std.proofs.lemmas.List.Elements.{All-push, All-filter, All-contains}
use Rattle.std.proofs.lemmas.Bool.{not-true}
use Rattle.sky_val.specs.declared.event.Event.{Event}
use Rattle.pgq_retry.specs.declared.retry.Retry.{Retry}
use Rattle.pgq_retry.specs.Retries.{is_event, is_of}
use Rattle.sky_model.specs.declared.reply.Reply.TheVariants.{Number}
use Rattle.sky_model.specs.History.{Mark, of_session, of_worker, began, ended, block_ended, queued, put, asked, returned, unregistered, History}
use Rattle.sky_model.specs.Queues.{queues, events}
use Rattle.sky_model.specs.Retries.{retries, brought_by}
use Rattle.sky_model.specs.OwnTransaction.{next_id, commit_of}
use Rattle.sky_model.specs.State.{part_of, database_of}
use Rattle.sky_model.specs.Outcome.{Checked, ◌>>=◌, does_marks, marks_of}
use Rattle.sky_model.specs.StepRetry.{back, brings}
use Rattle.sky_model.specs.StepRotation.{switch_of, switches_by}
use Rattle.sky_model.specs.Reader.{part_by_history}
use Rattle.sky_model.specs.Settling.{marked}
use Rattle.sky_histories.proofs.Legal.{Fine, returns, Legal, legal-below_mark, fine_mark}
use Rattle.sky_histories.proofs.Resting.{behind-append}
use Rattle.sky_histories.proofs.RetryCopies.{owned}
use Rattle.sky_histories.proofs.StatementMarks.{EachMark, each-map, each-front, each-rest, when-true}
use Rattle.sky_laws.proofs.PlainStatements.{may_do}
use Rattle.sky_laws.proofs.OwnedPuts.{is_unowned, plain-unowned, unowned-switch, unowned-switches}
use Rattle.sky_laws.proofs.SwitchingCalls.{IsOfCalls}
use Rattle.sky_histories.proofs.Good.{same-session}
use Rattle.sky_model.proofs.Cases.{by_test}
use Rattle.sky_laws.proofs.PendingOwners.{legal-before}

-- whether a mark doesn't ask for a subscription
abbrev pub unasks : ℕ → Mark → Bool
unasks sub (queued (asked retry)) = not (retry.sub == sub)
unasks sub mark = true

abbrev NotFor : ℕ → Retry → Type 0
NotFor sub r = (r.sub == sub) ≡ false

abbrev pub NotOf : ℕ → Event → Type 0
NotOf sub e = e.ev_owner ≡ Some sub → ⊥

-- no retry waits for it, and no event is its own
pub record IsClean (sub : ℕ) (h : History) : Type 0 where
  pub waits : All (NotFor sub) (retries h)
  pub puts : (queue : ℕ) → All (NotOf sub) (events queue h)

no-owner : (o : Option ℕ) (sub : ℕ) → is_none o ≡ true → o ≡ Some sub → ⊥
no-owner None sub is owned = cc owned
no-owner (Some n) sub is owned = cc is

put-clean : (h : History) (sub q : ℕ) (e : Event) → NotOf sub e → IsClean sub h → IsClean sub (queued (put q e) ∷ h)
put-clean h sub q e apart c = record {
  waits = c.waits;
  puts = λ queue. by_test (λ b. All (NotOf sub) (if b then events queue h ++ e ∷ [] else events queue h)) (q == queue) (λ _. All-push (NotOf sub) (events queue h) e (c.puts queue) apart) (λ _. c.puts queue);
}

pub clean-mark : (h : History) (mark : Mark) (sub : ℕ) → is_unowned mark ≡ true → unasks sub mark ≡ true → IsClean sub h → IsClean sub (mark ∷ h)
clean-mark h (queued (put q e)) sub unowned unasked c = put-clean h sub q e (no-owner e.ev_owner sub unowned) c
clean-mark h (queued (asked r)) sub unowned unasked c = record { waits = All-push (NotFor sub) (retries h) r c.waits (not-true (r.sub == sub) unasked); puts = c.puts }
clean-mark h (queued (returned r moment)) sub unowned unasked c = record { waits = All-filter (λ w. not (is_event r.sub r.event.ev_id w)) (NotFor sub) (retries h) c.waits; puts = c.puts }
clean-mark h (queued (unregistered q name s)) sub unowned unasked c = record { waits = All-filter (λ w. not (is_of s w)) (NotFor sub) (retries h) c.waits; puts = c.puts }
clean-mark h mark sub unowned unasked c = record { waits = c.waits; puts = c.puts }

clean-marks : (h : History) (marks : List Mark) (sub : ℕ) → EachMark is_unowned marks → EachMark (unasks sub) marks → IsClean sub h → IsClean sub (marked h marks)
clean-marks h [] sub unowned unasked c = c
clean-marks h (mark ∷ marks) sub unowned unasked c =
    clean-marks (mark ∷ h) marks sub (each-rest is_unowned mark marks unowned) (each-rest (unasks sub) mark marks unasked)
    (clean-mark h mark sub (when-true (EachMark is_unowned marks) (is_unowned mark) unowned) (when-true (EachMark (unasks sub) marks) (unasks sub mark) unasked) c)

-- ---- retries that come back

record Waited (h : History) (r : Retry) : Type 0 where
  below : History
  event : Event
  is : h ≡ queued (put r.queue event) ∷ below
  waited : Contains (retries below) r

waited-by : {h : History} {r : Retry} {moment : ℤ} → Fine h (queued (returned r moment)) → Waited h r
waited-by (returns below r t moment is back due) = record { below = below; event = brought_by t r.event; is = is; waited = back.waits }

clean-back : (h : History) (now : ℤ) (t : ℕ) (rs : List Retry) (sub : ℕ) → Legal (marked h (back now t rs ++ ended of_worker t true ∷ [])) → IsClean sub h → IsClean sub (marked h (back now t rs ++ ended of_worker t true ∷ []))
clean-back h now t [] sub l c = clean-mark h (ended of_worker t true) sub refl refl c
clean-back h now t (r ∷ rs) sub l c =
    let first : History = queued (put r.queue (brought_by t r.event)) ∷ h in
    let second : History = queued (returned r now) ∷ first in
    let here : Legal second = legal-before second (back now t rs ++ ended of_worker t true ∷ []) l in
    let w : Waited first r = waited-by (fine_mark here) in
    let same : h ≡ w.below = cc w.is in
    let waits : Contains (retries h) r = subst (λ g. Contains (retries g) r) (sym same) w.waited in
    let mine : r.event.ev_owner ≡ Some r.sub = owned h (legal-below_mark (legal-below_mark here)) r waits in
    let other : NotFor sub r = All-contains (NotFor sub) (retries h) r c.waits waits in
    let apart : NotOf sub (brought_by t r.event) = λ is. let one : r.sub ≡ sub = cc (sym mine ∙ is) in cc (sym other ∙ ap (λ n. n == sub) one ∙ same-session sub) in
    clean-back second now t rs sub l (clean-mark first (queued (returned r now)) sub refl refl (put-clean h sub r.queue (brought_by t r.event) apart c))

clean-brings : (h : History) (now : ℤ) (rs : List Retry) (sub : ℕ) → Legal (marked h (marks_of (brings (database_of h) now rs))) → IsClean sub h → IsClean sub (marked h (marks_of (brings (database_of h) now rs)))
clean-brings h now [] sub l c = c
clean-brings h now (r ∷ rs) sub l c = of (next_id (part_of h)) l c
  where
    of : (x : Checked ℕ) → (let marks : List Mark = marks_of (x >>= (λ t. does_marks (Number (length (r ∷ rs))) (began of_worker t ∷ back now t (r ∷ rs) ++ ended of_worker t true ∷ []))) in
        Legal (marked h marks) → IsClean sub h → IsClean sub (marked h marks))
    of (Ok t) l c = clean-back (began of_worker t ∷ h) now t (r ∷ rs) sub l (clean-mark h (began of_worker t) sub refl refl c)
    of (Err refusal) l c = c

-- ---- all calls

each-front-of : (p : Mark → Bool) (xs ys : List Mark) → EachMark p (xs ++ ys) → EachMark p xs
each-front-of p [] ys each = tt
each-front-of p (x ∷ xs) ys each = each-front p x xs (when-true (EachMark p (xs ++ ys)) (p x) each) (each-front-of p xs ys (each-rest p x (xs ++ ys) each))

each-back-of : (p : Mark → Bool) (xs ys : List Mark) → EachMark p (xs ++ ys) → EachMark p ys
each-back-of p [] ys each = each
each-back-of p (x ∷ xs) ys each = each-back-of p xs ys (each-rest p x (xs ++ ys) each)

-- what calls leave, if none of it asks for the subscription, leaves it without events of its own
abbrev pub StaysClean : History → List Mark → Type 0
StaysClean h marks = (sub : ℕ) → Legal (marked h marks) → EachMark (unasks sub) marks → IsClean sub h → IsClean sub (marked h marks)

pub stay-clean : (now : ℤ) → IsOfCalls now StaysClean
stay-clean now = record {
  joined = λ h xs ys first also sub l unasked c.
      let l2 : Legal (marked (marked h xs) ys) = subst Legal (behind-append part_by_history h xs ys) l in
      subst (IsClean sub) (sym (behind-append part_by_history h xs ys))
      (also sub l2 (each-back-of (unasks sub) xs ys unasked) (first sub (legal-before (marked h xs) ys l2) (each-front-of (unasks sub) xs ys unasked) c));
  plain = λ b who h marks out each sub l unasked c. clean-marks h marks sub (each-map (may_do b who) is_unowned (plain-unowned b who) marks each) unasked c;
  begins = λ h who sub l unasked c. record { waits = c.waits; puts = c.puts };
  switches = λ h who q t b mine is sound free sub l unasked c. clean-marks h (switch_of q t now b ++ commit_of who t b) sub (unowned-switch q t now who b) unasked c;
  switches_alone = λ h q t free sub l unasked c. record { waits = c.waits; puts = c.puts };
  brings_back = λ h rs sub l unasked c. clean-brings h now rs sub l c;
  commits = λ h who t sub l unasked c. clean-marks h (switches_by (database_of h) now t (queues h) ++ ended (of_session who) t true ∷ block_ended who ∷ []) sub
      (unowned-switches (database_of h) now t (queues h) (ended (of_session who) t true ∷ block_ended who ∷ []) tt) unasked c;
}
