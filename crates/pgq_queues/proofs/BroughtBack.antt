-- Retries that come back to their queues, one after another.
use Rattle.std.proofs.Common.{◌≡◌, ℕ, zero, suc, ℤ, ◌+◌, ◌-◌, ◌<◌, ◌≤◌, List, [], ◌∷◌, Bool, true, false, Result, Ok, Err, OnOk, not, filter, take, drop, min, length, length-take, take-append-drop, get_or, slice_set, refl, sym, ◌∙◌, ap, subst, arith, if◌then◌else◌}
use Rattle.std.specs.Prelude.{int_le}
use Rattle.std.specs.List.{All}
use Rattle.std.proofs.lemmas.List.Elements.{All-cons, All-head, All-tail, All-filter}
use Rattle.sky_model.specs.Retries.{brought_by}
use Rattle.sky_model.specs.State.{Database, changed_at, with_tables, after_marks}
use Rattle.sky_model.specs.StepRetry.{back}
use Rattle.pgq_retry.specs.declared.retry.Retry.{Retry}
use Rattle.pgq_retry.specs.Retries.{is_event, put_by, sorted_by, by_due, is_due, due_now, without}
use Rattle.pgq_retry.proofs.TakingDue.{taken_are}
use Rattle.pgq_queue.specs.Views.{QueueView}
use Rattle.pgq_queues.specs.Views.{QueuesView}
use Rattle.pgq_queue.specs.Seen.{seen_queue}
use Rattle.pgq_queues.specs.Seen.{queue_at, seen_with, Beside}
use Rattle.pgq_tables.specs.Tables.{with_stored}
use Rattle.pgq_queue.specs.Changed.{retabled}
use Rattle.pgq_queues.specs.Retried.{IsWaiting, RetriedWithin}
use Rattle.pgq_queues.proofs.Marked.{queues-set}

-- what holds of each holds of the first by due moment
All-put : (P : Retry → Type 0) (r : Retry) (rs : List Retry) → P r → All P rs → All P (put_by Retry.due r rs)
All-put P r [] here all = All-cons P r [] here all
All-put P r (x ∷ xs) here all = by (int_le r.due x.due) (All-put P r xs here (All-tail P x xs all))
  where
    by : (b : Bool) → All P (put_by Retry.due r xs) → All P (if b then r ∷ x ∷ xs else x ∷ put_by Retry.due r xs)
    by true rest = All-cons P r (x ∷ xs) here all
    by false rest = All-cons P x (put_by Retry.due r xs) (All-head P x xs all) rest

All-sorted : (P : Retry → Type 0) (rs : List Retry) → All P rs → All P (sorted_by Retry.due rs)
All-sorted P [] all = all
All-sorted P (r ∷ rs) all = All-put P r (sorted_by Retry.due rs) (All-head P r rs all) (All-sorted P rs (All-tail P r rs all))

pub first-is : (P : Retry → Type 0) (r : Retry) (rs rest : List Retry) → by_due rs ≡ r ∷ rest → All P rs → P r
first-is P r rs rest is all = All-head P r rest (subst (All P) is (All-sorted P rs all))

-- and of those that still wait
pub all-left : (P : Retry → Type 0) (sub ev_id : ℕ) (rs left : List Retry) → left ≡ without sub ev_id rs → All P rs → All P left
all-left P sub ev_id rs left is all = subst (All P) (sym is) (All-filter (λ w. not (is_event sub ev_id w)) P rs all)

pub within-left : {rounds : ℕ} → (sub ev_id : ℕ) (queues : List QueueView) (rs left : List Retry) → left ≡ without sub ev_id rs → RetriedWithin rounds queues rs → RetriedWithin rounds queues left
within-left {rounds} sub ev_id queues rs left is within = record { waiting = all-left (IsWaiting (rounds + 1) queues) sub ev_id rs left is within.waiting; stored = within.stored }

-- retries may have come back once more
pub once-more : {rounds : ℕ} → (queues : List QueueView) (rs : List Retry) → RetriedWithin rounds queues rs → RetriedWithin (rounds + 1) queues rs
once-more {rounds} queues rs within = record {
  waiting = λ k d lt. let waits = within.waiting k d lt in record { owner = waits.owner; moment = waits.moment; most = (let most = waits.most in omega (arith, most)) };
  stored = λ n k d lt i e low. let most = within.stored n k d lt i e low in omega (arith, most);
}

-- one is back in its queue, and waits no more
pub brought-as : (v now : QueuesView) (r : Retry) (t : ℕ) (moment : ℤ) (old new : QueueView) (left : List Retry) → v ≡ now → r.queue < length v.queues → old ≡ get_or v.queues r.queue old
    → new ≡ retabled (with_stored (brought_by t r.event)) old → left ≡ without r.sub r.event.ev_id v.retries
    → (beside : Beside) → seen_with beside (record v { queues = slice_set v.queues r.queue new; retries = left }) ≡ after_marks (seen_with beside now) (back moment t (r ∷ []))
brought-as v now r t moment old new left same lt at is less beside =
    ap (λ (d : Database). record d { retries = left })
    (queues-set v now r.queue old new (with_tables (with_stored (brought_by t r.event))) same lt at (ap seen_queue is) (ap QueueView.subs is) beside)
    ∙ ap (λ rs. record (seen_with beside now) { queue = changed_at r.queue (with_tables (with_stored (brought_by t r.event))) (queue_at now); retries = rs })
    (less ∙ ap (λ (w : QueuesView). without r.sub r.event.ev_id w.retries) same)

-- the first of so many
take-first : (count : ℕ) (rs : List Retry) (r : Retry) (left : List Retry) → (count ≡ 0 → ⊥) → rs ≡ r ∷ left → take count rs ≡ r ∷ take (count - 1) left
take-first zero rs r left some is = absurd (some refl)
take-first (suc n) rs r left some is = let less : n ≡ suc n - 1 = omega arith in ap (take (suc n)) is ∙ ap (λ m. r ∷ take m left) less

-- and then the others
pub brought-then : (d e f : Database) (count t : ℕ) (moment : ℤ) (r : Retry) (rs left : List Retry) → (count ≡ 0 → ⊥) → by_due rs ≡ r ∷ by_due left → e ≡ after_marks d (back moment t (r ∷ []))
    → f ≡ after_marks e (back moment t (take (count - 1) (by_due left))) → f ≡ after_marks d (back moment t (take count (by_due rs)))
brought-then d e f count t moment r rs left some first one rest =
    rest
    ∙ ap (λ x. after_marks x (back moment t (take (count - 1) (by_due left)))) one
    ∙ ap (λ xs. after_marks d (back moment t xs)) (sym (take-first count (by_due rs) r (by_due left) some first))

pub bring-marks : {A E : Type 0} → (o : Result A E) (v now new : QueuesView) (r : Retry) (t count : ℕ) (old q : QueueView) (left : List Retry) → v ≡ now → r.queue < length v.queues → old ≡ get_or v.queues r.queue old
    → q ≡ retabled (with_stored (brought_by t r.event)) old → left ≡ without r.sub r.event.ev_id v.retries → (count ≡ 0 → ⊥) → by_due v.retries ≡ r ∷ by_due left
    → OnOk o ((moment : ℤ) (beside : Beside) → seen_with beside new
    ≡ after_marks (seen_with beside (record v { queues = slice_set v.queues r.queue q; retries = left })) (back moment t (take (count - 1) (by_due left))))
    → OnOk o ((moment : ℤ) (beside : Beside) → seen_with beside new ≡ after_marks (seen_with beside now) (back moment t (take count (by_due now.retries))))
bring-marks (Err e) v now new r t count old q left same lt at is less some first marks = tt
bring-marks (Ok a) v now new r t count old q left same lt at is less some first marks = λ moment beside.
    brought-then (seen_with beside now) (seen_with beside (record v { queues = slice_set v.queues r.queue q; retries = left })) (seen_with beside new) count t moment r now.retries left some
    (ap (λ (w : QueuesView). by_due w.retries) (sym same) ∙ first) (brought-as v now r t moment old q left same lt at is less beside) (marks moment beside)

-- those that come back at a time are the first ones
fewer : (p : Retry → Bool) (rs : List Retry) → length (filter p rs) ≤ length rs
fewer p [] = omega arith
fewer p (r ∷ rs) = by (p r) (fewer p rs)
  where
    by : (b : Bool) → length (filter p rs) ≤ length rs → length (if b then r ∷ filter p rs else filter p rs) ≤ suc (length rs)
    by true rest = omega (arith, rest)
    by false rest = omega (arith, rest)

pub due-taken : (moment : ℤ) (most : ℕ) (rs : List Retry) → take (length (due_now moment most rs)) (by_due rs) ≡ due_now moment most rs
due-taken moment most rs =
    let due = filter (is_due moment) (by_due rs) in
    let count = length (take most due) in
    let is : count ≡ min most (length due) = length-take most due in
    let less : length due ≤ length (by_due rs) = fewer (is_due moment) (by_due rs) in
    let taken : length (take count (by_due rs)) ≡ min count (length (by_due rs)) = length-take count (by_due rs) in
    taken_are moment most rs (take count (by_due rs)) (drop count (by_due rs)) (sym (take-append-drop count (by_due rs))) (omega (arith, is, less, taken))

-- all that are due have come back
pub back-marks : (v now new : QueuesView) (more t count : ℕ) (moment : ℤ) (most : ℕ) → v ≡ now → count ≡ length (due_now moment most now.retries)
    → ((m : ℤ) (beside : Beside) → seen_with beside new ≡ after_marks (seen_with beside (record v { rounds = more })) (back m t (take count (by_due v.retries))))
    → (beside : Beside) → seen_with beside new ≡ after_marks (seen_with beside now) (back moment t (due_now moment most now.retries))
back-marks v now new more t count moment most same is marks beside =
    marks moment beside
    ∙ ap (λ (w : QueuesView). after_marks (seen_with beside w) (back moment t (take count (by_due w.retries)))) same
    ∙ ap (λ n. after_marks (seen_with beside now) (back moment t (take n (by_due now.retries)))) is
    ∙ ap (λ rs. after_marks (seen_with beside now) (back moment t rs)) (due-taken moment most now.retries)
