-- The marks by which retries come back may come when the retries are due.
use Rattle.std.proofs.Common.{◌≡◌, ℕ, zero, suc, ◌+◌, ◌<◌, ◌≤◌, ℤ, ◌≤ℤ◌, int_le, List, [], ◌∷◌, ◌++◌, Bool, true, not, ◌==◌, All, Contains, length, filter, find, take, nat_lt, Some, refl, sym, ◌∙◌, ap, subst, arith, if◌then◌else◌}
use Rattle.std.proofs.lemmas.Bool.{cond_both}
use Rattle.std.proofs.lemmas.Bool.Decides.{nat_tests}
use Rattle.std.proofs.lemmas.Float.{T_from_true}
use Rattle.std.specs.Int.Signed.{le_z_yes}
use Rattle.std.proofs.lemmas.List.Elements.{All-nil, All-cons, All-head, All-tail, All-filter, All-take, All-contains, All-contains_itself}
use Rattle.sky_val.specs.declared.event.Event.{Event}
use Rattle.pgq_retry.specs.declared.retry.Retry.{Retry}
use Rattle.pgq_retry.specs.Retries.{is_event, is_due, put_by, sorted_by, by_due, due_now}
use Rattle.sky_model.specs.History.{Batch, Mark, queued, put, returned, History}
use Rattle.sky_model.specs.Batches.{batch_events}
use Rattle.pgq_tables.specs.ById.{with_event, by_id_onto}
use Rattle.sky_model.specs.LawsOfBatches.{stands_in}
use Rattle.sky_model.specs.Queues.{sequence, events}
use Rattle.sky_model.specs.Retries.{retries, brought_by}
use Rattle.sky_model.specs.LawsOfRetries.{IsRetry}
use Rattle.sky_model.specs.StepRetry.{back}
use Rattle.sky_histories.proofs.Legal.{IsQueue, Returns, Fine, puts_back, returns, Chain, more, Legal, next, IsBrief}
use Rattle.sky_histories.proofs.RetryCopies.{copies, once, filter-less}
use Rattle.sky_histories.proofs.StandingQueues.{registered-stands}
use Rattle.sky_histories.proofs.Selecting.{events_below-next}
use Rattle.sky_model.proofs.Cases.{by_test}

-- ---- those that are due

all-put_by : {X : Type 0} (P : X → Type 0) (moment : X → ℤ) (x : X) (xs : List X) → P x → All P xs → All P (put_by moment x xs)
all-put_by P moment x [] here rest = All-cons P x [] here rest
all-put_by P moment x (y ∷ ys) here rest =
    cond_both (int_le (moment x) (moment y)) (x ∷ y ∷ ys) (y ∷ put_by moment x ys) (All P) (λ _. All-cons P x (y ∷ ys) here rest)
    (λ _. All-cons P y (put_by moment x ys) (All-head P y ys rest) (all-put_by P moment x ys here (All-tail P y ys rest)))

all-sorted_by : {X : Type 0} (P : X → Type 0) (moment : X → ℤ) (xs : List X) → All P xs → All P (sorted_by moment xs)
all-sorted_by P moment [] all = all
all-sorted_by P moment (x ∷ xs) all = all-put_by P moment x (sorted_by moment xs) (All-head P x xs all) (all-sorted_by P moment xs (All-tail P x xs all))

pub all-due : (P : Retry → Type 0) (now : ℤ) (most : ℕ) (all : List Retry) → All P all → All P (due_now now most all)
all-due P now most all each = All-take P most (filter (is_due now) (by_due all)) (All-filter (is_due now) P (by_due all) (all-sorted_by P Retry.due all each))

all-passed : {X : Type 0} (p : X → Bool) (xs : List X) → All (λ x. p x ≡ true) (filter p xs)
all-passed p [] = All-nil (λ x. p x ≡ true)
all-passed p (x ∷ xs) =
    by_test (λ b. p x ≡ b → All (λ x. p x ≡ true) (if b then x ∷ filter p xs else filter p xs)) (p x) (λ _ is. All-cons (λ x. p x ≡ true) x (filter p xs) is (all-passed p xs)) (λ _ _. all-passed p xs) refl

due-due : (now : ℤ) (most : ℕ) (all : List Retry) → All (λ r. is_due now r ≡ true) (due_now now most all)
due-due now most all = All-take (λ r. is_due now r ≡ true) most (filter (is_due now) (by_due all)) (all-passed (is_due now) (by_due all))

-- how many pass
abbrev count : {X : Type 0} → (X → Bool) → List X → ℕ
count p xs = length (filter p xs)

count-put_by : {X : Type 0} (p : X → Bool) (moment : X → ℤ) (x : X) (xs : List X) → count p (put_by moment x xs) ≡ count p (x ∷ xs)
count-put_by p moment x [] = refl
count-put_by p moment x (y ∷ ys) =
    cond_both (int_le (moment x) (moment y)) (x ∷ y ∷ ys) (y ∷ put_by moment x ys) (λ zs. count p zs ≡ count p (x ∷ y ∷ ys)) (λ _. refl)
    (λ _. let rest = count-put_by p moment x ys in grind (arith, rest))

count-sorted : {X : Type 0} (p : X → Bool) (moment : X → ℤ) (xs : List X) → count p (sorted_by moment xs) ≡ count p xs
count-sorted p moment [] = refl
count-sorted p moment (x ∷ xs) = let put = count-put_by p moment x (sorted_by moment xs) in let rest = count-sorted p moment xs in grind (arith, put, rest)

count-take : {X : Type 0} (p : X → Bool) (n : ℕ) (xs : List X) → count p (take n xs) ≤ count p xs
count-take p zero xs = omega arith
count-take p (suc n) [] = omega arith
count-take p (suc n) (x ∷ xs) = let rest = count-take p n xs in grind (arith, rest)

count-due : (sub id : ℕ) (now : ℤ) (most : ℕ) (all : List Retry) → count (is_event sub id) all ≤ 1 → count (is_event sub id) (due_now now most all) ≤ 1
count-due sub id now most all few =
    let taken = count-take (is_event sub id) most (filter (is_due now) (by_due all)) in
    let passed = filter-less (is_event sub id) (is_due now) (by_due all) in
    let sorted = count-sorted (is_event sub id) Retry.due all in
    omega (arith, taken, passed, sorted, few)

-- ---- an event that a batch lists was stored

all-with_event : (P : Event → Type 0) (e : Event) (es : List Event) → P e → All P es → All P (with_event e es)
all-with_event P e [] here rest = All-cons P e [] here rest
all-with_event P e (x ∷ xs) here rest =
    cond_both (nat_lt e.ev_id x.ev_id) (e ∷ x ∷ xs) (x ∷ with_event e xs) (All P) (λ _. All-cons P e (x ∷ xs) here rest)
    (λ _. All-cons P x (with_event e xs) (All-head P x xs rest) (all-with_event P e xs here (All-tail P x xs rest)))

pub all-by_id_onto : (P : Event → Type 0) (sorted es : List Event) → All P sorted → All P es → All P (by_id_onto sorted es)
all-by_id_onto P sorted [] before all = before
all-by_id_onto P sorted (e ∷ es) before all = all-by_id_onto P (with_event e sorted) es (all-with_event P e sorted (All-head P e es all) before) (All-tail P e es all)

all-found : (P : Event → Type 0) (p : Event → Bool) (es : List Event) (e : Event) → All P es → find p es ≡ Some e → P e
all-found P p [] e all found = absurd (cc)
all-found P p (x ∷ xs) e all found =
    by_test (λ b. (if b then Some x else find p xs) ≡ Some e → P e) (p x) (λ _ is. subst P (cc) (All-head P x xs all)) (λ _ is. all-found P p xs e (All-tail P x xs all) is) found

pub listed_is_stored : (h : History) (b : Batch) (e : Event) (id : ℕ) → find (λ x. x.ev_id == id) (batch_events h b) ≡ Some e → Contains (events b.queue h) e
listed_is_stored h b e id found =
    all-found (Contains (events b.queue h)) (λ x. x.ev_id == id) (batch_events h b) e
    (all-by_id_onto (Contains (events b.queue h)) [] (filter (stands_in h b) (events b.queue h)) (All-nil (Contains (events b.queue h)))
    (All-filter (stands_in h b) (Contains (events b.queue h)) (events b.queue h) (All-contains_itself (events b.queue h)))) found

-- what is found of a batch's events is listed
pub found_is_listed : (es : List Event) (p : Event → Bool) (e : Event) → find p es ≡ Some e → Contains es e
found_is_listed es p e found = all-found (Contains es) p es e (All-contains_itself es) found

-- ---- their marks

-- the others are other events
others-other : {X : Type 0} (p : X → Bool) (xs : List X) → count p xs ≡ 0 → All (λ x. not (p x) ≡ true) xs
others-other p [] none = All-nil (λ x. not (p x) ≡ true)
others-other p (x ∷ xs) none =
    by_test (λ b. p x ≡ b → length (if b then x ∷ filter p xs else filter p xs) ≡ 0 → All (λ x. not (p x) ≡ true) (x ∷ xs)) (p x) (λ _ _ none. absurd (omega (arith, none)))
    (λ _ is none. All-cons (λ x. not (p x) ≡ true) x xs (ap not is) (others-other p xs none)) refl none

contains-filter : {X : Type 0} (p : X → Bool) (xs : List X) (x : X) → p x ≡ true → Contains xs x → Contains (filter p xs) x
contains-filter p [] x pass (k, less, is) = absurd (omega (arith, less))
contains-filter p (y ∷ ys) x pass (zero, less, is) = subst (λ b. Contains (if b then y ∷ filter p ys else filter p ys) x) (sym pass ∙ ap p (sym is)) (zero, omega arith, is)
contains-filter p (y ∷ ys) x pass (suc k, less, is) =
    let rest : Contains (filter p ys) x = contains-filter p ys x pass (k, omega (arith, less), is) in
    cond_both (p y) (y ∷ filter p ys) (filter p ys) (λ zs. Contains zs x) (λ _. (suc rest.0, omega (arith, rest.1), rest.2)) (λ _. rest)

-- one that waits may come back
may-return : (h : History) → Legal h → (t : ℕ) → IsBrief h t → (retry : Retry) → Contains (retries h) retry → Returns h retry t
may-return h l t works retry waits =
    let is : IsRetry h retry = All-contains (IsRetry h) (retries h) retry (copies h l) waits in
    let stands : IsQueue h retry.queue = registered-stands h l retry.queue is.consumer retry.sub is.subscribed in
    let given : is.source.ev_id < sequence retry.queue h + 1 = All-contains (λ e. e.ev_id < sequence retry.queue h + 1) (events retry.queue h) is.source (events_below-next h l retry.queue stands) is.stored in
    let same : retry.event.ev_id ≡ is.source.ev_id = is.copied.same_id in
    record { waits = waits; works = works.work.works; brief = works.brief; stands = stands; given = omega (arith, given, same) }

-- of retries that wait, none twice, and are due
pub record AreBack (h : History) (now : ℤ) (rs : List Retry) : Type 0 where
  pub wait : All (Contains (retries h)) rs
  pub once : (sub id : ℕ) → count (is_event sub id) rs ≤ 1
  pub due : All (λ r. is_due now r ≡ true) rs

pub due-back : (h : History) → Legal h → (now : ℤ) (most : ℕ) → AreBack h now (due_now now most (retries h))
due-back h l now most = record {
  wait = all-due (Contains (retries h)) now most (retries h) (All-contains_itself (retries h));
  once = λ sub id. count-due sub id now most (retries h) (once h l sub id);
  due = due-due now most (retries h);
}

due-by : (now : ℤ) (r : Retry) → is_due now r ≡ true → r.due ≤ℤ now
due-by now r is = le_z_yes (T_from_true (int_le r.due now) is)

pub good_back : (now : ℤ) (t : ℕ) (rs : List Retry) (rest : List Mark) → ((g : History) → Legal g → IsBrief g t → Chain g rest)
    → (h : History) → Legal h → IsBrief h t → AreBack h now rs → Chain h (back now t rs ++ rest)
good_back now t [] rest last h l works are = last h l works
good_back now t (r ∷ rs) rest last h l works are =
    more put_fine (more returned_fine (good_back now t rs rest last behind (next (next l put_fine) returned_fine) (still works) (record { wait = waiting; once = fewer; due = All-tail (λ r. is_due now r ≡ true) r rs are.due })))
  where
    returning : Returns h r t
    returning = may-return h l t works r (All-head (Contains (retries h)) r rs are.wait)

    put_fine : Fine h (queued (put r.queue (brought_by t r.event)))
    put_fine = puts_back r t returning

    returned_fine : Fine (queued (put r.queue (brought_by t r.event)) ∷ h) (queued (returned r now))
    returned_fine = returns h r t now refl returning (due-by now r (All-head (λ r. is_due now r ≡ true) r rs are.due))

    behind : History
    behind = queued (returned r now) ∷ queued (put r.queue (brought_by t r.event)) ∷ h

    still : IsBrief h t → IsBrief behind t
    still is = record { work = record { works = is.work.works; apart = is.work.apart }; brief = is.brief }

    fewer : (sub id : ℕ) → count (is_event sub id) rs ≤ 1
    fewer sub id = let all = are.once sub id in cond_both (is_event sub id r) (r ∷ filter (is_event sub id) rs) (filter (is_event sub id) rs) (λ xs. length xs ≤ 1 → count (is_event sub id) rs ≤ 1) (λ _ few. omega (arith, few)) (λ _ few. few) all

    own : is_event r.sub r.event.ev_id r ≡ true
    own = grind (arith, nat_tests)

    others : All (λ x. not (is_event r.sub r.event.ev_id x) ≡ true) rs
    others = others-other (is_event r.sub r.event.ev_id) rs (let few = are.once r.sub r.event.ev_id in subst (λ b. length (if b then r ∷ filter (is_event r.sub r.event.ev_id) rs else filter (is_event r.sub r.event.ev_id) rs) ≤ 1 → count (is_event r.sub r.event.ev_id) rs ≡ 0) (sym own) (λ n. omega (arith, n)) few)

    waiting : All (Contains (retries behind)) rs
    waiting = λ k x less. contains-filter (λ w. not (is_event r.sub r.event.ev_id w)) (retries h) _ (others k x less) (All-tail (Contains (retries h)) r rs are.wait k x less)
