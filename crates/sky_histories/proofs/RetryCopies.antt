-- The events that wait to be retried are copies of stored ones, and wait once.
use Rattle.std.proofs.Common.{◌≡◌, ℕ, ◌+◌, ◌≤◌, List, [], ◌∷◌, ◌++◌, Bool, true, false, not, ◌&&◌, ◌==◌, bytes_eq, All, Contains, length, filter, Some, None, refl, sym, ◌∙◌, ap, subst, arith, if◌then◌else◌}
use Rattle.std.specs.List.{list_any}
use Rattle.std.proofs.lemmas.Bool.{eqb-true, and_parts}
use Rattle.std.proofs.lemmas.Bool.Decides.{nat_tests}
use Rattle.std.proofs.lemmas.List.Elements.{All-nil, All-cons, All-head, All-tail, All-push, All-weaker, Contains-append_left, filter-append}
use Rattle.std.proofs.lemmas.List.{length-append}
use Rattle.sky_val.specs.declared.event.Event.{Event}
use Rattle.pgq_retry.specs.declared.retry.Retry.{Retry}
use Rattle.pgq_retry.specs.Retries.{is_of, is_event, is_asked}
use Rattle.sky_names.proofs.PlaceLemmas.{same_name}
use Rattle.sky_model.specs.History.{queued, put, History}
use Rattle.sky_model.specs.Queues.{events}
use Rattle.sky_model.specs.Consumers.{subscription_id}
use Rattle.sky_model.specs.Retries.{retries, retried, brought_by}
use Rattle.sky_model.specs.LawsOfRetries.{IsCopyOf, IsRetry}
use Rattle.sky_histories.proofs.Legal.{puts, puts_back, registers, unregisters, asks, returns, Legal, start, next}
use Rattle.sky_model.proofs.Cases.{by_test}

-- if each item of a list that passes a test has a property, each one that is left has it once the others are removed
all-left : {X : Type 0} (P : X → Type 0) (test : X → Bool) (xs : List X) → All (λ x. test x ≡ true → P x) xs → All P (filter test xs)
all-left P test [] all = All-nil P
all-left P test (x ∷ xs) all =
    let rest = all-left P test xs (All-tail (λ x. test x ≡ true → P x) x xs all) in
    by_test (λ b. test x ≡ b → All P (if b then x ∷ filter test xs else filter test xs)) (test x)
    (λ _ is. All-cons P x (filter test xs) (All-head (λ x. test x ≡ true → P x) x xs all is) rest) (λ _ _. rest) refl

-- an event that is to be retried is a copy
copy_of : (retry : Retry) (source : Event) → retry.event ≡ retried retry.sub source → IsCopyOf retry.event source
copy_of retry source is = record {
  same_id = ap Event.ev_id is;
  same_time = ap Event.ev_time is;
  same_type = ap Event.ev_type is;
  same_data = ap Event.ev_data is;
  same_extra1 = ap Event.ev_extra1 is;
  same_extra2 = ap Event.ev_extra2 is;
  same_extra3 = ap Event.ev_extra3 is;
  same_extra4 = ap Event.ev_extra4 is;
}

-- more events are stored
more_events : (h : History) (q : ℕ) (event : Event) (retry : Retry) → IsRetry h retry → IsRetry (queued (put q event) ∷ h) retry
more_events h q event retry is = record {
  consumer = is.consumer;
  subscribed = is.subscribed;
  source = is.source;
  stored = by_test (λ b. Contains (if b then events retry.queue h ++ event ∷ [] else events retry.queue h) is.source) (q == retry.queue)
      (λ _. Contains-append_left (events retry.queue h) (event ∷ []) is.source is.stored) (λ _. is.stored);
  copied = is.copied;
  owned = is.owned;
  counted = is.counted;
}

pub copies : (h : History) → Legal h → All (IsRetry h) (retries h)
copies [] start = All-nil (IsRetry [])
copies _ (next {h = h} l (puts who q event i at mine newest)) =
    All-weaker (IsRetry h) (IsRetry (queued (put q event) ∷ h)) (λ r is. more_events h q event r is) (retries h) (copies h l)
copies _ (next {h = h} l (puts_back retry t back)) =
    All-weaker (IsRetry h) (IsRetry (queued (put retry.queue (brought_by t retry.event)) ∷ h)) (λ r is. more_events h retry.queue (brought_by t retry.event) r is) (retries h) (copies h l)
copies _ (next {h = h} {mark = mark} l (asks consumer source retry a)) =
    All-push (IsRetry (mark ∷ h)) (retries h) retry
    (All-weaker (IsRetry h) (IsRetry (mark ∷ h)) (λ r is. record { consumer = is.consumer; subscribed = is.subscribed; source = is.source; stored = is.stored; copied = is.copied; owned = is.owned; counted = is.counted }) (retries h) (copies h l))
    (record { consumer = consumer; subscribed = a.registered; source = source; stored = a.stored; copied = copy_of retry source a.copied; owned = ap Event.ev_owner a.copied; counted = ap Event.ev_retry a.copied })
copies _ (next {h = h} {mark = mark} l (returns below retry t moment same back due)) =
    all-left (IsRetry (mark ∷ h)) (λ w. not (is_event retry.sub retry.event.ev_id w)) (retries h)
    (All-weaker (IsRetry h) (λ r. not (is_event retry.sub retry.event.ev_id r) ≡ true → IsRetry (mark ∷ h) r)
    (λ r is _. record { consumer = is.consumer; subscribed = is.subscribed; source = is.source; stored = is.stored; copied = is.copied; owned = is.owned; counted = is.counted }) (retries h) (copies h l))
copies _ (next {h = h} {mark = mark} l (registers q name sub tick i new f g low few)) =
    All-weaker (IsRetry h) (IsRetry (mark ∷ h)) (λ r is. record {
      consumer = is.consumer;
      subscribed = by_test (λ b. (q == r.queue && bytes_eq is.consumer name) ≡ b → (if b then Some sub else subscription_id r.queue is.consumer h) ≡ Some r.sub) (q == r.queue && bytes_eq is.consumer name)
          (λ _ test. let both = and_parts (q == r.queue) (bytes_eq is.consumer name) test in
          absurd (cc (sym is.subscribed ∙ (λ i. subscription_id (sym (eqb-true q r.queue both.0) i) (same_name is.consumer name both.1 i) h) ∙ new)))
          (λ _ _. is.subscribed) refl;
      source = is.source;
      stored = is.stored;
      copied = is.copied;
      owned = is.owned;
      counted = is.counted;
    }) (retries h) (copies h l)
copies _ (next {h = h} {mark = mark} l (unregisters q name sub i has)) =
    all-left (IsRetry (mark ∷ h)) (λ w. not (is_of sub w)) (retries h)
    (All-weaker (IsRetry h) (λ r. not (is_of sub r) ≡ true → IsRetry (mark ∷ h) r) (λ r is other. record {
      consumer = is.consumer;
      subscribed = by_test (λ b. (q == r.queue && bytes_eq is.consumer name) ≡ b → (if b then None else subscription_id r.queue is.consumer h) ≡ Some r.sub) (q == r.queue && bytes_eq is.consumer name)
          (λ _ test. let both = and_parts (q == r.queue) (bytes_eq is.consumer name) test in
          let own : Some r.sub ≡ Some sub = sym is.subscribed ∙ (λ i. subscription_id (sym (eqb-true q r.queue both.0) i) (same_name is.consumer name both.1 i) h) ∙ has in
          let same : r.sub ≡ sub = cc in
          absurd (grind (arith, nat_tests, same, other)))
          (λ _ _. is.subscribed) refl;
      source = is.source;
      stored = is.stored;
      copied = is.copied;
      owned = is.owned;
      counted = is.counted;
    }) (retries h) (copies h l))
copies _ (next {h = h} {mark = mark} l _) =
    All-weaker (IsRetry h) (IsRetry (mark ∷ h)) (λ r is. record { consumer = is.consumer; subscribed = is.subscribed; source = is.source; stored = is.stored; copied = is.copied; owned = is.owned; counted = is.counted }) (retries h) (copies h l)

-- the event of one that waits has an owner
pub owned : (h : History) → Legal h → (retry : Retry) → Contains (retries h) retry → retry.event.ev_owner ≡ Some retry.sub
owned h l retry (k, less, is) =
    let copy : IsRetry h retry = subst (IsRetry h) is (copies h l k retry less) in copy.owned

-- ---- at most one of an event

-- no more items pass a test after a filter than before it
pub filter-less : {X : Type 0} (p q : X → Bool) (xs : List X) → length (filter p (filter q xs)) ≤ length (filter p xs)
filter-less p q [] = omega arith
filter-less p q (x ∷ xs) = let rest = filter-less p q xs in grind (arith, rest)

-- if no item passes, a filter leaves none
none-pass : {X : Type 0} (p : X → Bool) (xs : List X) → list_any p xs ≡ false → filter p xs ≡ []
none-pass p [] none = refl
none-pass p (x ∷ xs) none = grind (arith, none-pass p xs, none)

-- one that is asked for is the only one, if none was
asked-once : (sub id : ℕ) (all : List Retry) (retry : Retry) → length (filter (is_event sub id) all) ≤ 1 → is_asked retry.sub retry.event.ev_id all ≡ false
    → length (filter (is_event sub id) (all ++ retry ∷ [])) ≤ 1
asked-once sub id all retry once fresh =
    subst (λ n. n ≤ 1) (sym (ap length (filter-append (is_event sub id) all (retry ∷ [])) ∙ length-append (filter (is_event sub id) all) (filter (is_event sub id) (retry ∷ []))))
    (by_test (λ b. is_event sub id retry ≡ b → length (filter (is_event sub id) all) + length (if b then retry ∷ [] else []) ≤ 1) (is_event sub id retry)
    (λ _ is. let both = and_parts (retry.sub == sub) (retry.event.ev_id == id) is in
    let none : filter (is_event sub id) all ≡ [] = none-pass (is_event sub id) all
    ((λ i. is_asked (sym (eqb-true retry.sub sub both.0) i) (sym (eqb-true retry.event.ev_id id both.1) i) all) ∙ fresh) in
    omega (arith, ap length none)) (λ _ _. omega (arith, once)) refl)

pub once : (h : History) → Legal h → (sub id : ℕ) → length (filter (is_event sub id) (retries h)) ≤ 1
once [] start sub id = omega arith
once _ (next {h = h} l (asks consumer source retry a)) sub id = asked-once sub id (retries h) retry (once h l sub id) a.fresh
once _ (next {h = h} l (returns below retry t moment same back due)) sub id =
    let fewer = filter-less (is_event sub id) (λ w. not (is_event retry.sub retry.event.ev_id w)) (retries h) in
    let all = once h l sub id in omega (arith, fewer, all)
once _ (next {h = h} l (unregisters q name gone i has)) sub id =
    let fewer = filter-less (is_event sub id) (λ w. not (is_of gone w)) (retries h) in
    let all = once h l sub id in omega (arith, fewer, all)
once _ (next {h = h} l _) sub id = once h l sub id
