-- An active batch is its consumer's, begins at the consumer's position and closes at the next tick.
use Rattle.std.proofs.Common.{◌≡◌, ℕ, ◌+◌, List, [], ◌∷◌, Bool, true, false, ◌&&◌, ◌==◌, Option, Some, None, unwrap_or, option_map, is_some, bytes_eq, refl, sym, ◌∙◌, ap, subst, arith, if◌then◌else◌}
use Rattle.std.proofs.lemmas.Bool.{and_parts, or_right}
use Rattle.std.proofs.lemmas.Bool.Decides.{nat_tests}
use Rattle.sky_names.proofs.PlaceLemmas.{bytes_eq_refl, same_name}
use Rattle.sky_model.specs.History.{Batch, History}
use Rattle.sky_model.specs.Queues.{queues_made, Tick, tick, ticks}
use Rattle.sky_model.specs.Consumers.{subscription_id, position, active, Subscription, of_another, active_batch}
use Rattle.sky_histories.proofs.Legal.{Opens, makes, ticks_next, registers, moves, unregisters, opens, closes, Legal, start, next}
use Rattle.sky_histories.proofs.TickOrder.{is_made, is_made-tick}
use Rattle.sky_model.proofs.Cases.{by_test, by_same}

-- what is read of a consumer is the same if the queue and the name are
pub same_consumer : {A : Type 0} (read : ℕ → List ℕ → A) (q queue : ℕ) (name consumer : List ℕ)
    → (q == queue && bytes_eq consumer name) ≡ true → read queue consumer ≡ read q name
same_consumer read q queue name consumer e =
    let parts : ((q == queue) ≡ true) × (bytes_eq consumer name ≡ true) = and_parts (q == queue) (bytes_eq consumer name) e in
    let test : (q == queue) ≡ true = parts.0 in
    let same : queue ≡ q = grind (arith, nat_tests) in
    let one : consumer ≡ name = same_name consumer name parts.1 in
    λ i. read (same i) (one i)

itself : (q : ℕ) (name : List ℕ) → (q == q && bytes_eq name name) ≡ true
itself q name =
    let same : (q == q) ≡ true = grind (arith, nat_tests) in
    λ i. same i && bytes_eq_refl name i

-- the parts of a subscription
subscription_parts : (id : Option ℕ) (position : ℕ) (active : Option ℕ) (s : Subscription)
    → option_map (λ n. record { id = n; position = position; active = active }) id ≡ Some s
    → (id ≡ Some s.id) × (position ≡ s.position) × (active ≡ s.active)
subscription_parts None position active s e = absurd (cc)
subscription_parts (Some n) position active s e =
    let one : record { id = n; position = position; active = active } ≡ s = ap (λ o. unwrap_or o s) e in
    (ap (λ (x : Subscription). Some x.id) one, ap Subscription.position one, ap Subscription.active one)

tick-id : (id : ℕ) (ts : List Tick) (t : Tick) → tick id ts ≡ Some t → t.id ≡ id
tick-id id [] t e = absurd (cc)
tick-id id (u ∷ ts) t e = grind (arith, nat_tests, tick-id id ts t)

-- a batch that isn't given up was there, and isn't the consumer's
pub of_another-is : (q : ℕ) (name : List ℕ) (o : Option Batch) (b : Batch) → of_another q name o ≡ Some b
    → (o ≡ Some b) × ((q == b.queue && bytes_eq b.consumer name) ≡ false)
of_another-is q name None b is = absurd (cc)
of_another-is q name (Some c) b is =
    by_test (λ x. (q == c.queue && bytes_eq c.consumer name) ≡ x → (if x then None else Some c) ≡ Some b → (Some c ≡ Some b) × ((q == b.queue && bytes_eq b.consumer name) ≡ false))
    (q == c.queue && bytes_eq c.consumer name) (λ _ _ is. absurd (cc))
    (λ _ other is. (is, ap (λ o. q == (unwrap_or o c).queue && bytes_eq (unwrap_or o c).consumer name) (sym is) ∙ other)) refl is

-- what an active batch is, by what is read of its consumer
pub record IsActiveFor (sub : Option ℕ) (active : Option ℕ) (position : ℕ) (made : Bool) (id : ℕ) (b : Batch) : Type 0 where
  pub named : b.id ≡ id
  pub owned : sub ≡ Some b.sub
  pub alone : active ≡ Some b.id
  pub begins : position ≡ b.prev
  pub ends : b.cur ≡ b.prev + 1
  pub closing : made ≡ true

abbrev pub IsActive : History → ℕ → Batch → Type 0
IsActive h id b = IsActiveFor (subscription_id b.queue b.consumer h) (active b.queue b.consumer h) (position b.queue b.consumer h) (is_made b.queue b.cur h) id b

new_batch : (h : History) (b : Batch) → Opens h b
    → IsActiveFor (subscription_id b.queue b.consumer h) (if b.queue == b.queue && bytes_eq b.consumer b.consumer then Some b.id else active b.queue b.consumer h)
    (position b.queue b.consumer h) (is_made b.queue b.cur h) b.id b
new_batch h b o =
    let parts = subscription_parts (subscription_id b.queue b.consumer h) (position b.queue b.consumer h) (active b.queue b.consumer h) _ o.stands in
    let after : b.cur ≡ b.prev + 1 = o.to ∙ tick-id (b.prev + 1) (ticks b.queue h) o.closing o.made in
    record {
      named = refl;
      owned = parts.0;
      alone = ap (λ c. if c then Some b.id else active b.queue b.consumer h) (itself b.queue b.consumer);
      begins = parts.1;
      ends = after;
      closing = sym (is_made-tick h b.queue b.cur) ∙ ap (λ n. is_some (tick n (ticks b.queue h))) after ∙ ap is_some o.made;
    }

pub active_batches : (h : History) → Legal h → (id : ℕ) (b : Batch) → active_batch id h ≡ Some b → IsActive h id b
active_batches [] start id b is = absurd (cc)
active_batches _ (next {h = h} l (makes name t time new)) id b is =
    let a : IsActive h id b = active_batches h l id b is in
    record { named = a.named; owned = a.owned; alone = a.alone; begins = a.begins; ends = a.ends; closing = or_right (queues_made h == b.queue && 1 == b.cur) (is_made b.queue b.cur h) a.closing }
active_batches _ (next {h = h} l (ticks_next p m time seq i e c)) id b is =
    let a : IsActive h id b = active_batches h l id b is in
    record { named = a.named; owned = a.owned; alone = a.alone; begins = a.begins; ends = a.ends; closing = or_right (p == b.queue && m == b.cur) (is_made b.queue b.cur h) a.closing }
active_batches _ (next {h = h} l (registers p name sub t i none f g low few)) id b is =
    let a : IsActive h id b = active_batches h l id b is in
    by_test (λ x. IsActiveFor (if x then Some sub else subscription_id b.queue b.consumer h) (if x then None else active b.queue b.consumer h) (if x then t else position b.queue b.consumer h) (is_made b.queue b.cur h) id b)
    (p == b.queue && bytes_eq b.consumer name) (λ test. absurd (cc (sym a.owned ∙ same_consumer (λ q c. subscription_id q c h) p b.queue name b.consumer test ∙ none))) (λ _. a)
active_batches _ (next {h = h} l (moves p name sub t i has least most low)) id b is =
    let stays = of_another-is p name (active_batch id h) b is in
    subst (λ x. IsActiveFor (subscription_id b.queue b.consumer h) (if x then None else active b.queue b.consumer h) (if x then t else position b.queue b.consumer h) (is_made b.queue b.cur h) id b)
    (sym stays.1) (active_batches h l id b stays.0)
active_batches _ (next {h = h} l (unregisters p name sub i has)) id b is =
    let stays = of_another-is p name (active_batch id h) b is in
    subst (λ x. IsActiveFor (if x then None else subscription_id b.queue b.consumer h) (if x then None else active b.queue b.consumer h) (if x then 0 else position b.queue b.consumer h) (is_made b.queue b.cur h) id b)
    (sym stays.1) (active_batches h l id b stays.0)
active_batches _ (next {h = h} l (opens new o)) id b is =
    by_same (λ x. (if x then Some new else active_batch id h) ≡ Some b → Now b) new.id id opened_now (λ _ is. old (active_batches h l id b is)) is
  where
    Now : Batch → Type 0
    Now b = IsActiveFor (subscription_id b.queue b.consumer h) (if new.queue == b.queue && bytes_eq b.consumer new.consumer then Some new.id else active b.queue b.consumer h)
        (position b.queue b.consumer h) (is_made b.queue b.cur h) id b

    old : IsActive h id b → Now b
    old a =
        let parts = subscription_parts (subscription_id new.queue new.consumer h) (position new.queue new.consumer h) (active new.queue new.consumer h) _ o.stands in
        by_test (λ x. IsActiveFor (subscription_id b.queue b.consumer h) (if x then Some new.id else active b.queue b.consumer h) (position b.queue b.consumer h) (is_made b.queue b.cur h) id b)
        (new.queue == b.queue && bytes_eq b.consumer new.consumer) (λ test. absurd (cc (sym a.alone ∙ same_consumer (λ q c. active q c h) new.queue b.queue new.consumer b.consumer test ∙ parts.2))) (λ _. a)

    opened_now : new.id ≡ id → Some new ≡ Some b → Now b
    opened_now same is =
        let fresh = new_batch h new o in
        subst Now (ap (λ o. unwrap_or o new) is) (record { named = same; owned = fresh.owned; alone = fresh.alone; begins = fresh.begins; ends = fresh.ends; closing = fresh.closing })
active_batches _ (next {h = h} l (closes last e)) id b is =
    let c : IsActive h last.id last = active_batches h l last.id last e in
    by_test (λ x. (if x then None else active_batch id h) ≡ Some b
    → IsActiveFor (subscription_id b.queue b.consumer h) (if last.queue == b.queue && bytes_eq b.consumer last.consumer then None else active b.queue b.consumer h)
    (if last.queue == b.queue && bytes_eq b.consumer last.consumer then last.cur else position b.queue b.consumer h) (is_made b.queue b.cur h) id b) (last.id == id) (λ _ is. absurd (cc))
    (λ other is.
    let a : IsActive h id b = active_batches h l id b is in
    by_test (λ x. IsActiveFor (subscription_id b.queue b.consumer h) (if x then None else active b.queue b.consumer h) (if x then last.cur else position b.queue b.consumer h) (is_made b.queue b.cur h) id b)
    (last.queue == b.queue && bytes_eq b.consumer last.consumer)
    (λ test.
    let both : Some b.id ≡ Some last.id = sym a.alone ∙ same_consumer (λ q n. active q n h) last.queue b.queue last.consumer b.consumer test ∙ c.alone in
    let one : b.id ≡ last.id = ap (λ o. unwrap_or o b.id) both in
    let named : b.id ≡ id = a.named in
    absurd (grind (arith, nat_tests))) (λ _. a)) is
active_batches _ (next {h = h} l _) id b is = active_batches h l id b is
