-- A batch lists at most one event of an id and a transaction: a session's event has an id that no other one had, and a worker puts an event for a
-- subscription once.
use Rattle.std.proofs.Common.{◌≡◌, ℕ, ◌+◌, ◌<◌, ◌≤◌, List, [], ◌∷◌, ◌++◌, Bool, true, false, not, ◌&&◌, ◌==◌, All, length, filter, refl, sym, ◌∙◌, subst, arith, if◌then◌else◌}
use Rattle.std.proofs.lemmas.Bool.{eqb-true, and_parts}
use Rattle.std.proofs.lemmas.Bool.Decides.{nat_tests}
use Rattle.std.proofs.lemmas.List.Elements.{All-head, All-tail}
use Rattle.sky_val.specs.declared.event.Event.{Event}
use Rattle.pgq_tables.specs.Listed.{is_for}
use Rattle.pgq_tables.specs.ById.{with_id}
use Rattle.sky_model.specs.History.{Batch, History}
use Rattle.sky_model.specs.Transactions.{has_committed}
use Rattle.sky_model.specs.Queues.{events, at_tick}
use Rattle.sky_model.specs.Retries.{brought_by}
use Rattle.sky_model.specs.LawsOfBatches.{stands_in}
use Rattle.sky_model.specs.LawsOfRetries.{EventsComeOnce}
use Rattle.sky_histories.proofs.Legal.{puts, puts_back, Legal, start, next}
use Rattle.sky_histories.proofs.SnapshotLaws.{legal_place}
use Rattle.sky_laws.proofs.OrderById.{equal_ids_stay}
use Rattle.sky_laws.proofs.RetriesListed.{calm-below, calm_place}
use Rattle.sky_histories.proofs.WorkersRest.{Calm, is_hit, hits, hits-push}
use Rattle.sky_model.proofs.Cases.{by_test}

-- with one more event
with_one : (p q sub id t : ℕ) (es : List Event) (event : Event) → hits sub id t es ≤ 1
    → (p ≡ q → event.ev_id ≡ id → event.ev_txid ≡ t → is_for sub event.ev_owner ≡ true → hits sub id t es ≡ 0)
    → hits sub id t (if p == q then es ++ event ∷ [] else es) ≤ 1
with_one p q sub id t es event few none =
    by_test (λ b. (p == q) ≡ b → hits sub id t (if b then es ++ event ∷ [] else es) ≤ 1) (p == q) (λ _ here. pushed (eqb-true p q here)) (λ _ _. few) refl
  where
    by : p ≡ q → (b : Bool) → is_hit sub id t event ≡ b → hits sub id t es + (if b then 1 else 0) ≤ 1
    by here true is =
        let outer = and_parts (event.ev_txid == t && event.ev_id == id) (is_for sub event.ev_owner) is in
        let inner = and_parts (event.ev_txid == t) (event.ev_id == id) outer.0 in
        let zero = none here (eqb-true event.ev_id id inner.1) (eqb-true event.ev_txid t inner.0) outer.1 in omega (arith, zero)
    by here false is = omega (arith, few)

    pushed : p ≡ q → hits sub id t (es ++ event ∷ []) ≤ 1
    pushed here = subst (λ n. n ≤ 1) (sym (hits-push sub id t es event)) (by here (is_hit sub id t event) refl)

-- no event has an id above all
none-above : (id : ℕ) (es : List Event) → All (λ e. e.ev_id < id) es → (sub t : ℕ) → hits sub id t es ≡ 0
none-above id [] all sub t = refl
none-above id (e ∷ es) all sub t =
    let less : e.ev_id < id = All-head (λ e. e.ev_id < id) e es all in
    let ih = none-above id es (All-tail (λ e. e.ev_id < id) e es all) sub t in
    grind (arith, nat_tests, less, ih)

hit_once : (h : History) → Legal h → Calm h → (q sub id t : ℕ) → hits sub id t (events q h) ≤ 1
hit_once [] start c q sub id t = omega arith
hit_once _ (next {h = h} l (puts who p event i at mine newest)) c q sub id t =
    with_one p q sub id t (events q h) event (hit_once h l c.1 q sub id t)
    (λ here same _ _. none-above id (events q h) (subst (λ n. All (λ e. e.ev_id < n) (events q h)) same (subst (λ n. All (λ e. e.ev_id < event.ev_id) (events n h)) here newest)) sub t)
hit_once _ (next {h = h} l (puts_back retry u back)) c q sub id t =
    with_one retry.queue q sub id t (events q h) (brought_by u retry.event) (hit_once h l c.1 q sub id t)
    (λ here same by is. (λ i. hits sub (sym same i) (sym by i) (events (sym here i) h)) ∙ c.0 back.brief sub is)
hit_once _ (next {h = h} {mark = mark} l _) c q sub id t = hit_once h l (calm-below (mark ∷ []) h c) q sub id t

-- what a batch lists is for its subscription
listed-hits : (h : History) (b : Batch) (id t : ℕ) (es : List Event) → length (filter (λ e. e.ev_txid == t) (with_id id (filter (stands_in h b) es))) ≤ hits b.sub id t es
listed-hits h b id t [] = omega arith
listed-hits h b id t (x ∷ es) =
    let ih = listed-hits h b id t es in
    by_test (λ s. stands_in h b x ≡ s → length (filter (λ e. e.ev_txid == t) (with_id id (if s then x ∷ filter (stands_in h b) es else filter (stands_in h b) es))) ≤ hits b.sub id t (x ∷ es)) (stands_in h b x)
    (λ _ is. let own : is_for b.sub x.ev_owner ≡ true = is_own is in grind (arith, ih, own)) (λ _ _. grind (arith, ih)) refl
  where
    is_own : stands_in h b x ≡ true → is_for b.sub x.ev_owner ≡ true
    is_own is =
        (and_parts (has_committed (at_tick b.queue b.cur h) x.ev_txid && not (has_committed (at_tick b.queue b.prev h) x.ev_txid)) (is_for b.sub x.ev_owner) is).1

pub events_come_once : EventsComeOnce
events_come_once p is b id t =
    let most = hit_once p (legal_place p is) (calm_place p is) b.queue b.sub id t in
    let less = listed-hits p b id t (events b.queue p) in
    subst (λ xs. length (filter (λ e. e.ev_txid == t) xs) ≤ 1) (sym (equal_ids_stay (filter (stands_in p b) (events b.queue p)) id)) (omega (arith, most, less))
