-- Each subscription has an id of its own, which is given once.
use Rattle.std.proofs.Common.{◌≡◌, ℕ, ◌<◌, ◌≤◌, List, [], ◌∷◌, ◌&&◌, ◌==◌, bytes_eq, Some, None, refl, sym, ◌∙◌, arith, if◌then◌else◌}
use Rattle.std.proofs.lemmas.Bool.{eqb-true, and_parts}
use Rattle.sky_names.proofs.PlaceLemmas.{same_name}
use Rattle.sky_model.specs.History.{queued, registered, History}
use Rattle.sky_model.specs.Consumers.{subscription_id, last_subscription}
use Rattle.sky_model.specs.LawsOfBatches.{SubscriptionsAreDistinct, SubscriptionsAreGiven, SubscriptionsAreNew}
use Rattle.sky_histories.proofs.Legal.{Fine, registers, unregisters, Legal, start, next, fine_mark}
use Rattle.sky_histories.proofs.SnapshotLaws.{legal_place}
use Rattle.sky_model.proofs.Cases.{by_test}

-- the ids in use were given
pub given : (h : History) → Legal h → (q : ℕ) (consumer : List ℕ) (sub : ℕ) → subscription_id q consumer h ≡ Some sub → sub ≤ last_subscription h
given [] start q consumer sub is = absurd (cc)
given _ (next {h = h} l (registers p name s tick i none f g low few)) q consumer sub is =
    by_test (λ b. (if b then Some s else subscription_id q consumer h) ≡ Some sub → sub ≤ s) (p == q && bytes_eq consumer name)
    (λ _ is. let same : s ≡ sub = cc in omega (arith, same)) (λ _ is. let below = given h l q consumer sub is in omega (arith, below, f)) is
given _ (next {h = h} l (unregisters p name s i has)) q consumer sub is =
    by_test (λ b. (if b then None else subscription_id q consumer h) ≡ Some sub → sub ≤ last_subscription h) (p == q && bytes_eq consumer name)
    (λ _ is. absurd (cc)) (λ _ is. given h l q consumer sub is) is
given _ (next {h = h} l _) q consumer sub is = given h l q consumer sub is

-- no two consumers have one, be they of one queue or of two
distinct : (h : History) → Legal h → (q r : ℕ) (c d : List ℕ) (sub : ℕ) → subscription_id q c h ≡ Some sub → subscription_id r d h ≡ Some sub → (q ≡ r) × (c ≡ d)
distinct [] start q r c d sub one other = absurd (cc)
distinct _ (next {h = h} l (registers p name s tick i none f g low few)) q r c d sub one other =
    by_test (λ b. (p == q && bytes_eq c name) ≡ b → (if b then Some s else subscription_id q c h) ≡ Some sub → (q ≡ r) × (c ≡ d)) (p == q && bytes_eq c name)
    (λ _ here one. by_test (λ b. (p == r && bytes_eq d name) ≡ b → (if b then Some s else subscription_id r d h) ≡ Some sub → (q ≡ r) × (c ≡ d)) (p == r && bytes_eq d name)
    (λ _ there _.
    let both = and_parts (p == q) (bytes_eq c name) here in
    let also = and_parts (p == r) (bytes_eq d name) there in
    (sym (eqb-true p q both.0) ∙ eqb-true p r also.0, same_name c name both.1 ∙ sym (same_name d name also.1)))
    (λ _ _ other. let same : s ≡ sub = cc in let below = given h l r d sub other in absurd (omega (arith, same, below, f))) refl other)
    (λ _ _ one. by_test (λ b. (if b then Some s else subscription_id r d h) ≡ Some sub → (q ≡ r) × (c ≡ d)) (p == r && bytes_eq d name)
    (λ _ other. let same : s ≡ sub = cc in let below = given h l q c sub one in absurd (omega (arith, same, below, f)))
    (λ _ other. distinct h l q r c d sub one other) other) refl one
distinct _ (next {h = h} l (unregisters p name s i has)) q r c d sub one other =
    by_test (λ b. (if b then None else subscription_id q c h) ≡ Some sub → (q ≡ r) × (c ≡ d)) (p == q && bytes_eq c name) (λ _ one. absurd (cc))
    (λ _ one. by_test (λ b. (if b then None else subscription_id r d h) ≡ Some sub → (q ≡ r) × (c ≡ d)) (p == r && bytes_eq d name) (λ _ other. absurd (cc))
    (λ _ other. distinct h l q r c d sub one other) other) one
distinct _ (next {h = h} l _) q r c d sub one other = distinct h l q r c d sub one other

pub subscriptions_are_distinct : SubscriptionsAreDistinct
subscriptions_are_distinct p is q r c d sub one other = distinct p (legal_place p is) q r c d sub one other

pub subscriptions_are_given : SubscriptionsAreGiven
subscriptions_are_given p is q consumer sub has = given p (legal_place p is) q consumer sub has

newer : {p : History} {q : ℕ} {consumer : List ℕ} {sub tick : ℕ} → Fine p (queued (registered q consumer sub tick)) → last_subscription p < sub
newer (registers q name sub tick i none f g low few) = f

pub subscriptions_are_new : SubscriptionsAreNew
subscriptions_are_new p q consumer sub tick is = newer (fine_mark (legal_place (queued (registered q consumer sub tick) ∷ p) is))
