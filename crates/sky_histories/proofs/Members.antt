-- The consumers of a queue are those that have a subscription there.
use Rattle.std.proofs.Common.{◌≡◌, ℕ, List, [], ◌∷◌, not, ◌&&◌, ◌||◌, bytes_eq, is_some, refl, ◌∙◌, ap, arith}
use Rattle.std.specs.List.{list_any}
use Rattle.std.proofs.lemmas.List.Folds.{list_any-append}
use Rattle.sky_names.proofs.PlaceLemmas.{bytes_eq_sym, same_name}
use Rattle.londiste_state.specs.Nodes.{all_but}
use Rattle.sky_model.specs.History.{queued, registered, unregistered, History}
use Rattle.sky_model.specs.Consumers.{consumers, subscription_id}
use Rattle.sky_model.proofs.Cases.{by_test}

-- a name is among the others than another one if it is among all, and is another
among-all_but : (name consumer : List ℕ) (names : List (List ℕ))
    → list_any (λ n. bytes_eq consumer n) (all_but name names) ≡ (not (bytes_eq consumer name) && list_any (λ n. bytes_eq consumer n) names)
among-all_but name consumer [] = grind arith
among-all_but name consumer (n ∷ names) =
    by_test (λ x. bytes_eq consumer n ≡ x → list_any (λ n. bytes_eq consumer n) (all_but name (n ∷ names)) ≡ (not (bytes_eq consumer name) && (x || list_any (λ n. bytes_eq consumer n) names)))
    (bytes_eq consumer n)
    (λ _ is. let same : consumer ≡ n = same_name consumer n is in
    let test : bytes_eq consumer name ≡ bytes_eq name n = ap (λ m. bytes_eq m name) same ∙ bytes_eq_sym n name in
    grind (arith, among-all_but name consumer names, test, is))
    (λ _ other. grind (arith, among-all_but name consumer names, other)) refl

pub among-consumers : (h : History) (q : ℕ) (consumer : List ℕ) → list_any (λ n. bytes_eq consumer n) (consumers q h) ≡ is_some (subscription_id q consumer h)
among-consumers [] q consumer = refl
among-consumers (queued (registered p name sub tick) ∷ h) q consumer =
    grind (arith, list_any-append (λ n. bytes_eq consumer n) (consumers q h) (name ∷ []), among-consumers h q consumer)
among-consumers (queued (unregistered p name sub) ∷ h) q consumer =
    grind (arith, among-all_but name consumer (consumers q h), among-consumers h q consumer)
among-consumers (_ ∷ h) q consumer = among-consumers h q consumer
