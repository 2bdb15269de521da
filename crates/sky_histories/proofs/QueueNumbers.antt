-- The numbers of the queues that stand.
use Rattle.std.proofs.Common.{◌≡◌, ℕ, ◌+◌, ◌<◌, List, [], ◌∷◌, ◌++◌, false, ◌||◌, ◌==◌, cond, Some, option_map, bytes_eq, refl, sym, ◌∙◌, ap, arith}
use Rattle.std.specs.List.{list_any}
use Rattle.std.proofs.lemmas.Bool.Decides.{nat_tests}
use Rattle.std.proofs.lemmas.List.Folds.{list_any-append}
use Rattle.sky_names.specs.Places.{named}
use Rattle.sky_model.specs.History.{queued, made, dropped, History}
use Rattle.sky_model.specs.Queues.{NamedQueue, queues_made, queues, others_than, queue_number}
use Rattle.sky_histories.proofs.Legal.{IsAmong, IsQueue}
use Rattle.std.proofs.lemmas.Bool.{eq-eqb, or_right}
use Rattle.sky_model.proofs.Cases.{by_test}

-- a queue that is found by its name is among them
pub among-number : (name : List ℕ) (queues : List NamedQueue) (q : ℕ) → queue_number name queues ≡ Some q → IsAmong q queues
among-number name [] q is = absurd (cc)
among-number name (x ∷ xs) q is =
    by_test (λ b. option_map NamedQueue.number (cond b (Some x) (named NamedQueue.name name xs)) ≡ Some q → IsAmong q (x ∷ xs)) (bytes_eq name x.name)
    (λ _ e. let same : x.number ≡ q = cc in ap (λ b. b || list_any (λ y. y.number == q) xs) (eq-eqb x.number q same)) (λ _ e. or_right (x.number == q) (list_any (λ y. y.number == q) xs) (among-number name xs q e)) is

-- so is one that was among them before another was made
pub among-before : (queues : List NamedQueue) (last : NamedQueue) (q : ℕ) → IsAmong q queues → IsAmong q (queues ++ last ∷ [])
among-before queues last q is =
    list_any-append (λ x. x.number == q) queues (last ∷ []) ∙ ap (λ b. b || ((last.number == q) || false)) is

-- and that other one
pub among-last : (queues : List NamedQueue) (last : NamedQueue) → IsAmong last.number (queues ++ last ∷ [])
among-last queues last =
    list_any-append (λ x. x.number == last.number) queues (last ∷ []) ∙ or_right (list_any (λ x. x.number == last.number) queues) (last.number == last.number || false) (ap (λ b. b || false) (eq-eqb last.number last.number refl))

-- one that is among the others than a queue is among all, and isn't that one
pub others-among : (p : ℕ) (queues : List NamedQueue) (q : ℕ) → IsAmong q (others_than p queues) → IsAmong q queues
others-among p [] q is = absurd (cc)
others-among p (x ∷ xs) q is = grind (arith, nat_tests, others-among p xs q, is)

pub others-apart : (p : ℕ) (queues : List NamedQueue) (q : ℕ) → IsAmong q (others_than p queues) → (p == q) ≡ false
others-apart p [] q is = absurd (cc)
others-apart p (x ∷ xs) q is = grind (arith, nat_tests, others-apart p xs q, is)

-- and one that is among all and isn't that one is among the others
pub among-others : (p : ℕ) (queues : List NamedQueue) (q : ℕ) → IsAmong q queues → (q == p) ≡ false → IsAmong q (others_than p queues)
among-others p [] q is other = absurd (cc)
among-others p (x ∷ xs) q is other = grind (arith, nat_tests, among-others p xs q, is, other)

-- a queue that stands was made: its number is below the next one's
pub queue-below : (h : History) (q : ℕ) → IsQueue h q → q < queues_made h
queue-below [] q is = absurd (cc)
queue-below (queued (made name t time) ∷ h) q is =
    let either = sym (list_any-append (λ x. x.number == q) (queues h) (record { number = queues_made h; name = name } ∷ [])) ∙ is in
    by_test (λ _. q < queues_made h + 1) (list_any (λ x. x.number == q) (queues h)) (λ there. omega (arith, queue-below h q there)) (λ none. grind (arith, nat_tests, either))
queue-below (queued (dropped p) ∷ h) q is = queue-below h q (others-among p (queues h) q is)
queue-below (_ ∷ h) q is = queue-below h q is
