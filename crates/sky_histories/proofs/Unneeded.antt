-- What doesn't exist if nothing refuses that a queue is dropped: a consumer of it, a trigger into it, and an event of a running transaction in it.
use Rattle.std.proofs.Common.{◌≡◌, ℕ, Bool, List, [], ◌∷◌, false, not, ◌==◌, All, length, find, Option, Some, None, is_some, bytes_eq, option_map, refl, arith, if◌then◌else◌}
use Rattle.std.specs.List.{list_any}
use Rattle.std.proofs.lemmas.Bool.Decides.{nat_tests}
use Rattle.std.proofs.lemmas.List.Elements.{All-nil, All-cons}
use Rattle.sky_model.specs.declared.reply.Refusal.TheVariants.{HasTriggers, QueueBusy}
use Rattle.sky_model.specs.History.{History}
use Rattle.sky_model.specs.Triggers.{TableTrigger}
use Rattle.sky_model.specs.Consumers.{consumers, subscription_id}
use Rattle.sky_model.specs.StepQueue.{first_trigger_into, shown_name}
use Rattle.sky_histories.proofs.Members.{among-consumers}
use Rattle.sky_model.proofs.Cases.{by_test}

-- a queue without consumers has none of any name
pub no-member : (h : History) (q : ℕ) → not (length (consumers q h) == 0) ≡ false → (consumer : List ℕ) → subscription_id q consumer h ≡ None
no-member h q none consumer = of (consumers q h) (subscription_id q consumer h) none (among-consumers h q consumer)
  where
    of : (names : List (List ℕ)) (o : Option ℕ) → not (length names == 0) ≡ false → list_any (λ n. bytes_eq consumer n) names ≡ is_some o → o ≡ None
    of [] None none is = refl
    of [] (Some sub) none is = absurd (cc)
    of (name ∷ names) o none is = absurd (grind (arith, nat_tests, none))

-- triggers of which none is the first into a queue are all into others
pub none-into : (q : ℕ) (triggers : List TableTrigger) → option_map (λ t. HasTriggers (shown_name t)) (first_trigger_into q triggers) ≡ None → All (λ t. (t.trigger.queue == q) ≡ false) triggers
none-into q [] none = All-nil (λ (t : TableTrigger). (t.trigger.queue == q) ≡ false)
none-into q (t ∷ ts) none =
    by_test (λ b. (t.trigger.queue == q) ≡ b → option_map (λ t. HasTriggers (shown_name t)) (if b then Some t else first_trigger_into q ts) ≡ None → All (λ t. (t.trigger.queue == q) ≡ false) (t ∷ ts)) (t.trigger.queue == q)
    (λ _ is none. absurd (cc)) (λ _ is none. All-cons (λ (t : TableTrigger). (t.trigger.queue == q) ≡ false) t ts is (none-into q ts none)) refl none

-- tables of which no running transaction has a part
pub none-put : (has : ℕ → Bool) (ts : List ℕ) → option_map QueueBusy (find has ts) ≡ None → All (λ t. has t ≡ false) ts
none-put has [] none = All-nil (λ t. has t ≡ false)
none-put has (t ∷ ts) none =
    by_test (λ b. has t ≡ b → option_map QueueBusy (if b then Some t else find has ts) ≡ None → All (λ t. has t ≡ false) (t ∷ ts)) (has t)
    (λ _ is none. absurd (cc)) (λ _ is none. All-cons (λ t. has t ≡ false) t ts is (none-put has ts none)) refl none
