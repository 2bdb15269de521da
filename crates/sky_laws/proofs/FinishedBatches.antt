-- The batches that a consumer has finished since its life began lead from the tick where it began to its position.
use Rattle.sky_model.specs.Queues.{queues_made}
use Rattle.std.proofs.Common.{◌≡◌, ℕ, ◌+◌, List, [], ◌∷◌, ◌++◌, Bool, true, ◌&&◌, ◌||◌, ◌==◌, Option, Some, None, bytes_eq, refl, sym, ◌∙◌, subst, if◌then◌else◌}
use Rattle.std.proofs.lemmas.Bool.{or_right}
use Rattle.sky_model.specs.History.{Batch, History}
use Rattle.sky_model.specs.Consumers.{subscription_id, position}
use Rattle.sky_model.specs.LawsOfBatches.{first_tick, finished, Lead, BatchesAreConsecutive}
use Rattle.sky_histories.proofs.Legal.{makes, ticks_next, registers, moves, unregisters, closes, Legal, start, next}
use Rattle.sky_histories.proofs.SnapshotLaws.{legal_place}
use Rattle.sky_histories.proofs.TickOrder.{is_made, is_made-tick}
use Rattle.sky_histories.proofs.ActiveBatches.{same_consumer, IsActive, active_batches}
use Rattle.sky_model.proofs.Cases.{by_test}

-- a consumer's batch that begins at a tick and closes at the next one, which is made
pub record Follows (queue : ℕ) (consumer : List ℕ) (sub : Option ℕ) (made : ℕ → Bool) (from : ℕ) (b : Batch) : Type 0 where
  pub within : b.queue ≡ queue
  pub by : b.consumer ≡ consumer
  pub owned : sub ≡ Some b.sub
  pub begins : b.prev ≡ from
  pub ends : b.cur ≡ b.prev + 1
  pub closing : made b.cur ≡ true

-- batches of a consumer lead from a tick to a tick
abbrev pub LeadFor : ℕ → List ℕ → Option ℕ → (ℕ → Bool) → ℕ → List Batch → ℕ → Type 0
LeadFor queue consumer sub made from [] to = from ≡ to
LeadFor queue consumer sub made from (b ∷ bs) to = Follows queue consumer sub made from b × LeadFor queue consumer sub made b.cur bs to

LeadFor-push : (queue : ℕ) (consumer : List ℕ) (sub : Option ℕ) (made : ℕ → Bool) (from : ℕ) (bs : List Batch) (to : ℕ) (b : Batch)
    → LeadFor queue consumer sub made from bs to → Follows queue consumer sub made to b → LeadFor queue consumer sub made from (bs ++ b ∷ []) b.cur
LeadFor-push queue consumer sub made from [] to b lead f = (subst (λ n. Follows queue consumer sub made n b) (sym lead) f, refl)
LeadFor-push queue consumer sub made from (x ∷ xs) to b lead f = (lead.0, LeadFor-push queue consumer sub made x.cur xs to b lead.1 f)

LeadFor-more : (queue : ℕ) (consumer : List ℕ) (sub : Option ℕ) (made more : ℕ → Bool) → ((t : ℕ) → made t ≡ true → more t ≡ true)
    → (from : ℕ) (bs : List Batch) (to : ℕ) → LeadFor queue consumer sub made from bs to → LeadFor queue consumer sub more from bs to
LeadFor-more queue consumer sub made more also from [] to lead = lead
LeadFor-more queue consumer sub made more also from (b ∷ bs) to lead =
    let f : Follows queue consumer sub made from b = lead.0 in (
      record { within = f.within; by = f.by; owned = f.owned; begins = f.begins; ends = f.ends; closing = also b.cur f.closing },
      LeadFor-more queue consumer sub made more also b.cur bs to lead.1,
    )

-- those that a consumer has finished
abbrev pub FinishedLead : History → ℕ → List ℕ → Type 0
FinishedLead h queue consumer =
    LeadFor queue consumer (subscription_id queue consumer h) (λ t. is_made queue t h) (first_tick queue consumer h) (finished queue consumer h) (position queue consumer h)

pub finished_lead : (h : History) → Legal h → (queue : ℕ) (consumer : List ℕ) → FinishedLead h queue consumer
finished_lead [] start queue consumer = refl
finished_lead _ (next {h = h} l (makes name u time new)) queue consumer =
    LeadFor-more queue consumer (subscription_id queue consumer h) (λ t. is_made queue t h) (λ t. (queues_made h == queue && 1 == t) || is_made queue t h)
    (λ t. or_right (queues_made h == queue && 1 == t) (is_made queue t h)) (first_tick queue consumer h) (finished queue consumer h) (position queue consumer h)
    (finished_lead h l queue consumer)
finished_lead _ (next {h = h} l (ticks_next p m time seq i e c)) queue consumer =
    LeadFor-more queue consumer (subscription_id queue consumer h) (λ t. is_made queue t h) (λ t. (p == queue && m == t) || is_made queue t h)
    (λ t. or_right (p == queue && m == t) (is_made queue t h)) (first_tick queue consumer h) (finished queue consumer h) (position queue consumer h)
    (finished_lead h l queue consumer)
finished_lead _ (next {h = h} l (registers p name sub t i none f g low few)) queue consumer =
    by_test (λ x. LeadFor queue consumer (if x then Some sub else subscription_id queue consumer h) (λ t. is_made queue t h)
    (if x then t else first_tick queue consumer h) (if x then [] else finished queue consumer h) (if x then t else position queue consumer h)) (p == queue && bytes_eq consumer name) (λ _. refl) (λ _. finished_lead h l queue consumer)
finished_lead _ (next {h = h} l (moves p name sub t i has least most low)) queue consumer =
    by_test (λ x. LeadFor queue consumer (subscription_id queue consumer h) (λ t. is_made queue t h)
    (if x then t else first_tick queue consumer h) (if x then [] else finished queue consumer h) (if x then t else position queue consumer h)) (p == queue && bytes_eq consumer name) (λ _. refl) (λ _. finished_lead h l queue consumer)
finished_lead _ (next {h = h} l (unregisters p name sub i has)) queue consumer =
    by_test (λ x. LeadFor queue consumer (if x then None else subscription_id queue consumer h) (λ t. is_made queue t h)
    (if x then 0 else first_tick queue consumer h) (if x then [] else finished queue consumer h) (if x then 0 else position queue consumer h)) (p == queue && bytes_eq consumer name) (λ _. refl) (λ _. finished_lead h l queue consumer)
finished_lead _ (next {h = h} l (closes b e)) queue consumer =
    let ih = finished_lead h l queue consumer in
    let a : IsActive h b.id b = active_batches h l b.id b e in
    by_test (λ x. LeadFor queue consumer (subscription_id queue consumer h) (λ t. is_made queue t h) (first_tick queue consumer h)
    (if x then finished queue consumer h ++ b ∷ [] else finished queue consumer h) (if x then b.cur else position queue consumer h)) (b.queue == queue && bytes_eq consumer b.consumer)
    (λ test. LeadFor-push queue consumer (subscription_id queue consumer h) (λ t. is_made queue t h) (first_tick queue consumer h) (finished queue consumer h) (position queue consumer h) b ih (record {
      within = sym (same_consumer (λ q c. q) b.queue queue b.consumer consumer test);
      by = sym (same_consumer (λ q c. c) b.queue queue b.consumer consumer test);
      owned = same_consumer (λ q c. subscription_id q c h) b.queue queue b.consumer consumer test ∙ a.owned;
      begins = sym (same_consumer (λ q c. position q c h) b.queue queue b.consumer consumer test ∙ a.begins);
      ends = a.ends;
      closing = same_consumer (λ q c. is_made q b.cur h) b.queue queue b.consumer consumer test ∙ a.closing;
    })) (λ _. ih)
finished_lead _ (next {h = h} l _) queue consumer = finished_lead h l queue consumer

lead_of : (p : History) (queue : ℕ) (consumer : List ℕ) (from : ℕ) (bs : List Batch) (to : ℕ)
    → LeadFor queue consumer (subscription_id queue consumer p) (λ t. is_made queue t p) from bs to → Lead p queue consumer from bs to
lead_of p queue consumer from [] to lead = lead
lead_of p queue consumer from (b ∷ bs) to lead =
    let f : Follows queue consumer (subscription_id queue consumer p) (λ t. is_made queue t p) from b = lead.0 in (
      record {
        of_queue = f.within;
        of_consumer = f.by;
        of_subscription = f.owned;
        begins = f.begins;
        closes = f.ends;
        closing_is_made = is_made-tick p queue b.cur ∙ f.closing;
      },
      lead_of p queue consumer b.cur bs to lead.1,
    )

pub batches_are_consecutive : BatchesAreConsecutive
batches_are_consecutive p is queue consumer =
    lead_of p queue consumer (first_tick queue consumer p) (finished queue consumer p) (position queue consumer p)
    (finished_lead p (legal_place p is) queue consumer)
