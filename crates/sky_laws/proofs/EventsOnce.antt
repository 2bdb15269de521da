-- An event between the ends of a consumer's finished batches is in one of them alone.
use Rattle.std.proofs.Common.{◌≡◌, ℕ, ◌+◌, List, [], ◌∷◌, Bool, true, false, not, ◌&&◌, Some, unwrap_or, length, filter, refl, sym, ◌∙◌, ap, subst, arith, if◌then◌else◌}
use Rattle.sky_val.specs.declared.event.Event.{Event}
use Rattle.sky_model.specs.History.{Batch, History}
use Rattle.sky_model.specs.Transactions.{has_committed}
use Rattle.sky_model.specs.Queues.{at_tick}
use Rattle.sky_model.specs.Consumers.{position}
use Rattle.pgq_tables.specs.Listed.{is_for}
use Rattle.sky_model.specs.LawsOfBatches.{first_tick, finished, stands_between, stands_in, BatchesListWhatStands, EventsAreListedOnce}
use Rattle.sky_histories.proofs.Legal.{Legal}
use Rattle.sky_histories.proofs.SnapshotLaws.{legal_place}
use Rattle.sky_histories.proofs.TickOrder.{is_made, Grows, committed_later}
use Rattle.sky_laws.proofs.FinishedBatches.{Follows, LeadFor, finished_lead}

pub batches_list_what_stands : BatchesListWhatStands
batches_list_what_stands h b = refl

-- 1 if the test holds
abbrev tally : Bool → ℕ
tally b = if b then 1 else 0

length-kept : (test : Bool) (b : Batch) (bs : List Batch) → length (if test then b ∷ bs else bs) ≡ tally test + length bs
length-kept test b bs = grind arith

-- what is between two ticks is before a tick between them, or after it
tally-split : (from mid to own : Bool) → (from ≡ true → mid ≡ true) → (mid ≡ true → to ≡ true)
    → tally (mid && not from && own) + tally (to && not mid && own) ≡ tally (to && not from && own)
tally-split from mid to own up on = grind arith

none-between : (b own : Bool) → false ≡ (b && not b && own)
none-between b own = grind arith

module _ (h : History) (l : Legal h) (queue : ℕ) (consumer : List ℕ) (sub : ℕ) where
  abbrev Leads : ℕ → List Batch → ℕ → Type 0
  Leads from bs to = LeadFor queue consumer (Some sub) (λ t. is_made queue t h) from bs to

  abbrev Follow : ℕ → Batch → Type 0
  Follow from b = Follows queue consumer (Some sub) (λ t. is_made queue t h) from b

  grows_to : (from : ℕ) (b : Batch) (t : ℕ) → Follow from b → Grows h queue from b.cur t
  grows_to from b t f =
      let begins : b.prev ≡ from = f.begins in
      let ends : b.cur ≡ b.prev + 1 = f.ends in
      committed_later h l queue from b.cur t (omega arith) f.closing

  grows : (from : ℕ) (bs : List Batch) (to t : ℕ) → Leads from bs to → Grows h queue from to t
  grows from [] to t lead e = subst (λ n. has_committed (at_tick queue n h) t ≡ true) lead e
  grows from (b ∷ bs) to t lead e = grows b.cur bs to t lead.1 (grows_to from b t lead.0 e)

  stands_for : (from : ℕ) (b : Batch) (e : Event) → Follow from b → stands_in h b e ≡ stands_between h queue sub from b.cur e
  stands_for from b e f =
      let owned : b.sub ≡ sub = sym (ap (λ o. unwrap_or o sub) f.owned) in
      λ i. stands_between h (f.within i) (owned i) (f.begins i) b.cur e

  stands_once : (e : Event) (from : ℕ) (bs : List Batch) (to : ℕ) → Leads from bs to
      → length (filter (λ b. stands_in h b e) bs) ≡ tally (stands_between h queue sub from to e)
  stands_once e from [] to lead =
      ap tally (none-between (has_committed (at_tick queue from h) e.ev_txid) (is_for sub e.ev_owner))
      ∙ ap (λ n. tally (stands_between h queue sub from n e)) lead
  stands_once e from (b ∷ bs) to lead =
      length-kept (stands_in h b e) b (filter (λ b. stands_in h b e) bs)
      ∙ (λ i. tally (stands_for from b e lead.0 i) + stands_once e b.cur bs to lead.1 i)
      ∙ tally-split (has_committed (at_tick queue from h) e.ev_txid) (has_committed (at_tick queue b.cur h) e.ev_txid) (has_committed (at_tick queue to h) e.ev_txid)
      (is_for sub e.ev_owner) (grows_to from b e.ev_txid lead.0) (grows b.cur bs to e.ev_txid lead.1)

pub events_are_listed_once : EventsAreListedOnce
events_are_listed_once p is queue consumer sub registered e =
    stands_once p (legal_place p is) queue consumer sub e (first_tick queue consumer p) (finished queue consumer p) (position queue consumer p)
    (subst (λ o. LeadFor queue consumer o (λ t. is_made queue t p) (first_tick queue consumer p) (finished queue consumer p) (position queue consumer p)) registered
    (finished_lead p (legal_place p is) queue consumer))
