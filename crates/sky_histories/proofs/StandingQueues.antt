-- Which queues stand, and that nothing is kept of one that isn't made yet.
use Rattle.std.proofs.Common.{◌≡◌, ℕ, ℤ, ◌≤◌, List, [], ◌∷◌, ◌++◌, false, ◌==◌, Some, refl, sym, ◌∙◌, ap, arith, if◌then◌else◌}
use Rattle.std.specs.List.{list_any}
use Rattle.std.proofs.lemmas.Bool.Decides.{nat_tests}
use Rattle.std.proofs.lemmas.Bool.{eqb-true}
use Rattle.std.proofs.lemmas.List.Folds.{list_any-append}
use Rattle.sky_model.specs.History.{ended, queued, made, History}
use Rattle.sky_model.specs.Transactions.{snapshot}
use Rattle.pgq_tables.specs.Tables as tables_of
use Rattle.pgq_tables.specs.Tables.{no_tables, new_tables, with_stored, with_pending, with_second_step}
use Rattle.sky_model.specs.Queues.{new_tick, queues_made, queues, events, event_tables, without_transaction, Tick, ticks, kept_ticks, ticks_above, second_step_of}
use Rattle.sky_model.specs.Consumers.{subscription_id}
use Rattle.sky_model.specs.Retries.{brought_by}
use Rattle.sky_histories.proofs.Legal.{IsQueue, makes, puts, puts_back, ticks_next, registers, unregisters, begins_switch, makes_switch, ends_switch, drops, Legal, start, next}
use Rattle.sky_histories.proofs.QueueNumbers.{queue-below, among-before, among-others}
use Rattle.sky_model.proofs.Cases.{by_test}

-- of a queue that isn't made yet nothing is kept, and nothing ever was
pub record IsBeyond (h : History) (q : ℕ) : Type 0 where
  pub tables : event_tables q h ≡ no_tables
  pub events : events q h ≡ []
  pub kept : kept_ticks q h ≡ []
  pub ticks : ticks q h ≡ []

pub beyond : (h : History) → Legal h → (q : ℕ) → queues_made h ≤ q → IsBeyond h q
beyond [] start q le = record { tables = refl; events = refl; kept = refl; ticks = refl }
beyond (ended whose t false ∷ h) (next l fine) q le =
    let b : IsBeyond h q = beyond h l q le in record { tables = ap (without_transaction t) b.tables; events = b.events; kept = b.kept; ticks = b.ticks }
beyond _ (next {h = h} l (makes name t time new)) q le =
    let b : IsBeyond h q = beyond h l q (omega (arith, le)) in
    let other : (queues_made h == q) ≡ false = grind (arith, nat_tests, le) in
    record {
      tables = ap (λ c. if c then new_tables t time else event_tables q h) other ∙ b.tables;
      events = b.events;
      kept = ap (λ c. if c then kept_ticks q h ++ new_tick time h ∷ [] else kept_ticks q h) other ∙ b.kept;
      ticks = ap (λ c. if c then ticks q h ++ new_tick time h ∷ [] else ticks q h) other ∙ b.ticks;
    }
beyond _ (next {h = h} l (puts who p event i is o newest)) q le =
    let b : IsBeyond h q = beyond h l q le in
    let other : (p == q) ≡ false = grind (arith, nat_tests, queue-below h p i) in
    record {
      tables = ap (λ c. if c then with_stored event (event_tables q h) else event_tables q h) other ∙ b.tables;
      events = ap (λ c. if c then events q h ++ event ∷ [] else events q h) other ∙ b.events;
      kept = b.kept;
      ticks = b.ticks;
    }
beyond _ (next {h = h} l (puts_back retry t back)) q le =
    let b : IsBeyond h q = beyond h l q le in
    let other : (retry.queue == q) ≡ false = grind (arith, nat_tests, queue-below h retry.queue back.stands) in
    record {
      tables = ap (λ c. if c then with_stored (brought_by t retry.event) (event_tables q h) else event_tables q h) other ∙ b.tables;
      events = ap (λ c. if c then events q h ++ brought_by t retry.event ∷ [] else events q h) other ∙ b.events;
      kept = b.kept;
      ticks = b.ticks;
    }
beyond _ (next {h = h} l (ticks_next p id time seq i e c)) q le =
    let b : IsBeyond h q = beyond h l q le in
    let other : (p == q) ≡ false = grind (arith, nat_tests, queue-below h p i) in
    let new : Tick = record { id = id; time = time; snapshot = snapshot h; seq = seq } in
    record {
      tables = b.tables;
      events = b.events;
      kept = ap (λ c. if c then kept_ticks q h ++ new ∷ [] else kept_ticks q h) other ∙ b.kept;
      ticks = ap (λ c. if c then ticks q h ++ new ∷ [] else ticks q h) other ∙ b.ticks;
    }
beyond _ (next {h = h} l (begins_switch p t may)) q le =
    let b : IsBeyond h q = beyond h l q le in
    let other : (p == q) ≡ false = grind (arith, nat_tests, queue-below h p may.within) in
    record { tables = ap (λ c. if c then with_pending t (event_tables q h) else event_tables q h) other ∙ b.tables; events = b.events; kept = b.kept; ticks = b.ticks }
beyond _ (next {h = h} l (makes_switch p t time i is)) q le =
    let b : IsBeyond h q = beyond h l q le in
    let other : (p == q) ≡ false = grind (arith, nat_tests, queue-below h p i) in
    record {
      tables = ap (λ c. if c then tables_of.with_switch time (event_tables q h) else event_tables q h) other ∙ b.tables;
      events = b.events;
      kept = ap (λ c. if c then ticks_above (second_step_of (event_tables q h)) (kept_ticks q h) else kept_ticks q h) other ∙ b.kept;
      ticks = b.ticks;
    }
beyond _ (next {h = h} l (ends_switch p t may)) q le =
    let b : IsBeyond h q = beyond h l q le in
    let other : (p == q) ≡ false = grind (arith, nat_tests, queue-below h p may.within) in
    record { tables = ap (λ c. if c then with_second_step t (event_tables q h) else event_tables q h) other ∙ b.tables; events = b.events; kept = b.kept; ticks = b.ticks }
beyond _ (next {h = h} l (drops p none untold idle aside)) q le =
    let b : IsBeyond h q = beyond h l q le in
    record {
      tables = by_test (λ c. (if c then no_tables else event_tables q h) ≡ no_tables) (p == q) (λ _. refl) (λ _. b.tables);
      events = b.events;
      kept = by_test (λ c. (if c then [] else kept_ticks q h) ≡ []) (p == q) (λ _. refl) (λ _. b.kept);
      ticks = b.ticks;
    }
beyond _ (next {h = h} l _) q le = let b : IsBeyond h q = beyond h l q le in record { tables = b.tables; events = b.events; kept = b.kept; ticks = b.ticks }

-- a queue that stands once another was made stood before, or is that one
pub stands-or-new : (P : Type 0) (h : History) (name : List ℕ) (t : ℕ) (time : ℤ) (q : ℕ) → IsQueue (queued (made name t time) ∷ h) q → (IsQueue h q → P) → (q ≡ queues_made h → P) → P
stands-or-new P h name t time q is before new =
    let either = sym (list_any-append (λ x. x.number == q) (queues h) (record { number = queues_made h; name = name } ∷ [])) ∙ is in
    by_test (λ _. P) (list_any (λ x. x.number == q) (queues h)) before (λ none. new (grind (arith, nat_tests, either, none)))

-- a queue with a registered consumer stands
pub registered-stands : (h : History) → Legal h → (q : ℕ) (consumer : List ℕ) (sub : ℕ) → subscription_id q consumer h ≡ Some sub → IsQueue h q
registered-stands [] start q consumer sub is = absurd (cc)
registered-stands _ (next {h = h} l (makes name t time new)) q consumer sub is = among-before (queues h) (record { number = queues_made h; name = name }) q (registered-stands h l q consumer sub is)
registered-stands _ (next {h = h} l (registers p name s t i none f g low few)) q consumer sub is = grind (arith, nat_tests, registered-stands h l q consumer sub, i, is)
registered-stands _ (next {h = h} l (unregisters p name s i has)) q consumer sub is = grind (arith, registered-stands h l q consumer sub, is)
registered-stands _ (next {h = h} l (drops p none untold idle aside)) q consumer sub is =
    among-others p (queues h) q (registered-stands h l q consumer sub is)
    (by_test (λ b. b ≡ false) (q == p) (λ same. absurd (cc (sym is ∙ ap (λ n. subscription_id n consumer h) (eqb-true q p same) ∙ none consumer))) (λ other. refl))
registered-stands _ (next {h = h} l _) q consumer sub is = registered-stands h l q consumer sub is
