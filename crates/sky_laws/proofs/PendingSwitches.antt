-- A switch begins to be pending while nothing holds it back; one that is made was pending; and the transaction of one that is pending runs.
use Rattle.std.proofs.Common.{◌≡◌, ℕ, ℤ, List, [], ◌∷◌, ◌++◌, true, false, ◌==◌, Some, option_map, unwrap_or, is_some, refl, sym, ◌∙◌, ap, subst, arith, if◌then◌else◌}
use Rattle.sky_txid.specs.Ids.{contains}
use Rattle.pgq_tables.specs.Tables as tables_of
use Rattle.pgq_tables.specs.Tables.{Tables, no_tables, new_tables, with_stored, with_pending, without_pending, with_second_step}
use Rattle.sky_model.specs.History.{Mark, began, ended, queued, made, put, switching, switched, second_step, dropped, History}
use Rattle.sky_model.specs.Transactions.{running, has_ended}
use Rattle.sky_model.specs.Queues.{queues_made, is_pending, event_tables}
use Rattle.sky_model.specs.LawsOfRotation.{BeginsFree}
use Rattle.sky_histories.proofs.Legal.{begins_switch, makes_switch, Legal, start, next}
use Rattle.sky_histories.proofs.Snapshots.{sound, runs-unended, contains-push, contains-filter}
use Rattle.sky_laws.proofs.PendingOwners.{Settled}
use Rattle.sky_model.proofs.Cases.{by_test, by_same}

-- if a switch of a transaction is pending in these tables, the transaction is running
abbrev Runs : History → Tables → ℕ → Type 0
Runs h ts t = ts.pending ≡ Some t → contains t (running h) ≡ true

pub pending-runs : (h : History) → Legal h → Settled h → (q t : ℕ) → Runs h (event_tables q h) t
pending-runs [] start s q t = λ pends. absurd (cc)
pending-runs (began whose u ∷ h) (next l fine) s q t = λ pends. let ih = pending-runs h l s q t pends in grind (arith, contains-push t u (running h), ih)
pending-runs (ended whose u true ∷ h) (next l fine) s q t = λ pends.
    let ih = pending-runs h l s.1 q t pends in
    let apart : (t == u) ≡ false = by_same (λ b. b ≡ false) t u (λ same. absurd (s.0 q (pends ∙ ap (λ n. Some n) same))) (λ _. refl) in
    grind (arith, contains-filter t u (running h), ih, apart)
pending-runs (ended whose u false ∷ h) (next l fine) s q t =
    let ts : Tables = event_tables q h in
    by_test (λ b. (if b then without_pending ts else ts).pending ≡ Some t → contains t (running (ended whose u false ∷ h)) ≡ true) (is_pending u ts)
    (λ _ none. absurd (cc))
    (λ other pends.
    let apart : (t == u) ≡ false = ap (λ o. unwrap_or (option_map (λ v. v == u) o) false) (sym pends) ∙ other in
    let ih = pending-runs h l s q t pends in
    grind (arith, contains-filter t u (running h), ih, apart))
pending-runs (queued (made name u time) ∷ h) (next l fine) s q t =
    by_test (λ b. Runs h (if b then new_tables u time else event_tables q h) t) (queues_made h == q) (λ _ none. absurd (cc)) (λ _. pending-runs h l s q t)
pending-runs (queued (put p event) ∷ h) (next l fine) s q t =
    by_test (λ b. Runs h (if b then with_stored event (event_tables q h) else event_tables q h) t) (p == q) (λ _. pending-runs h l s q t) (λ _. pending-runs h l s q t)
pending-runs _ (next {h = h} l (begins_switch p u may)) s q t =
    by_test (λ b. Runs h (if b then with_pending u (event_tables q h) else event_tables q h) t) (p == q)
    (λ _ pends. subst (λ n. contains n (running h) ≡ true) (ap (λ o. unwrap_or o u) pends) may.runs) (λ _. pending-runs h l s q t)
pending-runs (queued (switched p time) ∷ h) (next l fine) s q t =
    by_test (λ b. Runs h (if b then tables_of.with_switch time (event_tables q h) else event_tables q h) t) (p == q) (λ _ none. absurd (cc)) (λ _. pending-runs h l s q t)
pending-runs (queued (second_step p u) ∷ h) (next l fine) s q t =
    by_test (λ b. Runs h (if b then with_second_step u (event_tables q h) else event_tables q h) t) (p == q) (λ _. pending-runs h l s q t) (λ _. pending-runs h l s q t)
pending-runs (queued (dropped p) ∷ h) (next l fine) s q t =
    by_test (λ b. Runs h (if b then no_tables else event_tables q h) t) (p == q) (λ _ none. absurd (cc)) (λ _. pending-runs h l s q t)
pending-runs (_ ∷ h) (next l fine) s q t = pending-runs h l s q t

-- so it hasn't ended
pub pending-unended : (h : History) → Legal h → Settled h → (q t : ℕ) → (event_tables q h).pending ≡ Some t → has_ended h t ≡ false
pending-unended h l s q t pends = runs-unended h (sound h l) t (pending-runs h l s q t pends)

pub settled-below : (later : List Mark) (p : History) → Settled (later ++ p) → Settled p
settled-below [] p s = s
settled-below (ended whose t true ∷ later) p s = settled-below later p s.1
settled-below (_ ∷ later) p s = settled-below later p s

pub switching-free : (h : History) (q t : ℕ) → Legal (queued (switching q t) ∷ h) → BeginsFree h q t
switching-free h _ _ (next l (begins_switch q t may)) = record { unended = runs-unended h (sound h l) t may.runs; none = may.none; free = may.free }

pub switched-pending : (h : History) (q : ℕ) (time : ℤ) → Legal (queued (switched q time) ∷ h) → is_some (event_tables q h).pending ≡ true
switched-pending h q _ (next l (makes_switch p t time i pends)) = ap is_some pends
