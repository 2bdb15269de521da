-- Ticks are in order: what had committed at one had committed at each later one.
use Rattle.std.proofs.Common.{◌≡◌, ℕ, ◌<◌, List, [], ◌∷◌, ◌++◌, Bool, true, false, ◌&&◌, ◌||◌, ◌==◌, is_some, refl, sym, ◌∙◌, ap, arith, if◌then◌else◌, ◌≤◌}
use Rattle.std.proofs.lemmas.Bool.{or_right}
use Rattle.std.proofs.lemmas.Bool.Decides.{nat_tests}
use Rattle.sky_model.specs.History.{ended, queued, made, ticked, History}
use Rattle.sky_model.specs.Transactions.{has_committed, snapshot}
use Rattle.sky_model.specs.Queues.{Tick, ticks, tick, newest_tick, at_tick, new_tick, queues_made}
use Rattle.sky_model.specs.Queues.{id_of}
use Rattle.sky_histories.proofs.Legal.{makes, ticks_next, Legal, start, next}
use Rattle.sky_histories.proofs.Ticks.{ticks_beyond, none_above}
use Rattle.sky_model.proofs.Cases.{by_test}

-- a queue's tick is made
abbrev pub is_made : ℕ → ℕ → History → Bool
is_made q id [] = false
is_made q id (queued (made name t time) ∷ h) = (queues_made h == q && 1 == id) || is_made q id h
is_made q id (queued (ticked p m time seq) ∷ h) = (p == q && m == id) || is_made q id h
is_made q id (_ ∷ h) = is_made q id h

tick-push : (id : ℕ) (ts : List Tick) (t : Tick) → is_some (tick id (ts ++ t ∷ [])) ≡ (t.id == id || is_some (tick id ts))
tick-push id [] t = grind arith
tick-push id (u ∷ ts) t = grind (arith, tick-push id ts t)

-- so it is among the queue's ticks
pub is_made-tick : (h : History) (q id : ℕ) → is_some (tick id (ticks q h)) ≡ is_made q id h
is_made-tick [] q id = refl
is_made-tick (queued (made name t time) ∷ h) q id =
    let ih = is_made-tick h q id in
    by_test (λ b. is_some (tick id (if b then ticks q h ++ new_tick time h ∷ [] else ticks q h)) ≡ ((b && 1 == id) || is_made q id h)) (queues_made h == q)
    (λ _. tick-push id (ticks q h) (new_tick time h) ∙ ap (λ c. 1 == id || c) ih) (λ _. ih)
is_made-tick (queued (ticked p m time seq) ∷ h) q id =
    let new : Tick = record { id = m; time = time; snapshot = snapshot h; seq = seq } in
    let ih = is_made-tick h q id in
    by_test (λ b. is_some (tick id (if b then ticks q h ++ new ∷ [] else ticks q h)) ≡ ((b && m == id) || is_made q id h)) (p == q)
    (λ _. tick-push id (ticks q h) new ∙ ap (λ c. m == id || c) ih) (λ _. ih)
is_made-tick (_ ∷ h) q id = is_made-tick h q id

-- a tick with an id above the newest one's isn't made
pub unmade_above : (h : History) → Legal h → (q id : ℕ) → id_of (newest_tick (ticks q h)) < id → is_made q id h ≡ false
unmade_above h l q id above = sym (is_made-tick h q id) ∙ ap is_some (none_above h l q id above)

-- nor is any of a queue that isn't made
pub unmade_beyond : (h : History) → Legal h → (q id : ℕ) → queues_made h ≤ q → is_made q id h ≡ false
unmade_beyond h l q id le = sym (is_made-tick h q id) ∙ ap (λ ts. is_some (tick id ts)) (ticks_beyond h l q le)

-- what had committed at a tick has committed
pub committed_since : (h : History) (q id t : ℕ) → has_committed (at_tick q id h) t ≡ true → has_committed h t ≡ true
committed_since [] q id t e = e
committed_since (ended who u true ∷ h) q id t e = or_right (t == u) (has_committed h t) (committed_since h q id t e)
committed_since (queued (made name u time) ∷ h) q id t e = grind (arith, committed_since h q id t)
committed_since (queued (ticked p m time seq) ∷ h) q id t e = grind (arith, committed_since h q id t)
committed_since (_ ∷ h) q id t e = committed_since h q id t e

-- a transaction that had committed at one tick had committed at another
abbrev pub Grows : History → ℕ → ℕ → ℕ → ℕ → Type 0
Grows h q from to t = has_committed (at_tick q from h) t ≡ true → has_committed (at_tick q to h) t ≡ true

-- what had committed at a tick had at each later one that is made
pub committed_later : (h : History) → Legal h → (q from to t : ℕ) → from < to → is_made q to h ≡ true → Grows h q from to t
committed_later [] start q from to t less there = absurd (cc)
committed_later _ (next {h = h} l (makes name u time new)) q from to t less there =
    let none : (queues_made h == q) ≡ true → is_made q to h ≡ false = λ same. unmade_beyond h l q to (grind (arith, nat_tests, same)) in
    λ e. grind (arith, nat_tests, committed_later h l q from to t less, committed_since h q from t, none, there, e)
committed_later _ (next {h = h} l (ticks_next p m time seq i above c)) q from to t less there =
    λ e. grind (arith, nat_tests, committed_later h l q from to t less, committed_since h q from t, unmade_above h l q to, above, there, e)
committed_later _ (next {h = h} l _) q from to t less there = committed_later h l q from to t less there
