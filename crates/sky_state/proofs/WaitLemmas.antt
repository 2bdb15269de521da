-- Who waits, as entries and as the code answers it.
use Rattle.std.proofs.Common.{◌≡◌, ℕ, List, [], ◌∷◌, ◌++◌, Option, Some, None, is_some, length, option_map, refl, sym, ◌∙◌, ap}
use Rattle.sky_val.specs.declared.val.Val.{Val}
use Rattle.sky_keys.specs.Waits.{Waiting, is_waiting, entry_of, waits_for, LeadsBack, way_back}
use Rattle.sky_keys.proofs.WaitLemmas.{is_waiting-entry, leads_back, way_found}
use Rattle.sky_locks.specs.Locks.{LocksView, holder}
use Rattle.sky_model.specs.declared.stmt.Attempt.{Attempt}
use Rattle.sky_model.specs.History.{tabled, waits}
use Rattle.sky_model.specs.State.{RowPart, changed_at, after_part}
use Rattle.sky_model.specs.StepLocks.{ring}
use Rattle.sky_state.specs.Views.{RowStateView}
use Rattle.sky_state.specs.Seen.{attempt_of, seen}

some-mapped : {A B : Type 0} (f : A → B) (o : Option A) → is_some o ≡ is_some (option_map f o)
some-mapped f None = refl
some-mapped f (Some a) = refl

-- a session waits if an entry is found
pub waiting-told : {A : Type 0} (f : A → Waiting) (o : Option A) (who : ℕ) (ws : List Waiting) → option_map f o ≡ entry_of who ws → is_some o ≡ is_waiting who ws
waiting-told f o who ws is = some-mapped f o ∙ ap is_some is ∙ sym (is_waiting-entry who ws)

-- if no path leads back there is no cycle
pub ring-none : (d : RowPart) (who holder : ℕ) → ((way : List ℕ) → LeadsBack (waits_for d.holder d.waiting) who holder way → ⊥) → ring d who holder ≡ None
ring-none d who holder apart = of (way_back (waits_for d.holder d.waiting) who (length d.waiting) holder) refl
  where
    of : (o : Option (List ℕ)) → way_back (waits_for d.holder d.waiting) who (length d.waiting) holder ≡ o → option_map (λ way. who ∷ way) o ≡ None
    of None e = refl
    of (Some way) e = absurd (apart way (leads_back (waits_for d.holder d.waiting) who (length d.waiting) holder way e))

-- if one does, the cycle is the session and that path
pub ring-found : (d : RowPart) (who holder : ℕ) (way : List ℕ) → LeadsBack (waits_for d.holder d.waiting) who holder way → ring d who holder ≡ Some (who ∷ way)
ring-found d who holder way leads = ap (option_map (λ rest. who ∷ rest)) (way_found d.holder d.waiting who holder way leads)

-- a session that waits is appended to the queue
pub wait-as : (v now : RowStateView) (locks : LocksView) (attempts : List Attempt) (who table : ℕ) (key : List Val) (attempt : Attempt) → v ≡ now → holder locks ≡ holder v.locks
    → locks.waiting ≡ v.locks.waiting ++ record { who = who; table = table; key = key } ∷ [] → attempt_of attempts ≡ changed_at who (λ _. attempt) (attempt_of v.attempts)
    → seen (record v { locks = locks; attempts = attempts }) ≡ after_part (seen now) (tabled (waits who table key attempt))
wait-as v now locks attempts who table key attempt same keys more due =
    (λ i. record (seen v) { holder = keys i; waiting = more i; attempt = due i })
    ∙ ap (λ (w : RowStateView). after_part (seen w) (tabled (waits who table key attempt))) same
