-- What ticks keep of the history as it was when they were made.
use Rattle.std.proofs.Common.{◌≡◌, ℕ, ◌<◌, ◌≤◌, List, [], ◌∷◌, ◌++◌, false, ◌&&◌, ◌==◌, Some, None, refl, ◌∙◌, ap, subst, arith, if◌then◌else◌, sym}
use Rattle.std.proofs.lemmas.Bool.Decides.{nat_tests}
use Rattle.sky_model.specs.History.{History}
use Rattle.sky_model.specs.Transactions.{snapshot}
use Rattle.sky_model.specs.Queues.{new_tick, queues_made, Tick, ticks, tick, newest_tick, at_tick}
use Rattle.sky_model.specs.Queues.{id_of}
use Rattle.sky_model.specs.Selection.{snapshot_at}
use Rattle.sky_histories.proofs.Legal.{makes, ticks_next, Legal, start, next}
use Rattle.sky_histories.proofs.QueueNumbers.{queue-below}
use Rattle.sky_model.proofs.Cases.{by_test, by_same}
use Rattle.std.proofs.lemmas.Bool.{cond_both}

-- a queue that isn't made yet has no ticks
pub ticks_beyond : (h : History) → Legal h → (q : ℕ) → queues_made h ≤ q → ticks q h ≡ []
ticks_beyond [] start q le = refl
ticks_beyond _ (next {h = h} l (makes name t time new)) q le =
    let other : (queues_made h == q) ≡ false = grind (arith, nat_tests, le) in
    ap (λ b. if b then ticks q h ++ new_tick time h ∷ [] else ticks q h) other ∙ ticks_beyond h l q (omega (arith, le))
ticks_beyond _ (next {h = h} l (ticks_next p id time seq i e c)) q le = grind (arith, nat_tests, ticks_beyond h l q le, queue-below h p i)
ticks_beyond _ (next {h = h} l _) q le = ticks_beyond h l q le

pub newest_tick-push : (ts : List Tick) (t : Tick) → newest_tick (ts ++ t ∷ []) ≡ Some t
newest_tick-push [] t = refl
newest_tick-push (u ∷ []) t = refl
newest_tick-push (u ∷ v ∷ ts) t = newest_tick-push (v ∷ ts) t

-- a tick that is in a list is in the list with one more
tick-push_found : (id : ℕ) (ts : List Tick) (t u : Tick) → tick id ts ≡ Some u → tick id (ts ++ t ∷ []) ≡ Some u
tick-push_found id [] t u e = cc
tick-push_found id (v ∷ ts) t u e = grind (arith, tick-push_found id ts t u)

-- one that isn't is the added one, or none
tick-push_none : (id : ℕ) (ts : List Tick) (t : Tick) → tick id ts ≡ None → tick id (ts ++ t ∷ []) ≡ (if t.id == id then Some t else None)
tick-push_none id [] t e = refl
tick-push_none id (v ∷ ts) t e = grind (arith, tick-push_none id ts t)

-- no tick has an id above the newest one's
abbrev pub NoneAbove : List Tick → Type 0
NoneAbove ts = (id : ℕ) → id_of (newest_tick ts) < id → tick id ts ≡ None

NoneAbove-push : (ts : List Tick) (t : Tick) → NoneAbove ts → id_of (newest_tick ts) < t.id → NoneAbove (ts ++ t ∷ [])
NoneAbove-push ts t none is id above =
    let newest : id_of (newest_tick (ts ++ t ∷ [])) ≡ t.id = ap id_of (newest_tick-push ts t) in
    let other : (t.id == id) ≡ false = grind (arith, nat_tests) in
    tick-push_none id ts t (none id (omega arith)) ∙ ap (λ b. if b then Some t else None) other

pub none_above : (h : History) → Legal h → (q : ℕ) → NoneAbove (ticks q h)
none_above [] start q = λ id above. refl
none_above _ (next {h = h} l (makes name t time new)) q =
    by_same (λ b. NoneAbove (if b then ticks q h ++ new_tick time h ∷ [] else ticks q h)) (queues_made h) q
    (λ same. NoneAbove-push (ticks q h) (new_tick time h) (none_above h l q) (subst (λ ts. id_of (newest_tick ts) < 1) (sym (ticks_beyond h l q (omega (arith, same)))) (omega arith))) (λ _. none_above h l q)
none_above _ (next {h = h} l (ticks_next p id time seq i e c)) q =
    let new : Tick = record { id = id; time = time; snapshot = snapshot h; seq = seq } in
    by_same (λ b. NoneAbove (if b then ticks q h ++ new ∷ [] else ticks q h)) p q
    (λ same. NoneAbove-push (ticks q h) new (none_above h l q) (subst (λ n. id_of (newest_tick (ticks n h)) < id) same e)) (λ _. none_above h l q)
none_above _ (next {h = h} l _) q = none_above h l q

-- the snapshot of the history as it was at a tick is the one that the tick keeps
pub snapshot-at_tick : (h : History) → Legal h → (q id : ℕ) → snapshot (at_tick q id h) ≡ snapshot_at (tick id (ticks q h))
snapshot-at_tick [] start q id = refl
snapshot-at_tick _ (next {h = h} l (makes name t time new)) q id =
    by_same (λ b. snapshot (if b && 1 == id then h else at_tick q id h) ≡ snapshot_at (tick id (if b then ticks q h ++ new_tick time h ∷ [] else ticks q h))) (queues_made h) q
    (λ same.
    let none : ticks q h ≡ [] = ticks_beyond h l q (omega (arith, same)) in
    let before : snapshot (at_tick q id h) ≡ snapshot_at None = snapshot-at_tick h l q id ∙ ap (λ ts. snapshot_at (tick id ts)) none in
    subst (λ ts. snapshot (if 1 == id then h else at_tick q id h) ≡ snapshot_at (tick id (ts ++ new_tick time h ∷ []))) (sym none)
    (by_test (λ b. snapshot (if b then h else at_tick q id h) ≡ snapshot_at (if b then Some (new_tick time h) else None)) (1 == id) (λ _. refl) (λ _. before)))
    (λ _. snapshot-at_tick h l q id)
snapshot-at_tick _ (next {h = h} l (ticks_next p m time seq i e c)) q id =
    let new : Tick = record { id = m; time = time; snapshot = snapshot h; seq = seq } in
    grind (arith, nat_tests, snapshot-at_tick h l q id, none_above h l q id, e, tick-push_found id (ticks q h) new, tick-push_none id (ticks q h) new)
snapshot-at_tick _ (next {h = h} l _) q id = snapshot-at_tick h l q id

-- what is below a tick is legal
pub legal-at_tick : (h : History) → Legal h → (q id : ℕ) → Legal (at_tick q id h)
legal-at_tick [] start q id = start
legal-at_tick _ (next {h = h} l (makes name t time new)) q id = cond_both (queues_made h == q && 1 == id) h (at_tick q id h) Legal (λ _. l) (λ _. legal-at_tick h l q id)
legal-at_tick _ (next {h = h} l (ticks_next p m time seq i e c)) q id = cond_both (p == q && m == id) h (at_tick q id h) Legal (λ _. l) (λ _. legal-at_tick h l q id)
legal-at_tick _ (next {h = h} l _) q id = legal-at_tick h l q id
