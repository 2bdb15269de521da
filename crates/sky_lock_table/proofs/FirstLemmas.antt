-- The first entry that passes a test, by its arrival.
use Rattle.std.proofs.Common.{◌≡◌, ℕ, zero, suc, Bool, true, false, cond, List, [], ◌∷◌, ◌++◌, Option, Some, None, refl, sym, ◌∙◌, ap, arith, min}
use Rattle.std.specs.Prelude.{◌||◌, find, option_map}
use Rattle.std.specs.Ordering.{eq_by_cmp}
use Rattle.std.proofs.lemmas.List.Folds.{list_any-append}
use Rattle.sky_keys.specs.Waits.{Waiting}
use Rattle.sky_lock_table.specs.declared.lock_key.LockKey.{LockKey}
use Rattle.sky_lock_table.specs.declared.entries.Waiter.{Waiter}
use Rattle.sky_lock_table.specs.Order.{lock_cmp}
use Rattle.sky_lock_table.specs.Waiters.{entry, entry_at, waiting_in, is_among, earlier}
use Rattle.sky_lock_table.proofs.EntryLemmas.{Entries}
use Rattle.sky_lock_table.proofs.Basics.{or_no}

-- whether someone is there and passes
abbrev pub passes : (Waiter → Bool) → Option Waiter → Bool
passes p None = false
passes p (Some w) = p w

-- the arrival of the first that passes
abbrev pub first_at : (Waiter → Bool) → Entries → Option ℕ
first_at p [] = None
first_at p (e ∷ es) = cond (passes p e) (Some zero) (option_map suc (first_at p es))

behind : (o : Option ℕ) (a : ℕ) → option_map suc o ≡ Some a → (b : ℕ) × (o ≡ Some b) × (a ≡ suc b)
behind None a is = absurd (cc is)
behind (Some b) a is = let same : suc b ≡ a = cc is in (b, refl, sym same)

-- what is there is the first that passes
pub first-found : (p : Waiting → Bool) (es : Entries) (a : ℕ) → first_at (λ w. p (entry w.who w.key)) es ≡ Some a → (w : Waiter) × (entry_at es a ≡ Some w) × (find p (waiting_in es) ≡ Some (entry w.who w.key))
first-found p [] a is = absurd (cc is)
first-found p (None ∷ es) a is =
    let later = behind (first_at (λ w. p (entry w.who w.key)) es) a is in
    let found = first-found p es later.0 later.1 in
    (found.0, ap (entry_at (None ∷ es)) later.2 ∙ found.1, found.2)
first-found p (Some w ∷ es) a is = of (p (entry w.who w.key)) refl is (first-found p es)
  where
    of : (b : Bool) → p (entry w.who w.key) ≡ b → cond b (Some zero) (option_map suc (first_at (λ w. p (entry w.who w.key)) es)) ≡ Some a
        → ((a : ℕ) → first_at (λ w. p (entry w.who w.key)) es ≡ Some a → (w : Waiter) × (entry_at es a ≡ Some w) × (find p (waiting_in es) ≡ Some (entry w.who w.key)))
        → (v : Waiter) × (entry_at (Some w ∷ es) a ≡ Some v) × (find p (waiting_in (Some w ∷ es)) ≡ Some (entry v.who v.key))
    of true passed is rest = let here : zero ≡ a = cc is in (w, ap (entry_at (Some w ∷ es)) (sym here), ap (λ t. cond t (Some (entry w.who w.key)) (find p (waiting_in es))) passed)
    of false failed is rest =
        let later = behind (first_at (λ w. p (entry w.who w.key)) es) a is in
        let found = rest later.0 later.1 in
        (found.0, ap (entry_at (Some w ∷ es)) later.2 ∙ found.1, ap (λ t. cond t (Some (entry w.who w.key)) (find p (waiting_in es))) failed ∙ found.2)

nothing : (o : Option ℕ) → option_map suc o ≡ None → o ≡ None
nothing None is = refl
nothing (Some b) is = absurd (cc is)

-- and if none passes, none is found
pub first-none : (p : Waiting → Bool) (es : Entries) → first_at (λ w. p (entry w.who w.key)) es ≡ None → find p (waiting_in es) ≡ None
first-none p [] is = refl
first-none p (None ∷ es) is = first-none p es (nothing (first_at (λ w. p (entry w.who w.key)) es) is)
first-none p (Some w ∷ es) is = of (p (entry w.who w.key)) refl is (first-none p es)
  where
    of : (b : Bool) → p (entry w.who w.key) ≡ b → cond b (Some zero) (option_map suc (first_at (λ w. p (entry w.who w.key)) es)) ≡ None
        → (first_at (λ w. p (entry w.who w.key)) es ≡ None → find p (waiting_in es) ≡ None) → find p (waiting_in (Some w ∷ es)) ≡ None
    of true passed is rest = absurd (cc is)
    of false failed is rest = ap (λ t. cond t (Some (entry w.who w.key)) (find p (waiting_in es))) failed ∙ rest (nothing (first_at (λ w. p (entry w.who w.key)) es) is)

-- what the code looks up at the arrival of the first
pub first-there : (p : Waiting → Bool) (es : Entries) (a : ℕ) (o : Option Waiter) → first_at (λ w. p (entry w.who w.key)) es ≡ Some a → o ≡ entry_at es a
    → option_map (λ w. entry w.who w.key) o ≡ find p (waiting_in es)
first-there p es a o is there = let found = first-found p es a is in ap (option_map (λ w. entry w.who w.key)) (there ∙ found.1) ∙ sym found.2

pub first-not_gone : (p : Waiting → Bool) (es : Entries) (a : ℕ) → first_at (λ w. p (entry w.who w.key)) es ≡ Some a → None ≡ entry_at es a → ⊥
first-not_gone p es a is gone = let found = first-found p es a is in let both : None ≡ Some found.0 = gone ∙ found.1 in cc both

-- ---- the first that passes one test or the other

least : (o : Option ℕ) → (earlier (Some zero) o ≡ Some zero) × (earlier o (Some zero) ≡ Some zero)
least None = (refl, refl)
least (Some n) =
    let one : min zero n ≡ zero = omega arith in
    let other : min n zero ≡ zero = omega arith in
    (ap Some one, ap Some other)

both_later : (o u : Option ℕ) → earlier (option_map suc o) (option_map suc u) ≡ option_map suc (earlier o u)
both_later None u = refl
both_later (Some a) None = refl
both_later (Some a) (Some b) = let one : min (suc a) (suc b) ≡ suc (min a b) = omega arith in ap Some one

pub earlier-first : (p q : Waiter → Bool) (es : Entries) → earlier (first_at p es) (first_at q es) ≡ first_at (λ w. p w || q w) es
earlier-first p q [] = refl
earlier-first p q (None ∷ es) = both_later (first_at p es) (first_at q es) ∙ ap (option_map suc) (earlier-first p q es)
earlier-first p q (Some w ∷ es) = of (p w) (q w) (earlier-first p q es)
  where
    of : (b c : Bool) → earlier (first_at p es) (first_at q es) ≡ first_at (λ w. p w || q w) es
        → earlier (cond b (Some zero) (option_map suc (first_at p es))) (cond c (Some zero) (option_map suc (first_at q es))) ≡ cond (b || c) (Some zero) (option_map suc (first_at (λ w. p w || q w) es))
    of true c rest = (least (cond c (Some zero) (option_map suc (first_at q es)))).0
    of false true rest = (least (option_map suc (first_at p es))).1
    of false false rest = both_later (first_at p es) (first_at q es) ∙ ap (option_map suc) rest

-- the first that waits for one of the keys
abbrev pub first_among : List LockKey → Entries → Option ℕ
first_among keys es = first_at (λ w. is_among keys w.key) es

pub first_among-none : (es : Entries) → first_among [] es ≡ None
first_among-none [] = refl
first_among-none (None ∷ es) = ap (option_map suc) (first_among-none es)
first_among-none (Some w ∷ es) = ap (option_map suc) (first_among-none es)

pub first_among-more : (keys : List LockKey) (key : LockKey) (es : Entries) → earlier (first_among keys es) (first_at (λ w. eq_by_cmp lock_cmp w.key key) es) ≡ first_among (keys ++ key ∷ []) es
first_among-more keys key es =
    earlier-first (λ w. is_among keys w.key) (λ w. eq_by_cmp lock_cmp w.key key) es
    ∙ λ i. first_at (λ w. (ap (λ b. is_among keys w.key || b) (sym (or_no (eq_by_cmp lock_cmp w.key key))) ∙ sym (list_any-append (λ k. eq_by_cmp lock_cmp w.key k) keys (key ∷ []))) i) es
