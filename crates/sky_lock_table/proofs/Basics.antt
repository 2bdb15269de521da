-- Small facts on booleans, options, lists and results.
use Rattle.std.proofs.Common.{◌≡◌, ℕ, zero, suc, nat_eq, not, Option, Some, None, is_some, subst, Bool, true, false, cond, List, [], ◌∷◌, ◌++◌, length, slice_set, Result, Ok, Err, refl, sym, ◌∙◌, ap, arith}
use Rattle.std.specs.Prelude.{◌==◌, ◌||◌, option_map, OnOk, OnErr, filter, slice_get}
use Rattle.std.specs.List.{IsDistinct, AllByRecursion, list_any, remove}
use Rattle.std.proofs.lemmas.Bool.{eqb-true, eq-eqb, or_parts}
use Rattle.std.proofs.lemmas.Map.Keys.{IsDistinct-head, IsDistinct-tail}

pub or_no : (b : Bool) → (b || false) ≡ b
or_no true = refl
or_no false = refl

pub or_yes : (b : Bool) → (b || true) ≡ true
or_yes true = refl
or_yes false = refl

pub is_some-mapped : {A B : Type 0} (f : A → B) (o : Option A) → is_some (option_map f o) ≡ is_some o
is_some-mapped f None = refl
is_some-mapped f (Some a) = refl

pub no_keys : {T : Type 0} (ks : List T) → length ks ≡ 0 → ks ≡ []
no_keys [] e = refl
no_keys (k ∷ ks) e = absurd (omega arith)

-- what holds anyway holds if a call failed, and if it succeeded
pub on_err_always : {X E P : Type 0} (r : Result X E) → P → OnErr r P
on_err_always (Ok x) p = tt
on_err_always (Err e) p = p

pub on_ok_always : {X E P : Type 0} (r : Result X E) → P → OnOk r P
on_ok_always (Ok x) p = p
on_ok_always (Err e) p = tt

-- what follows from what holds if a call succeeded
pub on_ok_then : {X E P Q : Type 0} (r : Result X E) → (P → Q) → OnOk r P → OnOk r Q
on_ok_then (Ok x) f p = f p
on_ok_then (Err e) f p = tt

-- what follows whether it succeeded or not
pub either_way : {X E P Q R : Type 0} (r : Result X E) → (P → R) → (Q → R) → OnOk r P → OnErr r Q → R
either_way (Ok x) f g p q = f p
either_way (Err e) f g p q = g q

-- the last item is replaced
pub set-last : {X : Type 0} (xs : List X) (x y : X) → slice_set (xs ++ x ∷ []) (length xs) y ≡ xs ++ y ∷ []
set-last [] x y = refl
set-last (z ∷ xs) x y = ap (λ zs. z ∷ zs) (set-last xs x y)

-- ---- one number is removed

pub apart_turned : (m n : ℕ) → (m == n) ≡ false → (n == m) ≡ false
apart_turned m n apart = elim (n == m) as (λ t. (n == m) ≡ t → t ≡ false) [
  | true ↦ λ is. let both : true ≡ false = sym (eq-eqb m n (sym (eqb-true n m is))) ∙ apart in cc both
  | false ↦ λ _. refl
] refl

kept_all : (who : ℕ) (xs : List ℕ) → AllByRecursion (λ y. nat_eq who y ≡ false) xs → xs ≡ filter (λ s. not (s == who)) xs
kept_all who [] all = refl
kept_all who (x ∷ xs) all = ap (λ ys. x ∷ ys) (kept_all who xs all.1) ∙ ap (λ b. cond (not b) (x ∷ filter (λ s. not (s == who)) xs) (filter (λ s. not (s == who)) xs)) (sym (apart_turned who x all.0))

apart_at : (x who : ℕ) (xs : List ℕ) (i : ℕ) → AllByRecursion (λ y. nat_eq x y ≡ false) xs → slice_get xs i ≡ Some who → (x == who) ≡ false
apart_at x who [] i all here = absurd (cc here)
apart_at x who (y ∷ xs) zero all here = let same : y ≡ who = cc here in ap (λ n. x == n) (sym same) ∙ all.0
apart_at x who (y ∷ xs) (suc i) all here = apart_at x who xs i all.1 here

-- if no number is there twice, removing it once is enough
pub unlinked : (xs : List ℕ) (i who : ℕ) → slice_get xs i ≡ Some who → IsDistinct nat_eq xs → remove xs i ≡ filter (λ s. not (s == who)) xs
unlinked [] i who here once = absurd (cc here)
unlinked (x ∷ xs) zero who here once =
    let same : x ≡ who = cc here in
    kept_all who xs (subst (λ n. AllByRecursion (λ y. nat_eq n y ≡ false) xs) same (IsDistinct-head nat_eq x xs once))
    ∙ ap (λ b. cond (not b) (x ∷ filter (λ s. not (s == who)) xs) (filter (λ s. not (s == who)) xs)) (sym (eq-eqb x who same))
unlinked (x ∷ xs) (suc i) who here once =
    ap (λ ys. x ∷ ys) (unlinked xs i who here (IsDistinct-tail nat_eq x xs once))
    ∙ ap (λ b. cond (not b) (x ∷ filter (λ s. not (s == who)) xs) (filter (λ s. not (s == who)) xs)) (sym (apart_at x who xs i (IsDistinct-head nat_eq x xs once) here))

-- and if it isn't there, nothing is removed
pub not_there : (xs : List ℕ) (who : ℕ) → list_any (λ s. s == who) xs ≡ false → xs ≡ filter (λ s. not (s == who)) xs
not_there [] who none = refl
not_there (x ∷ xs) who none =
    let parts = or_parts (x == who) (list_any (λ s. s == who) xs) none in
    ap (λ ys. x ∷ ys) (not_there xs who parts.1) ∙ ap (λ b. cond (not b) (x ∷ filter (λ s. not (s == who)) xs) (filter (λ s. not (s == who)) xs)) (sym parts.0)
