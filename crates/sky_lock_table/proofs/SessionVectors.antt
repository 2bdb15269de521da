-- Vectors by session number: what is read once a place is made, or written.
use Rattle.std.proofs.Common.{◌≡◌, ◌≢◌, true, false, ℕ, zero, suc, ◌<◌, ◌≤◌, cond, List, [], ◌∷◌, ◌++◌, length, get_or, slice_set, refl, sym, ◌∙◌, ap, arith}
use Rattle.std.specs.Prelude.{◌==◌}
use Rattle.std.proofs.lemmas.Bool.{eqb-true, eq-eqb}
use Rattle.sky_lock_table.specs.Sessions.{at_number}

module _ {X Y : Type 0} (read : X → Y) (rest : Y) where
  -- past the end
  pub at-past : (xs : List X) (n : ℕ) → length xs ≤ n → at_number read rest xs n ≡ rest
  at-past [] n past = refl
  at-past (x ∷ xs) zero past = absurd (omega arith)
  at-past (x ∷ xs) (suc n) past = at-past xs n (omega arith)

  -- a new place that says what was said past the end
  pub at-padded : (xs : List X) (x : X) (n : ℕ) → read x ≡ rest → at_number read rest (xs ++ x ∷ []) n ≡ at_number read rest xs n
  at-padded [] x zero same = same
  at-padded [] x (suc n) same = refl
  at-padded (y ∷ xs) x zero same = refl
  at-padded (y ∷ xs) x (suc n) same = at-padded xs x n same

  -- what is at a place
  pub at-read : (xs : List X) (i : ℕ) (x d : X) → i < length xs → x ≡ get_or xs i d → at_number read rest xs i ≡ read x
  at-read [] i x d within is = absurd (omega arith)
  at-read (y ∷ xs) zero x d within is = ap read (sym is)
  at-read (y ∷ xs) (suc i) x d within is = at-read xs i x d (omega arith) is

  -- what is put in the place of another
  set-there : (xs : List X) (i : ℕ) (x : X) → i < length xs → at_number read rest (slice_set xs i x) i ≡ read x
  set-there [] i x within = absurd (omega arith)
  set-there (y ∷ xs) zero x within = refl
  set-there (y ∷ xs) (suc i) x within = set-there xs i x (omega arith)

  set-elsewhere : (xs : List X) (i n : ℕ) (x : X) → i ≢ n → at_number read rest (slice_set xs i x) n ≡ at_number read rest xs n
  set-elsewhere [] i n x apart = refl
  set-elsewhere (y ∷ xs) zero zero x apart = absurd (apart refl)
  set-elsewhere (y ∷ xs) zero (suc n) x apart = refl
  set-elsewhere (y ∷ xs) (suc i) zero x apart = refl
  set-elsewhere (y ∷ xs) (suc i) (suc n) x apart = set-elsewhere xs i n x (λ e. apart (ap suc e))

  pub at-set : (xs : List X) (i n : ℕ) (x : X) → i < length xs → at_number read rest (slice_set xs i x) n ≡ cond (i == n) (read x) (at_number read rest xs n)
  at-set xs i n x within = elim (i == n) as (λ b. (i == n) ≡ b → at_number read rest (slice_set xs i x) n ≡ cond b (read x) (at_number read rest xs n)) [
    | true ↦ λ e. ap (λ m. at_number read rest (slice_set xs i x) m) (sym (eqb-true i n e)) ∙ set-there xs i x within
    | false ↦ λ e. set-elsewhere xs i n x (λ same. let both : true ≡ false = sym (eq-eqb i n same) ∙ e in cc both)
  ] refl
