-- Binary digits: a half has one less, and a smaller number no more.
use Rattle.std.proofs.Common.{◌≡◌, ℕ, ◌+◌, ◌/◌, ◌<◌, ◌≤◌, zero, suc, ◌==◌, refl, sym, ap, ◌∙◌, arith, inl, inr}
use Rattle.std.proofs.lemmas.Bool.{cases_Bool, cond-false, ne_eqb, eqb-true, eqb-false}
use Rattle.pgq_batch.specs.Bound.{halvings, digits}

half_less : (n : ℕ) → 0 < n → n / 2 < n
half_less n some = omega arith

halves_rise : (m n : ℕ) → m ≤ n → m / 2 ≤ n / 2
halves_rise m n le = omega arith

halvings-none : (most : ℕ) → halvings most 0 ≡ 0
halvings-none zero = refl
halvings-none (suc most) = refl

halvings-some : (most n : ℕ) → 0 < n → halvings (suc most) n ≡ 1 + halvings most (n / 2)
halvings-some most n some = cond-false (n == 0) 0 (1 + halvings most (n / 2)) (ne_eqb n 0 (λ is. omega arith))

-- it takes no more if there is room for all
halvings-enough : (most more n : ℕ) → n ≤ most → n ≤ more → halvings most n ≡ halvings more n
halvings-enough zero more n left right = let none : n ≡ 0 = omega arith in ap (halvings zero) none ∙ sym (halvings-none more) ∙ ap (halvings more) (sym none)
halvings-enough (suc most) zero n left right = let none : n ≡ 0 = omega arith in ap (halvings (suc most)) none ∙ ap (halvings zero) (sym none)
halvings-enough (suc most) (suc more) n left right =
    elim (cases_Bool (n == 0)) [
      | inl is ↦ let none = eqb-true n 0 is in ap (halvings (suc most)) none ∙ ap (halvings (suc more)) (sym none)
      | inr is_not ↦
          let some : 0 < n = let no = eqb-false n 0 is_not in omega arith in
          let less = half_less n some in
          halvings-some most n some ∙ ap (λ d. 1 + d) (halvings-enough most more (n / 2) (omega arith) (omega arith)) ∙ sym (halvings-some more n some)
    ]

pub digits-some : (n : ℕ) → 0 < n → digits n ≡ 1 + digits (n / 2)
digits-some zero some = absurd (omega arith)
digits-some (suc n) some =
    let less = half_less (suc n) some in
    halvings-some n (suc n) some ∙ ap (λ d. 1 + d) (halvings-enough n (suc n / 2) (suc n / 2) (omega arith) (omega arith))

halvings-rise : (most m n : ℕ) → m ≤ n → halvings most m ≤ halvings most n
halvings-rise zero m n le = omega arith
halvings-rise (suc most) m n le =
    elim (cases_Bool (m == 0)) [
      | inl is ↦ let none = ap (halvings (suc most)) (eqb-true m 0 is) in omega arith
      | inr is_not ↦
          let some : 0 < m = let no = eqb-false m 0 is_not in omega arith in
          let more : 0 < n = omega arith in
          let ih = halvings-rise most (m / 2) (n / 2) (halves_rise m n le) in
          let left = halvings-some most m some in
          let right = halvings-some most n more in
          omega arith
    ]

pub digits-rise : (m n : ℕ) → m ≤ n → digits m ≤ digits n
digits-rise m n le =
    let more = halvings-enough m n m (omega arith) le in
    let up = halvings-rise n m n le in
    omega arith

-- a look leaves at most half
pub digits-half : (left n : ℕ) → 0 < n → left ≤ n / 2 → digits left + 1 ≤ digits n
digits-half left n some le =
    let half = digits-some n some in
    let up = digits-rise left (n / 2) le in
    omega arith
