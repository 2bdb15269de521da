-- Due moments with places: their order. Lists that rise in an order.
use Rattle.std.proofs.Common.{◌≡◌, ℕ, ◌<◌, ℤ, Bool, true, false, List, [], ◌∷◌, refl, sym, subst, ◌∙◌, ap, arith}
use Rattle.std.specs.Prelude.{◌||◌, ◌&&◌, int_le}
use Rattle.std.specs.declared.cmp.Ordering.{Ordering}
use Rattle.std.specs.declared.cmp.Ordering.TheVariants.{Less, Equal, Greater}
use Rattle.std.specs.Ordering.{nat_cmp, int_cmp, is_eq, eq_by_cmp, ordering_then, ordering_reverse}
use Rattle.std.specs.List.{AllByRecursion, list_any}
use Rattle.std.specs.List.Sorted.{IsStrictlySortedBy}
use Rattle.std.specs.Cmp.{IsTotalOrder, on_total, then_total, nat_cmp_total, int_cmp_total, tied_itself, Equal-is}
use Rattle.std.specs.FinMap.{nat_cmp-IsAntisymmetric, int_cmp-IsAntisymmetric}
use Rattle.std.proofs.lemmas.Bool.{and_parts}
use Rattle.std.proofs.lemmas.Bool.Decides.{nat_tests}
use Rattle.std.proofs.lemmas.Int.{ints}
use Rattle.std.proofs.lemmas.Map.Keys.{sorted_head, sorted_tail}
use Rattle.pgq_retry.specs.Kept.{due_cmp}

-- ---- numbers

pub tie_is : (a b : ℕ) → eq_by_cmp nat_cmp a b ≡ true → a ≡ b
tie_is a b tie = nat_cmp-IsAntisymmetric a b ((Equal-is (nat_cmp a b)).0 tie)

pub less_is : (a b : ℕ) → nat_cmp a b ≡ Less → a < b
less_is a b less = grind (arith, nat_tests)

pub is_less : (a b : ℕ) → a < b → nat_cmp a b ≡ Less
is_less a b less = grind (arith, nat_tests)

-- ---- due moments with places

pub due_cmp-IsTotalOrder : IsTotalOrder due_cmp
due_cmp-IsTotalOrder = then_total (on_total (λ (k : ℤ × ℕ). k.0) int_cmp_total) (on_total (λ (k : ℤ × ℕ). k.1) nat_cmp_total)

pub is_eq-then : (a b : Ordering) → is_eq (ordering_then a b) ≡ (is_eq a && is_eq b)
is_eq-then Less b = refl
is_eq-then Equal b = refl
is_eq-then Greater b = refl

pub due_ties-is : (x y : ℤ × ℕ) → eq_by_cmp due_cmp x y ≡ true → x ≡ y
due_ties-is x y tie =
    let parts = and_parts (is_eq (int_cmp x.0 y.0)) (is_eq (nat_cmp x.1 y.1)) (sym (is_eq-then (int_cmp x.0 y.0) (nat_cmp x.1 y.1)) ∙ tie) in
    let moments : x.0 ≡ y.0 = int_cmp-IsAntisymmetric x.0 y.0 ((Equal-is (int_cmp x.0 y.0)).0 parts.0) in
    let places : x.1 ≡ y.1 = tie_is x.1 y.1 parts.1 in
    λ i. (moments i, places i)

-- one that isn't due later comes first, if its place is before
pub due_first : (a b : ℤ) (p q : ℕ) → int_le a b ≡ true → p < q → due_cmp (a, p) (b, q) ≡ Less
due_first a b p q le less = from (int_cmp a b) (nat_cmp p q) (not_after a b le) (is_less p q less)
  where
    not_after : (a b : ℤ) → int_le a b ≡ true → int_cmp a b ≡ Greater → ⊥
    not_after a b le after = grind (arith, ints)

    from : (o n : Ordering) → (o ≡ Greater → ⊥) → n ≡ Less → ordering_then o n ≡ Less
    from Less n not_greater less = refl
    from Equal n not_greater less = less
    from Greater n not_greater less = absurd (not_greater refl)

-- one that is due before comes first, wherever its place is
pub due_before : (a b : ℤ) (p q : ℕ) → int_le b a ≡ false → due_cmp (a, p) (b, q) ≡ Less
due_before a b p q not_le = ap (λ o. ordering_then o (nat_cmp p q)) (before a b not_le)
  where
    before : (a b : ℤ) → int_le b a ≡ false → int_cmp a b ≡ Less
    before a b not_le = grind (arith, ints)

-- what comes first isn't due later
pub first_is_due : (x y : ℤ × ℕ) (moment : ℤ) → due_cmp x y ≡ Less → int_le x.0 moment ≡ false → int_le y.0 moment ≡ false
first_is_due x y moment less not_due = later x.0 y.0 moment (λ greater. not_greater (int_cmp x.0 y.0) (nat_cmp x.1 y.1) greater less) not_due
  where
    not_greater : (o n : Ordering) → o ≡ Greater → ordering_then o n ≡ Less → ⊥
    not_greater Less n greater less = absurd (cc greater)
    not_greater Equal n greater less = absurd (cc greater)
    not_greater Greater n greater less = absurd (cc less)

    later : (a b m : ℤ) → (int_cmp a b ≡ Greater → ⊥) → int_le a m ≡ false → int_le b m ≡ false
    later a b m not_after not_due = grind (arith, ints)

-- ---- lists that rise, by any order

module _ {K : Type 0} (cmp : K → K → Ordering) (total : IsTotalOrder cmp) (exact : (x y : K) → eq_by_cmp cmp x y ≡ true → x ≡ y) where
  abbrev has : List K → K → Bool
  has ks q = list_any (eq_by_cmp cmp q) ks

  itself : (x : K) → eq_by_cmp cmp x x ≡ true
  itself x = ap is_eq (tied_itself total x)

  never_both : (x y : K) → cmp x y ≡ Less → cmp y x ≡ Less → ⊥
  never_both x y one other = let reversed : Less ≡ Greater = sym one ∙ total.antisymm x y ∙ ap ordering_reverse other in cc reversed

  above : (k q : K) (ys : List K) → AllByRecursion (λ y. cmp k y ≡ Less) ys → has ys q ≡ true → cmp k q ≡ Less
  above k q [] all there = absurd (cc there)
  above k q (y ∷ ys) all there = elim (eq_by_cmp cmp q y) as (λ t. eq_by_cmp cmp q y ≡ t → (t || has ys q) ≡ true → cmp k q ≡ Less) [
    | true ↦ λ tie _. subst (λ z. cmp k z ≡ Less) (sym (exact q y tie)) all.0
    | false ↦ λ _ later. above k q ys all.1 later
  ] refl there

  absent : (k : K) (ys : List K) → AllByRecursion (λ y. cmp k y ≡ Less) ys → has ys k ≡ false
  absent k ys all = elim (has ys k) as (λ t. has ys k ≡ t → t ≡ false) [
    | true ↦ λ there. absurd (never_both k k (above k k ys all there) (above k k ys all there))
    | false ↦ λ _. refl
  ] refl

  same_head : (x y : K) (xs ys : List K) → AllByRecursion (λ z. cmp x z ≡ Less) xs → AllByRecursion (λ z. cmp y z ≡ Less) ys → ((q : K) → has (x ∷ xs) q ≡ has (y ∷ ys) q) → x ≡ y
  same_head x y xs ys above_x above_y same = elim (eq_by_cmp cmp x y) as (λ t. eq_by_cmp cmp x y ≡ t → x ≡ y) [
    | true ↦ λ tie. exact x y tie
    | false ↦ λ apart.
        let x_later : has ys x ≡ true = sym (ap (λ t. t || has ys x) apart) ∙ sym (same x) ∙ ap (λ t. t || has xs x) (itself x) in
        let y_first : cmp y x ≡ Less = above y x ys above_y x_later in
        let y_later : has xs y ≡ true = sym (ap (λ o. is_eq o || has xs y) y_first) ∙ same y ∙ ap (λ t. t || has ys y) (itself y) in
        absurd (never_both x y (above x y xs above_x y_later) y_first)
  ] refl

  -- two lists that rise and have the same elements are one
  pub same_sorted : (xs ys : List K) → IsStrictlySortedBy cmp xs → IsStrictlySortedBy cmp ys → ((q : K) → has xs q ≡ has ys q) → xs ≡ ys
  same_sorted [] [] rise_x rise_y same = refl
  same_sorted [] (y ∷ ys) rise_x rise_y same = let none : false ≡ true = same y ∙ ap (λ t. t || has ys y) (itself y) in absurd (cc none)
  same_sorted (x ∷ xs) [] rise_x rise_y same = let none : true ≡ false = sym (ap (λ t. t || has xs x) (itself x)) ∙ same x in absurd (cc none)
  same_sorted (x ∷ xs) (y ∷ ys) rise_x rise_y same =
      let above_x = sorted_head cmp x xs rise_x in
      let above_y = sorted_head cmp y ys rise_y in
      let heads : x ≡ y = same_head x y xs ys above_x above_y same in
      let tails : (q : K) → has xs q ≡ has ys q = λ q. elim (eq_by_cmp cmp q x) as (λ t. eq_by_cmp cmp q x ≡ t → has xs q ≡ has ys q) [
        | true ↦ λ tie. let is : q ≡ x = exact q x tie in
            (ap (has xs) is ∙ absent x xs above_x) ∙ sym (ap (has ys) (is ∙ heads) ∙ absent y ys above_y)
        | false ↦ λ apart.
            sym (ap (λ t. t || has xs q) apart) ∙ same q ∙ ap (λ t. t || has ys q) (ap (eq_by_cmp cmp q) (sym heads) ∙ apart)
      ] refl in
      ap (λ zs. x ∷ zs) (same_sorted xs ys (sorted_tail cmp x xs rise_x) (sorted_tail cmp y ys rise_y) tails) ∙ ap (λ z. z ∷ ys) heads

  pub all_above : (a b : K) (ks : List K) → cmp a b ≡ Less → AllByRecursion (λ k. cmp b k ≡ Less) ks → AllByRecursion (λ k. cmp a k ≡ Less) ks
  all_above a b [] less all = tt
  all_above a b (k ∷ ks) less all = (total.trans a b k less all.0, all_above a b ks less all.1)
