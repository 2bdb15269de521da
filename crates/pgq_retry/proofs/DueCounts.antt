-- How many keys are due, counted from the first on.
use Rattle.std.proofs.Common.{◌≡◌, ℕ, ◌+◌, ◌-◌, ◌≤◌, min, ℤ, true, false, cond, List, [], ◌∷◌, length, suc, refl, sym, subst, ◌∙◌, ap, arith}
use Rattle.std.specs.Prelude.{int_le, int_lt, filter}
use Rattle.std.specs.declared.cmp.Ordering.TheVariants.{Less}
use Rattle.std.specs.List.{AllByRecursion}
use Rattle.std.specs.List.Sorted.{IsStrictlySortedBy}
use Rattle.std.specs.Map.{values_of}
use Rattle.std.specs.BTreeSet.{BTreeSet}
use Rattle.std.proofs.lemmas.Map.Keys.{sorted_head, sorted_tail}
use Rattle.std.proofs.lemmas.Int.{ints}
use Rattle.std.proofs.lemmas.List.{length-map}
use Rattle.pgq_retry.specs.Retries.{by_due, is_due}
use Rattle.pgq_retry.specs.Kept.{Entries, due_cmp, due_key, IsListed}
use Rattle.pgq_retry.proofs.Lists.{filter-map}
use Rattle.pgq_retry.proofs.Orders.{first_is_due}
use Rattle.pgq_retry.proofs.Sorting.{sorted, values-sorted, listed_is, key_due}

-- how many keys are due
abbrev pub due_count : ℤ → List (ℤ × ℕ) → ℕ
due_count moment ks = length (filter (key_due moment) ks)

pub count-due : (moment : ℤ) (k : ℤ × ℕ) (ks : List (ℤ × ℕ)) → int_le k.0 moment ≡ true → due_count moment (k ∷ ks) ≡ suc (due_count moment ks)
count-due moment k ks due = ap (λ b. length (cond b (k ∷ filter (key_due moment) ks) (filter (key_due moment) ks))) due

none_later : (moment : ℤ) (k : ℤ × ℕ) (ks : List (ℤ × ℕ)) → int_le k.0 moment ≡ false → AllByRecursion (λ q. due_cmp k q ≡ Less) ks → due_count moment ks ≡ 0
none_later moment k [] not_due above = refl
none_later moment k (q ∷ ks) not_due above =
    ap (λ b. length (cond b (q ∷ filter (key_due moment) ks) (filter (key_due moment) ks))) (first_is_due k q moment above.0 not_due)
    ∙ none_later moment k ks not_due above.1

-- from one that isn't due yet on none is
pub count-not_due : (moment : ℤ) (k : ℤ × ℕ) (ks : List (ℤ × ℕ)) → int_le k.0 moment ≡ false → IsStrictlySortedBy due_cmp (k ∷ ks) → due_count moment (k ∷ ks) ≡ 0
count-not_due moment k ks not_due rise =
    ap (λ b. length (cond b (k ∷ filter (key_due moment) ks) (filter (key_due moment) ks))) not_due
    ∙ none_later moment k ks not_due (sorted_head due_cmp k ks rise)

-- as many as wait and are due
pub count_is : (moment : ℤ) (es : Entries) (dues : BTreeSet (ℤ × ℕ)) → IsListed es dues → due_count moment dues.keys ≡ length (filter (is_due moment) (by_due (values_of es)))
count_is moment es dues kept =
    ap (due_count moment) (listed_is es dues kept)
    ∙ ap length (filter-map due_key (key_due moment) (sorted es))
    ∙ length-map (filter (λ e. is_due moment e.1) (sorted es)) due_key
    ∙ sym (length-map (filter (λ e. is_due moment e.1) (sorted es)) (λ e. e.1))
    ∙ sym (ap length (filter-map (λ e. e.1) (is_due moment) (sorted es)))
    ∙ ap (λ ws. length (filter (is_due moment) ws)) (values-sorted es)

not_later : (a b : ℤ) → int_lt a b ≡ false → int_le b a ≡ true
not_later a b not_after = grind (arith, ints)

later : (a b : ℤ) → int_lt a b ≡ true → int_le b a ≡ false
later a b after = grind (arith, ints)

-- ---- the count so far, and what is left to count

module _ (moment : ℤ) (count most total : ℕ) (k : ℤ × ℕ) (ks rest : List (ℤ × ℕ)) (is : ks ≡ k ∷ rest) (up_to : count ≤ most)
    (left : count + min (most - count) (due_count moment ks) ≡ total) (rise : IsStrictlySortedBy due_cmp ks) where
  -- one more is due
  pub count_more : (count ≡ most → ⊥) → int_lt moment k.0 ≡ false
      → (count + 1 ≤ most) × (count + 1 + min (most - (count + 1)) (due_count moment rest) ≡ total) × IsStrictlySortedBy due_cmp rest
  count_more below not_after =
      let one : due_count moment ks ≡ suc (due_count moment rest) = ap (due_count moment) is ∙ count-due moment k rest (not_later moment k.0 not_after) in
      (omega arith, omega arith, sorted_tail due_cmp k rest (subst (IsStrictlySortedBy due_cmp) is rise))

  -- none of the others is due
  pub count_ends : int_lt moment k.0 ≡ true → count ≡ total
  count_ends after =
      let none : due_count moment ks ≡ 0 = ap (due_count moment) is ∙ count-not_due moment k rest (later moment k.0 after) (subst (IsStrictlySortedBy due_cmp) is rise) in
      omega arith

  pub count_full : count ≡ most → count ≡ total
  count_full full = omega arith
