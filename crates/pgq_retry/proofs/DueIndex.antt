-- The index by due moment, after one entry was added or removed.
use Rattle.std.proofs.Common.{◌≡◌, ℕ, ◌<◌, ℤ, Bool, true, false, cond, List, [], ◌∷◌, ◌++◌, Some, refl, sym, ◌∙◌, ap, arith}
use Rattle.std.specs.Prelude.{◌||◌}
use Rattle.std.specs.declared.cmp.Ordering.TheVariants.{Less, Greater}
use Rattle.std.specs.Ordering.{nat_cmp, int_cmp, is_eq, eq_by_cmp, match_ordering}
use Rattle.std.specs.List.{AllByRecursion, list_any}
use Rattle.std.specs.Map.{keys_of, remove_entry}
use Rattle.std.specs.BTreeMap.{is_at, insert_entry}
use Rattle.std.specs.Cmp.{eq_by_cmp_equiv}
use Rattle.std.proofs.lemmas.Bool.{and_right}
use Rattle.std.proofs.lemmas.Bool.Decides.{nat_tests}
use Rattle.std.proofs.lemmas.Map.Keys.{sorted_head, sorted_tail}
use Rattle.pgq_retry.specs.declared.retry.Retry.{Retry}
use Rattle.pgq_retry.specs.Kept.{Entries, InOrder, at, due_cmp, due_key}
use Rattle.pgq_retry.proofs.Lists.{any-append}
use Rattle.pgq_retry.proofs.Orders.{tie_is, less_is, due_cmp-IsTotalOrder, due_ties-is, is_eq-then}

-- ---- places

pub below_is_other : (a b : ℕ) → a < b → eq_by_cmp nat_cmp a b ≡ false
below_is_other a b below = elim (eq_by_cmp nat_cmp a b) as (λ t. eq_by_cmp nat_cmp a b ≡ t → t ≡ false) [
  | true ↦ λ tie. let same : a ≡ b = tie_is a b tie in absurd (omega arith)
  | false ↦ λ _. refl
] refl

pub above_is_other : (a b : ℕ) → b < a → eq_by_cmp nat_cmp a b ≡ false
above_is_other a b above = elim (eq_by_cmp nat_cmp a b) as (λ t. eq_by_cmp nat_cmp a b ≡ t → t ≡ false) [
  | true ↦ λ tie. let same : a ≡ b = tie_is a b tie in absurd (omega arith)
  | false ↦ λ _. refl
] refl

pub insert-last : {W : Type 0} (es : List (ℕ × W)) (a : ℕ) (w : W) → AllByRecursion (λ b. b < a) (keys_of es) → insert_entry nat_cmp es a w ≡ es ++ (a, w) ∷ []
insert-last [] a w above = refl
insert-last (e ∷ es) a w above =
    let greater : nat_cmp a e.0 ≡ Greater = grind (arith, nat_tests, above.0) in
    ap (λ o. match_ordering o ((a, w) ∷ e ∷ es) ((e.0, w) ∷ es) (e ∷ insert_entry nat_cmp es a w)) greater ∙ ap (λ rest. e ∷ rest) (insert-last es a w above.1)

-- one that was put at a place above all, and removed again
pub remove-last : {W : Type 0} (es : List (ℕ × W)) (a : ℕ) (w : W) → AllByRecursion (λ b. b < a) (keys_of es) → remove_entry (is_at (nat_cmp a)) (es ++ (a, w) ∷ []) ≡ es
remove-last [] a w above = grind (arith, nat_tests)
remove-last (e ∷ es) a w above =
    ap (λ t. cond t (es ++ (a, w) ∷ []) (e ∷ remove_entry (is_at (nat_cmp a)) (es ++ (a, w) ∷ []))) (above_is_other a e.0 above.0)
    ∙ ap (λ rest. e ∷ rest) (remove-last es a w above.1)

-- ---- keys

-- whether a key is an entry's
abbrev pub is_listed : ℤ × ℕ → Entries → Bool
is_listed q es = list_any (λ e. eq_by_cmp due_cmp q (due_key e)) es

pub keys_symm : (x y : ℤ × ℕ) → eq_by_cmp due_cmp x y ≡ eq_by_cmp due_cmp y x
keys_symm = (eq_by_cmp_equiv due_cmp-IsTotalOrder).symm

key_apart : (a b : ℤ) (p q : ℕ) → eq_by_cmp nat_cmp p q ≡ false → eq_by_cmp due_cmp (a, p) (b, q) ≡ false
key_apart a b p q apart = is_eq-then (int_cmp a b) (nat_cmp p q) ∙ and_right (is_eq (int_cmp a b)) (is_eq (nat_cmp p q)) apart

below_listed : (a : ℤ) (p : ℕ) (es : Entries) → AllByRecursion (λ q. nat_cmp p q ≡ Less) (keys_of es) → is_listed (a, p) es ≡ false
below_listed a p [] above = refl
below_listed a p (e ∷ es) above = ap (λ b. b || is_listed (a, p) es) (key_apart a e.1.due p e.0 (below_is_other p e.0 (less_is p e.0 above.0))) ∙ below_listed a p es above.1

cond-or : (a b : Bool) → cond a true b ≡ (a || b)
cond-or true b = refl
cond-or false b = refl

-- one more
pub listed_more : (es : Entries) (p : ℕ) (w : Retry) (q : ℤ × ℕ) → cond (eq_by_cmp due_cmp (w.due, p) q) true (is_listed q es) ≡ is_listed q (es ++ (p, w) ∷ [])
listed_more es p w q =
    cond-or (eq_by_cmp due_cmp (w.due, p) q) (is_listed q es)
    ∙ ap (λ b. b || is_listed q es) (keys_symm (w.due, p) q)
    ∙ sym (any-append (λ e. eq_by_cmp due_cmp q (due_key e)) es (p, w))

-- one less
pub listed_less : (es : Entries) (p : ℕ) (w : Retry) (q : ℤ × ℕ) → InOrder es → at p es ≡ Some w
    → cond (eq_by_cmp due_cmp (w.due, p) q) false (is_listed q es) ≡ is_listed q (remove_entry (is_at (nat_cmp p)) es)
listed_less [] p w q order found = absurd (cc found)
listed_less (e ∷ es) p w q order found = elim (eq_by_cmp nat_cmp p e.0) as (λ t. eq_by_cmp nat_cmp p e.0 ≡ t → cond t (Some e.1) (at p es) ≡ Some w
    → cond (eq_by_cmp due_cmp (w.due, p) q) false (is_listed q (e ∷ es)) ≡ is_listed q (cond t es (e ∷ remove_entry (is_at (nat_cmp p)) es))) [
      | true ↦ λ tie here.
          let same : e.1 ≡ w = cc here in
          let key : ◌≡◌ {A = ℤ × ℕ} (due_key e) (w.due, p) = λ i. ((same i).due, sym (tie_is p e.0 tie) i) in
          gone e es key (sorted_head nat_cmp e.0 (keys_of es) order)
      | false ↦ λ apart later.
          other e es apart
          ∙ ap (λ b. eq_by_cmp due_cmp q (due_key e) || b) (listed_less es p w q (sorted_tail nat_cmp e.0 (keys_of es) order) later)
    ] refl found
  where
    gone : (e : ℕ × Retry) (es : Entries) → ◌≡◌ {A = ℤ × ℕ} (due_key e) (w.due, p) → AllByRecursion (λ y. nat_cmp e.0 y ≡ Less) (keys_of es)
        → cond (eq_by_cmp due_cmp (w.due, p) q) false (eq_by_cmp due_cmp q (due_key e) || is_listed q es) ≡ is_listed q es
    gone e es key above = elim (eq_by_cmp due_cmp (w.due, p) q) as (λ t. eq_by_cmp due_cmp (w.due, p) q ≡ t → cond t false (eq_by_cmp due_cmp q (due_key e) || is_listed q es) ≡ is_listed q es) [
      | true ↦ λ tie. sym (ap (λ k. is_listed k es) (sym (due_ties-is (w.due, p) q tie) ∙ sym key) ∙ below_listed e.1.due e.0 es above)
      | false ↦ λ apart. ap (λ b. b || is_listed q es) (ap (eq_by_cmp due_cmp q) key ∙ keys_symm q (w.due, p) ∙ apart)
    ] refl

    other : (e : ℕ × Retry) (es : Entries) → eq_by_cmp nat_cmp p e.0 ≡ false
        → cond (eq_by_cmp due_cmp (w.due, p) q) false (eq_by_cmp due_cmp q (due_key e) || is_listed q es) ≡ (eq_by_cmp due_cmp q (due_key e) || cond (eq_by_cmp due_cmp (w.due, p) q) false (is_listed q es))
    other e es apart = elim (eq_by_cmp due_cmp (w.due, p) q) as (λ t. eq_by_cmp due_cmp (w.due, p) q ≡ t → cond t false (eq_by_cmp due_cmp q (due_key e) || is_listed q es) ≡ (eq_by_cmp due_cmp q (due_key e) || cond t false (is_listed q es))) [
      | true ↦ λ tie. sym (ap (λ b. b || false) (ap (λ k. eq_by_cmp due_cmp k (due_key e)) (sym (due_ties-is (w.due, p) q tie)) ∙ key_apart w.due e.1.due p e.0 apart))
      | false ↦ λ _. refl
    ] refl
