-- Entries by rising keys: what is at a key, and what is removed and added.
use Rattle.std.proofs.Common.{◌≡◌, ℕ, ◌<◌, Bool, true, false, cond, not, List, [], ◌∷◌, ◌++◌, Option, Some, None, refl, sym, subst, ◌∙◌, ap, arith}
use Rattle.std.specs.Prelude.{◌||◌, filter}
use Rattle.std.specs.declared.cmp.Ordering.TheVariants.{Less}
use Rattle.std.specs.List.{AllByRecursion, list_any}
use Rattle.std.specs.List.Sorted.{IsStrictlySortedBy}
use Rattle.std.specs.Ordering.{nat_cmp, eq_by_cmp}
use Rattle.std.specs.Map.{keys_of, lookup, remove_entry}
use Rattle.std.specs.BTreeMap.{is_at}
use Rattle.std.proofs.lemmas.Bool.Decides.{nat_tests}
use Rattle.std.proofs.lemmas.Map.Keys.{sorted_head, sorted_tail}
use Rattle.std.proofs.Math.Bool.{or-true}
use Rattle.pgq_retry.proofs.Orders.{tie_is, less_is}
use Rattle.pgq_retry.proofs.DueIndex.{below_is_other, above_is_other}

pub ties_itself : (a : ℕ) → eq_by_cmp nat_cmp a a ≡ true
ties_itself a = elim (eq_by_cmp nat_cmp a a) as (λ t. eq_by_cmp nat_cmp a a ≡ t → t ≡ true) [
  | true ↦ λ _. refl
  | false ↦ λ apart. absurd (grind (arith, nat_tests))
] refl

module _ {W : Type 0} where
  -- what is at a key
  abbrev pub stands : List (ℕ × W) → ℕ → Option W
  stands es a = lookup (is_at (nat_cmp a)) es

  abbrev pub Rise : List (ℕ × W) → Type 0
  Rise es = IsStrictlySortedBy nat_cmp (keys_of es)

  -- what is in the list is above what all of it is above
  pub above_found : (k a : ℕ) (w : W) (es : List (ℕ × W)) → AllByRecursion (λ y. nat_cmp k y ≡ Less) (keys_of es) → stands es a ≡ Some w → k < a
  above_found k a w [] above found = absurd (cc found)
  above_found k a w (e ∷ es) above found = elim (eq_by_cmp nat_cmp a e.0) as (λ t. eq_by_cmp nat_cmp a e.0 ≡ t → cond t (Some e.1) (stands es a) ≡ Some w → k < a) [
    | true ↦ λ tie _. subst (λ n. k < n) (sym (tie_is a e.0 tie)) (less_is k e.0 above.0)
    | false ↦ λ _ later. above_found k a w es above.1 later
  ] refl found

  -- and below what all of it is below
  pub below_found : (k a : ℕ) (w : W) (es : List (ℕ × W)) → AllByRecursion (λ y. y < k) (keys_of es) → stands es a ≡ Some w → a < k
  below_found k a w [] below found = absurd (cc found)
  below_found k a w (e ∷ es) below found = elim (eq_by_cmp nat_cmp a e.0) as (λ t. eq_by_cmp nat_cmp a e.0 ≡ t → cond t (Some e.1) (stands es a) ≡ Some w → a < k) [
    | true ↦ λ tie _. subst (λ n. n < k) (sym (tie_is a e.0 tie)) below.0
    | false ↦ λ _ later. below_found k a w es below.1 later
  ] refl found

  -- what is in the tail is in the list
  pub found_later : (e : ℕ × W) (es : List (ℕ × W)) → Rise (e ∷ es) → (a : ℕ) (w : W) → stands es a ≡ Some w → stands (e ∷ es) a ≡ Some w
  found_later e es rise a w found =
      ap (λ t. cond t (Some e.1) (stands es a)) (above_is_other a e.0 (above_found e.0 a w es (sorted_head nat_cmp e.0 (keys_of es) rise) found)) ∙ found

  pub found_first : (e : ℕ × W) (es : List (ℕ × W)) → stands (e ∷ es) e.0 ≡ Some e.1
  found_first e es = ap (λ t. cond t (Some e.1) (stands es e.0)) (ties_itself e.0)

  -- what is in the list is the first, or is in the tail
  pub found_rest : (e : ℕ × W) (es : List (ℕ × W)) (a : ℕ) (w : W) → (a ≡ e.0 → ⊥) → stands (e ∷ es) a ≡ Some w → stands es a ≡ Some w
  found_rest e es a w apart found = elim (eq_by_cmp nat_cmp a e.0) as (λ t. eq_by_cmp nat_cmp a e.0 ≡ t → cond t (Some e.1) (stands es a) ≡ Some w → stands es a ≡ Some w) [
    | true ↦ λ tie _. absurd (apart (tie_is a e.0 tie))
    | false ↦ λ _ later. later
  ] refl found

  -- what holds of what is at each key holds of each entry
  pub each_entry : (P : ℕ → W → Type 0) (es : List (ℕ × W)) → Rise es → ((a : ℕ) (w : W) → stands es a ≡ Some w → P a w) → AllByRecursion (λ e. P e.0 e.1) es
  each_entry P [] rise each = tt
  each_entry P (e ∷ es) rise each =
      (each e.0 e.1 (found_first e es), each_entry P es (sorted_tail nat_cmp e.0 (keys_of es) rise) (λ a w found. each a w (found_later e es rise a w found)))

  -- ---- tests

  pub any-found : (p : ℕ × W → Bool) (es : List (ℕ × W)) (a : ℕ) (w : W) → stands es a ≡ Some w → p (a, w) ≡ true → list_any p es ≡ true
  any-found p [] a w found passes = absurd (cc found)
  any-found p (e ∷ es) a w found passes = elim (eq_by_cmp nat_cmp a e.0) as (λ t. eq_by_cmp nat_cmp a e.0 ≡ t → cond t (Some e.1) (stands es a) ≡ Some w → (p e || list_any p es) ≡ true) [
    | true ↦ λ tie here.
        let same : e.1 ≡ w = cc here in
        let whole : ◌≡◌ {A = ℕ × W} e (a, w) = λ i. (sym (tie_is a e.0 tie) i, same i) in
        ap (λ b. b || list_any p es) (ap p whole ∙ passes)
    | false ↦ λ _ later. ap (λ b. p e || b) (any-found p es a w later passes) ∙ or-true (p e)
  ] refl found

  pub any-none : (p : ℕ × W → Bool) (es : List (ℕ × W)) → AllByRecursion (λ e. p e ≡ false) es → list_any p es ≡ false
  any-none p [] none = refl
  any-none p (e ∷ es) none = ap (λ b. b || list_any p es) none.0 ∙ any-none p es none.1

  -- two tests that agree on each entry keep the same
  pub filter-same : (p q : ℕ × W → Bool) (es : List (ℕ × W)) → AllByRecursion (λ e. p e ≡ q e) es → filter p es ≡ filter q es
  filter-same p q [] same = refl
  filter-same p q (e ∷ es) same = ap (λ b. cond b (e ∷ filter p es) (filter p es)) same.0 ∙ ap (λ rest. cond (q e) (e ∷ rest) rest) (filter-same p q es same.1)

  -- ---- one more, one less

  stands-below : (es : List (ℕ × W)) (a : ℕ) → AllByRecursion (λ b. nat_cmp a b ≡ Less) (keys_of es) → stands es a ≡ None
  stands-below [] a below = refl
  stands-below (e ∷ es) a below = ap (λ t. cond t (Some e.1) (stands es a)) (below_is_other a e.0 (less_is a e.0 below.0)) ∙ stands-below es a below.1

  -- the new one is at its key, and the others where they were
  pub stands-pushed : (es : List (ℕ × W)) (a : ℕ) (w : W) → AllByRecursion (λ b. b < a) (keys_of es) → stands (es ++ (a, w) ∷ []) a ≡ Some w
  stands-pushed [] a w below = found_first (a, w) []
  stands-pushed (e ∷ es) a w below = ap (λ t. cond t (Some e.1) (stands (es ++ (a, w) ∷ []) a)) (above_is_other a e.0 below.0) ∙ stands-pushed es a w below.1

  pub stands-push : (es : List (ℕ × W)) (a : ℕ) (w : W) (b : ℕ) → eq_by_cmp nat_cmp b a ≡ false → stands (es ++ (a, w) ∷ []) b ≡ stands es b
  stands-push [] a w b apart = ap (λ t. cond t (Some w) None) apart
  stands-push (e ∷ es) a w b apart = ap (λ o. cond (eq_by_cmp nat_cmp b e.0) (Some e.1) o) (stands-push es a w b apart)

  -- nothing is where it was removed, and the others are where they were
  pub stands-removed : (es : List (ℕ × W)) (a : ℕ) → Rise es → stands (remove_entry (is_at (nat_cmp a)) es) a ≡ None
  stands-removed [] a rise = refl
  stands-removed (e ∷ es) a rise = elim (eq_by_cmp nat_cmp a e.0) as (λ t. eq_by_cmp nat_cmp a e.0 ≡ t → stands (cond t es (e ∷ remove_entry (is_at (nat_cmp a)) es)) a ≡ None) [
    | true ↦ λ tie. ap (stands es) (tie_is a e.0 tie) ∙ stands-below es e.0 (sorted_head nat_cmp e.0 (keys_of es) rise)
    | false ↦ λ apart. ap (λ t. cond t (Some e.1) (stands (remove_entry (is_at (nat_cmp a)) es) a)) apart ∙ stands-removed es a (sorted_tail nat_cmp e.0 (keys_of es) rise)
  ] refl

  pub stands-remove : (es : List (ℕ × W)) (a b : ℕ) → eq_by_cmp nat_cmp b a ≡ false → stands (remove_entry (is_at (nat_cmp a)) es) b ≡ stands es b
  stands-remove [] a b apart = refl
  stands-remove (e ∷ es) a b apart = elim (eq_by_cmp nat_cmp a e.0) as (λ t. eq_by_cmp nat_cmp a e.0 ≡ t → stands (cond t es (e ∷ remove_entry (is_at (nat_cmp a)) es)) b ≡ stands (e ∷ es) b) [
    | true ↦ λ tie. sym (ap (λ t. cond t (Some e.1) (stands es b)) (ap (eq_by_cmp nat_cmp b) (sym (tie_is a e.0 tie)) ∙ apart))
    | false ↦ λ _. ap (λ o. cond (eq_by_cmp nat_cmp b e.0) (Some e.1) o) (stands-remove es a b apart)
  ] refl

  -- if no entry passes, none is removed
  filter-none : (p : ℕ × W → Bool) (es : List (ℕ × W)) → AllByRecursion (λ e. p e ≡ false) es → filter (λ e. not (p e)) es ≡ es
  filter-none p [] none = refl
  filter-none p (e ∷ es) none = ap (λ b. cond (not b) (e ∷ filter (λ e. not (p e)) es) (filter (λ e. not (p e)) es)) none.0 ∙ ap (λ rest. e ∷ rest) (filter-none p es none.1)

  none_later : (p : ℕ × W → Bool) (a k : ℕ) (es : List (ℕ × W)) → a ≡ k → AllByRecursion (λ y. nat_cmp k y ≡ Less) (keys_of es) → AllByRecursion (λ e. eq_by_cmp nat_cmp a e.0 ≡ false → p e ≡ false) es → AllByRecursion (λ e. p e ≡ false) es
  none_later p a k [] same above others = tt
  none_later p a k (e ∷ es) same above others =
      let less : k < e.0 = less_is k e.0 above.0 in
      let below : a < e.0 = omega arith in
      (others.0 (below_is_other a e.0 below), none_later p a k es same above.1 others.1)

  -- if one passes alone, it is removed
  pub filter-one : (p : ℕ × W → Bool) (es : List (ℕ × W)) (a : ℕ) (w : W) → Rise es → stands es a ≡ Some w → p (a, w) ≡ true
      → AllByRecursion (λ e. eq_by_cmp nat_cmp a e.0 ≡ false → p e ≡ false) es → filter (λ e. not (p e)) es ≡ remove_entry (is_at (nat_cmp a)) es
  filter-one p [] a w rise found passes others = absurd (cc found)
  filter-one p (e ∷ es) a w rise found passes others = elim (eq_by_cmp nat_cmp a e.0) as (λ t. eq_by_cmp nat_cmp a e.0 ≡ t → cond t (Some e.1) (stands es a) ≡ Some w → filter (λ e. not (p e)) (e ∷ es) ≡ cond t es (e ∷ remove_entry (is_at (nat_cmp a)) es)) [
    | true ↦ λ tie here.
        let same : e.1 ≡ w = cc here in
        let whole : ◌≡◌ {A = ℕ × W} e (a, w) = λ i. (sym (tie_is a e.0 tie) i, same i) in
        ap (λ b. cond (not b) (e ∷ filter (λ e. not (p e)) es) (filter (λ e. not (p e)) es)) (ap p whole ∙ passes)
        ∙ filter-none p es (none_later p a e.0 es (tie_is a e.0 tie) (sorted_head nat_cmp e.0 (keys_of es) rise) others.1)
    | false ↦ λ apart later.
        ap (λ b. cond (not b) (e ∷ filter (λ e. not (p e)) es) (filter (λ e. not (p e)) es)) (others.0 apart)
        ∙ ap (λ rest. e ∷ rest) (filter-one p es a w (sorted_tail nat_cmp e.0 (keys_of es) rise) later passes others.1)
  ] refl found

  -- ---- what a test keeps

  pub stands-filtered : (p : ℕ × W → Bool) (es : List (ℕ × W)) (a : ℕ) (w : W) → Rise es → stands (filter p es) a ≡ Some w → (stands es a ≡ Some w) × (p (a, w) ≡ true)
  stands-filtered p [] a w rise found = absurd (cc found)
  stands-filtered p (e ∷ es) a w rise found = elim (p e) as (λ t. p e ≡ t → stands (cond t (e ∷ filter p es) (filter p es)) a ≡ Some w → (stands (e ∷ es) a ≡ Some w) × (p (a, w) ≡ true)) [
    | true ↦ λ passes kept. elim (eq_by_cmp nat_cmp a e.0) as (λ t. eq_by_cmp nat_cmp a e.0 ≡ t → cond t (Some e.1) (stands (filter p es) a) ≡ Some w → (cond t (Some e.1) (stands es a) ≡ Some w) × (p (a, w) ≡ true)) [
      | true ↦ λ tie here.
          let same : e.1 ≡ w = cc here in
          let whole : ◌≡◌ {A = ℕ × W} e (a, w) = λ i. (sym (tie_is a e.0 tie) i, same i) in
          (here, sym (ap p whole) ∙ passes)
      | false ↦ λ _ later. stands-filtered p es a w (sorted_tail nat_cmp e.0 (keys_of es) rise) later
    ] refl kept
    | false ↦ λ _ later. let rest = stands-filtered p es a w (sorted_tail nat_cmp e.0 (keys_of es) rise) later in (found_later e es rise a w rest.0, rest.1)
  ] refl found

  pub stands-filter : (p : ℕ × W → Bool) (es : List (ℕ × W)) (a : ℕ) (w : W) → stands es a ≡ Some w → p (a, w) ≡ true → stands (filter p es) a ≡ Some w
  stands-filter p [] a w found passes = absurd (cc found)
  stands-filter p (e ∷ es) a w found passes = elim (eq_by_cmp nat_cmp a e.0) as (λ t. eq_by_cmp nat_cmp a e.0 ≡ t → cond t (Some e.1) (stands es a) ≡ Some w → stands (filter p (e ∷ es)) a ≡ Some w) [
    | true ↦ λ tie here.
        let same : e.1 ≡ w = cc here in
        let whole : ◌≡◌ {A = ℕ × W} e (a, w) = λ i. (sym (tie_is a e.0 tie) i, same i) in
        ap (λ b. stands (cond b (e ∷ filter p es) (filter p es)) a) (ap p whole ∙ passes)
        ∙ ap (λ t. cond t (Some e.1) (stands (filter p es) a)) tie ∙ here
    | false ↦ λ apart later. elim (p e) as (λ t. stands (cond t (e ∷ filter p es) (filter p es)) a ≡ Some w) [
      | true ↦ ap (λ t. cond t (Some e.1) (stands (filter p es) a)) apart ∙ stands-filter p es a w later passes
      | false ↦ stands-filter p es a w later passes
    ]
  ] refl found
