-- Values at two places of a list, which is cut between them.
use Rattle.std.proofs.Common.{◌≡◌, ℕ, ◌<◌, List, ◌++◌, length, get_or, slice_set, sym, ◌∙◌, ap, arith}
use Rattle.std.proofs.lemmas.List.{length-set, set-append_left, set-append_right, get_or_append_left, get_or-append_right}

module _ {V : Type 0} where
  -- one in the first part
  pub read-front : (values front back : List V) (place : ℕ) (x : V) → values ≡ front ++ back → place < length front → x ≡ get_or front place x → x ≡ get_or values place x
  read-front values front back place x is lt at = at ∙ sym (ap (λ v. get_or v place x) is ∙ get_or_append_left front back x place lt)

  -- one at the first place of the second part
  pub read-seam : (values front back : List V) (seam : ℕ) (x : V) → values ≡ front ++ back → length front ≡ seam → x ≡ get_or back 0 x → x ≡ get_or values seam x
  read-seam values front back seam x is len at =
      at ∙ sym (ap (λ v. get_or v seam x) is ∙ get_or-append_right front back seam seam x len (omega arith) ∙ ap (λ n. get_or back n x) (omega arith))

  set-seam : (front back : List V) (seam : ℕ) (y : V) → length front ≡ seam → slice_set (front ++ back) seam y ≡ front ++ slice_set back 0 y
  set-seam front back seam y len = set-append_right front back seam seam y len (omega arith) ∙ ap (λ n. front ++ slice_set back n y) (omega arith)

  -- the first of two is in the first part
  pub first-before : (values front back : List V) (first second : ℕ) (x y : V) → values ≡ front ++ back → length front ≡ second → first < second
      → slice_set front first x ++ slice_set back 0 y ≡ slice_set (slice_set values first x) second y
  first-before values front back first second x y is len lt =
      sym (ap (λ v. slice_set (slice_set v first x) second y) is
      ∙ ap (λ v. slice_set v second y) (set-append_left front back first x (omega (arith, lt, len)))
      ∙ set-seam (slice_set front first x) back second y (length-set front first x ∙ len))

  -- it is in the second part
  pub first-after : (values front back : List V) (first second : ℕ) (x y : V) → values ≡ front ++ back → length front ≡ first → second < first
      → slice_set front second y ++ slice_set back 0 x ≡ slice_set (slice_set values first x) second y
  first-after values front back first second x y is len lt =
      sym (ap (λ v. slice_set (slice_set v first x) second y) is
      ∙ ap (λ v. slice_set v second y) (set-seam front back first x len)
      ∙ set-append_left front (slice_set back 0 x) second y (omega (arith, lt, len)))
