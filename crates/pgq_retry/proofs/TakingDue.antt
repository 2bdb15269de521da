-- What is taken one after another, by due moment.
use Rattle.std.proofs.Common.{◌≡◌, ℕ, ◌≤◌, ◌<◌, ◌+◌, min, ℤ, Bool, true, false, cond, not, List, [], ◌∷◌, ◌++◌, length, take, suc, refl, sym, ◌∙◌, ap, arith}
use Rattle.std.specs.Prelude.{◌||◌, ◌&&◌, ◌==◌, int_le, filter}
use Rattle.std.specs.List.{AllByRecursion}
use Rattle.std.specs.Cmp.{nat_eq_equiv}
use Rattle.std.proofs.lemmas.Int.{ints}
use Rattle.std.proofs.lemmas.List.{take_min, take-take, length-append}
use Rattle.std.proofs.Math.Seq.{take-append_seam}
use Rattle.pgq_retry.specs.declared.retry.Retry.{Retry}
use Rattle.pgq_retry.specs.Retries.{put_by, sorted_by, by_due, is_due, due_now, is_event, is_asked, without, left_by}
use Rattle.pgq_retry.proofs.Lists.{any-append}
use Rattle.pgq_retry.proofs.Sorting.{all-put}

-- ---- sorted lists don't fall

module _ {X : Type 0} (moment : X → ℤ) where
  abbrev NeverFalls : List X → Type 0
  NeverFalls [] = Unit {0}
  NeverFalls (x ∷ xs) = AllByRecursion (λ y. int_le (moment x) (moment y) ≡ true) xs × NeverFalls xs

  le_trans : (a b c : ℤ) → int_le a b ≡ true → int_le b c ≡ true → int_le a c ≡ true
  le_trans a b c one two = grind (arith, ints)

  le_either : (a b : ℤ) → int_le a b ≡ false → int_le b a ≡ true
  le_either a b not_le = grind (arith, ints)

  all_later : (x y : X) (ys : List X) → int_le (moment x) (moment y) ≡ true → AllByRecursion (λ z. int_le (moment y) (moment z) ≡ true) ys → AllByRecursion (λ z. int_le (moment x) (moment z) ≡ true) ys
  all_later x y [] le all = tt
  all_later x y (z ∷ zs) le all = (le_trans (moment x) (moment y) (moment z) le all.0, all_later x y zs le all.1)

  never_falls-put : (x : X) (xs : List X) → NeverFalls xs → NeverFalls (put_by moment x xs)
  never_falls-put x [] rise = (tt, tt)
  never_falls-put x (y ∷ ys) rise = elim (int_le (moment x) (moment y)) as (λ t. int_le (moment x) (moment y) ≡ t → NeverFalls (cond t (x ∷ y ∷ ys) (y ∷ put_by moment x ys))) [
    | true ↦ λ le. ((le, all_later x y ys le rise.0), rise)
    | false ↦ λ after. (all-put moment (λ z. int_le (moment y) (moment z) ≡ true) x ys (le_either (moment x) (moment y) after) rise.0, never_falls-put x ys rise.1)
  ] refl

  never_falls : (xs : List X) → NeverFalls (sorted_by moment xs)
  never_falls [] = tt
  never_falls (x ∷ xs) = never_falls-put x (sorted_by moment xs) (never_falls xs)

-- ---- those that are due are the first ones

later_not_due : (moment due later : ℤ) → int_le due moment ≡ false → int_le due later ≡ true → int_le later moment ≡ false
later_not_due moment due later not_due le = grind (arith, ints)

none_due : (moment : ℤ) (w : Retry) (ws : List Retry) → is_due moment w ≡ false → AllByRecursion (λ v. int_le w.due v.due ≡ true) ws → filter (is_due moment) ws ≡ []
none_due moment w [] not_due all = refl
none_due moment w (v ∷ ws) not_due all =
    ap (λ b. cond b (v ∷ filter (is_due moment) ws) (filter (is_due moment) ws)) (later_not_due moment w.due v.due not_due all.0)
    ∙ none_due moment w ws not_due all.1

due_first : (moment : ℤ) (ws : List Retry) → NeverFalls Retry.due ws → filter (is_due moment) ws ≡ take (length (filter (is_due moment) ws)) ws
due_first moment [] rise = refl
due_first moment (w ∷ ws) rise = elim (is_due moment w) as (λ t. is_due moment w ≡ t → cond t (w ∷ filter (is_due moment) ws) (filter (is_due moment) ws) ≡ take (length (cond t (w ∷ filter (is_due moment) ws) (filter (is_due moment) ws))) (w ∷ ws)) [
  | true ↦ λ _. ap (λ vs. w ∷ vs) (due_first moment ws rise.1)
  | false ↦ λ not_due. let none = none_due moment w ws not_due rise.0 in none ∙ ap (λ vs. take (length vs) (w ∷ ws)) (sym none)
] refl

-- as many of the first as are due, and at most so many, are those that are brought back
pub taken_are : (moment : ℤ) (most : ℕ) (list taken rest : List Retry) → by_due list ≡ taken ++ rest → length taken ≡ min most (length (filter (is_due moment) (by_due list)))
    → taken ≡ due_now moment most list
taken_are moment most list taken rest is count =
    let due = filter (is_due moment) (by_due list) in
    let fewer : length taken ≤ length due = omega arith in
    sym (take-append_seam taken rest)
    ∙ ap (take (length taken)) (sym is)
    ∙ sym (take-take (length taken) (length due) (by_due list) fewer)
    ∙ ap (take (length taken)) (sym (due_first moment (by_due list) (never_falls Retry.due list)))
    ∙ ap (λ n. take n due) count
    ∙ take_min most due

-- there is one more, if fewer were taken than are due
pub one_more : (moment : ℤ) (most count taken_count : ℕ) (list taken : List Retry) → by_due list ≡ taken ++ [] → length taken ≡ taken_count → taken_count < count
    → count ≡ min most (length (filter (is_due moment) (by_due list))) → ⊥
one_more moment most count taken_count list taken is taken_is more is_count =
    let due = filter (is_due moment) (by_due list) in
    let all : length (by_due list) ≡ length taken + 0 = ap length is ∙ length-append taken [] in
    let some : length due ≤ length (by_due list) = fewer-due (by_due list) in
    omega arith
  where
    fewer-due : (ws : List Retry) → length (filter (is_due moment) ws) ≤ length ws
    fewer-due [] = omega arith
    fewer-due (w ∷ ws) = elim (is_due moment w) as (λ t. length (cond t (w ∷ filter (is_due moment) ws) (filter (is_due moment) ws)) ≤ suc (length ws)) [
      | true ↦ let rest = fewer-due ws in omega arith
      | false ↦ let rest = fewer-due ws in omega arith
    ]

-- ---- those that stay

pub left-none : (list : List Retry) → list ≡ left_by [] list
left-none [] = refl
left-none (w ∷ ws) = ap (λ vs. w ∷ vs) (left-none ws)

-- it is as well the event of the one as of the other
symm_event : (w v : Retry) → is_event v.sub v.event.ev_id w ≡ is_event w.sub w.event.ev_id v
symm_event w v = ap (λ b. b && w.event.ev_id == v.event.ev_id) (nat_eq_equiv.symm w.sub v.sub) ∙ ap (λ b. v.sub == w.sub && b) (nat_eq_equiv.symm w.event.ev_id v.event.ev_id)

both_out : (v : Retry) (one taken : Bool) (kept left : List Retry) → kept ≡ left
    → cond (not taken) (cond (not one) (v ∷ kept) kept) kept ≡ cond (not (one || taken)) (v ∷ left) left
both_out v true true kept left same = same
both_out v true false kept left same = same
both_out v false true kept left same = same
both_out v false false kept left same = ap (λ vs. v ∷ vs) same

pub left-more : (w : Retry) (taken list : List Retry) → without w.sub w.event.ev_id (left_by taken list) ≡ left_by (taken ++ w ∷ []) list
left-more w taken [] = refl
left-more w taken (v ∷ list) =
    through (is_asked v.sub v.event.ev_id taken)
    ∙ both_out v (is_event w.sub w.event.ev_id v) (is_asked v.sub v.event.ev_id taken) (without w.sub w.event.ev_id (left_by taken list)) (left_by (taken ++ w ∷ []) list) (left-more w taken list)
    ∙ ap (λ b. cond (not b) (v ∷ left_by (taken ++ w ∷ []) list) (left_by (taken ++ w ∷ []) list))
    (ap (λ b. b || is_asked v.sub v.event.ev_id taken) (sym (symm_event w v)) ∙ sym (any-append (is_event v.sub v.event.ev_id) taken w))
  where
    through : (b : Bool) → without w.sub w.event.ev_id (cond (not b) (v ∷ left_by taken list) (left_by taken list))
        ≡ cond (not b) (cond (not (is_event w.sub w.event.ev_id v)) (v ∷ without w.sub w.event.ev_id (left_by taken list)) (without w.sub w.event.ev_id (left_by taken list))) (without w.sub w.event.ev_id (left_by taken list))
    through true = refl
    through false = refl
