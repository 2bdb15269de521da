-- Lists sorted by moments: what they have, in which order, and the first.
use Rattle.std.proofs.Common.{◌≡◌, ℕ, ◌<◌, ℤ, Bool, true, false, cond, List, [], ◌∷◌, map, refl, sym, ◌∙◌, ap}
use Rattle.std.specs.Prelude.{◌||◌, int_le, option_map, slice_get}
use Rattle.std.specs.declared.cmp.Ordering.TheVariants.{Less}
use Rattle.std.specs.Ordering.{nat_cmp, eq_by_cmp}
use Rattle.std.specs.List.{AllByRecursion, list_any}
use Rattle.std.specs.List.Sorted.{IsStrictlySortedBy}
use Rattle.std.specs.Map.{keys_of, values_of}
use Rattle.std.specs.BTreeSet.{BTreeSet}
use Rattle.std.proofs.lemmas.Map.Keys.{sorted_head, sorted_tail}
use Rattle.pgq_retry.specs.declared.retry.Retry.{Retry}
use Rattle.pgq_retry.specs.Retries.{put_by, sorted_by, by_due}
use Rattle.pgq_retry.specs.Kept.{Entries, InOrder, due_cmp, due_key, IsListed}
use Rattle.pgq_retry.proofs.Lists.{any-map, or-swapped}
use Rattle.pgq_retry.proofs.Orders.{less_is, due_cmp-IsTotalOrder, due_ties-is, due_first, due_before, same_sorted, all_above}

module _ {X : Type 0} (moment : X → ℤ) where
  -- sorting drops none and adds none
  any-put : (p : X → Bool) (x : X) (xs : List X) → list_any p (put_by moment x xs) ≡ (p x || list_any p xs)
  any-put p x [] = refl
  any-put p x (y ∷ ys) = elim (int_le (moment x) (moment y)) as (λ t. list_any p (cond t (x ∷ y ∷ ys) (y ∷ put_by moment x ys)) ≡ (p x || (p y || list_any p ys))) [
    | true ↦ refl
    | false ↦ ap (λ b. p y || b) (any-put p x ys) ∙ or-swapped (p y) (p x) (list_any p ys)
  ]

  pub any-sorted : (p : X → Bool) (xs : List X) → list_any p (sorted_by moment xs) ≡ list_any p xs
  any-sorted p [] = refl
  any-sorted p (x ∷ xs) = any-put p x (sorted_by moment xs) ∙ ap (λ b. p x || b) (any-sorted p xs)

  pub all-put : (P : X → Type 0) (x : X) (xs : List X) → P x → AllByRecursion P xs → AllByRecursion P (put_by moment x xs)
  all-put P x [] here all = (here, tt)
  all-put P x (y ∷ ys) here all = elim (int_le (moment x) (moment y)) as (λ t. AllByRecursion P (cond t (x ∷ y ∷ ys) (y ∷ put_by moment x ys))) [
    | true ↦ (here, all)
    | false ↦ (all.0, all-put P x ys here all.1)
  ]

  pub all-sorted : (P : X → Type 0) (xs : List X) → AllByRecursion P xs → AllByRecursion P (sorted_by moment xs)
  all-sorted P [] all = tt
  all-sorted P (x ∷ xs) all = all-put P x (sorted_by moment xs) all.0 (all-sorted P xs all.1)

-- sorting by what a function gives
map-put : {X Y : Type 0} (f : X → Y) (moment : Y → ℤ) (x : X) (xs : List X) → map f (put_by (λ x. moment (f x)) x xs) ≡ put_by moment (f x) (map f xs)
map-put f moment x [] = refl
map-put f moment x (y ∷ ys) = elim (int_le (moment (f x)) (moment (f y))) as (λ t. map f (cond t (x ∷ y ∷ ys) (y ∷ put_by (λ x. moment (f x)) x ys)) ≡ cond t (f x ∷ f y ∷ map f ys) (f y ∷ put_by moment (f x) (map f ys))) [
  | true ↦ refl
  | false ↦ ap (λ zs. f y ∷ zs) (map-put f moment x ys)
]

pub map-sorted : {X Y : Type 0} (f : X → Y) (moment : Y → ℤ) (xs : List X) → map f (sorted_by (λ x. moment (f x)) xs) ≡ sorted_by moment (map f xs)
map-sorted f moment [] = refl
map-sorted f moment (x ∷ xs) = map-put f moment x (sorted_by (λ x. moment (f x)) xs) ∙ ap (put_by moment (f x)) (map-sorted f moment xs)

-- ---- entries by due moment

-- the entries by due moment, those of one moment by place
abbrev pub sorted : Entries → Entries
sorted es = sorted_by (λ e. e.1.due) es

pub values-sorted : (es : Entries) → values_of (sorted es) ≡ by_due (values_of es)
values-sorted es = map-sorted (λ e. e.1) Retry.due es

all_keys-put : (P : ℤ × ℕ → Type 0) (e : ℕ × Retry) (es : Entries) → P (due_key e) → AllByRecursion P (map due_key es) → AllByRecursion P (map due_key (put_by (λ e. e.1.due) e es))
all_keys-put P e [] here all = (here, tt)
all_keys-put P e (y ∷ ys) here all = elim (int_le e.1.due y.1.due) as (λ t. AllByRecursion P (map due_key (cond t (e ∷ y ∷ ys) (y ∷ put_by (λ e. e.1.due) e ys)))) [
  | true ↦ (here, all)
  | false ↦ (all.0, all_keys-put P e ys here all.1)
]

rises : (k : ℤ × ℕ) (ks : List (ℤ × ℕ)) → AllByRecursion (λ q. due_cmp k q ≡ Less) ks → IsStrictlySortedBy due_cmp ks → IsStrictlySortedBy due_cmp (k ∷ ks)
unfolding IsStrictlySortedBy
rises k ks above rise = (above, rise)

nothing_rises : IsStrictlySortedBy due_cmp []
unfolding IsStrictlySortedBy
nothing_rises = tt

rises-put : (e : ℕ × Retry) (es : Entries) → AllByRecursion (λ y. e.0 < y.0) es → IsStrictlySortedBy due_cmp (map due_key es) → IsStrictlySortedBy due_cmp (map due_key (put_by (λ e. e.1.due) e es))
rises-put e [] below rise = rises (due_key e) [] tt rise
rises-put e (y ∷ ys) below rise = elim (int_le e.1.due y.1.due) as (λ t. int_le e.1.due y.1.due ≡ t → IsStrictlySortedBy due_cmp (map due_key (cond t (e ∷ y ∷ ys) (y ∷ put_by (λ e. e.1.due) e ys)))) [
  | true ↦ λ le.
      let first = due_first e.1.due y.1.due e.0 y.0 le below.0 in
      rises (due_key e) (map due_key (y ∷ ys)) (first, all_above due_cmp due_cmp-IsTotalOrder due_ties-is (due_key e) (due_key y) (map due_key ys) first (sorted_head due_cmp (due_key y) (map due_key ys) rise)) rise
  | false ↦ λ not_le.
      rises (due_key y) (map due_key (put_by (λ e. e.1.due) e ys))
      (all_keys-put (λ q. due_cmp (due_key y) q ≡ Less) e ys (due_before y.1.due e.1.due y.0 e.0 not_le) (sorted_head due_cmp (due_key y) (map due_key ys) rise))
      (rises-put e ys below.1 (sorted_tail due_cmp (due_key y) (map due_key ys) rise))
] refl

places_above : (p : ℕ) (es : Entries) → AllByRecursion (λ q. nat_cmp p q ≡ Less) (keys_of es) → AllByRecursion (λ y. p < y.0) es
places_above p [] above = tt
places_above p (e ∷ es) above = (less_is p e.0 above.0, places_above p es above.1)

rises-sorted : (es : Entries) → InOrder es → IsStrictlySortedBy due_cmp (map due_key (sorted es))
rises-sorted [] order = nothing_rises
rises-sorted (e ∷ es) order = rises-put e (sorted es)
    (all-sorted (λ e. e.1.due) (λ y. e.0 < y.0) es (places_above e.0 es (sorted_head nat_cmp e.0 (keys_of es) order)))
    (rises-sorted es (sorted_tail nat_cmp e.0 (keys_of es) order))

-- the index lists the entries as they are sorted
pub listed_is : (es : Entries) (dues : BTreeSet (ℤ × ℕ)) → IsListed es dues → dues.keys ≡ map due_key (sorted es)
listed_is es dues kept = same_sorted due_cmp due_cmp-IsTotalOrder due_ties-is dues.keys (map due_key (sorted es)) kept.by_moment (rises-sorted es kept.in_order)
    (λ q. kept.listed q
    ∙ sym (any-sorted (λ e. e.1.due) (λ e. eq_by_cmp due_cmp q (due_key e)) es)
    ∙ sym (any-map due_key (eq_by_cmp due_cmp q) (sorted es)))

-- ---- the first, and what is due

first_in : (es : Entries) → option_map (λ k. k.1) (slice_get (map due_key es) 0) ≡ option_map (λ e. e.0) (slice_get es 0)
first_in [] = refl
first_in (e ∷ es) = refl

pub first_place : (es : Entries) (dues : BTreeSet (ℤ × ℕ)) → IsListed es dues → option_map (λ k. k.1) (slice_get dues.keys 0) ≡ option_map (λ e. e.0) (slice_get (sorted es) 0)
first_place es dues kept = ap (λ ks. option_map (λ k. k.1) (slice_get ks 0)) (listed_is es dues kept) ∙ first_in (sorted es)

-- whether a key is due
abbrev pub key_due : ℤ → ℤ × ℕ → Bool
key_due moment k = int_le k.0 moment
