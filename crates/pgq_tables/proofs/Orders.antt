-- The order by transaction: how long it is, what stands in it, and how it rises.
use Rattle.std.proofs.Common.{◌≡◌, ℕ, suc, zero, ◌+◌, ◌<◌, ◌≤◌, ◌⊎◌, inl, ⊎_elim, Bool, true, false, cond, List, [], ◌∷◌, ◌++◌, length, Some, refl, sym, subst, ◌∙◌, ap, arith}
use Rattle.std.specs.Prelude.{nat_lt, slice_get, filter}
use Rattle.std.specs.List.{AllByRecursion}
use Rattle.std.specs.List.Sorted.{IsPermutation}
use Rattle.std.proofs.lemmas.List.{append-nil, append_assoc}
use Rattle.std.proofs.lemmas.List.Sorted.{IsPermutation-refl, IsPermutation-trans, IsPermutation-cons, IsPermutation-middle, IsPermutation-sym, IsPermutation-append_right}
use Rattle.pgq_tables.specs.Tables.{Stored}
use Rattle.pgq_tables.specs.Order.{put_by_txid, by_txid_onto, by_txid}

-- the transaction of a placed event
abbrev pub txid_of : ℕ × Stored → ℕ
txid_of x = x.1.event.ev_txid

-- events with their places from a number on
abbrev pub numbered : ℕ → List Stored → List (ℕ × Stored)
numbered n [] = []
numbered n (s ∷ ss) = (n, s) ∷ numbered (n + 1) ss

-- ---- how long it is

length-put : (x : ℕ × Stored) (xs : List (ℕ × Stored)) → length (put_by_txid x xs) ≡ length xs + 1
length-put x [] = omega arith
length-put x (y ∷ ys) = elim (nat_lt (txid_of x) (txid_of y)) as (λ t. length (cond t (x ∷ y ∷ ys) (y ∷ put_by_txid x ys)) ≡ length (y ∷ ys) + 1) [
  | true ↦ omega arith
  | false ↦ let rest = length-put x ys in omega arith
]

length-onto : (sorted : List (ℕ × Stored)) (n : ℕ) (list : List Stored) → length (by_txid_onto sorted n list) ≡ length sorted + length list
length-onto sorted n [] = omega arith
length-onto sorted n (s ∷ ss) =
    let one = length-put (n, s) sorted in
    let rest = length-onto (put_by_txid (n, s) sorted) (n + 1) ss in
    omega arith

pub length-by_txid : (list : List Stored) → length (by_txid list) ≡ length list
length-by_txid list = let whole = length-onto [] 0 list in omega arith

-- ---- what stands in it

module _ (P : ℕ × Stored → Type 0) where
  all-put : (x : ℕ × Stored) (xs : List (ℕ × Stored)) → P x → AllByRecursion P xs → AllByRecursion P (put_by_txid x xs)
  all-put x [] here all = (here, tt)
  all-put x (y ∷ ys) here all = elim (nat_lt (txid_of x) (txid_of y)) as (λ t. AllByRecursion P (cond t (x ∷ y ∷ ys) (y ∷ put_by_txid x ys))) [
    | true ↦ (here, all)
    | false ↦ (all.0, all-put x ys here all.1)
  ]

  of-put : (x : ℕ × Stored) (xs : List (ℕ × Stored)) → AllByRecursion P (put_by_txid x xs) → P x × AllByRecursion P xs
  of-put x [] all = (all.0, tt)
  of-put x (y ∷ ys) all = elim (nat_lt (txid_of x) (txid_of y)) as (λ t. AllByRecursion P (cond t (x ∷ y ∷ ys) (y ∷ put_by_txid x ys)) → P x × AllByRecursion P (y ∷ ys)) [
    | true ↦ λ all. (all.0, all.1)
    | false ↦ λ all. let rest = of-put x ys all.1 in (rest.0, (all.0, rest.1))
  ] all

  all-onto : (sorted : List (ℕ × Stored)) (n : ℕ) (list : List Stored) → AllByRecursion P sorted → AllByRecursion P (numbered n list) → AllByRecursion P (by_txid_onto sorted n list)
  all-onto sorted n [] all more = all
  all-onto sorted n (s ∷ ss) all more = all-onto (put_by_txid (n, s) sorted) (n + 1) ss (all-put (n, s) sorted more.0 all) more.1

  of-onto : (sorted : List (ℕ × Stored)) (n : ℕ) (list : List Stored) → AllByRecursion P (by_txid_onto sorted n list) → AllByRecursion P sorted × AllByRecursion P (numbered n list)
  of-onto sorted n [] all = (all, tt)
  of-onto sorted n (s ∷ ss) all =
      let rest = of-onto (put_by_txid (n, s) sorted) (n + 1) ss all in
      let parts = of-put (n, s) sorted rest.0 in
      (parts.1, (parts.0, rest.1))

  -- what holds of each event with its place holds in order of transactions, and the other way round
  pub all-by_txid : (list : List Stored) → AllByRecursion P (numbered 0 list) → AllByRecursion P (by_txid list)
  all-by_txid list all = all-onto [] 0 list tt all

  pub of-by_txid : (list : List Stored) → AllByRecursion P (by_txid list) → AllByRecursion P (numbered 0 list)
  of-by_txid list all = (of-onto [] 0 list all).1

-- an element by its index, and each of them
pub all-get : {X : Type 0} (P : X → Type 0) (xs : List X) → ((j : ℕ) (x : X) → slice_get xs j ≡ Some x → P x) → AllByRecursion P xs
all-get P [] each = tt
all-get P (x ∷ xs) each = (each 0 x refl, all-get P xs (λ j y found. each (suc j) y found))

pub get-all : {X : Type 0} (P : X → Type 0) (xs : List X) → AllByRecursion P xs → (j : ℕ) (x : X) → slice_get xs j ≡ Some x → P x
get-all P [] all j x found = absurd (cc found)
get-all P (y ∷ ys) all zero x found = let same : y ≡ x = cc found in subst P same all.0
get-all P (y ∷ ys) all (suc j) x found = get-all P ys all.1 j x found

-- each with its place
pub get-numbered : (n : ℕ) (list : List Stored) (k : ℕ) (s : Stored) → slice_get list k ≡ Some s → slice_get (numbered n list) k ≡ Some (n + k, s)
get-numbered n [] k s found = absurd (cc found)
get-numbered n (r ∷ rs) zero s found =
    let same : r ≡ s = cc found in
    let place : n ≡ n + 0 = omega arith in
    λ i. Some (place i, same i)
get-numbered n (r ∷ rs) (suc k) s found =
    let place : n + 1 + k ≡ n + suc k = omega arith in
    get-numbered (n + 1) rs k s found ∙ ap (λ m. Some (m, s)) place

numbered-there : (n : ℕ) (before list whole : List Stored) → length before ≡ n → whole ≡ before ++ list → AllByRecursion (λ x. slice_get whole x.0 ≡ Some x.1) (numbered n list)
numbered-there n before [] whole long is = tt
numbered-there n before (s ∷ ss) whole long is = (
  ap (λ list. slice_get list n) is ∙ at before s ss n long,
  numbered-there (n + 1) (before ++ s ∷ []) ss whole (longer before s n long) (is ∙ sym (append_assoc before (s ∷ []) ss)),
)
  where
    at : (before : List Stored) (s : Stored) (ss : List Stored) (n : ℕ) → length before ≡ n → slice_get (before ++ s ∷ ss) n ≡ Some s
    at [] s ss n long = ap (λ n. slice_get (s ∷ ss) n) (sym long)
    at (b ∷ bs) s ss zero long = absurd (omega arith)
    at (b ∷ bs) s ss (suc n) long = at bs s ss n (omega arith)

    longer : (before : List Stored) (s : Stored) (n : ℕ) → length before ≡ n → length (before ++ s ∷ []) ≡ n + 1
    longer [] s n long = omega arith
    longer (b ∷ bs) s zero long = absurd (omega arith)
    longer (b ∷ bs) s (suc n) long = let rest = longer bs s n (omega arith) in omega arith

-- each one stands at its place
pub there-by_txid : (list : List Stored) (j : ℕ) (x : ℕ × Stored) → slice_get (by_txid list) j ≡ Some x → slice_get list x.0 ≡ Some x.1
there-by_txid list j x found = get-all (λ x. slice_get list x.0 ≡ Some x.1) (by_txid list) (all-by_txid (λ x. slice_get list x.0 ≡ Some x.1) list (numbered-there 0 [] list list refl refl)) j x found

-- what holds of each by transaction holds of what stands at a place
pub at-place : (P : ℕ × Stored → Type 0) (list : List Stored) → ((j : ℕ) (x : ℕ × Stored) → slice_get (by_txid list) j ≡ Some x → P x) → (place : ℕ) (s : Stored) → slice_get list place ≡ Some s → P (place, s)
at-place P list each place s found =
    let all = of-by_txid P list (all-get P (by_txid list) each) in
    let here = get-all P (numbered 0 list) all place (0 + place, s) (get-numbered 0 list place s found) in
    let is : 0 + place ≡ place = omega arith in
    subst (λ n. P (n, s)) is here

-- ---- the same elements as the events with their places

permuted-put : (x : ℕ × Stored) (xs : List (ℕ × Stored)) → IsPermutation (x ∷ xs) (put_by_txid x xs)
permuted-put x [] = IsPermutation-refl (x ∷ [])
permuted-put x (y ∷ ys) = elim (nat_lt (txid_of x) (txid_of y)) as (λ t. IsPermutation (x ∷ y ∷ ys) (cond t (x ∷ y ∷ ys) (y ∷ put_by_txid x ys))) [
  | true ↦ IsPermutation-refl (x ∷ y ∷ ys)
  | false ↦ IsPermutation-trans _ _ _ (IsPermutation-sym _ _ (IsPermutation-middle (y ∷ []) x ys)) (IsPermutation-cons y (x ∷ ys) (put_by_txid x ys) (permuted-put x ys))
]

permuted-onto : (sorted : List (ℕ × Stored)) (n : ℕ) (list : List Stored) → IsPermutation (numbered n list ++ sorted) (by_txid_onto sorted n list)
permuted-onto sorted n [] = IsPermutation-refl sorted
permuted-onto sorted n (s ∷ ss) = IsPermutation-trans _ _ _
    (IsPermutation-sym _ _ (IsPermutation-middle (numbered (n + 1) ss) (n, s) sorted))
    (IsPermutation-trans _ _ _
    (IsPermutation-append_right (numbered (n + 1) ss) _ _ (permuted-put (n, s) sorted))
    (permuted-onto (put_by_txid (n, s) sorted) (n + 1) ss))

-- ---- how it rises

-- by transaction, and within one by place
abbrev pub IsBefore : ℕ × Stored → ℕ × Stored → Type 0
IsBefore x y = (txid_of x < txid_of y) ⊎ ((txid_of x ≡ txid_of y) × (x.0 < y.0))

abbrev pub Rises : List (ℕ × Stored) → Type 0
Rises [] = Unit {0}
Rises (x ∷ xs) = AllByRecursion (IsBefore x) xs × Rises xs

pub before-trans : (x y z : ℕ × Stored) → IsBefore x y → IsBefore y z → IsBefore x z
before-trans x y z one other = grind arith

all-weaker : {X : Type 0} (P Q : X → Type 0) → ((x : X) → P x → Q x) → (xs : List X) → AllByRecursion P xs → AllByRecursion Q xs
all-weaker P Q weaker [] all = tt
all-weaker P Q weaker (x ∷ xs) all = (weaker x all.0, all-weaker P Q weaker xs all.1)

rises-put : (x : ℕ × Stored) (xs : List (ℕ × Stored)) → AllByRecursion (λ y. y.0 < x.0) xs → Rises xs → Rises (put_by_txid x xs)
rises-put x [] below rise = (tt, tt)
rises-put x (y ∷ ys) below rise = elim (nat_lt (txid_of x) (txid_of y)) as (λ t. nat_lt (txid_of x) (txid_of y) ≡ t → Rises (cond t (x ∷ y ∷ ys) (y ∷ put_by_txid x ys))) [
  | true ↦ λ less.
      let first : IsBefore x y = inl (is_less (txid_of x) (txid_of y) less) in
      ((first, all-weaker (IsBefore y) (IsBefore x) (λ z next. before-trans x y z first next) ys rise.0), rise)
  | false ↦ λ not_less. (all-put (IsBefore y) x ys (comes_first x y below.0 not_less) rise.0, rises-put x ys below.1 rise.1)
] refl
  where
    is_less : (a b : ℕ) → nat_lt a b ≡ true → a < b
    is_less a b less = grind arith

    comes_first : (x y : ℕ × Stored) → y.0 < x.0 → nat_lt (txid_of x) (txid_of y) ≡ false → IsBefore y x
    comes_first x y below not_less = from (txid_of y) (txid_of x) below not_less
      where
        from : {P : Type 0} (a b : ℕ) → P → nat_lt b a ≡ false → (a < b) ⊎ ((a ≡ b) × P)
        from a b p not_less = grind arith

rises-onto : (sorted : List (ℕ × Stored)) (n : ℕ) (list : List Stored) → AllByRecursion (λ y. y.0 < n) sorted → Rises sorted → Rises (by_txid_onto sorted n list)
rises-onto sorted n [] below rise = rise
rises-onto sorted n (s ∷ ss) below rise = rises-onto (put_by_txid (n, s) sorted) (n + 1) ss
    (all-put (λ y. y.0 < n + 1) (n, s) sorted (next n) (all-weaker (λ y. y.0 < n) (λ y. y.0 < n + 1) (λ y less. more y.0 n less) sorted below))
    (rises-put (n, s) sorted below rise)
  where
    next : (n : ℕ) → n < n + 1
    next n = omega arith

    more : (m n : ℕ) → m < n → m < n + 1
    more m n less = omega arith

pub rises-by_txid : (list : List Stored) → Rises (by_txid list)
rises-by_txid list = rises-onto [] 0 list tt tt

pub rises-get : (xs : List (ℕ × Stored)) → Rises xs → (i j : ℕ) (x y : ℕ × Stored) → i < j → slice_get xs i ≡ Some x → slice_get xs j ≡ Some y → IsBefore x y
rises-get [] rise i j x y less found_x found_y = absurd (cc found_x)
rises-get (z ∷ zs) rise i zero x y less found_x found_y = absurd (omega arith)
rises-get (z ∷ zs) rise zero (suc j) x y less found_x found_y =
    let same : z ≡ x = cc found_x in
    subst (λ z. IsBefore z y) same (get-all (IsBefore z) zs rise.0 j y found_y)
rises-get (z ∷ zs) rise (suc i) (suc j) x y less found_x found_y = rises-get zs rise.1 i j x y (omega arith) found_x found_y

-- the one at a lower index comes before
pub before-by_txid : (list : List Stored) (i j : ℕ) (x y : ℕ × Stored) → i < j → slice_get (by_txid list) i ≡ Some x → slice_get (by_txid list) j ≡ Some y → IsBefore x y
before-by_txid list = rises-get (by_txid list) (rises-by_txid list)

-- transactions don't fall
pub txids-by_txid : (list : List Stored) (i j : ℕ) (x y : ℕ × Stored) → i ≤ j → slice_get (by_txid list) i ≡ Some x → slice_get (by_txid list) j ≡ Some y → txid_of x ≤ txid_of y
txids-by_txid list i j x y le found_x found_y = ⊎_elim
    (λ less. weaker (before-by_txid list i j x y less found_x found_y))
    (λ same. let is : x ≡ y = cc (sym found_x ∙ ap (λ i. slice_get (by_txid list) i) same ∙ found_y) in equal (ap txid_of is))
    (cases i j le)
  where
    cases : (i j : ℕ) → i ≤ j → (i < j) ⊎ (i ≡ j)
    cases i j le = grind arith

    weaker : IsBefore x y → txid_of x ≤ txid_of y
    weaker before = grind arith

    equal : {a b : ℕ} → a ≡ b → a ≤ b
    equal same = omega arith

-- ---- sorted by place it is the events with their places again

-- a placed event, in front of the first one of a higher place
abbrev pub put_by_place : ℕ × Stored → List (ℕ × Stored) → List (ℕ × Stored)
put_by_place x [] = x ∷ []
put_by_place x (y ∷ ys) = cond (nat_lt x.0 y.0) (x ∷ y ∷ ys) (y ∷ put_by_place x ys)

abbrev pub by_place : List (ℕ × Stored) → List (ℕ × Stored)
by_place [] = []
by_place (x ∷ xs) = put_by_place x (by_place xs)

lt-true : (a b : ℕ) → a < b → nat_lt a b ≡ true
lt-true a b less = grind arith

lt-false : (a b : ℕ) → b < a → nat_lt a b ≡ false
lt-false a b less = grind arith

all-put_by_place : (P : ℕ × Stored → Type 0) (x : ℕ × Stored) (xs : List (ℕ × Stored)) → P x → AllByRecursion P xs → AllByRecursion P (put_by_place x xs)
all-put_by_place P x [] here all = (here, tt)
all-put_by_place P x (y ∷ ys) here all = elim (nat_lt x.0 y.0) as (λ t. AllByRecursion P (cond t (x ∷ y ∷ ys) (y ∷ put_by_place x ys))) [
  | true ↦ (here, all)
  | false ↦ (all.0, all-put_by_place P x ys here all.1)
]

all-by_place : (P : ℕ × Stored → Type 0) (xs : List (ℕ × Stored)) → AllByRecursion P xs → AllByRecursion P (by_place xs)
all-by_place P [] all = tt
all-by_place P (x ∷ xs) all = all-put_by_place P x (by_place xs) all.0 (all-by_place P xs all.1)

all-filter : {X : Type 0} (P : X → Type 0) (p : X → Bool) (xs : List X) → AllByRecursion P xs → AllByRecursion P (filter p xs)
all-filter P p [] all = tt
all-filter P p (x ∷ xs) all = elim (p x) as (λ t. AllByRecursion P (cond t (x ∷ filter p xs) (filter p xs))) [
  | true ↦ (all.0, all-filter P p xs all.1)
  | false ↦ all-filter P p xs all.1
]

-- above all it is put at the end
put_last : (x : ℕ × Stored) (xs : List (ℕ × Stored)) → AllByRecursion (λ y. y.0 < x.0) xs → put_by_place x xs ≡ xs ++ x ∷ []
put_last x [] below = refl
put_last x (y ∷ ys) below =
    ap (λ t. cond t (x ∷ y ∷ ys) (y ∷ put_by_place x ys)) (lt-false x.0 y.0 below.0) ∙ ap (λ zs. y ∷ zs) (put_last x ys below.1)

-- two of different places are put in either order
put_both : (x y : ℕ × Stored) (zs : List (ℕ × Stored)) → y.0 < x.0 → put_by_place y (put_by_place x zs) ≡ put_by_place x (put_by_place y zs)
put_both x y [] less =
    ap (λ t. cond t (y ∷ x ∷ []) (x ∷ y ∷ [])) (lt-true y.0 x.0 less)
    ∙ ap (λ t. cond t (x ∷ y ∷ []) (y ∷ x ∷ [])) (sym (lt-false x.0 y.0 less))
put_both x y (z ∷ zs) less = elim (nat_lt x.0 z.0) as (λ t. nat_lt x.0 z.0 ≡ t → put_by_place y (cond t (x ∷ z ∷ zs) (z ∷ put_by_place x zs)) ≡ put_by_place x (put_by_place y (z ∷ zs))) [
  | true ↦ λ x_first.
      ap (λ t. cond t (y ∷ x ∷ z ∷ zs) (x ∷ put_by_place y (z ∷ zs))) (lt-true y.0 x.0 less)
      ∙ ap (λ t. y ∷ cond t (x ∷ z ∷ zs) (z ∷ put_by_place x zs)) (sym x_first)
      ∙ ap (λ t. cond t (x ∷ y ∷ z ∷ zs) (y ∷ put_by_place x (z ∷ zs))) (sym (lt-false x.0 y.0 less))
      ∙ ap (λ t. put_by_place x (cond t (y ∷ z ∷ zs) (z ∷ put_by_place y zs))) (sym (first_too x.0 y.0 z.0 less x_first))
  | false ↦ λ x_later. elim (nat_lt y.0 z.0) as (λ t. cond t (y ∷ z ∷ put_by_place x zs) (z ∷ put_by_place y (put_by_place x zs)) ≡ put_by_place x (cond t (y ∷ z ∷ zs) (z ∷ put_by_place y zs))) [
    | true ↦
        ap (λ t. y ∷ cond t (x ∷ z ∷ zs) (z ∷ put_by_place x zs)) (sym x_later)
        ∙ ap (λ t. cond t (x ∷ y ∷ z ∷ zs) (y ∷ put_by_place x (z ∷ zs))) (sym (lt-false x.0 y.0 less))
    | false ↦
        ap (λ xs. z ∷ xs) (put_both x y zs less)
        ∙ ap (λ t. cond t (x ∷ z ∷ put_by_place y zs) (z ∷ put_by_place x (put_by_place y zs))) (sym x_later)
  ]
] refl
  where
    first_too : (x y z : ℕ) → y < x → nat_lt x z ≡ true → nat_lt y z ≡ true
    first_too x y z less first = grind arith

kept-put : (p : ℕ × Stored → Bool) (x : ℕ × Stored) (xs : List (ℕ × Stored)) → AllByRecursion (λ y. y.0 < x.0) xs
    → by_place (filter p (put_by_txid x xs)) ≡ cond (p x) (put_by_place x (by_place (filter p xs))) (by_place (filter p xs))
kept-put p x [] below = elim (p x) as (λ t. by_place (cond t (x ∷ []) []) ≡ cond t (x ∷ []) []) [ true ↦ refl | false ↦ refl ]
kept-put p x (y ∷ ys) below = elim (nat_lt (txid_of x) (txid_of y)) as (λ t. by_place (filter p (cond t (x ∷ y ∷ ys) (y ∷ put_by_txid x ys))) ≡ cond (p x) (put_by_place x (by_place (filter p (y ∷ ys)))) (by_place (filter p (y ∷ ys)))) [
  | true ↦ elim (p x) as (λ t. by_place (cond t (x ∷ filter p (y ∷ ys)) (filter p (y ∷ ys))) ≡ cond t (put_by_place x (by_place (filter p (y ∷ ys)))) (by_place (filter p (y ∷ ys)))) [ true ↦ refl | false ↦ refl ]
  | false ↦
      let rest = kept-put p x ys below.1 in
      elim (p y) as (λ t. by_place (cond t (y ∷ filter p (put_by_txid x ys)) (filter p (put_by_txid x ys))) ≡ cond (p x) (put_by_place x (by_place (cond t (y ∷ filter p ys) (filter p ys)))) (by_place (cond t (y ∷ filter p ys) (filter p ys)))) [
        | true ↦ ap (put_by_place y) rest ∙ elim (p x) as (λ t. put_by_place y (cond t (put_by_place x (by_place (filter p ys))) (by_place (filter p ys))) ≡ cond t (put_by_place x (put_by_place y (by_place (filter p ys)))) (put_by_place y (by_place (filter p ys)))) [
          | true ↦ put_both x y (by_place (filter p ys)) below.0
          | false ↦ refl
        ]
        | false ↦ rest
      ]
]

kept-onto : (p : ℕ × Stored → Bool) (sorted : List (ℕ × Stored)) (n : ℕ) (list : List Stored) → AllByRecursion (λ y. y.0 < n) sorted
    → by_place (filter p (by_txid_onto sorted n list)) ≡ by_place (filter p sorted) ++ filter p (numbered n list)
kept-onto p sorted n [] below = sym (append-nil (by_place (filter p sorted)))
kept-onto p sorted n (s ∷ ss) below =
    let before : List (ℕ × Stored) = by_place (filter p sorted) in
    kept-onto p (put_by_txid (n, s) sorted) (n + 1) ss (all-put (λ y. y.0 < n + 1) (n, s) sorted (next n) (all-weaker (λ y. y.0 < n) (λ y. y.0 < n + 1) (λ y less. more y.0 n less) sorted below))
    ∙ ap (λ xs. xs ++ filter p (numbered (n + 1) ss)) (kept-put p (n, s) sorted below)
    ∙ elim (p (n, s)) as (λ t. cond t (put_by_place (n, s) before) before ++ filter p (numbered (n + 1) ss) ≡ before ++ cond t ((n, s) ∷ filter p (numbered (n + 1) ss)) (filter p (numbered (n + 1) ss))) [
      | true ↦
          ap (λ xs. xs ++ filter p (numbered (n + 1) ss)) (put_last (n, s) before (all-by_place (λ y. y.0 < n) (filter p sorted) (all-filter (λ y. y.0 < n) p sorted below)))
          ∙ append_assoc before ((n, s) ∷ []) (filter p (numbered (n + 1) ss))
      | false ↦ refl
    ]
  where
    next : (n : ℕ) → n < n + 1
    next n = omega arith

    more : (m n : ℕ) → m < n → m < n + 1
    more m n less = omega arith
