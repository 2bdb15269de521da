-- Lists in order of a key, as a stable sort leaves them.
use Rattle.std.proofs.Common.{◌≡◌, ℕ, ◌+◌, ◌<◌, ◌≤◌, zero, suc, Bool, true, false, List, [], ◌∷◌, ◌++◌, length, get_or, filter, ◌==◌, nat_lt, refl, sym, ap, append-nil, append_assoc, ◌∙◌, arith, inl, inr, if◌then◌else◌}
use Rattle.std.specs.List.{All}
use Rattle.std.proofs.lemmas.Bool.{cases_Bool, cond_both, cond-true, cond-false, lt-ltb, le-ltb, ltb-true, ltb-false}
use Rattle.std.proofs.lemmas.Bool.Decides.{nat_tests}
use Rattle.std.proofs.lemmas.List.Elements.{All-nil, All-cons, All-head, All-tail, All-push}

-- an element is put in front of the first one with a higher key
abbrev pub put_by : {X : Type 0} → (X → ℕ) → X → List X → List X
put_by key x [] = x ∷ []
put_by key x (y ∷ ys) = if nat_lt (key x) (key y) then x ∷ y ∷ ys else y ∷ put_by key x ys

abbrev pub put_all_by : {X : Type 0} → (X → ℕ) → List X → List X → List X
put_all_by key done [] = done
put_all_by key done (x ∷ xs) = put_all_by key (put_by key x done) xs

-- elements in order of their keys, those with equal keys in their order
abbrev pub in_order_by : {X : Type 0} → (X → ℕ) → List X → List X
in_order_by key xs = put_all_by key [] xs

-- the keys don't fall, and none is below a number
abbrev pub Rises : {X : Type 0} → (X → ℕ) → ℕ → List X → Type 0
Rises key low [] = Unit {0}
Rises key low (x ∷ xs) = (low ≤ key x) × Rises key (key x) xs

-- the elements with a key, in their order
abbrev pub with_key : {X : Type 0} → (X → ℕ) → ℕ → List X → List X
with_key key k xs = filter (λ x. key x == k) xs

-- the first of a list
abbrev pub head_of : {X : Type 0} → List X → List X
head_of [] = []
head_of (x ∷ xs) = x ∷ []

-- the first of an element and of those that are first so far
abbrev pub first_by : {X : Type 0} → (X → ℕ) → X → List X → List X
first_by key x [] = x ∷ []
first_by key x (y ∷ ys) = if nat_lt (key x) (key y) then x ∷ [] else y ∷ []

pub Rises-weaker : {X : Type 0} (key : X → ℕ) (low lower : ℕ) (xs : List X) → lower ≤ low → Rises key low xs → Rises key lower xs
Rises-weaker key low lower [] le r = tt
Rises-weaker key low lower (x ∷ xs) le r = ((omega (arith, r.0)), r.1)

Rises-put_by : {X : Type 0} (key : X → ℕ) (low : ℕ) (x : X) (xs : List X) → low ≤ key x → Rises key low xs → Rises key low (put_by key x xs)
Rises-put_by key low x [] le r = (le, tt)
Rises-put_by key low x (y ∷ ys) le r =
    cond_both (nat_lt (key x) (key y)) (x ∷ y ∷ ys) (y ∷ put_by key x ys) (Rises key low) (λ test. (le, ((grind (arith, nat_tests)), r.1)))
    (λ test. (r.0, Rises-put_by key (key y) x ys (grind (arith, nat_tests)) r.1))

Rises-put_all_by : {X : Type 0} (key : X → ℕ) (done xs : List X) → Rises key 0 done → Rises key 0 (put_all_by key done xs)
Rises-put_all_by key done [] r = r
Rises-put_all_by key done (x ∷ xs) r = Rises-put_all_by key (put_by key x done) xs (Rises-put_by key 0 x done (omega arith) r)

pub Rises-in_order_by : {X : Type 0} (key : X → ℕ) (xs : List X) → Rises key 0 (in_order_by key xs)
Rises-in_order_by key xs = Rises-put_all_by key [] xs tt

pub Rises-filter : {X : Type 0} (key : X → ℕ) (q : X → Bool) (low : ℕ) (xs : List X) → Rises key low xs → Rises key low (filter q xs)
Rises-filter key q low [] r = tt
Rises-filter key q low (x ∷ xs) r =
    cond_both (q x) (x ∷ filter q xs) (filter q xs) (Rises key low) (λ _. (r.0, Rises-filter key q (key x) xs r.1))
    (λ _. Rises-weaker key (key x) low (filter q xs) r.0 (Rises-filter key q (key x) xs r.1))

-- ---- elements with one key

-- none has a key below those that don't fall
with_key-below : {X : Type 0} (key : X → ℕ) (k low : ℕ) (xs : List X) → k < low → Rises key low xs → with_key key k xs ≡ []
with_key-below key k low [] less r = refl
with_key-below key k low (x ∷ xs) less r =
    let le : low ≤ key x = r.0 in
    let other : (key x == k) ≡ false = grind (arith, nat_tests) in
    cond-false _ (x ∷ with_key key k xs) (with_key key k xs) other ∙ with_key-below key k (key x) xs (omega arith) r.1

with_key-first : {X : Type 0} (key : X → ℕ) (k : ℕ) (x : X) (xs : List X) → key x ≡ k → with_key key k (x ∷ xs) ≡ x ∷ with_key key k xs
with_key-first key k x xs same = let is : (key x == k) ≡ true = grind (arith, nat_tests) in cond-true _ (x ∷ with_key key k xs) (with_key key k xs) is

with_key-other : {X : Type 0} (key : X → ℕ) (k : ℕ) (x : X) (xs : List X) → (key x == k) ≡ false → with_key key k (x ∷ xs) ≡ with_key key k xs
with_key-other key k x xs other = cond-false _ (x ∷ with_key key k xs) (with_key key k xs) other

-- an element is put after those with its key
with_key-put_by : {X : Type 0} (key : X → ℕ) (k low : ℕ) (x : X) (xs : List X) → Rises key low xs → with_key key k (put_by key x xs) ≡ with_key key k xs ++ with_key key k (x ∷ [])
with_key-put_by key k low x [] r = refl
with_key-put_by key k low x (y ∷ ys) r =
    let ih = with_key-put_by key k (key y) x ys r.1 in
    cond_both (nat_lt (key x) (key y)) (x ∷ y ∷ ys) (y ∷ put_by key x ys) (λ zs. with_key key k zs ≡ with_key key k (y ∷ ys) ++ with_key key k (x ∷ []))
    (λ less. elim (cases_Bool (key x == k)) [
      | inl is ↦
          let here : key x ≡ k = grind (arith, nat_tests) in
          let above : k < key y = grind (arith, nat_tests) in
          let none = with_key-below key k (key y) (y ∷ ys) above ((omega arith), r.1) in
          with_key-first key k x (y ∷ ys) here
          ∙ ap (λ zs. x ∷ zs) none
          ∙ sym (ap (λ zs. zs ++ with_key key k (x ∷ [])) none ∙ with_key-first key k x [] here)
      | inr other ↦ with_key-other key k x (y ∷ ys) other ∙ sym (append-nil (with_key key k (y ∷ ys))) ∙ ap (λ zs. with_key key k (y ∷ ys) ++ zs) (sym (with_key-other key k x [] other))
    ])
    (λ _. elim (cases_Bool (key y == k)) [
      | inl is ↦
          let here : key y ≡ k = grind (arith, nat_tests) in
          with_key-first key k y (put_by key x ys) here ∙ ap (λ zs. y ∷ zs) ih ∙ ap (λ zs. zs ++ with_key key k (x ∷ [])) (sym (with_key-first key k y ys here))
      | inr other ↦ with_key-other key k y (put_by key x ys) other ∙ ih ∙ ap (λ zs. zs ++ with_key key k (x ∷ [])) (sym (with_key-other key k y ys other))
    ])

with_key-one_more : {X : Type 0} (key : X → ℕ) (k : ℕ) (x : X) (xs : List X) → with_key key k (x ∷ []) ++ with_key key k xs ≡ with_key key k (x ∷ xs)
with_key-one_more key k x xs = elim (key x == k) as (λ b. (if b then x ∷ [] else []) ++ with_key key k xs ≡ (if b then x ∷ with_key key k xs else with_key key k xs)) [ true ↦ refl | false ↦ refl ]

with_key-put_all_by : {X : Type 0} (key : X → ℕ) (k : ℕ) (done xs : List X) → Rises key 0 done → with_key key k (put_all_by key done xs) ≡ with_key key k done ++ with_key key k xs
with_key-put_all_by key k done [] r = sym (append-nil (with_key key k done))
with_key-put_all_by key k done (x ∷ xs) r =
    with_key-put_all_by key k (put_by key x done) xs (Rises-put_by key 0 x done (omega arith) r)
    ∙ ap (λ kept. kept ++ with_key key k xs) (with_key-put_by key k 0 x done r)
    ∙ append_assoc (with_key key k done) (with_key key k (x ∷ [])) (with_key key k xs)
    ∙ ap (λ kept. with_key key k done ++ kept) (with_key-one_more key k x xs)

pub with_key-in_order_by : {X : Type 0} (key : X → ℕ) (k : ℕ) (xs : List X) → with_key key k (in_order_by key xs) ≡ with_key key k xs
with_key-in_order_by key k xs = with_key-put_all_by key k [] xs tt

-- ---- a list in order is given by its elements with each key

with_key-found : {X : Type 0} (key : X → ℕ) (k low : ℕ) (x : X) (xs : List X) (w : X) (ws : List X) → Rises key low (x ∷ xs) → with_key key k (x ∷ xs) ≡ w ∷ ws → key x ≤ k
with_key-found key k low x xs w ws r found =
    elim (cases_Bool (nat_lt k (key x))) [
      | inl less ↦
          let below : k < key x = grind (arith, nat_tests) in
          (let none = with_key-below key k (key x) (x ∷ xs) below ((omega arith), r.1) in absurd (let clash = sym none ∙ found in cc))
      | inr not_less ↦ grind (arith, nat_tests)
    ]

pub same_from_keys : {X : Type 0} (key : X → ℕ) (low lower : ℕ) (xs ys : List X) → Rises key low xs → Rises key lower ys → ((k : ℕ) → with_key key k xs ≡ with_key key k ys) → xs ≡ ys
same_from_keys key low lower [] [] left right same = refl
same_from_keys key low lower [] (y ∷ ys) left right same = let clash = same (key y) ∙ with_key-first key (key y) y ys refl in cc
same_from_keys key low lower (x ∷ xs) [] left right same = let clash = sym (same (key x)) ∙ with_key-first key (key x) x xs refl in cc
same_from_keys key low lower (x ∷ xs) (y ∷ ys) left right same =
    let at_x = with_key-first key (key x) x xs refl in
    let at_y = with_key-first key (key y) y ys refl in
    let up : key y ≤ key x = with_key-found key (key x) lower y ys x _ right (sym (same (key x)) ∙ at_x) in
    let down : key x ≤ key y = with_key-found key (key y) low x xs y _ left (same (key y) ∙ at_y) in
    let heads = sym at_x ∙ same (key x) ∙ with_key-first key (key x) y ys (omega arith) in
    let head : x ≡ y = cc in
    let tails : (k : ℕ) → with_key key k xs ≡ with_key key k ys =
    λ k. elim (cases_Bool (key x == k)) [
      | inl is ↦
          let here : key x ≡ k = grind (arith, nat_tests) in
          let both = sym (with_key-first key k x xs here) ∙ same k ∙ with_key-first key k y ys (ap key (sym head) ∙ here) in cc
      | inr other ↦ sym (with_key-other key k x xs other) ∙ same k ∙ with_key-other key k y ys (ap (λ e. key e == k) (sym head) ∙ other)
    ] in
    ap (λ w. w ∷ xs) head ∙ ap (λ l. y ∷ l) (same_from_keys key (key x) (key y) xs ys left.1 right.1 tails)

pub is_in_order_by : {X : Type 0} (key : X → ℕ) (low : ℕ) (xs ys : List X) → Rises key low ys → ((k : ℕ) → with_key key k ys ≡ with_key key k xs) → ys ≡ in_order_by key xs
is_in_order_by key low xs ys r same = same_from_keys key low 0 ys (in_order_by key xs) r (Rises-in_order_by key xs) (λ k. same k ∙ sym (with_key-in_order_by key k xs))

-- what rises is in order already
pub in_order_by-rising : {X : Type 0} (key : X → ℕ) (low : ℕ) (xs : List X) → Rises key low xs → xs ≡ in_order_by key xs
in_order_by-rising key low xs r = is_in_order_by key low xs xs r (λ k. refl)

-- ---- what order leaves

All-put_by : {X : Type 0} (key : X → ℕ) (P : X → Type 0) (x : X) (xs : List X) → P x → All P xs → All P (put_by key x xs)
All-put_by key P x [] one all = All-push P [] x all one
All-put_by key P x (y ∷ ys) one all =
    cond_both (nat_lt (key x) (key y)) (x ∷ y ∷ ys) (y ∷ put_by key x ys) (All P) (λ _. All-cons P x (y ∷ ys) one all)
    (λ _. All-cons P y (put_by key x ys) (All-head P y ys all) (All-put_by key P x ys one (All-tail P y ys all)))

All-put_all_by : {X : Type 0} (key : X → ℕ) (P : X → Type 0) (done xs : List X) → All P done → All P xs → All P (put_all_by key done xs)
All-put_all_by key P done [] before all = before
All-put_all_by key P done (x ∷ xs) before all = All-put_all_by key P (put_by key x done) xs (All-put_by key P x done (All-head P x xs all) before) (All-tail P x xs all)

pub All-in_order_by : {X : Type 0} (key : X → ℕ) (P : X → Type 0) (xs : List X) → All P xs → All P (in_order_by key xs)
All-in_order_by key P xs all = All-put_all_by key P [] xs (All-nil P) all

-- as many pass a test
abbrev pub passing : {X : Type 0} → (X → Bool) → List X → ℕ
passing q xs = length (filter q xs)

abbrev pub one_if : Bool → ℕ
one_if b = if b then 1 else 0

pub passing-cons : {X : Type 0} (q : X → Bool) (x : X) (xs : List X) → passing q (x ∷ xs) ≡ one_if (q x) + passing q xs
passing-cons q x xs = elim (q x) as (λ b. length (if b then x ∷ filter q xs else filter q xs) ≡ one_if b + passing q xs) [ true ↦ omega arith | false ↦ omega arith ]

passing-put_by : {X : Type 0} (key : X → ℕ) (q : X → Bool) (x : X) (xs : List X) → passing q (put_by key x xs) ≡ one_if (q x) + passing q xs
passing-put_by key q x [] = passing-cons q x []
passing-put_by key q x (y ∷ ys) =
    cond_both (nat_lt (key x) (key y)) (x ∷ y ∷ ys) (y ∷ put_by key x ys) (λ zs. passing q zs ≡ one_if (q x) + passing q (y ∷ ys)) (λ _. passing-cons q x (y ∷ ys))
    (λ _. let whole = passing-cons q y (put_by key x ys) in let ih = passing-put_by key q x ys in let part = passing-cons q y ys in omega arith)

passing-put_all_by : {X : Type 0} (key : X → ℕ) (q : X → Bool) (done xs : List X) → passing q (put_all_by key done xs) ≡ passing q done + passing q xs
passing-put_all_by key q done [] = omega arith
passing-put_all_by key q done (x ∷ xs) =
    let ih = passing-put_all_by key q (put_by key x done) xs in
    let one = passing-put_by key q x done in
    let more = passing-cons q x xs in omega arith

pub passing-in_order_by : {X : Type 0} (key : X → ℕ) (q : X → Bool) (xs : List X) → passing q (in_order_by key xs) ≡ passing q xs
passing-in_order_by key q xs = let all = passing-put_all_by key q [] xs in omega arith

pub filter-all : {X : Type 0} (xs : List X) → filter (λ x. true) xs ≡ xs
filter-all [] = refl
filter-all (x ∷ xs) = ap (λ zs. x ∷ zs) (filter-all xs)

pub length-in_order_by : {X : Type 0} (key : X → ℕ) (xs : List X) → length (in_order_by key xs) ≡ length xs
length-in_order_by key xs = sym (ap length (filter-all (in_order_by key xs))) ∙ passing-in_order_by key (λ x. true) xs ∙ ap length (filter-all xs)

-- of what rises from a bound on, none is below that
none_below : {X : Type 0} (key : X → ℕ) (bound low : ℕ) (xs : List X) → bound ≤ low → Rises key low xs → passing (λ x. nat_lt (key x) bound) xs ≡ 0
none_below key bound low [] le r = refl
none_below key bound low (x ∷ xs) le r =
    let up = r.0 in
    let no : nat_lt (key x) bound ≡ false = grind (arith, nat_tests) in
    ap length (cond-false (nat_lt (key x) bound) (x ∷ filter (λ y. nat_lt (key y) bound) xs) (filter (λ y. nat_lt (key y) bound) xs) no)
    ∙ none_below key bound (key x) xs (omega arith) r.1

-- of what rises, the first so many are those below a number, as many as there are
pub first_below : {X : Type 0} (key : X → ℕ) (low bound k : ℕ) (xs : List X) (d : X) → Rises key low xs → k < length xs
    → nat_lt (key (get_or xs k d)) bound ≡ nat_lt k (passing (λ x. nat_lt (key x) bound) xs)
first_below key low bound k [] d r within = absurd (omega arith)
first_below key low bound zero (x ∷ xs) d r within =
    elim (cases_Bool (nat_lt (key x) bound)) [
      | inl is ↦
          let count = passing-cons (λ y. nat_lt (key y) bound) x xs ∙ ap (λ b. one_if b + passing (λ y. nat_lt (key y) bound) xs) is in
          is ∙ sym (lt-ltb 0 (passing (λ y. nat_lt (key y) bound) (x ∷ xs)) (omega arith))
      | inr above ↦
          let above_x : bound ≤ key x = grind (arith, nat_tests) in
          let none = none_below key bound (key x) (x ∷ xs) above_x ((omega arith), r.1) in
          above ∙ sym (le-ltb 0 (passing (λ y. nat_lt (key y) bound) (x ∷ xs)) (omega arith))
    ]
first_below key low bound (suc k) (x ∷ xs) d r within =
    let ih = first_below key (key x) bound k xs d r.1 (omega arith) in
    elim (cases_Bool (nat_lt (key x) bound)) [
      | inl is ↦
          let count = passing-cons (λ y. nat_lt (key y) bound) x xs ∙ ap (λ b. one_if b + passing (λ y. nat_lt (key y) bound) xs) is in
          ih ∙ one_up k (passing (λ y. nat_lt (key y) bound) xs) (passing (λ y. nat_lt (key y) bound) (x ∷ xs)) count
      | inr above ↦
          let above_x : bound ≤ key x = grind (arith, nat_tests) in
          let none = none_below key bound (key x) (x ∷ xs) above_x ((omega arith), r.1) in
          let rest = none_below key bound (key x) xs above_x r.1 in
          ih ∙ le-ltb k (passing (λ y. nat_lt (key y) bound) xs) (omega arith) ∙ sym (le-ltb (suc k) (passing (λ y. nat_lt (key y) bound) (x ∷ xs)) (omega arith))
    ]
  where
    one_up : (i n m : ℕ) → m ≡ 1 + n → nat_lt i n ≡ nat_lt (suc i) m
    one_up i n m is = elim (cases_Bool (nat_lt i n)) [
      | inl lt ↦ lt ∙ sym (lt-ltb (suc i) m (let below = ltb-true i n lt in omega arith))
      | inr ge ↦ ge ∙ sym (le-ltb (suc i) m (let above = ltb-false i n ge in omega arith))
    ]

-- the first in order, once one more is put there
pub head-put_by : {X : Type 0} (key : X → ℕ) (x : X) (xs : List X) → head_of (put_by key x xs) ≡ first_by key x (head_of xs)
head-put_by key x [] = refl
head-put_by key x (y ∷ ys) = elim (nat_lt (key x) (key y)) as (λ b. head_of (if b then x ∷ y ∷ ys else y ∷ put_by key x ys) ≡ (if b then x ∷ [] else y ∷ [])) [ true ↦ refl | false ↦ refl ]

put_all_by-push : {X : Type 0} (key : X → ℕ) (done xs : List X) (x : X) → put_all_by key done (xs ++ x ∷ []) ≡ put_by key x (put_all_by key done xs)
put_all_by-push key done [] x = refl
put_all_by-push key done (y ∷ ys) x = put_all_by-push key (put_by key y done) ys x

pub head-in_order_by : {X : Type 0} (key : X → ℕ) (x : X) (xs : List X) → head_of (in_order_by key (xs ++ x ∷ [])) ≡ first_by key x (head_of (in_order_by key xs))
head-in_order_by key x xs = ap head_of (put_all_by-push key [] xs x) ∙ head-put_by key x (in_order_by key xs)
