-- The events of a table by transaction: in order, as many as there are, and each at its place.
use Rattle.std.proofs.Common.{◌≡◌, ℕ, ◌+◌, ◌<◌, Bool, true, false, List, [], ◌∷◌, ◌++◌, append-nil, length, filter, map, ◌==◌, nat_lt, refl, sym, ap, ◌∙◌, arith, inl, inr, if◌then◌else◌}
use Rattle.std.specs.List.{enumerate_from}
use Rattle.std.proofs.lemmas.Bool.{cases_Bool, cond_both, cond-true, cond-false}
use Rattle.std.proofs.lemmas.Bool.Decides.{nat_tests}
use Rattle.pgq_tables.specs.Tables.{Stored}
use Rattle.pgq_tables.specs.Order.{put_by_txid, by_txid_onto, by_txid}
use Rattle.pgq_batch.proofs.Keyed.{put_by, put_all_by, in_order_by, Rises, with_key, passing, Rises-in_order_by, Rises-filter, Rises-weaker, passing-cons, one_if, passing-in_order_by, is_in_order_by, filter-all}

abbrev pub txid_of : ℕ × Stored → ℕ
txid_of x = x.1.event.ev_txid

abbrev pub place_of : {E : Type 0} → ℕ × E → ℕ
place_of x = x.0

put_by_txid-is : (x : ℕ × Stored) (ys : List (ℕ × Stored)) → put_by_txid x ys ≡ put_by txid_of x ys
put_by_txid-is x [] = refl
put_by_txid-is x (y ∷ ys) = ap (λ zs. if nat_lt (txid_of x) (txid_of y) then x ∷ y ∷ ys else y ∷ zs) (put_by_txid-is x ys)

by_txid_onto-is : (sorted : List (ℕ × Stored)) (place : ℕ) (ss : List Stored) → by_txid_onto sorted place ss ≡ put_all_by txid_of sorted (enumerate_from place ss)
by_txid_onto-is sorted place [] = refl
by_txid_onto-is sorted place (s ∷ ss) =
    ap (λ zs. by_txid_onto zs (place + 1) ss) (put_by_txid-is (place, s) sorted) ∙ by_txid_onto-is (put_by txid_of (place, s) sorted) (place + 1) ss

by_txid-is : (list : List Stored) → by_txid list ≡ in_order_by txid_of (enumerate_from 0 list)
by_txid-is list = by_txid_onto-is [] 0 list

pub Rises-by_txid : (list : List Stored) → Rises txid_of 0 (by_txid list)
Rises-by_txid list = rw (by_txid-is list) (Rises-in_order_by txid_of (enumerate_from 0 list))

passing-enumerate : (q : Stored → Bool) (n : ℕ) (list : List Stored) → passing (λ x. q x.1) (enumerate_from n list) ≡ passing q list
passing-enumerate q n [] = refl
passing-enumerate q n (s ∷ ss) =
    passing-cons (λ x. q x.1) (n, s) (enumerate_from (n + 1) ss) ∙ ap (λ m. one_if (q s) + m) (passing-enumerate q (n + 1) ss) ∙ sym (passing-cons q s ss)

-- as many pass a test
pub passing-by_txid : (q : Stored → Bool) (list : List Stored) → passing (λ x. q x.1) (by_txid list) ≡ passing q list
passing-by_txid q list = ap (passing (λ x. q x.1)) (by_txid-is list) ∙ passing-in_order_by txid_of (λ x. q x.1) (enumerate_from 0 list) ∙ passing-enumerate q 0 list

pub length-by_txid : (list : List Stored) → length (by_txid list) ≡ length list
length-by_txid list = sym (ap length (filter-all (by_txid list))) ∙ passing-by_txid (λ s. true) list ∙ ap length (filter-all list)

-- ---- places

abbrev AreBelow : ℕ → List (ℕ × Stored) → Type 0
AreBelow n [] = Unit {0}
AreBelow n (x ∷ xs) = (x.0 < n) × AreBelow n xs

AreBelow-more : (n : ℕ) (xs : List (ℕ × Stored)) → AreBelow n xs → AreBelow (n + 1) xs
AreBelow-more n [] below = tt
AreBelow-more n (x ∷ xs) below = ((omega (arith, below.0)), AreBelow-more n xs below.1)

AreBelow-put_by : (n : ℕ) (x : ℕ × Stored) (xs : List (ℕ × Stored)) → x.0 < n → AreBelow n xs → AreBelow n (put_by txid_of x xs)
AreBelow-put_by n x [] lt below = (lt, tt)
AreBelow-put_by n x (y ∷ ys) lt below =
    cond_both (nat_lt (txid_of x) (txid_of y)) (x ∷ y ∷ ys) (y ∷ put_by txid_of x ys) (AreBelow n) (λ _. (lt, (below.0, below.1))) (λ _. (below.0, AreBelow-put_by n x ys lt below.1))

none_there : (n : ℕ) (xs : List (ℕ × Stored)) → AreBelow n xs → with_key place_of n xs ≡ []
none_there n [] below = refl
none_there n (x ∷ xs) below =
    let less = below.0 in
    let other : (x.0 == n) ≡ false = grind (arith, nat_tests) in
    cond-false (x.0 == n) (x ∷ with_key place_of n xs) (with_key place_of n xs) other ∙ none_there n xs below.1

-- what one adds that fails a test, and that is the only one to pass it
other-put_by : (q : ℕ × Stored → Bool) (x : ℕ × Stored) (xs : List (ℕ × Stored)) → q x ≡ false → filter q (put_by txid_of x xs) ≡ filter q xs
other-put_by q x [] fails = cond-false (q x) (x ∷ []) [] fails
other-put_by q x (y ∷ ys) fails =
    cond_both (nat_lt (txid_of x) (txid_of y)) (x ∷ y ∷ ys) (y ∷ put_by txid_of x ys) (λ zs. filter q zs ≡ filter q (y ∷ ys))
    (λ _. cond-false (q x) (x ∷ filter q (y ∷ ys)) (filter q (y ∷ ys)) fails)
    (λ _. ap (λ zs. if q y then y ∷ zs else zs) (other-put_by q x ys fails))

only-put_by : (q : ℕ × Stored → Bool) (x : ℕ × Stored) (xs : List (ℕ × Stored)) → q x ≡ true → filter q xs ≡ [] → filter q (put_by txid_of x xs) ≡ x ∷ []
only-put_by q x [] passes none = cond-true (q x) (x ∷ []) [] passes
only-put_by q x (y ∷ ys) passes none =
    cond_both (nat_lt (txid_of x) (txid_of y)) (x ∷ y ∷ ys) (y ∷ put_by txid_of x ys) (λ zs. filter q zs ≡ x ∷ [])
    (λ _. cond-true (q x) (x ∷ filter q (y ∷ ys)) (filter q (y ∷ ys)) passes ∙ ap (λ zs. x ∷ zs) none)
    (λ _. elim (cases_Bool (q y)) [
      | inl is ↦ (let some = cond-true (q y) (y ∷ filter q ys) (filter q ys) is in absurd (let clash = sym some ∙ none in cc))
      | inr is_not ↦
          let rest = sym (cond-false (q y) (y ∷ filter q ys) (filter q ys) is_not) ∙ none in
          cond-false (q y) (y ∷ filter q (put_by txid_of x ys)) (filter q (put_by txid_of x ys)) is_not ∙ only-put_by q x ys passes rest
    ])

at_place-onto : (p : ℕ) (done : List (ℕ × Stored)) (place : ℕ) (ss : List Stored) → AreBelow place done
    → with_key place_of p (put_all_by txid_of done (enumerate_from place ss)) ≡ with_key place_of p done ++ with_key place_of p (enumerate_from place ss)
at_place-onto p done place [] below = sym (append-nil (with_key place_of p done))
at_place-onto p done place (s ∷ ss) below =
    let ih = at_place-onto p (put_by txid_of (place, s) done) (place + 1) ss (AreBelow-put_by (place + 1) (place, s) done (omega arith) (AreBelow-more place done below)) in
    let rest = with_key place_of p (enumerate_from (place + 1) ss) in
    elim (cases_Bool (place == p)) [
      | inl is ↦
          let here : place ≡ p = grind (arith, nat_tests) in
          let none : with_key place_of p done ≡ [] = ap (λ n. with_key place_of n done) (sym here) ∙ none_there place done below in
          ih
          ∙ ap (λ zs. zs ++ rest) (only-put_by (λ x. x.0 == p) (place, s) done is none)
          ∙ sym (ap (λ zs. zs ++ with_key place_of p (enumerate_from place (s ∷ ss))) none ∙ cond-true (place == p) ((place, s) ∷ rest) rest is)
      | inr other ↦
          ih
          ∙ ap (λ zs. zs ++ rest) (other-put_by (λ x. x.0 == p) (place, s) done other)
          ∙ ap (λ zs. with_key place_of p done ++ zs) (sym (cond-false (place == p) ((place, s) ∷ rest) rest other))
    ]

at_place : (p : ℕ) (list : List Stored) → with_key place_of p (by_txid list) ≡ with_key place_of p (enumerate_from 0 list)
at_place p list = ap (with_key place_of p) (by_txid-is list) ∙ at_place-onto p [] 0 list tt

Rises-enumerate : (n : ℕ) (list : List Stored) → Rises place_of n (enumerate_from n list)
Rises-enumerate n [] = tt
Rises-enumerate n (s ∷ ss) = ((omega arith), Rises-weaker place_of (n + 1) n (enumerate_from (n + 1) ss) (omega arith) (Rises-enumerate (n + 1) ss))

-- ---- those that pass a test, in order of their places

-- one with its place, as it is copied
abbrev pub copied : {E : Type 0} → (Stored → E) → ℕ × Stored → ℕ × E
copied g x = (x.0, g x.1)

Rises-copied : {E : Type 0} (g : Stored → E) (low : ℕ) (xs : List (ℕ × Stored)) → Rises place_of low xs → Rises place_of low (map (copied g) xs)
Rises-copied g low [] r = tt
Rises-copied g low (x ∷ xs) r = (r.0, Rises-copied g x.0 xs r.1)

with_key-copied : {E : Type 0} (g : Stored → E) (p : ℕ) (xs : List (ℕ × Stored)) → with_key place_of p (map (copied g) xs) ≡ map (copied g) (with_key place_of p xs)
with_key-copied g p [] = refl
with_key-copied g p (x ∷ xs) =
    ap (λ zs. if x.0 == p then copied g x ∷ zs else zs) (with_key-copied g p xs)
    ∙ elim (x.0 == p) as (λ b. (if b then copied g x ∷ map (copied g) (with_key place_of p xs) else map (copied g) (with_key place_of p xs)) ≡ map (copied g) (if b then x ∷ with_key place_of p xs else with_key place_of p xs)) [ true ↦ refl | false ↦ refl ]

filter_comm : {X : Type 0} (a b : X → Bool) (xs : List X) → filter a (filter b xs) ≡ filter b (filter a xs)
filter_comm a b [] = refl
filter_comm a b (x ∷ xs) = by (a x) (b x) refl refl (filter_comm a b xs)
  where
    by : (c d : Bool) → a x ≡ c → b x ≡ d → filter a (filter b xs) ≡ filter b (filter a xs)
        → filter a (if d then x ∷ filter b xs else filter b xs) ≡ filter b (if c then x ∷ filter a xs else filter a xs)
    by true true is_a is_b rest = cond-true (a x) (x ∷ filter a (filter b xs)) _ is_a ∙ ap (λ zs. x ∷ zs) rest ∙ sym (cond-true (b x) (x ∷ filter b (filter a xs)) _ is_b)
    by true false is_a is_b rest = rest ∙ sym (cond-false (b x) (x ∷ filter b (filter a xs)) (filter b (filter a xs)) is_b)
    by false true is_a is_b rest = cond-false (a x) (x ∷ filter a (filter b xs)) (filter a (filter b xs)) is_a ∙ rest
    by false false is_a is_b rest = rest

same_at_place : {E : Type 0} (g : Stored → E) (q : Stored → Bool) (p : ℕ) (list : List Stored)
    → with_key place_of p (map (copied g) (filter (λ x. q x.1) (enumerate_from 0 list))) ≡ with_key place_of p (map (copied g) (filter (λ x. q x.1) (by_txid list)))
same_at_place g q p list =
    with_key-copied g p (filter (λ x. q x.1) (enumerate_from 0 list))
    ∙ ap (map (copied g)) (filter_comm (λ x. x.0 == p) (λ x. q x.1) (enumerate_from 0 list) ∙ ap (filter (λ x. q x.1)) (sym (at_place p list)) ∙ filter_comm (λ x. q x.1) (λ x. x.0 == p) (by_txid list))
    ∙ sym (with_key-copied g p (filter (λ x. q x.1) (by_txid list)))

pub placed-in_order : {E : Type 0} (g : Stored → E) (q : Stored → Bool) (list : List Stored)
    → in_order_by place_of (map (copied g) (filter (λ x. q x.1) (by_txid list))) ≡ map (copied g) (filter (λ x. q x.1) (enumerate_from 0 list))
placed-in_order g q list =
    sym (is_in_order_by place_of 0 (map (copied g) (filter (λ x. q x.1) (by_txid list))) (map (copied g) (filter (λ x. q x.1) (enumerate_from 0 list)))
    (Rises-copied g 0 (filter (λ x. q x.1) (enumerate_from 0 list)) (Rises-filter place_of (λ x. q x.1) 0 (enumerate_from 0 list) (Rises-enumerate 0 list)))
    (λ p. same_at_place g q p list))

-- without their places they are those of the table
pub without_places : {E : Type 0} (g : Stored → E) (q : Stored → Bool) (n : ℕ) (list : List Stored)
    → map (λ x. x.1) (map (copied g) (filter (λ x. q x.1) (enumerate_from n list))) ≡ map g (filter q list)
without_places g q n [] = refl
without_places g q n (s ∷ ss) =
    elim (q s) as (λ b. map (λ x. x.1) (map (copied g) (if b then (n, s) ∷ filter (λ x. q x.1) (enumerate_from (n + 1) ss) else filter (λ x. q x.1) (enumerate_from (n + 1) ss))) ≡ map g (if b then s ∷ filter q ss else filter q ss)) [
      | true ↦ ap (λ zs. g s ∷ zs) (without_places g q (n + 1) ss)
      | false ↦ without_places g q (n + 1) ss
    ]
