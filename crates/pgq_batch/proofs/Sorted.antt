-- What a stable sort leaves, and what was in order before it, is in order of its keys.
use Rattle.std.proofs.Common.{◌≡◌, ℕ, ◌+◌, zero, suc, ◌<◌, ◌≤◌, Bool, true, false, List, [], ◌∷◌, length, get_or, filter, map, ◌==◌, nat_lt, nat_cmp, is_lt, is_le, refl, sym, ap, subst, ◌∙◌, arith, zero-le, if◌then◌else◌, Bor}
use Rattle.std.specs.List.{All}
use Rattle.std.proofs.lemmas.Bool.Decides.{nat_tests}
use Rattle.std.specs.List.Sorted.{ties, IsNonDecreasingBy, IsStableByKey}
use Rattle.sky_val.specs.declared.event.Event.{Event}
use Rattle.pgq_tables.specs.ById.{with_event, by_id_onto, by_id, with_id, InOrder}
use Rattle.pgq_tables.specs.Tables.{Stored}
use Rattle.pgq_batch.specs.Placed.{put_by_place, by_place_onto, by_place}
use Rattle.pgq_batch.specs.Looked.{lent_events, placed_events}
use Rattle.pgq_batch.proofs.Keyed.{put_by, put_all_by, in_order_by, Rises, with_key, is_in_order_by, in_order_by-rising, All-in_order_by, Rises-in_order_by, with_key-in_order_by}
use Rattle.pgq_batch.proofs.ByTxid.{place_of}

-- each key is no higher than the next one
abbrev pub Climbs : {X : Type 0} → (X → ℕ) → List X → Type 0
Climbs {X} key xs = (k : ℕ) (d : X) → k + 1 < length xs → key (get_or xs k d) ≤ key (get_or xs (k + 1) d)

pub Rises-climbs : {X : Type 0} (key : X → ℕ) (low : ℕ) (x : X) (xs : List X) → low ≤ key x → Climbs key (x ∷ xs) → Rises key low (x ∷ xs)
Rises-climbs key low x [] le up = (le, tt)
Rises-climbs {X} key low x (y ∷ ys) le up =
    let first : key x ≤ key y = up zero x (omega arith) in
    let rest : Climbs key (y ∷ ys) = λ k d within. let one : suc k + 1 ≡ suc (k + 1) = omega arith in subst (λ n. key (get_or (y ∷ ys) k d) ≤ key (get_or (x ∷ y ∷ ys) n d)) one (up (suc k) d (omega arith)) in
    (le, Rises-climbs key (key x) y ys first rest)

le_test : (m n : ℕ) → true ≡ is_le (nat_cmp m n) → m ≤ n
le_test m n passes = grind (arith, nat_tests, sym passes)

-- as a test of each two neighbours says
pub Climbs-tested : {X : Type 0} (key : X → ℕ) (xs ys : List X) → ys ≡ xs → ((k : ℕ) (d : X) → k + 1 < length ys → true ≡ is_le (nat_cmp (key (get_or ys k d)) (key (get_or ys (k + 1) d)))) → Climbs key xs
Climbs-tested key xs ys same tests = subst (Climbs key) same (λ k d within. le_test (key (get_or ys k d)) (key (get_or ys (k + 1) d)) (tests k d within))

pub rising : {X : Type 0} (key : X → ℕ) (xs : List X) → Climbs key xs → xs ≡ in_order_by key xs
rising key [] up = refl
rising key (x ∷ xs) up = in_order_by-rising key 0 (x ∷ xs) (Rises-climbs key 0 x xs zero-le up)

Climbs-sorted : {X : Type 0} (key : X → ℕ) (xs : List X) → IsNonDecreasingBy key xs → Climbs key xs
Climbs-sorted key xs up k d within = up k (k + 1) d (omega arith) within

Rises-sorted : {X : Type 0} (key : X → ℕ) (xs : List X) → IsNonDecreasingBy key xs → Rises key 0 xs
Rises-sorted key [] up = tt
Rises-sorted key (x ∷ xs) up = Rises-climbs key 0 x xs zero-le (Climbs-sorted key (x ∷ xs) up)

tie_at : (m n : ℕ) → ties (λ x y. is_lt (nat_cmp x y)) m n ≡ (n == m)
tie_at m n = grind (arith, nat_tests)

-- elements tie if they have the same key
tied : {X : Type 0} (key : X → ℕ) (x : X) (xs : List X) → filter (ties (λ y z. is_lt (nat_cmp (key y) (key z))) x) xs ≡ with_key key (key x) xs
tied key x xs = ap (λ p. filter p xs) (λ i y. tie_at (key x) (key y) i)

-- the first one with a key has it
key_first : {X : Type 0} (key : X → ℕ) (k : ℕ) (x : X) (rest xs : List X) → with_key key k xs ≡ x ∷ rest → key x ≡ k
key_first key k x rest [] is = absurd (cc is)
key_first {X} key k x rest (y ∷ ys) is = by (key_first key k x rest ys) (key y == k) refl is
  where
    by : (with_key key k ys ≡ x ∷ rest → key x ≡ k) → (b : Bool) → (key y == k) ≡ b → (if b then y ∷ with_key key k ys else with_key key k ys) ≡ x ∷ rest → key x ≡ k
    by later true same is = let first : y ≡ x = cc in ap key (sym first) ∙ grind (arith, nat_tests, same)
    by later false same is = later is

same_keys : {X : Type 0} (key : X → ℕ) (xs ys : List X) → IsStableByKey key nat_cmp xs ys → (k : ℕ) → with_key key k ys ≡ with_key key k xs
same_keys {X} key xs ys stable k = by (with_key key k ys) refl (with_key key k xs) refl
  where
    at_one : (x : X) → key x ≡ k → with_key key k ys ≡ with_key key k xs
    at_one x has = ap (λ n. with_key key n ys) (sym has) ∙ sym (tied key x ys) ∙ stable x ∙ tied key x xs ∙ ap (λ n. with_key key n xs) has

    by : (now : List X) → with_key key k ys ≡ now → (was : List X) → with_key key k xs ≡ was → with_key key k ys ≡ with_key key k xs
    by (y ∷ rest) is was other = at_one y (key_first key k y rest ys is)
    by [] is (x ∷ rest) other = at_one x (key_first key k x rest xs other)
    by [] is [] other = is ∙ sym other

sorted : {X : Type 0} (key : X → ℕ) (xs ys : List X) → IsNonDecreasingBy key ys → IsStableByKey key nat_cmp xs ys → ys ≡ in_order_by key xs
sorted key xs ys up stable = is_in_order_by key 0 xs ys (Rises-sorted key ys up) (same_keys key xs ys stable)

-- ---- as they are seen

map-put_by : {X Y : Type 0} (f : X → Y) (key : Y → ℕ) (x : X) (xs : List X) → map f (put_by (λ z. key (f z)) x xs) ≡ put_by key (f x) (map f xs)
map-put_by f key x [] = refl
map-put_by f key x (y ∷ ys) =
    elim (nat_lt (key (f x)) (key (f y))) as (λ b. map f (if b then x ∷ y ∷ ys else y ∷ put_by (λ z. key (f z)) x ys) ≡ (if b then f x ∷ f y ∷ map f ys else f y ∷ put_by key (f x) (map f ys))) [
      | true ↦ refl
      | false ↦ ap (λ zs. f y ∷ zs) (map-put_by f key x ys)
    ]

map-put_all_by : {X Y : Type 0} (f : X → Y) (key : Y → ℕ) (done xs : List X) → map f (put_all_by (λ z. key (f z)) done xs) ≡ put_all_by key (map f done) (map f xs)
map-put_all_by f key done [] = refl
map-put_all_by f key done (x ∷ xs) = map-put_all_by f key (put_by (λ z. key (f z)) x done) xs ∙ ap (λ zs. put_all_by key zs (map f xs)) (map-put_by f key x done)

-- elements that are in order as they are seen
map-in_order_by : {X Y : Type 0} (f : X → Y) (key : Y → ℕ) (xs : List X) → map f (in_order_by (λ z. key (f z)) xs) ≡ in_order_by key (map f xs)
map-in_order_by f key xs = map-put_all_by f key [] xs

-- ---- events by id

with_event-is : (e : Event) (es : List Event) → with_event e es ≡ put_by Event.ev_id e es
with_event-is e [] = refl
with_event-is e (x ∷ xs) = ap (λ zs. if nat_lt e.ev_id x.ev_id then e ∷ x ∷ xs else x ∷ zs) (with_event-is e xs)

by_id_onto-is : (done es : List Event) → by_id_onto done es ≡ put_all_by Event.ev_id done es
by_id_onto-is done [] = refl
by_id_onto-is done (e ∷ es) = ap (λ zs. by_id_onto zs es) (with_event-is e done) ∙ by_id_onto-is (put_by Event.ev_id e done) es

pub by_id-is : (es : List Event) → by_id es ≡ in_order_by Event.ev_id es
by_id-is es = by_id_onto-is [] es

-- the id of an event that is lent
abbrev pub id_of : Bor Stored → ℕ
id_of s = s.now.event.ev_id

pub by_id-rising : (xs : List (Bor Stored)) → Climbs id_of xs → lent_events xs ≡ by_id (lent_events xs)
by_id-rising xs up = ap lent_events (rising id_of xs up) ∙ map-in_order_by (λ (s : Bor Stored). s.now.event) Event.ev_id xs ∙ sym (by_id-is (lent_events xs))

pub by_id-sorted : (xs ys : List (Bor Stored)) → IsNonDecreasingBy id_of ys → IsStableByKey id_of nat_cmp xs ys → lent_events ys ≡ by_id (lent_events xs)
by_id-sorted xs ys up stable = ap lent_events (sorted id_of xs ys up stable) ∙ map-in_order_by (λ (s : Bor Stored). s.now.event) Event.ev_id xs ∙ sym (by_id-is (lent_events xs))

-- what holds of each event holds of each by id
pub All-by_id : (P : Event → Type 0) (es : List Event) → All P es → All P (by_id es)
All-by_id P es all = subst (All P) (sym (by_id-is es)) (All-in_order_by Event.ev_id P es all)

-- their ids don't fall
pub ids_dont_fall : (es : List Event) → InOrder (by_id es)
ids_dont_fall es = subst InOrder (sym (by_id-is es)) (InOrder-Rises 0 (in_order_by Event.ev_id es) (Rises-in_order_by Event.ev_id es))
  where
    InOrder-Rises : (low : ℕ) (xs : List Event) → Rises Event.ev_id low xs → InOrder xs
    InOrder-Rises low [] r = tt
    InOrder-Rises low (x ∷ []) r = tt
    InOrder-Rises low (x ∷ y ∷ ys) r = (r.1.0, InOrder-Rises x.ev_id (y ∷ ys) r.1)

-- and those with an id stay in their order
pub equal_ids_stay : (es : List Event) (id : ℕ) → with_id id (by_id es) ≡ with_id id es
equal_ids_stay es id = ap (with_id id) (by_id-is es) ∙ with_key-in_order_by Event.ev_id id es

-- ---- events by place

put_by_place-is : (x : ℕ × Event) (xs : List (ℕ × Event)) → put_by_place x xs ≡ put_by place_of x xs
put_by_place-is x [] = refl
put_by_place-is x (y ∷ ys) = ap (λ zs. if nat_lt x.0 y.0 then x ∷ y ∷ ys else y ∷ zs) (put_by_place-is x ys)

by_place_onto-is : (done xs : List (ℕ × Event)) → by_place_onto done xs ≡ put_all_by place_of done xs
by_place_onto-is done [] = refl
by_place_onto-is done (x ∷ xs) = ap (λ zs. by_place_onto zs xs) (put_by_place-is x done) ∙ by_place_onto-is (put_by place_of x done) xs

pub by_place-is : (xs : List (ℕ × Event)) → by_place xs ≡ in_order_by place_of xs
by_place-is xs = by_place_onto-is [] xs

-- the event of one that is lent, with its place
abbrev pub placed_event : ℕ × Bor Stored → ℕ × Event
placed_event x = (x.0, x.1.now.event)

pub by_place-rising : (xs : List (ℕ × Bor Stored)) → Climbs place_of xs → placed_events xs ≡ by_place (placed_events xs)
by_place-rising xs up = ap placed_events (rising place_of xs up) ∙ map-in_order_by placed_event place_of xs ∙ sym (by_place-is (placed_events xs))

pub by_place-sorted : (xs ys : List (ℕ × Bor Stored)) → IsNonDecreasingBy place_of ys → IsStableByKey place_of nat_cmp xs ys → placed_events ys ≡ by_place (placed_events xs)
by_place-sorted xs ys up stable = ap placed_events (sorted place_of xs ys up stable) ∙ map-in_order_by placed_event place_of xs ∙ sym (by_place-is (placed_events xs))
