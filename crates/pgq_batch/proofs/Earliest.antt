-- The first event of a table with an id, as it is found by transaction.
use Rattle.std.proofs.Common.{◌≡◌, ℕ, ◌+◌, ◌<◌, Bool, true, false, ◌&&◌, ◌==◌, List, [], ◌∷◌, Option, Some, None, length, filter, map, take, slice_get, nat_lt, refl, sym, ap, subst, ◌∙◌, if◌then◌else◌}
use Rattle.std.specs.Prelude.{find}
use Rattle.std.specs.List.{enumerate_from}
use Rattle.std.proofs.lemmas.List.{map-id}
use Rattle.std.proofs.lemmas.Bool.{cond-true, cond-false, and_left, and_right, and_from, eq-eqb, ne_eqb}
use Rattle.sky_txid.specs.Snapshot.{SnapshotView}
use Rattle.sky_val.specs.declared.event.Event.{Event}
use Rattle.pgq_tables.specs.Tables.{Stored}
use Rattle.pgq_tables.specs.Order.{by_txid}
use Rattle.pgq_batch.specs.Placed.{is_before}
use Rattle.pgq_batch.proofs.Keyed.{in_order_by, head_of, first_by, head-in_order_by}
use Rattle.pgq_batch.proofs.ByTxid.{place_of, placed-in_order}
use Rattle.pgq_batch.proofs.Between.{Between, one_more_passes, one_more_fails}

-- whether a stored event has an id and passes a test
abbrev pub has_id : ℕ → (Stored → Bool) → Stored → Bool
has_id id q s = (s.event.ev_id == id) && q s

-- the first by place, of those that pass a test among the first so many by transaction
abbrev pub earliest : (Stored → Bool) → List Stored → ℕ → List (ℕ × Stored)
earliest q list k = head_of (in_order_by place_of (filter (λ x. q x.1) (take k (by_txid list))))

-- its place and index, if there is one
abbrev pub IsEarliest : List Stored → List (ℕ × Stored) → Option (ℕ × ℕ) → Type 0
IsEarliest list first None = first ≡ []
IsEarliest list first (Some best) = (s : Stored) × (first ≡ (best.0, s) ∷ []) × (slice_get (by_txid list) best.1 ≡ Some (best.0, s))

one_more : (q : Stored → Bool) (list : List Stored) (k : ℕ) (x : ℕ × Stored) → k < length list → slice_get (by_txid list) k ≡ Some x → q x.1 ≡ true
    → earliest q list (k + 1) ≡ first_by place_of x (earliest q list k)
one_more q list k x within is passes =
    ap (λ xs. head_of (in_order_by place_of xs)) (one_more_passes q list k x within is passes) ∙ head-in_order_by place_of x (filter (λ y. q y.1) (take k (by_txid list)))

-- one that is before the first one so far is the first
pub earlier : (q : Stored → Bool) (list : List Stored) (k : ℕ) (x : ℕ × Stored) (best : Option (ℕ × ℕ)) → k < length list → slice_get (by_txid list) k ≡ Some x → q x.1 ≡ true → is_before x.0 best ≡ true
    → IsEarliest list (earliest q list k) best → IsEarliest list (earliest q list (k + 1)) (Some (x.0, k))
earlier q list k x None within is passes before so_far = (x.1, one_more q list k x within is passes ∙ ap (first_by place_of x) so_far, is)
earlier q list k x (Some best) within is passes before so_far = (
  x.1,
  one_more q list k x within is passes ∙ ap (first_by place_of x) so_far.1 ∙ cond-true (nat_lt x.0 best.0) (x ∷ []) ((best.0, so_far.0) ∷ []) before,
  is,
)

pub not_earlier : (q : Stored → Bool) (list : List Stored) (k : ℕ) (x : ℕ × Stored) (best : Option (ℕ × ℕ)) → k < length list → slice_get (by_txid list) k ≡ Some x → q x.1 ≡ true → is_before x.0 best ≡ false
    → IsEarliest list (earliest q list k) best → IsEarliest list (earliest q list (k + 1)) best
not_earlier q list k x None within is passes before so_far = let clash = before in cc
not_earlier q list k x (Some best) within is passes before so_far = (
  so_far.0,
  one_more q list k x within is passes ∙ ap (first_by place_of x) so_far.1 ∙ cond-false (nat_lt x.0 best.0) (x ∷ []) ((best.0, so_far.0) ∷ []) before,
  so_far.2,
)

pub not_it : (q : Stored → Bool) (list : List Stored) (k : ℕ) (x : ℕ × Stored) (best : Option (ℕ × ℕ)) → k < length list → slice_get (by_txid list) k ≡ Some x → q x.1 ≡ false
    → IsEarliest list (earliest q list k) best → IsEarliest list (earliest q list (k + 1)) best
not_it q list k x best within is fails so_far =
    subst (λ xs. IsEarliest list xs best) (sym (ap (λ xs. head_of (in_order_by place_of xs)) (one_more_fails q list k x within is fails))) so_far

-- ---- it is the first one of the table

abbrev pub event_of : List (ℕ × Stored) → Option Event
event_of [] = None
event_of (x ∷ xs) = Some x.1.event

event_of-head : (xs : List (ℕ × Stored)) → event_of xs ≡ event_of (head_of xs)
event_of-head [] = refl
event_of-head (x ∷ xs) = refl

find-numbered : (id : ℕ) (q : Stored → Bool) (n : ℕ) (list : List Stored) → find (λ e. e.ev_id == id) (map Stored.event (filter q list)) ≡ event_of (filter (λ x. has_id id q x.1) (enumerate_from n list))
find-numbered id q n [] = refl
find-numbered id q n (s ∷ ss) = by (s.event.ev_id == id) (q s) refl (find-numbered id q (n + 1) ss)
  where
    by : (a b : Bool) → (s.event.ev_id == id) ≡ a → find (λ e. e.ev_id == id) (map Stored.event (filter q ss)) ≡ event_of (filter (λ x. has_id id q x.1) (enumerate_from (n + 1) ss))
        → find (λ e. e.ev_id == id) (map Stored.event (if b then s ∷ filter q ss else filter q ss)) ≡ event_of (if (a && b) then (n, s) ∷ filter (λ x. has_id id q x.1) (enumerate_from (n + 1) ss) else filter (λ x. has_id id q x.1) (enumerate_from (n + 1) ss))
    by true true is rest = cond-true (s.event.ev_id == id) (Some s.event) (find (λ e. e.ev_id == id) (map Stored.event (filter q ss))) is
    by true false is rest = rest
    by false true is rest = cond-false (s.event.ev_id == id) (Some s.event) (find (λ e. e.ev_id == id) (map Stored.event (filter q ss))) is ∙ rest
    by false false is rest = rest

pub find-earliest : (id : ℕ) (q : Stored → Bool) (list : List Stored) (k : ℕ) → filter (λ x. has_id id q x.1) (take k (by_txid list)) ≡ filter (λ x. has_id id q x.1) (by_txid list)
    → find (λ e. e.ev_id == id) (map Stored.event (filter q list)) ≡ event_of (earliest (has_id id q) list k)
find-earliest id q list k all =
    let passing = filter (λ x. has_id id q x.1) (by_txid list) in
    let numbered = filter (λ x. has_id id q x.1) (enumerate_from 0 list) in
    let sorted : in_order_by place_of passing ≡ numbered =
    ap (in_order_by place_of) (sym (map-id passing)) ∙ placed-in_order (λ s. s) (has_id id q) list ∙ map-id numbered in
    find-numbered id q 0 list ∙ ap event_of (sym sorted) ∙ event_of-head (in_order_by place_of passing) ∙ ap (λ xs. event_of (head_of (in_order_by place_of xs))) (sym all)

pub none_found : (list : List Stored) (first : List (ℕ × Stored)) (best : Option (ℕ × ℕ)) → best ≡ None → IsEarliest list first best → None ≡ event_of first
none_found list first None is so_far = ap event_of (sym so_far)
none_found list first (Some best) is so_far = let clash = is in cc

pub one_found : (list : List Stored) (first : List (ℕ × Stored)) (best : Option (ℕ × ℕ)) (b : ℕ × ℕ) (x : ℕ × Stored) → best ≡ Some b → slice_get (by_txid list) b.1 ≡ Some x → IsEarliest list first best → Some x.1.event ≡ event_of first
one_found list first None b x is there so_far = let clash = is in cc
one_found list first (Some best) b x is there so_far =
    let same : best ≡ b = cc in
    let got : Some (best.0, so_far.0) ≡ Some x = sym so_far.2 ∙ ap (λ (p : ℕ × ℕ). slice_get (by_txid list) p.1) same ∙ there in
    let one : (best.0, so_far.0) ≡ x = cc in
    ap (λ (y : ℕ × Stored). Some y.1.event) (sym one) ∙ ap event_of (sym so_far.1)

pub there : (list : List Stored) (first : List (ℕ × Stored)) (best : Option (ℕ × ℕ)) (b : ℕ × ℕ) → best ≡ Some b → IsEarliest list first best → (s : Stored) × (slice_get (by_txid list) b.1 ≡ Some (b.0, s))
there list first None b is so_far = let clash = is in cc
there list first (Some best) b is so_far =
    let same : best ≡ b = cc in
    (so_far.0, subst (λ (p : ℕ × ℕ). slice_get (by_txid list) p.1 ≡ Some (p.0, so_far.0)) same so_far.2)

pub between-has_id : (from to : SnapshotView) (id : ℕ) (q : Stored → Bool) → Between from to q → Between from to (has_id id q)
between-has_id from to id q between = ((λ s less. and_right (s.event.ev_id == id) (q s) (between.0 s less)), (λ s above. and_right (s.event.ev_id == id) (q s) (between.1 s above)))

pub has_id-true : (id : ℕ) (q : Stored → Bool) (s : Stored) (n : ℕ) (b : Bool) → n ≡ s.event.ev_id → n ≡ id → b ≡ q s → b ≡ true → has_id id q s ≡ true
has_id-true id q s n b own same is passes = and_from (s.event.ev_id == id) (q s) (eq-eqb s.event.ev_id id (sym own ∙ same)) (sym is ∙ passes)

pub has_id-fails : (id : ℕ) (q : Stored → Bool) (s : Stored) (b : Bool) → b ≡ q s → b ≡ false → has_id id q s ≡ false
has_id-fails id q s b is fails = and_right (s.event.ev_id == id) (q s) (sym is ∙ fails)

pub has_id-other : (id : ℕ) (q : Stored → Bool) (s : Stored) (n : ℕ) → n ≡ s.event.ev_id → (n ≡ id → ⊥) → has_id id q s ≡ false
has_id-other id q s n own other = and_left (s.event.ev_id == id) (q s) (ne_eqb s.event.ev_id id (λ same. other (own ∙ same)))
