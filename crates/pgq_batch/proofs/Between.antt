-- By transaction, what a batch lists of a table lies between two counts.
use Rattle.std.proofs.Common.{◌≡◌, ℕ, ◌+◌, ◌-◌, ◌*◌, ◌<◌, ◌≤◌, zero, suc, Bool, true, false, not, ◌&&◌, List, [], ◌∷◌, ◌++◌, append-nil, append_assoc, Some, length, filter, map, take, get_or, slice_get, nat_lt, nat_le, slice_index_or, refl, sym, ap, subst, ◌∙◌, arith, inl, inr, if◌then◌else◌}
use Rattle.std.proofs.lemmas.Bool.{cases_Bool, cond_both, cond-false, lt-ltb, le-ltb, ltb-true, ltb-false, false_from_ne_true}
use Rattle.std.proofs.lemmas.Bool.Decides.{nat_tests}
use Rattle.std.proofs.lemmas.List.{map-append}
use Rattle.std.proofs.lemmas.List.Elements.{filter_more}
use Rattle.sky_txid.specs.Snapshot.{SnapshotView, is_snapshot, sees}
use Rattle.sky_txid.proofs.Seen.{seen}
use Rattle.pgq_tables.specs.Tables.{Stored, Tables}
use Rattle.pgq_tables.specs.Order.{by_txid}
use Rattle.pgq_tables.specs.Listed.{is_for, is_listed}
use Rattle.pgq_tables.specs.Views.{TablesView}
use Rattle.pgq_batch.specs.Bound.{digits, is_between}
use Rattle.pgq_batch.specs.Looked.{count_below}
use Rattle.pgq_batch.proofs.Keyed.{first_below, passing-cons, one_if}
use Rattle.pgq_batch.proofs.ByTxid.{txid_of, Rises-by_txid, length-by_txid, passing-by_txid}
use Rattle.pgq_batch.proofs.Looks.{got}

-- ---- what isn't listed

none_passes : {X : Type 0} (q : X → Bool) (xs : List X) → ((k : ℕ) (d : X) → k < length xs → q (get_or xs k d) ≡ false) → filter q xs ≡ []
none_passes q [] fails = refl
none_passes q (x ∷ xs) fails = cond-false (q x) (x ∷ filter q xs) (filter q xs) (fails 0 x (omega arith)) ∙ none_passes q xs (λ k d within. fails (suc k) d (omega arith))

none_first : {X : Type 0} (q : X → Bool) (n : ℕ) (xs : List X) → ((k : ℕ) (d : X) → k < n → k < length xs → q (get_or xs k d) ≡ false) → filter q (take n xs) ≡ []
none_first q zero xs fails = refl
none_first q (suc n) [] fails = refl
none_first q (suc n) (x ∷ xs) fails =
    cond-false (q x) (x ∷ filter q (take n xs)) (filter q (take n xs)) (fails 0 x (omega arith) (omega arith))
    ∙ none_first q n xs (λ k d less within. fails (suc k) d (omega arith) (omega arith))

none_last : {X : Type 0} (q : X → Bool) (n m : ℕ) (xs : List X) → n ≤ m → ((k : ℕ) (d : X) → n ≤ k → k < length xs → q (get_or xs k d) ≡ false) → filter q (take m xs) ≡ filter q xs
none_last q n zero [] le fails = refl
none_last q n (suc m) [] le fails = refl
none_last q n zero (x ∷ xs) le fails = sym (none_passes q (x ∷ xs) (λ k d within. fails k d (omega arith) within))
none_last q n (suc m) (x ∷ xs) le fails = ap (λ zs. if q x then x ∷ zs else zs) (none_last q (n - 1) m xs (omega arith) (λ k d past within. fails (suc k) d (omega arith) (omega arith)))

-- what the earlier snapshot's lower bound is above isn't listed
unlisted-below : (from to : SnapshotView) (sub : ℕ) (s : Stored) → s.event.ev_txid < from.xmin → is_listed from to sub s ≡ false
unlisted-below from to sub s less =
    let seen_before : sees from s.event.ev_txid ≡ true = grind (arith, nat_tests) in
    by (sees to s.event.ev_txid) (sees from s.event.ev_txid) (not s.dead) (is_for sub s.event.ev_owner) seen_before
  where
    by : (a b c d : Bool) → b ≡ true → (a && not b && c && d) ≡ false
    by true true c d is = refl
    by false true c d is = refl
    by a false c d is = let clash = is in cc

-- nor what the later one's upper bound isn't above
unlisted-above : (from to : SnapshotView) (sub : ℕ) (s : Stored) → is_snapshot to ≡ true → to.xmax ≤ s.event.ev_txid → is_listed from to sub s ≡ false
unlisted-above from to sub s sound above = by (sees to s.event.ev_txid) (not (sees from s.event.ev_txid)) (not s.dead) (is_for sub s.event.ev_owner) (false_from_ne_true (sees to s.event.ev_txid) unseen)
  where
    unseen : sees to s.event.ev_txid ≡ true → ⊥
    unseen is = let less = (seen to s.event.ev_txid sound is).below in omega arith

    by : (a b c d : Bool) → a ≡ false → (a && b && c && d) ≡ false
    by true b c d is = let clash = is in cc
    by false b c d is = refl

-- ---- what lies between

-- whether one with its place is listed and passes another test
abbrev pub at_place : (Stored → Bool) → ℕ × Stored → Bool
at_place q x = q x.1

abbrev pub Between : (from to : SnapshotView) → (Stored → Bool) → Type 0
Between from to q = ((s : Stored) → s.event.ev_txid < from.xmin → q s ≡ false) × ((s : Stored) → to.xmax ≤ s.event.ev_txid → q s ≡ false)

pub listed_between : (from to : SnapshotView) (sub : ℕ) → is_snapshot to ≡ true → Between from to (is_listed from to sub)
listed_between from to sub sound = ((λ s less. unlisted-below from to sub s less), (λ s above. unlisted-above from to sub s sound above))

pub none_before : (from to : SnapshotView) (q : Stored → Bool) (list : List Stored) → Between from to q → filter (λ x. q x.1) (take (count_below from.xmin list) (by_txid list)) ≡ []
none_before from to q list between =
    none_first (λ x. q x.1) (count_below from.xmin list) (by_txid list) (λ k d less within.
    let test = first_below txid_of 0 from.xmin k (by_txid list) d (Rises-by_txid list) within ∙ ap (nat_lt k) (passing-by_txid (λ s. nat_lt s.event.ev_txid from.xmin) list) in
    between.0 (get_or (by_txid list) k d).1 (ltb-true _ from.xmin (test ∙ lt-ltb k (count_below from.xmin list) less)))

pub none_after : (from to : SnapshotView) (q : Stored → Bool) (m : ℕ) (list : List Stored) → Between from to q → count_below to.xmax list ≤ m → filter (λ x. q x.1) (take m (by_txid list)) ≡ filter (λ x. q x.1) (by_txid list)
none_after from to q m list between le =
    none_last (λ x. q x.1) (count_below to.xmax list) m (by_txid list) le (λ k d past within.
    let test = first_below txid_of 0 to.xmax k (by_txid list) d (Rises-by_txid list) within ∙ ap (nat_lt k) (passing-by_txid (λ s. nat_lt s.event.ev_txid to.xmax) list) in
    between.1 (get_or (by_txid list) k d).1 (ltb-false _ to.xmax (test ∙ le-ltb k (count_below to.xmax list) past)))

-- as many as are below the upper bound are below the lower one or between
pub count_between : (from to : SnapshotView) (list : List Stored) → count_below to.xmax list ≤ count_below from.xmin list + length (filter (is_between from to) list)
count_between from to [] = omega arith
count_between from to (s ∷ ss) =
    let ih = count_between from to ss in
    let upper = passing-cons (λ x. nat_lt x.event.ev_txid to.xmax) s ss in
    let lower = passing-cons (λ x. nat_lt x.event.ev_txid from.xmin) s ss in
    let between = passing-cons (is_between from to) s ss in
    let one : one_if (nat_lt s.event.ev_txid to.xmax) ≤ one_if (nat_lt s.event.ev_txid from.xmin) + one_if (is_between from to s) = split from.xmin to.xmax s.event.ev_txid in
    omega arith
  where
    split : (low high t : ℕ) → one_if (nat_lt t high) ≤ one_if (nat_lt t low) + one_if (nat_le low t && nat_lt t high)
    split low high t = elim (cases_Bool (nat_lt t low)) [
      | inl is ↦ rw is (cond_both (nat_lt t high) 1 0 (λ n. n ≤ 1 + one_if (nat_le low t && nat_lt t high)) (λ _. omega arith) (λ _. omega arith))
      | inr above ↦
          let le : nat_le low t ≡ true = grind (arith, nat_tests) in
          rw (above, le) (omega arith)
    ]

-- what both counts say of a table, and what they cost
pub record Ends (from to : SnapshotView) (list : List Stored) (first end before reads : ℕ) : Type 0 where
  pub first_is : first ≡ count_below from.xmin list
  pub end_is : end ≡ count_below to.xmax list
  pub upper : reads ≤ before + 2 * digits (length list)
  pub lower : before ≤ reads

-- a table of those that are seen
abbrev pub list_at : ℕ → TablesView → List Stored
list_at table t = slice_index_or t.tables.lists table []

pub ends : (from to : SnapshotView) (table xmin xmax first end : ℕ) (old mid new : TablesView) → xmin ≡ from.xmin → xmax ≡ to.xmax
    → first ≡ count_below xmin (list_at table old) → mid.tables ≡ old.tables → mid.reads ≤ old.reads + digits (length (list_at table old)) → old.reads ≤ mid.reads
    → end ≡ count_below xmax (list_at table mid) → new.reads ≤ mid.reads + digits (length (list_at table mid)) → mid.reads ≤ new.reads
    → Ends from to (list_at table old) first end old.reads new.reads
ends from to table xmin xmax first end old mid new lower_is upper_is first_is same up down end_is more less =
    let lists = ap (λ (ts : Tables). slice_index_or ts.lists table []) same in
    let looks = ap (λ list. digits (length list)) lists in
    record {
      first_is = first_is ∙ ap (λ n. count_below n (list_at table old)) lower_is;
      end_is = end_is ∙ ap (λ n. count_below n (list_at table mid)) upper_is ∙ ap (count_below to.xmax) lists;
      upper = omega arith;
      lower = omega arith;
    }

-- ---- one more is read

-- what was there, and what passes of the first so many
abbrev pub Gathered : {E : Type 0} → (ℕ × Stored → E) → (Stored → Bool) → List Stored → ℕ → List E → List E → Type 0
Gathered f q list k before now = now ≡ before ++ map f (filter (λ x. q x.1) (take k (by_txid list)))

at_index : (q : Stored → Bool) (list : List Stored) (k : ℕ) (x : ℕ × Stored) → k < length list → slice_get (by_txid list) k ≡ Some x
    → filter (λ y. q y.1) (take (k + 1) (by_txid list)) ≡ filter (λ y. q y.1) (take k (by_txid list)) ++ (if q x.1 then x ∷ [] else [])
at_index q list k x within is =
    filter_more (λ y. q y.1) (by_txid list) k x (subst (λ n. k < n) (sym (length-by_txid list)) within)
    ∙ ap (λ y. filter (λ z. q z.1) (take k (by_txid list)) ++ (if q y.1 then y ∷ [] else [])) (got (by_txid list) k x x is)

pub one_more_passes : (q : Stored → Bool) (list : List Stored) (k : ℕ) (x : ℕ × Stored) → k < length list → slice_get (by_txid list) k ≡ Some x → q x.1 ≡ true
    → filter (λ y. q y.1) (take (k + 1) (by_txid list)) ≡ filter (λ y. q y.1) (take k (by_txid list)) ++ x ∷ []
one_more_passes q list k x within is passes = at_index q list k x within is ∙ ap (λ b. filter (λ y. q y.1) (take k (by_txid list)) ++ (if b then x ∷ [] else [])) passes

pub one_more_fails : (q : Stored → Bool) (list : List Stored) (k : ℕ) (x : ℕ × Stored) → k < length list → slice_get (by_txid list) k ≡ Some x → q x.1 ≡ false
    → filter (λ y. q y.1) (take (k + 1) (by_txid list)) ≡ filter (λ y. q y.1) (take k (by_txid list))
one_more_fails q list k x within is fails =
    at_index q list k x within is ∙ ap (λ b. filter (λ y. q y.1) (take k (by_txid list)) ++ (if b then x ∷ [] else [])) fails ∙ append-nil (filter (λ y. q y.1) (take k (by_txid list)))

pub gathered : {E : Type 0} (f : ℕ × Stored → E) (q : Stored → Bool) (list : List Stored) (k : ℕ) (x : ℕ × Stored) (e : E) (before now next : List E) → k < length list → slice_get (by_txid list) k ≡ Some x → q x.1 ≡ true
    → e ≡ f x → next ≡ now ++ e ∷ [] → Gathered f q list k before now → Gathered f q list (k + 1) before next
gathered f q list k x e before now next within is passes made pushed so_far =
    let old = filter (λ y. q y.1) (take k (by_txid list)) in
    pushed
    ∙ ap (λ zs. zs ++ e ∷ []) so_far
    ∙ append_assoc before (map f old) (e ∷ [])
    ∙ ap (λ zs. before ++ zs) (ap (λ y. map f old ++ y ∷ []) made ∙ sym (map-append f old (x ∷ [])) ∙ ap (map f) (sym (one_more_passes q list k x within is passes)))

pub passed_over : {E : Type 0} (f : ℕ × Stored → E) (q : Stored → Bool) (list : List Stored) (k : ℕ) (x : ℕ × Stored) (before now : List E) → k < length list → slice_get (by_txid list) k ≡ Some x → q x.1 ≡ false
    → Gathered f q list k before now → Gathered f q list (k + 1) before now
passed_over f q list k x before now within is fails so_far = so_far ∙ ap (λ zs. before ++ map f zs) (sym (one_more_fails q list k x within is fails))

pub below_len : (txid : ℕ) (list : List Stored) → count_below txid list ≤ length list
below_len txid [] = omega arith
below_len txid (s ∷ ss) = let ih = below_len txid ss in cond_both (nat_lt s.event.ev_txid txid) (s ∷ filter (λ x. nat_lt x.event.ev_txid txid) ss) (filter (λ x. nat_lt x.event.ev_txid txid) ss) (λ zs. length zs ≤ suc (length ss)) (λ _. omega arith) (λ _. omega arith)
