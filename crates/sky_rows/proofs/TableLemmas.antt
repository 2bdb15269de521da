-- The entries of a table, as its map and its model have them.
use Rattle.std.proofs.Common.{arith, ◌≡◌, ℕ, Bool, true, false, cond, List, [], ◌∷◌, Ordering, Less, Equal, Greater, Option, Some, None, Result, Ok, Err, refl, sym, subst, ap, ◌∙◌}
use Rattle.std.specs.Prelude.{OnOk, OnErr, ◌&&◌}
use Rattle.std.specs.List.{AllByRecursion}
use Rattle.std.specs.Option.{option_or}
use Rattle.std.specs.List.Sorted.{IsStrictlySortedBy}
use Rattle.std.specs.Ordering.{is_lt, is_eq}
use Rattle.std.specs.Map.{keys_of, lookup, set_value}
use Rattle.std.specs.BTreeMap.{is_at, insert_entry}
use Rattle.std.specs.FinMap.Entries.{below_all, by_order}
use Rattle.std.proofs.lemmas.Map.Keys.{sorted_head, sorted_tail}
use Rattle.sky_val.specs.declared.val.Val.{Val}
use Rattle.sky_val.specs.Order.{key_cmp}
use Rattle.sky_val.specs.Entries.{Entries, at, put, is_in_order}
use Rattle.sky_val.proofs.Orders.{key_cmp-IsTotalOrder}
use Rattle.sky_keys.specs.declared.version.Version.{Version}
use Rattle.sky_txid.specs.Snapshot.{SnapshotView, sees}
use Rattle.sky_keys.specs.Versions.{with_version, version_of, newest_by, own_version, row_of, read, versions_at, written, unless_empty}
use Rattle.sky_keys.proofs.VersionLemmas.{version_of-with}
use Rattle.sky_keys.proofs.EntryLemmas.{key_ties-is, at-below}
use Rattle.sky_rows.specs.Written.{IsKept, AllKept, writer}
use Rattle.std.proofs.lemmas.Bool.Decides.{nat_tests}

-- ---- std's words for a map's entries, and those of `Entries`

-- std's map and the entries look up alike
pub lookup-at : {X : Type 0} (q : List Val) (es : Entries X) → lookup (is_at (key_cmp q)) es ≡ at q es
lookup-at q [] = refl
lookup-at q (e ∷ es) = ap (cond (is_eq (key_cmp q e.0)) (Some e.1)) (lookup-at q es)

insert_entry-put : {X : Type 0} (k : List Val) (x : X) (es : Entries X) → insert_entry key_cmp es k x ≡ put k x es
insert_entry-put k x [] = refl
insert_entry-put k x (e ∷ es) = grind (arith, insert_entry-put k x es)

below_all-keys : {X : Type 0} (k : List Val) (es : Entries X) → AllByRecursion (λ q. key_cmp k q ≡ Less) (keys_of es) → below_all key_cmp k es ≡ true
below_all-keys k [] h = refl
below_all-keys k (e ∷ es) h = grind (arith, h.0, below_all-keys k es h.1)

pub in_order-sorted : {X : Type 0} (es : Entries X) → IsStrictlySortedBy key_cmp (keys_of es) → is_in_order es ≡ true
in_order-sorted [] h = refl
in_order-sorted (e ∷ es) h = grind (arith, below_all-keys e.0 es (sorted_head key_cmp e.0 (keys_of es) h), in_order-sorted es (sorted_tail key_cmp e.0 (keys_of es) h))

less : (o : Ordering) → is_lt o ≡ true → o ≡ Less
less o e = grind (arith, e)

below_all-less : {X : Type 0} (k q : List Val) (es : Entries X) → key_cmp k q ≡ Less → below_all key_cmp q es ≡ true → below_all key_cmp k es ≡ true
below_all-less k q [] lt h = refl
below_all-less k q (e ∷ es) lt h = grind (arith, lt, h, less (key_cmp q e.0), key_cmp-IsTotalOrder.trans k q e.0, below_all-less k q es lt)

-- what is below the first key is no key
at-before : {X : Type 0} (k : List Val) (e : List Val × X) (es : Entries X) → key_cmp k e.0 ≡ Less → is_in_order (e ∷ es) ≡ true → at k (e ∷ es) ≡ None
at-before k e es lt h = at-below k (e ∷ es) (grind (arith, lt, h, below_all-less k e.0 es lt))

-- if a key has a value, putting another one there sets it
set_value-put : {X : Type 0} (k : List Val) (x y : X) (es : Entries X) → is_in_order es ≡ true → at k es ≡ Some y → set_value (is_at (key_cmp k)) es x ≡ put k x es
set_value-put k x y [] h found = absurd (cc found)
set_value-put k x y (e ∷ es) h found = grind (arith, h, found, at-before k e es, set_value-put k x y es)

set_value-same : {X : Type 0} (k : List Val) (x : X) (es : Entries X) → at k es ≡ Some x → set_value (is_at (key_cmp k)) es x ≡ es
set_value-same k x [] found = refl
set_value-same k x (e ∷ es) found = grind (arith, found, set_value-same k x es)

-- ---- what the index of the keys that were written records of the entries

-- each key is one of those that its versions' transactions wrote
pub kept_at : (w : ℕ → List Val → Bool) (t : ℕ) (q : List Val) (es : Entries (List Version)) → AllKept w es → w t q ≡ false → version_of t (versions_at q es) ≡ None
kept_at w t q [] kept none = refl
kept_at w t q (e ∷ es) kept none = grind (arith, none, kept.0.writers t, key_ties-is q e.0, kept_at w t q es kept.1)

-- more keys may be recorded
kept_more : (v w : ℕ → List Val → Bool) (key : List Val) (vs : List Version) → ((t : ℕ) → w t key ≡ false → v t key ≡ false) → IsKept v key vs → IsKept w key vs
kept_more v w key vs more kept = record { some = kept.some; writers = λ t none. kept.writers t (more t none) }

pub all_kept_more : (v w : ℕ → List Val → Bool) (es : Entries (List Version)) → ((t : ℕ) (q : List Val) → w t q ≡ false → v t q ≡ false) → AllKept v es → AllKept w es
all_kept_more v w [] more kept = tt
all_kept_more v w (e ∷ es) more kept = (kept_more v w e.0 e.1 (λ t. more t e.0) kept.0, all_kept_more v w es more kept.1)

-- what both record of the entries
pub kept_both : (v w : ℕ → List Val → Bool) (es : Entries (List Version)) → AllKept v es → AllKept w es → AllKept (λ t q. v t q && w t q) es
kept_both v w [] both other = tt
kept_both v w (e ∷ es) both other = (record { some = both.0.some; writers = λ t none. grind (arith, none, both.0.writers t, other.0.writers t) }, kept_both v w es both.1 other.1)

kept_put : (w : ℕ → List Val → Bool) (k : List Val) (vs : List Version) (es : Entries (List Version)) → IsKept w k vs → AllKept w es → AllKept w (put k vs es)
kept_put w k vs [] here kept = (here, tt)
kept_put w k vs (e ∷ es) here kept =
    elim (key_cmp k e.0) as (λ r. key_cmp k e.0 ≡ r → AllKept w (by_order r ((k, vs) ∷ e ∷ es) ((e.0, vs) ∷ es) (e ∷ put k vs es))) [
      | Less ↦ λ _. (here, kept)
      | Equal ↦ λ tie. (subst (λ q. IsKept w q vs) (key_ties-is k e.0 (ap is_eq tie)) here, kept.1)
      | Greater ↦ λ _. (kept.0, kept_put w k vs es here kept.1)
    ] refl

-- a reader that hasn't written the key need not look for its own version
pub own_version-writer : (w : ℕ → List Val → Bool) (own : Option ℕ) (q : List Val) (vs : List Version) → ((t : ℕ) → w t q ≡ false → version_of t vs ≡ None) → own_version (writer w own q) vs ≡ own_version own vs
own_version-writer w None q vs writers = refl
own_version-writer w (Some t) q vs writers = grind (arith, writers t)

pub read-writer : (w : ℕ → List Val → Bool) (s : SnapshotView) (own : Option ℕ) (q : List Val) (es : Entries (List Version)) (vs : List Version) → AllKept w es → Some vs ≡ at q es → read s (writer w own q) vs ≡ read s own (versions_at q es)
read-writer w s own q es vs kept found =
    let is : versions_at q es ≡ vs = grind (arith, found) in
    rw is (ap (λ o. row_of (option_or o (newest_by (sees s) vs))) (own_version-writer w own q vs (λ t none. ap (version_of t) (sym is) ∙ kept_at w t q es kept none)))

-- a key without versions has no row
pub read_nothing : (s : SnapshotView) (own : Option ℕ) → read s own [] ≡ None
read_nothing s None = refl
read_nothing s (Some t) = refl

-- ---- a write

-- a version is put at a key that has others
pub written-set : (t : ℕ) (key : List Val) (row : Option (List Val)) (es : Entries (List Version)) (vs new : List Version) → is_in_order es ≡ true → at key es ≡ Some vs → new ≡ with_version t row vs → set_value (is_at (key_cmp key)) es new ≡ written t key row es
written-set t key row es vs new order found is = grind (arith, found, is, set_value-put key new vs es order found)

pub unchanged-set : (key : List Val) (es : Entries (List Version)) (vs new : List Version) → at key es ≡ Some vs → new ≡ vs → set_value (is_at (key_cmp key)) es new ≡ es
unchanged-set key es vs new found is = grind (arith, found, is, set_value-same key new es)

-- or at one that has none
pub written-insert : (t : ℕ) (key : List Val) (row : Option (List Val)) (es : Entries (List Version)) (new : List Version) → at key es ≡ None → new ≡ with_version t row [] → insert_entry key_cmp es key new ≡ written t key row es
written-insert t key row es new none is = grind (arith, none, is, insert_entry-put key new es)

some-with : (t : ℕ) (row : Option (List Val)) (vs : List Version) → unless_empty (with_version t row vs) ≡ Some (with_version t row vs)
some-with t row [] = refl
some-with t row (v ∷ vs) = grind arith

-- once the key is recorded, the transaction may write it
pub kept_written : (v w : ℕ → List Val → Bool) (t : ℕ) (key : List Val) (row : Option (List Val)) (es : Entries (List Version)) → w t key ≡ true → ((u : ℕ) (q : List Val) → w u q ≡ false → v u q ≡ false) → AllKept v es → AllKept w (written t key row es)
kept_written v w t key row es recorded more kept =
    kept_put w key (with_version t row (versions_at key es)) es (record {
      some = some-with t row (versions_at key es);
      writers = λ u none. grind (arith, nat_tests, recorded, none, version_of-with u t row (versions_at key es), kept_at v u key es kept (more u key none));
    }) (all_kept_more v w es more kept)

pub kept_either : {U E : Type 0} (v w : ℕ → List Val → Bool) (t : ℕ) (key : List Val) (row : Option (List Val)) (es new : Entries (List Version)) (r : Result U E)
    → w t key ≡ true → ((u : ℕ) (q : List Val) → w u q ≡ false → v u q ≡ false) → OnOk r (new ≡ written t key row es) → OnErr r (new ≡ es) → AllKept v es → AllKept w new
kept_either v w t key row es new (Ok _) recorded more ok err kept = subst (AllKept w) (sym ok) (kept_written v w t key row es recorded more kept)
kept_either v w t key row es new (Err _) recorded more ok err kept = subst (AllKept w) (sym err) (all_kept_more v w es more kept)
