-- What a write, the end of a transaction and a read do to the versions of a table, key by key.
use Rattle.std.proofs.Common.{arith, ◌≡◌, ℕ, true, cond, List, [], ◌∷◌, Ordering, Less, Equal, Greater, Option, Some, None, refl}
use Rattle.std.specs.Prelude.{unwrap_or}
use Rattle.std.specs.Option.{option_and_then}
use Rattle.std.specs.Ordering.{is_lt, is_eq, eq_by_cmp}
use Rattle.std.specs.FinMap.Entries.{below_all}
use Rattle.sky_val.specs.declared.val.Val.{Val}
use Rattle.sky_val.specs.Order.{key_cmp}
use Rattle.sky_val.proofs.Orders.{key_cmp-IsAntisymmetric}
use Rattle.sky_val.proofs.EntryLemmas.{at-put, is_in_order-put}
use Rattle.sky_val.specs.Entries.{Entries, at, is_in_order}
use Rattle.sky_keys.specs.declared.version.Version.{Version}
use Rattle.sky_txid.specs.Snapshot.{SnapshotView}
use Rattle.sky_keys.specs.Versions.{with_version, without, read, versions_at, written, values_by, unless_empty, forgotten, rows_read}

tie : (o : Ordering) → is_eq o ≡ true → o ≡ Equal
tie Less e = absurd (cc e)
tie Equal e = refl
tie Greater e = absurd (cc e)

less : (o : Ordering) → is_lt o ≡ true → o ≡ Less
less Less e = refl
less Equal e = absurd (cc e)
less Greater e = absurd (cc e)

pub key_ties-is : (q k : List Val) → eq_by_cmp key_cmp q k ≡ true → q ≡ k
key_ties-is q k e = key_cmp-IsAntisymmetric q k (tie (key_cmp q k) e)

-- a key below all keys is none of them
pub at-below : {X : Type 0} (key : List Val) (es : Entries X) → below_all key_cmp key es ≡ true → at key es ≡ None
at-below key [] h = refl
at-below key (e ∷ es) h = grind (arith, h, at-below key es, less (key_cmp key e.0))

-- a key below all keys stays so, and keys in order stay so, if values change or keys are removed

below-values_by : {X Y : Type 0} (f : X → Option Y) (key : List Val) (es : Entries X) → below_all key_cmp key es ≡ true → below_all key_cmp key (values_by f es) ≡ true
below-values_by f key [] h = refl
below-values_by f key (e ∷ es) h = grind (arith, h, below-values_by f key es)

pub is_in_order-values_by : {X Y : Type 0} (f : X → Option Y) (es : Entries X) → is_in_order es ≡ true → is_in_order (values_by f es) ≡ true
is_in_order-values_by f [] h = refl
is_in_order-values_by f (e ∷ es) h = grind (arith, h, is_in_order-values_by f es, below-values_by f e.0 es)

pub at-values_by : {X Y : Type 0} (f : X → Option Y) (q : List Val) (es : Entries X) → is_in_order es ≡ true → at q (values_by f es) ≡ option_and_then f (at q es)
at-values_by f q [] h = refl
at-values_by f q (e ∷ es) h = grind (arith, h, at-values_by f q es, key_ties-is q e.0, at-below e.0 (values_by f es), below-values_by f e.0 es)

-- a write at a key

pub at-written : (q : List Val) (t : ℕ) (key : List Val) (row : Option (List Val)) (es : Entries (List Version))
    → at q (written t key row es) ≡ cond (eq_by_cmp key_cmp q key) (Some (with_version t row (versions_at key es))) (at q es)
at-written q t key row es = at-put q key (with_version t row (versions_at key es)) es

pub versions_at-written : (q : List Val) (t : ℕ) (key : List Val) (row : Option (List Val)) (es : Entries (List Version))
    → versions_at q (written t key row es) ≡ cond (eq_by_cmp key_cmp q key) (with_version t row (versions_at q es)) (versions_at q es)
versions_at-written q t key row es = grind (arith, at-written q t key row es, key_ties-is q key)

pub is_in_order-written : (t : ℕ) (key : List Val) (row : Option (List Val)) (es : Entries (List Version)) → is_in_order es ≡ true → is_in_order (written t key row es) ≡ true
is_in_order-written t key row es h = is_in_order-put key (with_version t row (versions_at key es)) es h

-- a transaction's versions are removed

unless_empty-back : {X : Type 0} (xs : List X) → unwrap_or (unless_empty xs) [] ≡ xs
unless_empty-back [] = refl
unless_empty-back (x ∷ xs) = refl

pub at-forgotten : (t : ℕ) (q : List Val) (es : Entries (List Version)) → is_in_order es ≡ true → at q (forgotten t es) ≡ option_and_then (λ vs. unless_empty (without t vs)) (at q es)
at-forgotten t q es h = at-values_by (λ vs. unless_empty (without t vs)) q es h

pub versions_at-forgotten : (t : ℕ) (q : List Val) (es : Entries (List Version)) → is_in_order es ≡ true → versions_at q (forgotten t es) ≡ without t (versions_at q es)
versions_at-forgotten t q es h = grind (arith, at-forgotten t q es h, unless_empty-back)

pub is_in_order-forgotten : (t : ℕ) (es : Entries (List Version)) → is_in_order es ≡ true → is_in_order (forgotten t es) ≡ true
is_in_order-forgotten t es h = is_in_order-values_by (λ vs. unless_empty (without t vs)) es h

-- the rows that a read gives

read-none : (s : SnapshotView) (own : Option ℕ) → read s own [] ≡ None
read-none s None = refl
read-none s (Some t) = refl

pub at-rows_read : (s : SnapshotView) (own : Option ℕ) (q : List Val) (es : Entries (List Version)) → is_in_order es ≡ true → at q (rows_read s own es) ≡ read s own (versions_at q es)
at-rows_read s own q es h = grind (arith, at-values_by (read s own) q es h, read-none s own)

pub is_in_order-rows_read : (s : SnapshotView) (own : Option ℕ) (es : Entries (List Version)) → is_in_order es ≡ true → is_in_order (rows_read s own es) ≡ true
is_in_order-rows_read s own es h = is_in_order-values_by (read s own) es h
