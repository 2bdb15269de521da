-- The rows of a table by pieces, in the order of the keys: what is above the last key of some of them, and what rows that are written one after another make.
use Rattle.std.proofs.Common.{arith, ◌≡◌, ℕ, zero, suc, true, false, List, [], ◌∷◌, ◌++◌, length, take, drop, nat_lt, Ordering, Less, Equal, Greater, Option, Some, None, append_assoc, append-nil, refl, sym, ap, ◌∙◌, if◌then◌else◌}
use Rattle.std.specs.Ordering.{is_lt, is_eq, eq_by_cmp, ordering_reverse}
use Rattle.std.specs.Cmp.{tied_itself}
use Rattle.std.specs.FinMap.Entries.{below_all}
use Rattle.std.proofs.lemmas.Bool.{and_parts}
use Rattle.std.proofs.lemmas.Bool.Decides.{nat_tests}
use Rattle.sky_val.specs.declared.val.Val.{Val}
use Rattle.sky_val.specs.declared.column.Column.{Column}
use Rattle.sky_val.specs.Order.{key_cmp}
use Rattle.sky_val.specs.Schemas.{key_of}
use Rattle.sky_val.specs.Entries.{Entries, put, is_in_order}
use Rattle.std.specs.FinMap.Entries.{by_order}
use Rattle.sky_val.proofs.Orders.{key_cmp-IsTotalOrder}
use Rattle.sky_keys.specs.Versions.{above, values_by}
use Rattle.sky_model.specs.Rows.{Write, put_all}
use Rattle.sky_model.specs.Rows.{put as put_row}
use Rattle.sky_model.specs.StepCopy.{insertions, deletions}
use Rattle.sky_model.specs.CopyMoves.{rows_of, last_key}

-- ---- orders

turned : (o : Ordering) → is_lt o ≡ true → ordering_reverse o ≡ Greater
turned Less e = refl
turned Equal e = absurd (cc e)
turned Greater e = absurd (cc e)

less : (o : Ordering) → is_lt o ≡ true → o ≡ Less
less Less e = refl
less Equal e = absurd (cc e)
less Greater e = absurd (cc e)

-- a key above another isn't below it
over-back : (a b : List Val) → is_lt (key_cmp a b) ≡ true → key_cmp b a ≡ Greater
over-back a b e = key_cmp-IsTotalOrder.antisymm b a ∙ turned (key_cmp a b) e

not-below-itself : (a : List Val) → key_cmp a a ≡ Equal
not-below-itself a = tied_itself key_cmp-IsTotalOrder a

pub tied : (a : List Val) → eq_by_cmp key_cmp a a ≡ true
tied a = ap is_eq (not-below-itself a)

rising : (a b c : List Val) → is_lt (key_cmp a b) ≡ true → is_lt (key_cmp b c) ≡ true → is_lt (key_cmp a c) ≡ true
rising a b c e f = ap is_lt (key_cmp-IsTotalOrder.trans a b c (less (key_cmp a b) e) (less (key_cmp b c) f))

-- ---- what is above the last key of the first rows

-- the key of the last of some rows
abbrev last_of : List Val → Entries (List Val) → List Val
last_of key [] = key
last_of key (e ∷ es) = last_of e.0 es

last-of : (key : List Val) (es : Entries (List Val)) → last_key (Some key) es ≡ Some (last_of key es)
last-of key [] = refl
last-of key (e ∷ es) = last-of e.0 es

pub last_key-append : (before : Option (List Val)) (xs ys : Entries (List Val)) → last_key before (xs ++ ys) ≡ last_key (last_key before xs) ys
last_key-append before [] ys = refl
last_key-append before (x ∷ xs) ys = last_key-append (Some x.0) xs ys

-- a key below all of some rows is below the last of them
below-last : (a key : List Val) (es rest : Entries (List Val)) → is_lt (key_cmp a key) ≡ true → below_all key_cmp a (es ++ rest) ≡ true → is_lt (key_cmp a (last_of key es)) ≡ true
below-last a key [] rest e h = e
below-last a key (x ∷ es) rest e h =
    let both = and_parts (is_lt (key_cmp a x.0)) (below_all key_cmp a (es ++ rest)) h in
    below-last a x.0 es rest both.0 both.1

-- all that a key is below are above it
all-above : {X : Type 0} (a : List Val) (es : Entries X) → below_all key_cmp a es ≡ true → above (Some a) es ≡ es
all-above a [] h = refl
all-above a (x ∷ es) h = grind (arith, h, all-above a es)

skips : (a key : List Val) (row : List Val) (es : Entries (List Val)) → is_lt (key_cmp a key) ≡ false → above (Some a) ((key, row) ∷ es) ≡ above (Some a) es
skips a key row es e = ap (λ b. if b then (key, row) ∷ above (Some a) es else above (Some a) es) e

unless-below : (a b : List Val) → is_lt (key_cmp a b) ≡ true → is_lt (key_cmp b a) ≡ false
unless-below a b e = ap is_lt (over-back a b e)

above-first : (key row : List Val) (done rest : Entries (List Val)) → is_in_order ((key, row) ∷ done ++ rest) ≡ true → above (Some (last_of key done)) ((key, row) ∷ done ++ rest) ≡ rest
above-first key row [] rest order =
    skips key key row rest (ap is_lt (not-below-itself key)) ∙ all-above key rest (and_parts (below_all key_cmp key rest) (is_in_order rest) order).0
above-first key row (e ∷ done) rest order =
    let both = and_parts (below_all key_cmp key (e ∷ done ++ rest)) (is_in_order (e ∷ done ++ rest)) order in
    let first = and_parts (is_lt (key_cmp key e.0)) (below_all key_cmp key (done ++ rest)) both.0 in
    skips (last_of e.0 done) key row (e ∷ done ++ rest) (unless-below key (last_of e.0 done) (below-last key e.0 done rest first.0 first.1))
    ∙ above-first e.0 e.1 done rest both.1

-- above the last of the first rows are the others
pub above-done : (done rest : Entries (List Val)) → is_in_order (done ++ rest) ≡ true → above (last_key None done) (done ++ rest) ≡ rest
above-done [] rest order = refl
above-done (e ∷ done) rest order = ap (λ o. above o (e ∷ done ++ rest)) (last-of e.0 done) ∙ above-first e.0 e.1 done rest order

-- ---- rows that are written one after another

put-last : (key row : List Val) (done rest : Entries (List Val)) → is_in_order (done ++ (key, row) ∷ rest) ≡ true → put key row done ≡ done ++ (key, row) ∷ []
put-last key row [] rest order = refl
put-last key row (e ∷ done) rest order =
    let both = and_parts (below_all key_cmp e.0 (done ++ (key, row) ∷ rest)) (is_in_order (done ++ (key, row) ∷ rest)) order in
    let ahead : key_cmp key e.0 ≡ Greater = over-back e.0 key (below-one e.0 done both.0) in
    ap (λ o. by_order o ((key, row) ∷ e ∷ done) ((e.0, row) ∷ done) (e ∷ put key row done)) ahead ∙ ap (λ es. e ∷ es) (put-last key row done rest both.1)
  where
    below-one : (a : List Val) (es : Entries (List Val)) → below_all key_cmp a (es ++ (key, row) ∷ rest) ≡ true → is_lt (key_cmp a key) ≡ true
    below-one a [] h = (and_parts (is_lt (key_cmp a key)) (below_all key_cmp a rest) h).0
    below-one a (x ∷ es) h = below-one a es (and_parts (is_lt (key_cmp a x.0)) (below_all key_cmp a (es ++ (key, row) ∷ rest)) h).1

-- each row is under its own key
abbrev pub AreKeyed : List Column → Entries (List Val) → Type 0
AreKeyed columns [] = Unit {0}
AreKeyed columns (e ∷ es) = (key_of columns e.1 ≡ e.0) × AreKeyed columns es

-- the next rows, written on top of the first ones, come after them
pub put-next : (columns : List Column) (done piece rest : Entries (List Val)) → is_in_order (done ++ (piece ++ rest)) ≡ true → AreKeyed columns piece
    → put_all (insertions columns (rows_of piece)) done ≡ done ++ piece
put-next columns done [] rest order keyed = sym (append-nil done)
put-next columns done (e ∷ piece) rest order keyed =
    let is : put (key_of columns e.1) e.1 done ≡ done ++ e ∷ [] = ap (λ key. put key e.1 done) keyed.0 ∙ put-last e.0 e.1 done (piece ++ rest) order in
    ap (put_all (insertions columns (rows_of piece))) is
    ∙ put-next columns (done ++ e ∷ []) piece rest (ap is_in_order (append_assoc done (e ∷ []) (piece ++ rest)) ∙ order) keyed.1
    ∙ append_assoc done (e ∷ []) piece

pub put-append : (xs ys : List Write) (rows : Entries (List Val)) → put_all (xs ++ ys) rows ≡ put_all ys (put_all xs rows)
put-append [] ys rows = refl
put-append (x ∷ xs) ys rows = put-append xs ys (put_row x.key x.row rows)

-- deletions leave an empty table empty
pub put-deletions : (rows : Entries (List Val)) → put_all (deletions rows) [] ≡ []
put-deletions [] = refl
put-deletions (e ∷ rows) = put-deletions rows

-- ---- what is read above a key

pub values-above : {X Y : Type 0} (f : X → Option Y) (after : Option (List Val)) (es : Entries X) → values_by f (above after es) ≡ above after (values_by f es)
values-above f None es = refl
values-above f (Some key) [] = refl
values-above f (Some key) (e ∷ es) = grind (arith, values-above f (Some key) es)

-- ---- pieces

-- fewer than were asked for are all
pub all-taken : {X : Type 0} (n : ℕ) (es : List X) → nat_lt (length (take n es)) n ≡ true → drop n es ≡ []
all-taken zero es e = absurd (grind (arith, nat_tests, e))
all-taken (suc n) [] e = refl
all-taken (suc n) (x ∷ es) e = all-taken n es (grind (arith, nat_tests, e))
