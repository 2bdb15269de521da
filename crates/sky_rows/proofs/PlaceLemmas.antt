-- The places of keys' slots, after a slot came, changed or went.
use Rattle.std.proofs.Common.{◌≡◌, ◌≢◌, ℕ, zero, suc, ◌<◌, Bool, true, false, cond, List, [], ◌∷◌, length, get_or, Ordering, Less, Equal, Greater, Option, Some, None, Result, Ok, Err, refl, sym, ◌∙◌, ap, subst, arith, is_some, get_or-set_same, get_or-set_other}
use Rattle.std.specs.Prelude.{◌==◌, option_map, filter, slice_get, IsSome, IfSome, OnOk, OnErr}
use Rattle.std.specs.Option.{unwrap_or}
use Rattle.std.specs.List.Sorted.{IsStrictlySortedBy}
use Rattle.std.specs.Ordering.{eq_by_cmp, is_eq, match_ordering}
use Rattle.std.specs.Map.{keys_of, lookup, set_value, remove_entry}
use Rattle.std.specs.BTreeMap.{is_at, insert_entry}
use Rattle.std.specs.Cmp.{eq_by_cmp_equiv, tied_itself}
use Rattle.std.proofs.lemmas.Bool.{eqb-true, eq-eqb}
use Rattle.std.proofs.lemmas.Option.{same_Some}
use Rattle.std.proofs.lemmas.Map.Entries.{lookup_from_place}
use Rattle.std.proofs.lemmas.Map.Keys.{IsDistinct-from_sorted}
use Rattle.slab.specs.Slab.{Slab, Updates, with_value, get as slab_get}
use Rattle.sky_val.specs.declared.val.Val.{Val}
use Rattle.sky_val.specs.Order.{key_cmp}
use Rattle.sky_val.specs.Entries.{Entries}
use Rattle.sky_val.proofs.Orders.{key_cmp-IsTotalOrder}
use Rattle.sky_keys.proofs.EntryLemmas.{key_ties-is}
use Rattle.sky_rows.specs.declared.kept.Kept.{Kept}
use Rattle.sky_rows.specs.Older.{OlderView}
use Rattle.sky_rows.specs.Kept.{AreOwn}
use Rattle.sky_rows.specs.declared.rows.Slot.{Slot}
use Rattle.sky_rows.specs.Rows.{Places, place_at, key_at, kept_at, nothing, rows_of, rows_in, RowsView, Lack, AreThere, IsPlaced}

-- ---- at a key

pub keys-rows : (slots : Slab Slot) (es : Places) → keys_of (rows_of slots es) ≡ keys_of es
keys-rows slots [] = refl
keys-rows slots (e ∷ es) = ap (λ ks. e.0 ∷ ks) (keys-rows slots es)

pub rows_order : (slots : Slab Slot) (es : Places) → IsPlaced slots es → IsStrictlySortedBy key_cmp (keys_of (rows_of slots es))
rows_order slots es placed = subst (IsStrictlySortedBy key_cmp) (sym (keys-rows slots es)) placed.order

pub lookup-rows : (slots : Slab Slot) (test : List Val → Bool) (es : Places) → lookup test (rows_of slots es) ≡ option_map (λ p. unwrap_or (kept_at slots p) nothing) (lookup test es)
lookup-rows slots test [] = refl
lookup-rows slots test (e ∷ es) = elim (test e.0) as (λ b. cond b (Some (unwrap_or (kept_at slots e.1) nothing)) (lookup test (rows_of slots es)) ≡ option_map (λ p. unwrap_or (kept_at slots p) nothing) (cond b (Some e.1) (lookup test es))) [
  | true ↦ refl
  | false ↦ lookup-rows slots test es
]

key_there : (slots : Slab Slot) (q : List Val) (p : ℕ) (es : Places) → AreThere slots es → place_at es q ≡ Some p → key_at slots p ≡ Some q
key_there slots q p [] there found = absurd (cc found)
key_there slots q p (e ∷ es) there found = elim (eq_by_cmp key_cmp q e.0) as (λ b. eq_by_cmp key_cmp q e.0 ≡ b → cond b (Some e.1) (place_at es q) ≡ Some p → key_at slots p ≡ Some q) [
  | true ↦ λ tie is. ap (key_at slots) (sym (same_Some _ _ is)) ∙ there.0 ∙ ap (λ k. Some k) (sym (key_ties-is q e.0 tie))
  | false ↦ λ _ found. key_there slots q p es there.2 found
] refl found

-- at a key's place is its slot
pub its_key : (slots : Slab Slot) (places : Places) (q : List Val) (p : ℕ) → IsPlaced slots places → place_at places q ≡ Some p → key_at slots p ≡ Some q
its_key slots places q p placed found = key_there slots q p places placed.there found

pub if_there : (slots : Slab Slot) (places : Places) (q : List Val) (o : Option ℕ) → IsPlaced slots places → o ≡ place_at places q → IfSome o (λ p. key_at slots p ≡ Some q)
if_there slots places q None placed is = tt
if_there slots places q (Some p) placed is = its_key slots places q p placed (sym is)

pub has_slot : (slots : Slab Slot) (p : ℕ) (q : List Val) → key_at slots p ≡ Some q → IsSome (slab_get slots p)
has_slot slots p q is = of (slab_get slots p) is
  where
    of : (o : Option Slot) → option_map (λ (s : Slot). s.key) o ≡ Some q → IsSome o
    of None is = absurd (cc is)
    of (Some s) is = refl

-- what is kept of a key
pub kept_found : (slots : Slab Slot) (places : Places) (q : List Val) (p : ℕ) → key_at slots p ≡ Some q → place_at places q ≡ Some p → kept_at slots p ≡ lookup (is_at (key_cmp q)) (rows_of slots places)
kept_found slots places q p there found =
    of (slab_get slots p) there
    ∙ ap (option_map (λ p. unwrap_or (kept_at slots p) nothing)) (sym found) ∙ sym (lookup-rows slots (is_at (key_cmp q)) places)
  where
    of : (o : Option Slot) → option_map (λ (s : Slot). s.key) o ≡ Some q → option_map (λ (s : Slot). s.kept) o ≡ Some (unwrap_or (option_map (λ (s : Slot). s.kept) o) nothing)
    of None is = absurd (cc is)
    of (Some s) is = refl

pub none_kept : (slots : Slab Slot) (places : Places) (q : List Val) → place_at places q ≡ None → None ≡ lookup (is_at (key_cmp q)) (rows_of slots places)
none_kept slots places q none = ap (option_map (λ p. unwrap_or (kept_at slots p) nothing)) (sym none) ∙ sym (lookup-rows slots (is_at (key_cmp q)) places)

pub is_some-map : {A B : Type 0} (f : A → B) (o : Option A) → is_some (option_map f o) ≡ is_some o
is_some-map f None = refl
is_some-map f (Some x) = refl

-- something is kept of the keys that have a place
pub some_kept : (slots : Slab Slot) (places : Places) (q : List Val) → is_some (lookup (is_at (key_cmp q)) (rows_of slots places)) ≡ is_some (place_at places q)
some_kept slots places q = ap is_some (lookup-rows slots (is_at (key_cmp q)) places) ∙ is_some-map (λ p. unwrap_or (kept_at slots p) nothing) (place_at places q)

-- ---- at other places than one

lack_found : (p n : ℕ) (test : List Val → Bool) (es : Places) → Lack n es → lookup test es ≡ Some p → n ≢ p
lack_found p n test [] lack found = absurd (cc found)
lack_found p n test (e ∷ es) lack found = elim (test e.0) as (λ b. cond b (Some e.1) (lookup test es) ≡ Some p → n ≢ p) [
  | true ↦ λ is here. lack.0 (same_Some _ _ is ∙ sym here)
  | false ↦ λ found. lack_found p n test es lack.1 found
] found

pub lack_vacant : (slots : Slab Slot) (p : ℕ) (es : Places) → key_at slots p ≡ None → AreThere slots es → Lack p es
lack_vacant slots p [] vacant there = tt
lack_vacant slots p (e ∷ es) vacant there = ((λ here. let both : None ≡ Some e.0 = sym vacant ∙ ap (key_at slots) (sym here) ∙ there.0 in absurd (cc both)), lack_vacant slots p es vacant there.2)

-- all slots but one are what they were
module _ (slots slots' : Slab Slot) (p : ℕ) (others : (n : ℕ) → n ≢ p → slab_get slots' n ≡ slab_get slots n) where
  rows-others : (es : Places) → Lack p es → rows_of slots' es ≡ rows_of slots es
  rows-others [] lack = refl
  rows-others (e ∷ es) lack = λ i. (e.0, unwrap_or (option_map (λ (s : Slot). s.kept) (others e.1 lack.0 i)) nothing) ∷ rows-others es lack.1 i

  there-others : (es : Places) → Lack p es → AreThere slots es → AreThere slots' es
  there-others [] lack there = tt
  there-others (e ∷ es) lack there = (ap (option_map (λ (s : Slot). s.key)) (others e.1 lack.0) ∙ there.0, there.1, there-others es lack.1 there.2)

  -- a key has what is kept at the place now
  pub rows-set : (test : List Val → Bool) (kept : Kept) → kept_at slots' p ≡ Some kept → (es : Places) → AreThere slots es → lookup test es ≡ Some p → rows_of slots' es ≡ set_value test (rows_of slots es) kept
  rows-set test kept is [] there found = absurd (cc found)
  rows-set test kept is (e ∷ es) there found = elim (test e.0) as (λ b. cond b (Some e.1) (lookup test es) ≡ Some p → rows_of slots' (e ∷ es) ≡ cond b ((e.0, kept) ∷ rows_of slots es) ((e.0, unwrap_or (kept_at slots e.1) nothing) ∷ set_value test (rows_of slots es) kept)) [
    | true ↦ λ here.
        let at : e.1 ≡ p = same_Some _ _ here in
        let now : unwrap_or (kept_at slots' e.1) nothing ≡ kept = ap (λ n. unwrap_or (kept_at slots' n) nothing) at ∙ ap (λ o. unwrap_or o nothing) is in
        let lack = subst (λ n. Lack n es) at there.1 in
        λ i. (e.0, now i) ∷ rows-others es lack i
    | false ↦ λ found.
        let apart : e.1 ≢ p = lack_found p e.1 test es there.1 found in
        λ i. (e.0, unwrap_or (option_map (λ (s : Slot). s.kept) (others e.1 apart i)) nothing) ∷ rows-set test kept is es there.2 found i
  ] found

  -- or is removed
  pub rows-remove : (test : List Val → Bool) (es : Places) → AreThere slots es → lookup test es ≡ Some p → rows_of slots' (remove_entry test es) ≡ remove_entry test (rows_of slots es)
  rows-remove test [] there found = absurd (cc found)
  rows-remove test (e ∷ es) there found = elim (test e.0) as (λ b. cond b (Some e.1) (lookup test es) ≡ Some p → rows_of slots' (cond b es (e ∷ remove_entry test es)) ≡ cond b (rows_of slots es) ((e.0, unwrap_or (kept_at slots e.1) nothing) ∷ remove_entry test (rows_of slots es))) [
    | true ↦ λ here. rows-others es (subst (λ n. Lack n es) (same_Some _ _ here) there.1)
    | false ↦ λ found.
        let apart : e.1 ≢ p = lack_found p e.1 test es there.1 found in
        λ i. (e.0, unwrap_or (option_map (λ (s : Slot). s.kept) (others e.1 apart i)) nothing) ∷ rows-remove test es there.2 found i
  ] found

  lack_removed : (test : List Val → Bool) (n : ℕ) (es : Places) → Lack n es → Lack n (remove_entry test es)
  lack_removed test n [] lack = tt
  lack_removed test n (e ∷ es) lack = elim (test e.0) as (λ b. Lack n (cond b es (e ∷ remove_entry test es))) [
    | true ↦ lack.1
    | false ↦ (lack.0, lack_removed test n es lack.1)
  ]

  there-removed : (test : List Val → Bool) (es : Places) → AreThere slots es → lookup test es ≡ Some p → AreThere slots' (remove_entry test es)
  there-removed test [] there found = absurd (cc found)
  there-removed test (e ∷ es) there found = elim (test e.0) as (λ b. cond b (Some e.1) (lookup test es) ≡ Some p → AreThere slots' (cond b es (e ∷ remove_entry test es))) [
    | true ↦ λ here. there-others es (subst (λ n. Lack n es) (same_Some _ _ here) there.1) there.2
    | false ↦ λ found. (ap (option_map (λ (s : Slot). s.key)) (others e.1 (lack_found p e.1 test es there.1 found)) ∙ there.0, lack_removed test e.1 es there.1, there-removed test es there.2 found)
  ] found

  -- or is new
  pub rows-insert : (key : List Val) (kept : Kept) → kept_at slots' p ≡ Some kept → (es : Places) → Lack p es → rows_of slots' (insert_entry key_cmp es key p) ≡ insert_entry key_cmp (rows_of slots es) key kept
  rows-insert key kept is [] lack = ap (λ o. (key, unwrap_or o nothing) ∷ []) is
  rows-insert key kept is (e ∷ es) lack =
      elim (key_cmp key e.0) as (λ o. rows_of slots' (match_ordering o ((key, p) ∷ e ∷ es) ((e.0, p) ∷ es) (e ∷ insert_entry key_cmp es key p))
      ≡ match_ordering o ((key, kept) ∷ rows_of slots (e ∷ es)) ((e.0, kept) ∷ rows_of slots es) ((e.0, unwrap_or (kept_at slots e.1) nothing) ∷ insert_entry key_cmp (rows_of slots es) key kept)) [
        | Less ↦ λ i. (key, unwrap_or (is i) nothing) ∷ rows-others (e ∷ es) lack i
        | Equal ↦ λ i. (e.0, unwrap_or (is i) nothing) ∷ rows-others es lack.1 i
        | Greater ↦ λ i. (e.0, unwrap_or (option_map (λ (s : Slot). s.kept) (others e.1 lack.0 i)) nothing) ∷ rows-insert key kept is es lack.1 i
      ]

lack_inserted : (key : List Val) (p n : ℕ) (es : Places) → p ≢ n → Lack n es → Lack n (insert_entry key_cmp es key p)
lack_inserted key p n [] apart lack = (apart, tt)
lack_inserted key p n (e ∷ es) apart lack = elim (key_cmp key e.0) as (λ o. Lack n (match_ordering o ((key, p) ∷ e ∷ es) ((e.0, p) ∷ es) (e ∷ insert_entry key_cmp es key p))) [
  | Less ↦ (apart, lack)
  | Equal ↦ (apart, lack.1)
  | Greater ↦ (lack.0, lack_inserted key p n es apart lack.1)
]

there-inserted : (slots slots' : Slab Slot) (p : ℕ) (others : (n : ℕ) → n ≢ p → slab_get slots' n ≡ slab_get slots n) (key : List Val) → key_at slots' p ≡ Some key → (es : Places) → Lack p es → AreThere slots es → place_at es key ≡ None
    → AreThere slots' (insert_entry key_cmp es key p)
there-inserted slots slots' p others key is [] lack there none = (is, tt, tt)
there-inserted slots slots' p others key is (e ∷ es) lack there none =
    elim (key_cmp key e.0) as (λ o. place_in o ≡ None → AreThere slots' (match_ordering o ((key, p) ∷ e ∷ es) ((e.0, p) ∷ es) (e ∷ insert_entry key_cmp es key p))) [
      | Less ↦ λ _. (is, lack, there-others slots slots' p others (e ∷ es) lack there)
      | Equal ↦ λ found. absurd (cc found)
      | Greater ↦ λ none. (
        ap (option_map (λ (s : Slot). s.key)) (others e.1 lack.0) ∙ there.0,
        lack_inserted key p e.1 es (λ here. lack.0 (sym here)) there.1,
        there-inserted slots slots' p others key is es lack.1 there.2 none,
      )
    ] none
  where
    place_in : Ordering → Option ℕ
    place_in o = cond (is_eq o) (Some e.1) (place_at es key)

-- ---- the changes that there are

within : (xs : List (Option Slot)) (p : ℕ) → IsSome (get_or xs p None) → p < length xs
within [] p here = absurd (cc here)
within (x ∷ xs) zero here = omega arith
within (x ∷ xs) (suc p) here = let rest = within xs p here in omega arith

-- the slots have the same keys
there-keys : (slots slots' : Slab Slot) → ((n : ℕ) → key_at slots' n ≡ key_at slots n) → (es : Places) → AreThere slots es → AreThere slots' es
there-keys slots slots' same [] there = tt
there-keys slots slots' same (e ∷ es) there = (same e.1 ∙ there.0, there.1, there-keys slots slots' same es there.2)

pub placed-keys : (slots slots' : Slab Slot) (places : Places) → ((n : ℕ) → key_at slots' n ≡ key_at slots n) → IsPlaced slots places → IsPlaced slots' places
placed-keys slots slots' places same placed = record {
  there = there-keys slots slots' same places placed.there;
  order = placed.order;
  only = λ q n is. placed.only q n (sym (same n) ∙ is);
}

-- the slots are the same
pub placed-same : (slots slots' : Slab Slot) (places : Places) → slots' ≡ record slots { capacity = slots'.capacity } → IsPlaced slots places → IsPlaced slots' places
placed-same slots slots' places same placed = placed-keys slots slots' places (λ n. ap (λ (s : Slab Slot). key_at s n) same) placed

pub rows-same : (slots slots' : Slab Slot) (es : Places) → slots' ≡ record slots { capacity = slots'.capacity } → rows_of slots' es ≡ rows_of slots es
rows-same slots slots' es same = ap (λ (s : Slab Slot). rows_of s es) same ∙ of es
  where
    of : (es : Places) → rows_of (record slots { capacity = slots'.capacity }) es ≡ rows_of slots es
    of [] = refl
    of (e ∷ es) = ap (λ rest. (e.0, unwrap_or (kept_at slots e.1) nothing) ∷ rest) (of es)

-- a slot was written through
module _ (slots : Slab Slot) (p : ℕ) (was now : Slot) (had : slab_get slots p ≡ Some was) (same : now.key ≡ was.key) where
  pub written_there : slab_get (with_value slots p now) p ≡ Some now
  written_there = get_or-set_same slots.slots p (Some now) None (within slots.slots p (subst IsSome (sym had) refl))

  pub written_others : (n : ℕ) → n ≢ p → slab_get (with_value slots p now) n ≡ slab_get slots n
  written_others n other = get_or-set_other slots.slots p n (Some now) None other

  pub written_keys : (n : ℕ) → key_at (with_value slots p now) n ≡ key_at slots n
  written_keys n = elim (n == p) as (λ b. (n == p) ≡ b → key_at (with_value slots p now) n ≡ key_at slots n) [
    | true ↦ λ here.
        let is : n ≡ p = eqb-true n p here in
        ap (key_at (with_value slots p now)) is ∙ ap (option_map (λ (s : Slot). s.key)) written_there ∙ ap (λ k. Some k) same
        ∙ ap (option_map (λ (s : Slot). s.key)) (sym had) ∙ ap (key_at slots) (sym is)
    | false ↦ λ apart. ap (option_map (λ (s : Slot). s.key)) (written_others n (λ is. let both : true ≡ false = sym (eq-eqb n p is) ∙ apart in cc both))
  ] refl

  pub written_placed : (places : Places) → IsPlaced slots places → IsPlaced (with_value slots p now) places
  written_placed places placed = placed-keys slots (with_value slots p now) places written_keys placed

  pub written_rows : (places : Places) → IsPlaced slots places → rows_of (with_value slots p now) places ≡ set_value (is_at (key_cmp was.key)) (rows_of slots places) now.kept
  written_rows places placed =
      rows-set slots (with_value slots p now) p written_others (is_at (key_cmp was.key)) now.kept (ap (option_map (λ (s : Slot). s.kept)) written_there) places placed.there
      (placed.only was.key p (ap (option_map (λ (s : Slot). s.key)) had))

-- what is there has a key
pub its_there : (slots : Slab Slot) (view : RowsView) (p : ℕ) (was : Slot) → slots ≡ view.slots → slab_get slots p ≡ Some was → key_at view.slots p ≡ Some was.key
its_there slots view p was is had = ap (λ s. key_at s p) (sym is) ∙ ap (option_map (λ (s : Slot). s.key)) had

pub at_its_key : (view : RowsView) (p : ℕ) (key : List Val) → key_at view.slots p ≡ Some key → (P : List Val → Type 0) → P key → (k : List Val) → key_at view.slots p ≡ Some k → P k
at_its_key view p key there P holds k is = subst P (same_Some _ _ (sym there ∙ is)) holds

pub ok_then : {U E A B : Type 0} (r : Result U E) → (A → B) → OnOk r A → OnOk r B
ok_then (Ok u) f a = f a
ok_then (Err e) f a = tt

pub either_own : {U E : Type 0} (r : Result U E) (older : OlderView) (old new : Entries Kept) → AreOwn older old → OnOk r (AreOwn older new) → OnErr r (new ≡ old) → AreOwn older new
either_own (Ok u) older old new own ok err = ok
either_own (Err e) older old new own ok err = subst (AreOwn older) (sym err) own

pub tie_itself : (k : List Val) → eq_by_cmp key_cmp k k ≡ true
tie_itself k = ap is_eq (tied_itself key_cmp-IsTotalOrder k)

-- a slot came
pub inserted_placed : (slots slots' : Slab Slot) (p : ℕ) (now : Slot) (places places' : Places) → IsPlaced slots places → slab_get slots p ≡ None → place_at places now.key ≡ None → Updates slots slots' p (Some now)
    → places' ≡ insert_entry key_cmp places now.key p → IsStrictlySortedBy key_cmp (keys_of places') → ((q : List Val) → place_at places' q ≡ cond (eq_by_cmp key_cmp now.key q) (Some p) (place_at places q)) → IsPlaced slots' places'
inserted_placed slots slots' p now places places' placed vacant none updates is order found = record {
  there = subst (AreThere slots') (sym is) (there-inserted slots slots' p updates.others now.key (ap (option_map (λ (s : Slot). s.key)) updates.changed) places
      (lack_vacant slots p places (ap (option_map (λ (s : Slot). s.key)) vacant) placed.there) placed.there none);
  order = order;
  only = λ q n here. found q ∙ elim (n == p) as (λ b. (n == p) ≡ b → cond (eq_by_cmp key_cmp now.key q) (Some p) (place_at places q) ≡ Some n) [
    | true ↦ λ at.
        let same : n ≡ p = eqb-true n p at in
        let key : Some now.key ≡ Some q = ap (option_map (λ (s : Slot). s.key)) (sym updates.changed) ∙ ap (key_at slots') (sym same) ∙ here in
        ap (λ k. cond (eq_by_cmp key_cmp now.key k) (Some p) (place_at places q)) (sym (same_Some _ _ key))
        ∙ ap (λ b. cond b (Some p) (place_at places q)) (tie_itself now.key) ∙ ap (λ m. Some m) (sym same)
    | false ↦ λ apart.
        let other : n ≢ p = λ same. let both : true ≡ false = sym (eq-eqb n p same) ∙ apart in cc both in
        let before : place_at places q ≡ Some n = placed.only q n (ap (option_map (λ (s : Slot). s.key)) (sym (updates.others n other)) ∙ here) in
        elim (eq_by_cmp key_cmp now.key q) as (λ b. eq_by_cmp key_cmp now.key q ≡ b → cond b (Some p) (place_at places q) ≡ Some n) [
          | true ↦ λ tie. let both : None ≡ Some n = sym none ∙ ap (place_at places) (key_ties-is now.key q tie) ∙ before in absurd (cc both)
          | false ↦ λ _. before
        ] refl
  ] refl;
}

-- a slot went
pub removed_placed : (slots slots' : Slab Slot) (p : ℕ) (key : List Val) (places places' : Places) → IsPlaced slots places → key_at slots p ≡ Some key → Updates slots slots' p None
    → places' ≡ remove_entry (is_at (key_cmp key)) places → IsStrictlySortedBy key_cmp (keys_of places') → ((q : List Val) → place_at places' q ≡ cond (eq_by_cmp key_cmp key q) None (place_at places q)) → IsPlaced slots' places'
removed_placed slots slots' p key places places' placed had updates is order found = record {
  there = subst (AreThere slots') (sym is) (there-removed slots slots' p updates.others (is_at (key_cmp key)) places placed.there (placed.only key p had));
  order = order;
  only = λ q n here. found q ∙ elim (n == p) as (λ b. (n == p) ≡ b → cond (eq_by_cmp key_cmp key q) None (place_at places q) ≡ Some n) [
    | true ↦ λ at.
        let gone : None ≡ Some q = ap (option_map (λ (s : Slot). s.key)) (sym updates.changed) ∙ ap (key_at slots') (sym (eqb-true n p at)) ∙ here in
        absurd (cc gone)
    | false ↦ λ apart.
        let other : n ≢ p = λ same. let both : true ≡ false = sym (eq-eqb n p same) ∙ apart in cc both in
        let before : place_at places q ≡ Some n = placed.only q n (ap (option_map (λ (s : Slot). s.key)) (sym (updates.others n other)) ∙ here) in
        elim (eq_by_cmp key_cmp key q) as (λ b. eq_by_cmp key_cmp key q ≡ b → cond b None (place_at places q) ≡ Some n) [
          | true ↦ λ tie. absurd (other (same_Some _ _ (sym before ∙ ap (place_at places) (sym (key_ties-is key q tie)) ∙ placed.only key p had)))
          | false ↦ λ _. before
        ] refl
  ] refl;
}

-- the same, among the fields
module _ (slots : Slab Slot) (places : Places) (view : RowsView) (is : record { slots = slots; places = places } ≡ view) (placed : IsPlaced slots places) where
  pub view_order : IsStrictlySortedBy key_cmp (keys_of (rows_in view))
  view_order = subst (λ (r : RowsView). IsStrictlySortedBy key_cmp (keys_of (rows_in r))) is (rows_order slots places placed)

  -- at the place that was found is the key's slot
  pub found_there : (o : Option ℕ) (q : List Val) (p : ℕ) → o ≡ place_at view.places q → o ≡ Some p → key_at view.slots p ≡ Some q
  found_there o q p found at =
      subst (λ (r : RowsView). key_at r.slots p ≡ Some q) is
      (its_key slots places q p placed (ap (λ (r : RowsView). place_at r.places q) is ∙ sym found ∙ at))

  -- and each slot is at its key's place
  pub its_place : (p : ℕ) (s : Slot) → slab_get slots p ≡ Some s → place_at view.places s.key ≡ Some p
  its_place p s had = subst (λ (r : RowsView). place_at r.places s.key ≡ Some p) is (placed.only s.key p (ap (option_map (λ (s : Slot). s.key)) had))

  pub no_slot : (o : Option ℕ) (q : List Val) (p : ℕ) → o ≡ place_at view.places q → o ≡ Some p → slab_get slots p ≡ None → ⊥
  no_slot o q p found at gone =
      let there : key_at slots p ≡ Some q = ap (λ (r : RowsView). key_at r.slots p) is ∙ found_there o q p found at in
      let both : None ≡ Some q = ap (option_map (λ (s : Slot). s.key)) (sym gone) ∙ there in
      cc both

module _ (slots : Slab Slot) (places : Places) (view : RowsView) (is : record { slots = slots; places = places } ≡ view) (placed : IsPlaced slots places)
    (p : ℕ) (was : Slot) (had : slab_get slots p ≡ Some was) (key : List Val) (there : key_at view.slots p ≡ Some key) where
  pub own_key : was.key ≡ key
  own_key = same_Some _ _ (ap (option_map (λ (s : Slot). s.key)) (sym had) ∙ ap (λ (r : RowsView). key_at r.slots p) is ∙ there)

  pub own_place : place_at places key ≡ Some p
  own_place = placed.only key p (ap (λ (r : RowsView). key_at r.slots p) is ∙ there)

  pub own_found : Some was.kept ≡ lookup (is_at (key_cmp key)) (rows_in view)
  own_found =
      ap (option_map (λ (s : Slot). s.kept)) (sym had)
      ∙ kept_found slots places key p (ap (λ (r : RowsView). key_at r.slots p) is ∙ there) own_place
      ∙ ap (λ (r : RowsView). lookup (is_at (key_cmp key)) (rows_in r)) is

  module _ (kept : Kept) where
    abbrev now : Slot
    now = record { key = was.key; kept = kept }

    pub own_placed : IsPlaced (with_value slots p now) places
    own_placed = written_placed slots p was now had refl places placed

    pub own_set : rows_of (with_value slots p now) places ≡ set_value (is_at (key_cmp key)) (rows_in view) kept
    own_set =
        written_rows slots p was now had refl places placed
        ∙ ap (λ k. set_value (is_at (key_cmp k)) (rows_of slots places) kept) own_key
        ∙ ap (λ (r : RowsView). set_value (is_at (key_cmp key)) (rows_in r) kept) is

    -- and is removed after that
    module _ (slots' : Slab Slot) (places' : Places) (gone : Slot) (value : slab_get (with_value slots p now) p ≡ Some gone) (updates : Updates (with_value slots p now) slots' p None)
        (removed : places' ≡ remove_entry (is_at (key_cmp gone.key)) places) where
      its_name : gone.key ≡ key
      its_name = ap (λ (s : Slot). s.key) (same_Some _ _ (sym value ∙ written_there slots p was now had refl)) ∙ own_key

      without_it : places' ≡ remove_entry (is_at (key_cmp key)) places
      without_it = removed ∙ ap (λ k. remove_entry (is_at (key_cmp k)) places) its_name

      pub own_gone : rows_of slots' places' ≡ remove_entry (is_at (key_cmp key)) (set_value (is_at (key_cmp key)) (rows_in view) kept)
      own_gone =
          ap (rows_of slots') without_it
          ∙ rows-remove (with_value slots p now) slots' p updates.others (is_at (key_cmp key)) places own_placed.there own_place
          ∙ ap (remove_entry (is_at (key_cmp key))) own_set

      pub gone_placed : IsStrictlySortedBy key_cmp (keys_of places') → ((q : List Val) → place_at places' q ≡ cond (eq_by_cmp key_cmp gone.key q) None (place_at places q)) → IsPlaced slots' places'
      gone_placed order found =
          removed_placed (with_value slots p now) slots' p key places places' own_placed (written_keys slots p was now had refl p ∙ ap (λ (r : RowsView). key_at r.slots p) is ∙ there) updates without_it order
          (λ q. found q ∙ ap (λ k. cond (eq_by_cmp key_cmp k q) None (place_at places q)) its_name)

-- ---- some of the keys

pub rows-filter : (slots : Slab Slot) (test : List Val → Bool) (es : Places) → rows_of slots (filter (λ e. test e.0) es) ≡ filter (λ e. test e.0) (rows_of slots es)
rows-filter slots test [] = refl
rows-filter slots test (e ∷ es) = elim (test e.0) as (λ b. rows_of slots (cond b (e ∷ filter (λ e. test e.0) es) (filter (λ e. test e.0) es)) ≡ cond b ((e.0, unwrap_or (kept_at slots e.1) nothing) ∷ filter (λ e. test e.0) (rows_of slots es)) (filter (λ e. test e.0) (rows_of slots es))) [
  | true ↦ ap (λ rest. (e.0, unwrap_or (kept_at slots e.1) nothing) ∷ rest) (rows-filter slots test es)
  | false ↦ rows-filter slots test es
]

-- each of these keys is found at the place beside it
abbrev pub AreFound : Places → Places → Type 0
AreFound places [] = Unit {0}
AreFound places (e ∷ es) = (place_at places e.0 ≡ Some e.1) × AreFound places es

found_each : (places es : Places) → ((i : ℕ) (q : List Val) (p : ℕ) → slice_get es i ≡ Some (q, p) → place_at places q ≡ Some p) → AreFound places es
found_each places [] each = tt
found_each places (e ∷ es) each = (each 0 e.0 e.1 refl, found_each places es (λ i. each (suc i)))

pub all_found : (places : Places) → IsStrictlySortedBy key_cmp (keys_of places) → AreFound places places
all_found places order = found_each places places (λ i q p. lookup_from_place (eq_by_cmp_equiv key_cmp-IsTotalOrder) places i q p (IsDistinct-from_sorted key_cmp (keys_of places) order))

pub some_found : (places : Places) (test : List Val → Bool) (es : Places) → AreFound places es → AreFound places (filter (λ e. test e.0) es)
some_found places test [] found = tt
some_found places test (e ∷ es) found = elim (test e.0) as (λ b. AreFound places (cond b (e ∷ filter (λ e. test e.0) es) (filter (λ e. test e.0) es))) [
  | true ↦ (found.0, some_found places test es found.1)
  | false ↦ some_found places test es found.1
]
