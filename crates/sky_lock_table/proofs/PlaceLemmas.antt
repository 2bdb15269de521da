-- The places of keys' slots, after a slot came, changed or went.
use Rattle.std.proofs.Common.{◌≡◌, ◌≢◌, ℕ, ◌+◌, zero, suc, ◌<◌, Bool, true, false, cond, List, [], ◌∷◌, length, get_or, map, Option, Some, None, is_some, refl, sym, ◌∙◌, ap, subst, arith, get_or-set_same, get_or-set_other}
use Rattle.std.specs.Prelude.{◌==◌, option_and_then, slice_set, IsSome}
use Rattle.std.proofs.lemmas.Bool.{eqb-true, eq-eqb}
use Rattle.std.proofs.lemmas.Map.Entries.{option_filter}
use Rattle.std.specs.Ordering.{eq_by_cmp}
use Rattle.slab.specs.Slab.{Slab, Updates, ContainsKey, CalledAt, RetainsFrom, with_value, get as slab_get}
use Rattle.std.specs.Borrow.{MutBor}
use Rattle.sky_lock_table.specs.declared.lock_key.LockKey.{LockKey}
use Rattle.sky_lock_table.specs.declared.slots.Slot.{Slot}
use Rattle.sky_lock_table.specs.Order.{lock_cmp}
use Rattle.sky_lock_table.specs.Holders.{is_holder}
use Rattle.sky_lock_table.specs.Slots.{SlotsView, Places, place_at, IsPlaced, is_slot_of, slot_at}
use Rattle.sky_lock_table.proofs.Orders.{lock_ties-is, lock_ties-symm, lock_ties-itself}
use Rattle.sky_lock_table.proofs.Basics.{apart_turned}
use Rattle.sky_lock_table.proofs.HolderLemmas.{holder_from_index}

-- what is at one key is another now
abbrev pub Puts : SlotsView → LockKey → Option Slot → SlotsView → Type 0
Puts old key now new = (q : LockKey) → slot_at new q ≡ cond (eq_by_cmp lock_cmp key q) now (slot_at old q)

-- ---- a key's slot and its place

-- where a key's slot is, there is its place
pub its_place : (places : Places) (slots : Slab Slot) → IsPlaced places slots → (q : LockKey) (p : ℕ) → is_slot_of q (slab_get slots p) ≡ true → place_at places q ≡ Some p
its_place places slots placed q p there = holder_from_index p (place_at places q) (placed q p ∙ there)

pub record ItsSlot (slots : Slab Slot) (q : LockKey) (p : ℕ) : Type 0 where
  pub slot : Slot
  pub there : slab_get slots p ≡ Some slot
  pub own : slot.key ≡ q

-- at a key's place is its slot
pub its_slot : (places : Places) (slots : Slab Slot) → IsPlaced places slots → (q : LockKey) (p : ℕ) → place_at places q ≡ Some p → ItsSlot slots q p
its_slot places slots placed q p here = of (slab_get slots p) refl (sym (placed q p) ∙ ap (is_holder p) here ∙ eq-eqb p p refl)
  where
    of : (o : Option Slot) → slab_get slots p ≡ o → is_slot_of q o ≡ true → ItsSlot slots q p
    of None is own = absurd (cc own)
    of (Some s) is own = record { slot = s; there = is; own = sym (lock_ties-is q s.key own) }

pub has_slot : (places : Places) (slots : Slab Slot) → IsPlaced places slots → (q : LockKey) (p : ℕ) → place_at places q ≡ Some p → ContainsKey slots p
has_slot places slots placed q p here = subst IsSome (sym (its_slot places slots placed q p here).there) refl

-- the place that was found, among the fields
pub found_place : (old view : SlotsView) (key : LockKey) (p : ℕ) → old ≡ view → Some p ≡ place_at view.places key → place_at old.places key ≡ Some p
found_place old view key p is found = ap (λ (s : SlotsView). place_at s.places key) is ∙ sym found

pub seen_slot : (old : SlotsView) (key : LockKey) (p : ℕ) (s : Slot) → place_at old.places key ≡ Some p → slab_get old.slots p ≡ Some s → slot_at old key ≡ Some s
seen_slot old key p s here there = ap (option_and_then (slab_get old.slots)) here ∙ there

-- the values of the slab are the same
pub placed-same : (places : Places) (slots slots' : Slab Slot) → IsPlaced places slots → slots'.slots ≡ slots.slots → IsPlaced places slots'
placed-same places slots slots' placed is q p = placed q p ∙ ap (λ xs. is_slot_of q (get_or xs p None)) (sym is)

-- ---- what is at one key and its place changes

-- the key's own slot, if any
abbrev pub IsOwn : LockKey → Option Slot → Type 0
IsOwn key None = Unit {0}
IsOwn key (Some s) = s.key ≡ key

-- the place, if something is there
abbrev pub placed_as : ℕ → Option Slot → Option ℕ
placed_as p None = None
placed_as p (Some s) = Some p

-- a key and a place that no other has
pub record AreApart (places : Places) (slots : Slab Slot) (key : LockKey) (p : ℕ) : Type 0 where
  pub only_key : (q : LockKey) → eq_by_cmp lock_cmp key q ≡ false → is_holder p (place_at places q) ≡ false
  pub only_place : (n : ℕ) → (p == n) ≡ false → is_slot_of key (slab_get slots n) ≡ false

-- a key's own place is such
pub own_apart : (places : Places) (slots : Slab Slot) → IsPlaced places slots → (key : LockKey) (p : ℕ) → place_at places key ≡ Some p → AreApart places slots key p
own_apart places slots placed key p here = let its = its_slot places slots placed key p here in record {
  only_key = λ q other. placed q p ∙ ap (is_slot_of q) its.there ∙ ap (eq_by_cmp lock_cmp q) its.own ∙ lock_ties-symm q key ∙ other;
  only_place = λ n apart. sym (placed key n) ∙ ap (is_holder n) here ∙ apart_turned p n apart;
}

-- and a vacant place for a key that has none
pub new_apart : (places : Places) (slots : Slab Slot) → IsPlaced places slots → (key : LockKey) (p : ℕ) → place_at places key ≡ None → slab_get slots p ≡ None → AreApart places slots key p
new_apart places slots placed key p none vacant = record {
  only_key = λ q _. placed q p ∙ ap (is_slot_of q) vacant;
  only_place = λ n _. sym (placed key n) ∙ ap (is_holder n) none;
}

-- the changes
pub record Changes (places : Places) (slots : Slab Slot) (key : LockKey) (p : ℕ) (now : Option Slot) (places' : Places) (slots' : Slab Slot) : Type 0 where
  pub apart : AreApart places slots key p
  pub own : IsOwn key now
  pub keys : (q : LockKey) → place_at places' q ≡ cond (eq_by_cmp lock_cmp key q) (placed_as p now) (place_at places q)
  pub there : (n : ℕ) → slab_get slots' n ≡ cond (p == n) now (slab_get slots n)

own_now : (key q : LockKey) (p n : ℕ) (o : Option Slot) → IsOwn key o → key ≡ q → p ≡ n → is_holder n (placed_as p o) ≡ is_slot_of q o
own_now key q p n None own same here = refl
own_now key q p n (Some s) own same here = eq-eqb n p (sym here) ∙ sym (ap (eq_by_cmp lock_cmp q) (own ∙ same) ∙ lock_ties-itself q)

not_there : (p n : ℕ) (o : Option Slot) → (p == n) ≡ false → is_holder n (placed_as p o) ≡ false
not_there p n None apart = refl
not_there p n (Some s) apart = apart_turned p n apart

not_its : (key q : LockKey) (o : Option Slot) → IsOwn key o → eq_by_cmp lock_cmp key q ≡ false → is_slot_of q o ≡ false
not_its key q None own other = refl
not_its key q (Some s) own other = ap (eq_by_cmp lock_cmp q) own ∙ lock_ties-symm q key ∙ other

pub placed-changed : (places places' : Places) (slots slots' : Slab Slot) (key : LockKey) (p : ℕ) (now : Option Slot) → IsPlaced places slots → Changes places slots key p now places' slots' → IsPlaced places' slots'
placed-changed places places' slots slots' key p now placed changes q n =
    ap (is_holder n) (changes.keys q)
    ∙ elim (eq_by_cmp lock_cmp key q) as (λ t. eq_by_cmp lock_cmp key q ≡ t → is_holder n (cond t (placed_as p now) (place_at places q)) ≡ is_slot_of q (cond (p == n) now (slab_get slots n))) [
      | true ↦ λ tie. elim (p == n) as (λ b. (p == n) ≡ b → is_holder n (placed_as p now) ≡ is_slot_of q (cond b now (slab_get slots n))) [
        | true ↦ λ here. own_now key q p n now changes.own (lock_ties-is key q tie) (eqb-true p n here)
        | false ↦ λ apart. not_there p n now apart ∙ sym (ap (λ k. is_slot_of k (slab_get slots n)) (sym (lock_ties-is key q tie)) ∙ changes.apart.only_place n apart)
      ] refl
      | false ↦ λ other. elim (p == n) as (λ b. (p == n) ≡ b → is_holder n (place_at places q) ≡ is_slot_of q (cond b now (slab_get slots n))) [
        | true ↦ λ here. ap (λ m. is_holder m (place_at places q)) (sym (eqb-true p n here)) ∙ changes.apart.only_key q other ∙ sym (not_its key q now changes.own other)
        | false ↦ λ _. placed q n
      ] refl
    ] refl
    ∙ ap (is_slot_of q) (sym (changes.there n))

pub puts-changed : (old new : SlotsView) (key : LockKey) (p : ℕ) (now : Option Slot) → Changes old.places old.slots key p now new.places new.slots → Puts old key now new
puts-changed old new key p now changes q =
    ap (option_and_then (slab_get new.slots)) (changes.keys q)
    ∙ elim (eq_by_cmp lock_cmp key q) as (λ t. eq_by_cmp lock_cmp key q ≡ t → option_and_then (slab_get new.slots) (cond t (placed_as p now) (place_at old.places q)) ≡ cond t now (option_and_then (slab_get old.slots) (place_at old.places q))) [
      | true ↦ λ _. by_now now (changes.there p ∙ ap (λ b. cond b now (slab_get old.slots p)) (eq-eqb p p refl))
      | false ↦ λ other. by_place (place_at old.places q) (changes.apart.only_key q other)
    ] refl
  where
    by_now : (o : Option Slot) → slab_get new.slots p ≡ o → option_and_then (slab_get new.slots) (placed_as p o) ≡ o
    by_now None is = refl
    by_now (Some s) is = is

    by_place : (o : Option ℕ) → is_holder p o ≡ false → option_and_then (slab_get new.slots) o ≡ option_and_then (slab_get old.slots) o
    by_place None apart = refl
    by_place (Some n) apart = changes.there n ∙ ap (λ b. cond b now (slab_get old.slots n)) apart

-- ---- the changes that there are

-- what the slab says of its places
pub updated : (slots slots' : Slab Slot) (p : ℕ) (now : Option Slot) → Updates slots slots' p now → (n : ℕ) → slab_get slots' n ≡ cond (p == n) now (slab_get slots n)
updated slots slots' p now updates n = elim (p == n) as (λ b. (p == n) ≡ b → slab_get slots' n ≡ cond b now (slab_get slots n)) [
  | true ↦ λ here. ap (slab_get slots') (sym (eqb-true p n here)) ∙ updates.changed
  | false ↦ λ apart. updates.others n (λ same. let both : true ≡ false = sym (eq-eqb p n (sym same)) ∙ apart in cc both)
] refl

within : (xs : List (Option Slot)) (p : ℕ) (s : Slot) → get_or xs p None ≡ Some s → p < length xs
within [] p s here = absurd (cc here)
within (x ∷ xs) zero s here = omega arith
within (x ∷ xs) (suc p) s here = let rest = within xs p s here in omega arith

-- a slot is another one of the same key
pub rewritten : (places : Places) (slots : Slab Slot) → IsPlaced places slots → (key : LockKey) (p : ℕ) (now : Slot) → place_at places key ≡ Some p → now.key ≡ key → Changes places slots key p (Some now) places (with_value slots p now)
rewritten places slots placed key p now here own = record {
  apart = own_apart places slots placed key p here;
  own = own;
  keys = λ q. elim (eq_by_cmp lock_cmp key q) as (λ t. eq_by_cmp lock_cmp key q ≡ t → place_at places q ≡ cond t (Some p) (place_at places q)) [
    | true ↦ λ tie. ap (place_at places) (sym (lock_ties-is key q tie)) ∙ here
    | false ↦ λ _. refl
  ] refl;
  there = λ n. elim (p == n) as (λ b. (p == n) ≡ b → get_or (slice_set slots.slots p (Some now)) n None ≡ cond b (Some now) (slab_get slots n)) [
    | true ↦ λ at.
        let its = its_slot places slots placed key p here in
        let room : p < length slots.slots = within slots.slots p its.slot its.there in
        ap (λ m. get_or (slice_set slots.slots p (Some now)) m None) (sym (eqb-true p n at)) ∙ get_or-set_same slots.slots p (Some now) None room
    | false ↦ λ apart.
        let other : n ≢ p = λ same. let both : true ≡ false = sym (eq-eqb p n (sym same)) ∙ apart in cc both in
        get_or-set_other slots.slots p n (Some now) None other
  ] refl;
}

same_slot : (s t : Slot) → Some s ≡ Some t → s ≡ t
same_slot s t is = cc is

pub puts-written : (old : SlotsView) → IsPlaced old.places old.slots → (key : LockKey) (p : ℕ) (was now : Slot) → place_at old.places key ≡ Some p → slab_get old.slots p ≡ Some was → now.key ≡ was.key
    → Puts old key (Some now) (record { slots = with_value old.slots p now; places = old.places })
puts-written old placed key p was now here there own =
    let its = its_slot old.places old.slots placed key p here in
    let same : was ≡ its.slot = same_slot was its.slot (sym there ∙ its.there) in
    puts-changed old (record { slots = with_value old.slots p now; places = old.places }) key p (Some now)
    (rewritten old.places old.slots placed key p now here (own ∙ ap (λ (s : Slot). s.key) same ∙ its.own))

-- a key gets a slot
pub inserted : (places places' : Places) (slots slots' : Slab Slot) → IsPlaced places slots → (key : LockKey) (p : ℕ) (now : Slot) → place_at places key ≡ None → slab_get slots p ≡ None → now.key ≡ key
    → ((q : LockKey) → place_at places' q ≡ cond (eq_by_cmp lock_cmp key q) (Some p) (place_at places q)) → Updates slots slots' p (Some now) → Changes places slots key p (Some now) places' slots'
inserted places places' slots slots' placed key p now none vacant own keys updates = record {
  apart = new_apart places slots placed key p none vacant;
  own = own;
  keys = keys;
  there = updated slots slots' p (Some now) updates;
}

-- and has none any more
pub removed : (places places' : Places) (slots slots' : Slab Slot) → IsPlaced places slots → (key : LockKey) (p : ℕ) → place_at places key ≡ Some p
    → ((q : LockKey) → place_at places' q ≡ cond (eq_by_cmp lock_cmp key q) None (place_at places q)) → Updates slots slots' p None → Changes places slots key p None places' slots'
removed places places' slots slots' placed key p here keys updates = record {
  apart = own_apart places slots placed key p here;
  own = tt;
  keys = keys;
  there = updated slots slots' p None updates;
}

-- ---- some slots are removed, with their places

-- the slots that pass a test stay
module _ (test : Slot → Bool) where
  kept_at : (xs : List (Option Slot)) (n : ℕ) → get_or (map (option_filter test) xs) n None ≡ option_filter test (get_or xs n None)
  kept_at [] n = refl
  kept_at (x ∷ xs) zero = refl
  kept_at (x ∷ xs) (suc n) = kept_at xs n

  kept_slots : {F : Type 0} (step : F → ℕ → MutBor Slot → Bool → MutBor Slot → F → Type 0) (f : F)
      → ((key : ℕ) (old : Slot) (keep : Bool) (new : Slot) (next : F) → CalledAt step f key old keep new next → (keep ≡ test old) × (new ≡ old) × (next ≡ f))
      → (key : ℕ) (xs kept : List (Option Slot)) → RetainsFrom step f key xs kept → kept ≡ map (option_filter test) xs
  kept_slots step f pure key [] kept none = none
  kept_slots step f pure key (None ∷ xs) kept (later, is, more) = is ∙ ap (λ ys. None ∷ ys) (kept_slots step f pure (key + 1) xs later more)
  kept_slots step f pure key (Some old ∷ xs) kept (keep, new, next, called, later, is, more) =
      let facts = pure key old keep new next called in
      is
      ∙ ap (λ b. cond b (Some new) None ∷ later) facts.0
      ∙ ap (λ s. cond (test old) (Some s) None ∷ later) facts.1
      ∙ ap (λ ys. cond (test old) (Some old) None ∷ ys) (kept_slots step f pure (key + 1) xs later (subst (λ g. RetainsFrom step g (key + 1) xs later) facts.2 more))

  pub left_there : {F : Type 0} (step : F → ℕ → MutBor Slot → Bool → MutBor Slot → F → Type 0) (f : F)
      → ((key : ℕ) (old : Slot) (keep : Bool) (new : Slot) (next : F) → CalledAt step f key old keep new next → (keep ≡ test old) × (new ≡ old) × (next ≡ f))
      → (slots slots' : Slab Slot) → RetainsFrom step f 0 slots.slots slots'.slots → (n : ℕ) → slab_get slots' n ≡ option_filter test (slab_get slots n)
  left_there step f pure slots slots' retained n = ap (λ xs. get_or xs n None) (kept_slots step f pure 0 slots.slots slots'.slots retained) ∙ kept_at slots.slots n

  -- and the places at which there still is one
  pub record AreLeft (places : Places) (slots : Slab Slot) (places' : Places) (slots' : Slab Slot) : Type 0 where
    pub keys : (q : LockKey) → place_at places' q ≡ option_filter (λ n. is_some (slab_get slots' n)) (place_at places q)
    pub there : (n : ℕ) → slab_get slots' n ≡ option_filter test (slab_get slots n)

  gone_too : (q : LockKey) (o : Option Slot) → is_slot_of q o ≡ false → is_slot_of q (option_filter test o) ≡ false
  gone_too q None is = refl
  gone_too q (Some s) is = of (test s)
    where
      of : (b : Bool) → is_slot_of q (cond b (Some s) None) ≡ false
      of true = is
      of false = refl

  kept_too : (q : LockKey) (n m : ℕ) (o : Option Slot) → is_slot_of q o ≡ true → (n == m) ≡ true → is_holder n (cond (is_some (option_filter test o)) (Some m) None) ≡ is_slot_of q (option_filter test o)
  kept_too q n m None is same = absurd (cc is)
  kept_too q n m (Some s) is same = of (test s)
    where
      of : (b : Bool) → is_holder n (cond (is_some (cond b (Some s) None)) (Some m) None) ≡ is_slot_of q (cond b (Some s) None)
      of true = same ∙ sym is
      of false = refl

  elsewhere : (n m : ℕ) (b : Bool) → (n == m) ≡ false → is_holder n (cond b (Some m) None) ≡ false
  elsewhere n m true apart = apart
  elsewhere n m false apart = refl

  pub placed-left : (places places' : Places) (slots slots' : Slab Slot) → IsPlaced places slots → AreLeft places slots places' slots' → IsPlaced places' slots'
  placed-left places places' slots slots' placed left q n =
      ap (is_holder n) (left.keys q)
      ∙ of (place_at places q) (placed q n)
      ∙ ap (is_slot_of q) (sym (left.there n))
    where
      of : (o : Option ℕ) → is_holder n o ≡ is_slot_of q (slab_get slots n) → is_holder n (option_filter (λ m. is_some (slab_get slots' m)) o) ≡ is_slot_of q (option_filter test (slab_get slots n))
      of None is = sym (gone_too q (slab_get slots n) (sym is))
      of (Some m) is = elim (n == m) as (λ b. (n == m) ≡ b → is_holder n (cond (is_some (slab_get slots' m)) (Some m) None) ≡ is_slot_of q (option_filter test (slab_get slots n))) [
        | true ↦ λ same.
            ap (λ k. is_holder n (cond (is_some (slab_get slots' k)) (Some m) None)) (sym (eqb-true n m same))
            ∙ ap (λ o. is_holder n (cond (is_some o) (Some m) None)) (left.there n)
            ∙ kept_too q n m (slab_get slots n) (sym is ∙ same) same
        | false ↦ λ apart. elsewhere n m (is_some (slab_get slots' m)) apart ∙ sym (gone_too q (slab_get slots n) (sym is ∙ apart))
      ] refl

  pub left-at : (old new : SlotsView) → AreLeft old.places old.slots new.places new.slots → (q : LockKey) → slot_at new q ≡ option_filter test (slot_at old q)
  left-at old new left q = ap (option_and_then (slab_get new.slots)) (left.keys q) ∙ of (place_at old.places q)
    where
      by_slot : (m : ℕ) (o : Option Slot) → slab_get new.slots m ≡ o → option_and_then (slab_get new.slots) (cond (is_some o) (Some m) None) ≡ o
      by_slot m None is = refl
      by_slot m (Some s) is = is

      of : (o : Option ℕ) → option_and_then (slab_get new.slots) (option_filter (λ m. is_some (slab_get new.slots m)) o) ≡ option_filter test (option_and_then (slab_get old.slots) o)
      of None = refl
      of (Some m) = by_slot m (slab_get new.slots m) refl ∙ left.there m
