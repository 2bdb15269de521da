-- One map of holders and queues, after what is at one key changed.
use Rattle.std.proofs.Common.{◌≡◌, ◌≢◌, ℕ, Bool, true, false, cond, not, List, [], ◌∷◌, ◌++◌, length, Option, Some, None, is_some, vec_len, get_or, refl, sym, ◌∙◌, ap, arith}
use Rattle.std.specs.Prelude.{◌||◌, ◌==◌, slice_get, option_and_then}
use Rattle.std.proofs.lemmas.Bool.{eqb-true, ne_eqb, or_parts}
use Rattle.std.proofs.lemmas.Map.Entries.{option_filter}
use Rattle.std.specs.Ordering.{eq_by_cmp}
use Rattle.std.specs.Map.{lookup, keys_of}
use Rattle.std.specs.BTreeMap.{is_at}
use Rattle.sky_lock_table.specs.declared.lock_key.LockKey.{LockKey}
use Rattle.sky_lock_table.specs.declared.slots.Slot.{Slot}
use Rattle.sky_lock_table.specs.Order.{lock_cmp}
use Rattle.sky_lock_table.specs.Holders.{holder_of}
use Rattle.sky_lock_table.specs.Slots.{SlotsView, slot_at, slot_holder, holder_at, held_also, held_among, held_in, SameHolders, SameHeld, Joins}
use Rattle.sky_lock_table.specs.Waiters.{is_among}
use Rattle.slab.specs.Slab.{get as slab_get}
use Rattle.sky_lock_table.proofs.PlaceLemmas.{Puts, AreLeft, left-at}
use Rattle.sky_lock_table.proofs.Basics.{no_keys}
use Rattle.sky_lock_table.proofs.Orders.{lock_ties-is, lock_ties-itself}

pub puts-at : (old new : SlotsView) (key : LockKey) (now : Option Slot) → Puts old key now new → slot_at new key ≡ now
puts-at old new key now puts = puts key ∙ ap (λ b. cond b now (slot_at old key)) (lock_ties-itself key)

module _ {X : Type 0} (read : Option Slot → X) where
  pub put-read : (f : X → X) (old new : SlotsView) (key : LockKey) (now : Option Slot) → Puts old key now new → read now ≡ f (read (slot_at old key))
      → (q : LockKey) → read (slot_at new q) ≡ cond (eq_by_cmp lock_cmp key q) (f (read (slot_at old q))) (read (slot_at old q))
  put-read f old new key now puts is q =
      ap read (puts q)
      ∙ elim (eq_by_cmp lock_cmp key q) as (λ t. eq_by_cmp lock_cmp key q ≡ t → read (cond t now (slot_at old q)) ≡ cond t (f (read (slot_at old q))) (read (slot_at old q))) [
        | true ↦ λ tie. is ∙ ap (λ k. f (read (slot_at old k))) (lock_ties-is key q tie)
        | false ↦ λ _. refl
      ] refl

  pub put-kept : (old new : SlotsView) (key : LockKey) (now : Option Slot) → Puts old key now new → read now ≡ read (slot_at old key)
      → (q : LockKey) → read (slot_at new q) ≡ read (slot_at old q)
  put-kept old new key now puts is q = put-read (λ x. x) old new key now puts is q ∙ same (eq_by_cmp lock_cmp key q) (read (slot_at old q))
    where
      same : (b : Bool) (x : X) → cond b x x ≡ x
      same true x = refl
      same false x = refl

  -- nothing is at the key, and nothing changes
  pub put-absent : (f : X → X) (old new : SlotsView) (key : LockKey) → new ≡ old → None ≡ slot_at old key → read None ≡ f (read None)
      → (q : LockKey) → read (slot_at new q) ≡ cond (eq_by_cmp lock_cmp key q) (f (read (slot_at old q))) (read (slot_at old q))
  put-absent f old new key same none is q =
      ap (λ (m : SlotsView). read (slot_at m q)) same
      ∙ elim (eq_by_cmp lock_cmp key q) as (λ t. eq_by_cmp lock_cmp key q ≡ t → read (slot_at old q) ≡ cond t (f (read (slot_at old q))) (read (slot_at old q))) [
        | true ↦ λ tie.
            let absent : slot_at old q ≡ None = sym (none ∙ ap (slot_at old) (lock_ties-is key q tie)) in
            ap read absent ∙ is ∙ ap (λ o. f (read o)) (sym absent)
        | false ↦ λ _. refl
      ] refl

-- what a key has now is what it had
pub same-there : {X : Type 0} (old new : LockKey → X) (key : LockKey) (x : X) → ((q : LockKey) → new q ≡ cond (eq_by_cmp lock_cmp key q) x (old q)) → x ≡ old key → (q : LockKey) → new q ≡ old q
same-there old new key x has same q = has q ∙ elim (eq_by_cmp lock_cmp key q) as (λ t. eq_by_cmp lock_cmp key q ≡ t → cond t x (old q) ≡ old q) [
  | true ↦ λ tie. same ∙ ap old (lock_ties-is key q tie)
  | false ↦ λ _. refl
] refl

-- a queue with one session is that of a key that nobody waited for, with this session
pub joins-none : (old new : LockKey → List ℕ) (key : LockKey) (who : ℕ) (queue : List ℕ) → ((q : LockKey) → new q ≡ cond (eq_by_cmp lock_cmp key q) queue (old q)) → queue ≡ who ∷ [] → old key ≡ [] → Joins old who key new
joins-none old new key who queue has one none q = has q ∙ elim (eq_by_cmp lock_cmp key q) as (λ t. eq_by_cmp lock_cmp key q ≡ t → cond t queue (old q) ≡ cond t (old q ++ who ∷ []) (old q)) [
  | true ↦ λ tie. one ∙ ap (λ ks. ks ++ who ∷ []) (sym none ∙ ap old (lock_ties-is key q tie))
  | false ↦ λ _. refl
] refl

-- ---- the list of keys that are held

-- it is the same if the keys and their holders are
pub held-same : (old new : SlotsView) → keys_of new.places ≡ keys_of old.places → SameHolders old new → held_in new ≡ held_in old
held-same old new ks same = λ i. held_among (ks i) (λ q. same q i)

-- nothing changed
pub slot-untouched : (old new : SlotsView) → new.places ≡ old.places → new.slots.slots ≡ old.slots.slots → (q : LockKey) → slot_at new q ≡ slot_at old q
slot-untouched old new places slots q = λ i. option_and_then (λ n. get_or (slots i) n None) (lookup (is_at (lock_cmp q)) (places i))

pub held-untouched : (old new : SlotsView) → new.places ≡ old.places → new.slots.slots ≡ old.slots.slots → SameHeld old new
held-untouched old new places slots =
    let same : SameHolders old new = λ q. ap slot_holder (slot-untouched old new places slots q) in
    record { held = held-same old new (ap keys_of places) same; holders = same; places = places }

held-found : (ks : List LockKey) (holder : LockKey → Option ℕ) (key : LockKey) → holder_of (held_among ks holder) key ≡ cond (is_among ks key) (holder key) None
held-found [] holder key = refl
held-found (k ∷ ks) holder key = of (holder k) refl (held-found ks holder key)
  where
    nothing : (b : Bool) (o : Option ℕ) → o ≡ None → cond b o None ≡ o
    nothing true o is = refl
    nothing false o is = sym is

    of : (o : Option ℕ) → holder k ≡ o → holder_of (held_among ks holder) key ≡ cond (is_among ks key) (holder key) None
        → holder_of (held_also k o (held_among ks holder)) key ≡ cond (eq_by_cmp lock_cmp key k || is_among ks key) (holder key) None
    of None is rest = rest ∙ elim (eq_by_cmp lock_cmp key k) as (λ t. eq_by_cmp lock_cmp key k ≡ t → cond (is_among ks key) (holder key) None ≡ cond (t || is_among ks key) (holder key) None) [
      | true ↦ λ tie. nothing (is_among ks key) (holder key) (ap holder (lock_ties-is key k tie) ∙ is)
      | false ↦ λ _. refl
    ] refl
    of (Some s) is rest = elim (eq_by_cmp lock_cmp key k) as (λ t. eq_by_cmp lock_cmp key k ≡ t → cond t (Some s) (holder_of (held_among ks holder) key) ≡ cond (t || is_among ks key) (holder key) None) [
      | true ↦ λ tie. sym (ap holder (lock_ties-is key k tie) ∙ is)
      | false ↦ λ _. rest
    ] refl

absent_there : (es : List (LockKey × ℕ)) (key : LockKey) → is_among (keys_of es) key ≡ false → lookup (is_at (lock_cmp key)) es ≡ None
absent_there [] key none = refl
absent_there (e ∷ es) key none = elim (eq_by_cmp lock_cmp key e.0) as (λ t. eq_by_cmp lock_cmp key e.0 ≡ t → (t || is_among (keys_of es) key) ≡ false → cond t (Some e.1) (lookup (is_at (lock_cmp key)) es) ≡ None) [
  | true ↦ λ _ some. absurd (cc some)
  | false ↦ λ _ rest. absent_there es key rest
] refl none

-- a key's holder, by the list
pub held-is : (slots : SlotsView) (key : LockKey) → holder_of (held_in slots) key ≡ holder_at slots key
held-is slots key =
    held-found (keys_of slots.places) (holder_at slots) key
    ∙ elim (is_among (keys_of slots.places) key) as (λ b. is_among (keys_of slots.places) key ≡ b → cond b (holder_at slots key) None ≡ holder_at slots key) [
      | true ↦ λ _. refl
      | false ↦ λ none. sym (ap (λ o. slot_holder (option_and_then (slab_get slots.slots) o)) (absent_there slots.places key none))
    ] refl

-- ---- whether someone is in a queue

some_there : (s n : ℕ) (queue : List ℕ) → length (s ∷ queue) ≡ n → n ≢ 0
some_there s n queue len none = absurd (omega arith)

pub queue_filled : (queue : List ℕ) (n : ℕ) → length queue ≡ n → not (n == 0) ≡ is_some (slice_get queue 0)
queue_filled [] n len = ap (λ m. not (m == 0)) (sym len)
queue_filled (s ∷ queue) n len = ap not (ne_eqb n 0 (some_there s n queue len))

pub no_holder : (o : Option ℕ) → is_some o ≡ false → o ≡ None
no_holder None is = refl
no_holder (Some s) is = absurd (cc is)

-- ---- idle slots

-- whether a key with this slot is held or waited for
abbrev pub is_busy : Slot → Bool
is_busy s = is_some s.holder || not (vec_len s.queue == 0)

-- an idle slot says what none says
pub idle_holder : (s : Slot) → is_busy s ≡ false → None ≡ s.holder
idle_holder s idle = sym (no_holder s.holder (or_parts (is_some s.holder) (not (vec_len s.queue == 0)) idle).0)

pub idle_queue : (s : Slot) → is_busy s ≡ false → [] ≡ s.queue.items
idle_queue s idle = sym (no_keys s.queue.items (omega (arith, s.queue.ok, empty (vec_len s.queue) (or_parts (is_some s.holder) (not (vec_len s.queue == 0)) idle).1)))
  where
    yes : (b : Bool) → not b ≡ false → b ≡ true
    yes true is = refl
    yes false is = absurd (cc is)

    empty : (n : ℕ) → not (n == 0) ≡ false → n ≡ 0
    empty n is = eqb-true n 0 (yes (n == 0) is)

pub without_idle : {X : Type 0} (read : Option Slot → X) (old new : SlotsView) → AreLeft is_busy old.places old.slots new.places new.slots
    → ((s : Slot) → is_busy s ≡ false → read None ≡ read (Some s)) → (q : LockKey) → read (slot_at new q) ≡ read (slot_at old q)
without_idle read old new left idle q = ap read (left-at is_busy old new left q) ∙ of (slot_at old q)
  where
    of : (o : Option Slot) → read (option_filter is_busy o) ≡ read o
    of None = refl
    of (Some s) = elim (is_busy s) as (λ b. is_busy s ≡ b → read (cond b (Some s) None) ≡ read (Some s)) [
      | true ↦ λ _. refl
      | false ↦ λ gone. idle s gone
    ] refl
