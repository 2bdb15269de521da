-- The keys that are listed for each session, after those of one changed.
use Rattle.std.proofs.Common.{◌≡◌, ℕ, zero, suc, ◌+◌, ◌<◌, ◌≤◌, Bool, true, false, cond, List, [], ◌∷◌, ◌++◌, length, slice_set, get_or, Vec, Global, Option, Some, None, refl, sym, subst, ◌∙◌, ap, arith}
use Rattle.std.specs.Prelude.{◌==◌, ◌&&◌, ◌||◌, nat_lt, vec_len, vec_capacity, IfSome, IfNone, OnSome, MatchOption, slice_get}
use Rattle.std.specs.Option.{option_to_list}
use Rattle.std.specs.List.{IsDistinct, AllByRecursion, remove}
use Rattle.std.specs.Ordering.{eq_by_cmp}
use Rattle.std.proofs.lemmas.Bool.{eqb-true, eq-eqb, ltb-true, lt-ltb}
use Rattle.std.proofs.lemmas.Map.Keys.{IsDistinct-head, IsDistinct-tail, IsDistinct-cons, IsDistinct-push}
use Rattle.std.specs.Cmp.{eq_by_cmp_equiv}
use Rattle.std.proofs.lemmas.List.Folds.{list_any-append}
use Rattle.std.proofs.lemmas.List.{append-nil, length-append}
use Rattle.sky_lock_table.specs.declared.lock_key.LockKey.{LockKey}
use Rattle.sky_lock_table.specs.Order.{lock_cmp}
use Rattle.sky_lock_table.specs.Sessions.{KeysBySession, keys_of, has_room, KeepsKeys, ChangesKey}
use Rattle.sky_lock_table.specs.Waiters.{is_among}
use Rattle.sky_lock_table.proofs.Orders.{lock_cmp-IsTotalOrder, lock_ties-is, lock_ties-symm, lock_ties-itself}
use Rattle.sky_lock_table.proofs.Basics.{or_no, or_yes, no_keys, apart_turned}
use Rattle.sky_lock_table.proofs.SessionVectors.{at-set, at-read, at-past, at-padded}

-- one more is listed
pub among-push : (keys : List LockKey) (key q : LockKey) → is_among (keys ++ key ∷ []) q ≡ (is_among keys q || eq_by_cmp lock_cmp key q)
among-push keys key q = list_any-append (λ k. eq_by_cmp lock_cmp q k) keys (key ∷ []) ∙ ap (λ b. is_among keys q || b) (or_no (eq_by_cmp lock_cmp q key) ∙ lock_ties-symm q key)

-- no key twice
abbrev pub AreOnce : List LockKey → Type 0
AreOnce keys = IsDistinct (eq_by_cmp lock_cmp) keys

-- one session's keys are others now
abbrev pub SetsKeys : KeysBySession → ℕ → List LockKey → KeysBySession → Type 0
SetsKeys old who keys new = (s : ℕ) → keys_of new s ≡ cond (who == s) keys (keys_of old s)

pub keys-set : (keys : KeysBySession) (who : ℕ) (v : Vec LockKey Global) → who < length keys → SetsKeys keys who v.items (slice_set keys who v)
keys-set keys who v within s = at-set (λ (v : Vec LockKey Global). v.items) [] keys who s v within

pub keys_changed : (old new : KeysBySession) (who : ℕ) (keys : List LockKey) (key : LockKey) (b : Bool) → SetsKeys old who keys new
    → ((q : LockKey) → is_among keys q ≡ cond (eq_by_cmp lock_cmp key q) b (is_among (keys_of old who) q)) → ChangesKey old who key b new
keys_changed old new who keys key b sets has s q =
    ap (λ ks. is_among ks q) (sets s)
    ∙ elim (who == s) as (λ t. (who == s) ≡ t → is_among (cond t keys (keys_of old s)) q ≡ cond (s == who && eq_by_cmp lock_cmp key q) b (is_among (keys_of old s) q)) [
      | true ↦ λ own.
          has q
          ∙ ap (λ n. cond (eq_by_cmp lock_cmp key q) b (is_among (keys_of old n) q)) (eqb-true who s own)
          ∙ ap (λ t. cond (t && eq_by_cmp lock_cmp key q) b (is_among (keys_of old s) q)) (sym (eq-eqb s who (sym (eqb-true who s own))))
      | false ↦ λ other. ap (λ t. cond (t && eq_by_cmp lock_cmp key q) b (is_among (keys_of old s) q)) (sym (apart_turned who s other))
    ] refl

-- the same keys as before
pub keys_kept : (old new : KeysBySession) (who : ℕ) (keys : List LockKey) → SetsKeys old who keys new → keys ≡ keys_of old who → KeepsKeys old new
keys_kept old new who keys sets same s q =
    ap (λ ks. is_among ks q) (sets s)
    ∙ elim (who == s) as (λ t. (who == s) ≡ t → is_among (cond t keys (keys_of old s)) q ≡ is_among (keys_of old s) q) [
      | true ↦ λ own. ap (λ ks. is_among ks q) (same ∙ ap (keys_of old) (eqb-true who s own))
      | false ↦ λ _. refl
    ] refl

pub all_once : (old new : KeysBySession) (who : ℕ) (keys : List LockKey) → SetsKeys old who keys new → AreOnce keys → ((s : ℕ) → AreOnce (keys_of old s)) → (s : ℕ) → AreOnce (keys_of new s)
all_once old new who keys sets own others s = subst AreOnce (sym (sets s)) (of (who == s))
  where
    of : (b : Bool) → AreOnce (cond b keys (keys_of old s))
    of true = own
    of false = others s

-- ---- one key more, one less

-- a key is appended
pub pushed_is : (keys : List LockKey) (key q : LockKey) → is_among (keys ++ key ∷ []) q ≡ cond (eq_by_cmp lock_cmp key q) true (is_among keys q)
pushed_is keys key q = among-push keys key q ∙ either (is_among keys q) (eq_by_cmp lock_cmp key q)
  where
    either : (a b : Bool) → (a || b) ≡ cond b true a
    either a true = or_yes a
    either a false = or_no a

pub none_once : AreOnce []
unfolding IsDistinct
none_once = tt

front_once : (keys more : List LockKey) → AreOnce (keys ++ more) → AreOnce keys
front_once [] more once = none_once
front_once (k ∷ keys) more once =
    IsDistinct-cons (eq_by_cmp lock_cmp) k keys (front_all (λ y. eq_by_cmp lock_cmp k y ≡ false) keys more (IsDistinct-head (eq_by_cmp lock_cmp) k (keys ++ more) once))
    (front_once keys more (IsDistinct-tail (eq_by_cmp lock_cmp) k (keys ++ more) once))
  where
    front_all : (P : LockKey → Type 0) (xs ys : List LockKey) → AllByRecursion P (xs ++ ys) → AllByRecursion P xs
    front_all P [] ys all = tt
    front_all P (x ∷ xs) ys all = (all.0, front_all P xs ys all.1)

-- the last of keys that are no key twice isn't among the others
last_alone : (keys : List LockKey) (key : LockKey) → AreOnce (keys ++ key ∷ []) → is_among keys key ≡ false
last_alone [] key once = refl
last_alone (k ∷ keys) key once =
    ap (λ b. b || is_among keys key) (lock_ties-symm key k ∙ at_last (λ y. eq_by_cmp lock_cmp k y ≡ false) keys (IsDistinct-head (eq_by_cmp lock_cmp) k (keys ++ key ∷ []) once))
    ∙ last_alone keys key (IsDistinct-tail (eq_by_cmp lock_cmp) k (keys ++ key ∷ []) once)
  where
    at_last : (P : LockKey → Type 0) (xs : List LockKey) → AllByRecursion P (xs ++ key ∷ []) → P key
    at_last P [] all = all.0
    at_last P (x ∷ xs) all = at_last P xs all.1

popped_is : (keys : List LockKey) (key q : LockKey) → AreOnce (keys ++ key ∷ []) → is_among keys q ≡ cond (eq_by_cmp lock_cmp key q) false (is_among (keys ++ key ∷ []) q)
popped_is keys key q once = elim (eq_by_cmp lock_cmp key q) as (λ t. eq_by_cmp lock_cmp key q ≡ t → is_among keys q ≡ cond t false (is_among (keys ++ key ∷ []) q)) [
  | true ↦ λ tie. ap (is_among keys) (sym (lock_ties-is key q tie)) ∙ last_alone keys key once
  | false ↦ λ other. sym (pushed_is keys key q ∙ ap (λ t. cond t true (is_among keys q)) other)
] refl

-- ---- the last key is removed, if there is one

pub rest_once : (keys rest : List LockKey) (o : Option LockKey) → keys ≡ rest ++ option_to_list o → AreOnce keys → AreOnce rest
rest_once keys rest o is once = front_once rest (option_to_list o) (subst AreOnce is once)

pub none_popped : (keys rest : List LockKey) (o : Option LockKey) → keys ≡ rest ++ option_to_list o → IfNone o (rest ≡ []) → IfNone o ((q : LockKey) → is_among keys q ≡ false)
none_popped keys rest None is none = λ q. ap (λ ks. is_among ks q) (is ∙ append-nil rest ∙ none)
none_popped keys rest (Some key) is none = tt

pub popped_same : (old new : KeysBySession) (who : ℕ) (rest : List LockKey) (o : Option LockKey) → SetsKeys old who rest new → keys_of old who ≡ rest ++ option_to_list o → IfNone o (KeepsKeys old new)
popped_same old new who rest None sets is = keys_kept old new who rest sets (sym (is ∙ append-nil rest))
popped_same old new who rest (Some key) sets is = tt

pub popped_had : (keys rest : List LockKey) (o : Option LockKey) → keys ≡ rest ++ option_to_list o → IfSome o (λ key. is_among keys key ≡ true)
popped_had keys rest None is = tt
popped_had keys rest (Some key) is = ap (λ ks. is_among ks key) is ∙ pushed_is rest key key ∙ ap (λ t. cond t true (is_among rest key)) (lock_ties-itself key)

pub popped_others : (old new : KeysBySession) (who : ℕ) (rest : List LockKey) (o : Option LockKey) → SetsKeys old who rest new → keys_of old who ≡ rest ++ option_to_list o → AreOnce (keys_of old who)
    → IfSome o (λ key. ChangesKey old who key false new)
popped_others old new who rest None sets is once = tt
popped_others old new who rest (Some key) sets is once = keys_changed old new who rest key false sets (λ q.
    popped_is rest key q (subst AreOnce is once) ∙ ap (λ ks. cond (eq_by_cmp lock_cmp key q) false (is_among ks q)) (sym is))

-- what is at a session's place
pub keys-read : (keys : KeysBySession) (who : ℕ) (v : Vec LockKey Global) → who < length keys → v ≡ get_or keys who v → keys_of keys who ≡ v.items
keys-read keys who v within is = at-read (λ (v : Vec LockKey Global). v.items) [] keys who v v within is

pub keys-past : (keys : KeysBySession) (who : ℕ) → length keys ≤ who → keys_of keys who ≡ []
keys-past keys who past = at-past (λ (v : Vec LockKey Global). v.items) [] keys who past

pub keys-padded : (keys : KeysBySession) (v : Vec LockKey Global) → v.items ≡ [] → (s : ℕ) → keys_of (keys ++ v ∷ []) s ≡ keys_of keys s
keys-padded keys v none s = at-padded (λ (v : Vec LockKey Global). v.items) [] keys v s none

pub pushed_once : (keys : List LockKey) (key : LockKey) → AreOnce keys → is_among keys key ≡ false → AreOnce (keys ++ key ∷ [])
pushed_once keys key once new = IsDistinct-push (eq_by_cmp_equiv lock_cmp-IsTotalOrder) keys key once new

-- if none was removed, none is left
pub none_left : (o : Option LockKey) (rest : List LockKey) (n m : ℕ) (Q : LockKey → Type 0) → MatchOption o ((n ≡ 0) × (m ≡ 0)) Q → length rest ≡ m → IfNone o (rest ≡ [])
none_left None rest n m Q cases len = no_keys rest (len ∙ cases.1)
none_left (Some key) rest n m Q cases len = tt

pub popped_fewer : (keys keys' rest : List LockKey) (o : Option LockKey) → keys ≡ rest ++ option_to_list o → keys' ≡ rest → OnSome o (length keys' < length keys)
popped_fewer keys keys' rest None is now = tt
popped_fewer keys keys' rest (Some key) is now =
    let one : length (rest ++ key ∷ []) ≡ length rest + 1 = length-append rest (key ∷ []) in
    let all : length keys ≡ length (rest ++ key ∷ []) = ap length is in
    let left : length keys' ≡ length rest = ap length now in
    omega arith

-- ---- one of the keys is removed

-- nothing is removed if the key isn't listed
pub keys_lacking : (keys : KeysBySession) (who : ℕ) (key : LockKey) → is_among (keys_of keys who) key ≡ false → ChangesKey keys who key false keys
keys_lacking keys who key none = keys_changed keys keys who (keys_of keys who) key false sets (λ q. elim (eq_by_cmp lock_cmp key q) as (λ t. eq_by_cmp lock_cmp key q ≡ t → is_among (keys_of keys who) q ≡ cond t false (is_among (keys_of keys who) q)) [
  | true ↦ λ tie. ap (is_among (keys_of keys who)) (sym (lock_ties-is key q tie)) ∙ none
  | false ↦ λ _. refl
] refl)
  where
    sets : SetsKeys keys who (keys_of keys who) keys
    sets s = elim (who == s) as (λ t. (who == s) ≡ t → keys_of keys s ≡ cond t (keys_of keys who) (keys_of keys s)) [
      | true ↦ λ own. ap (keys_of keys) (sym (eqb-true who s own))
      | false ↦ λ _. refl
    ] refl

all_removed : (P : LockKey → Type 0) (ks : List LockKey) (i : ℕ) → AllByRecursion P ks → AllByRecursion P (remove ks i)
all_removed P [] zero all = tt
all_removed P [] (suc i) all = tt
all_removed P (k ∷ ks) zero all = all.1
all_removed P (k ∷ ks) (suc i) all = (all.0, all_removed P ks i all.1)

all_at : (P : LockKey → Type 0) (ks : List LockKey) (i : ℕ) (key : LockKey) → AllByRecursion P ks → slice_get ks i ≡ Some key → P key
all_at P [] i key all here = absurd (cc here)
all_at P (k ∷ ks) zero key all here = let same : k ≡ key = cc here in subst P same all.0
all_at P (k ∷ ks) (suc i) key all here = all_at P ks i key all.1 here

apart_from_all : (k : LockKey) (ks : List LockKey) → AllByRecursion (λ y. eq_by_cmp lock_cmp k y ≡ false) ks → is_among ks k ≡ false
apart_from_all k [] all = refl
apart_from_all k (y ∷ ks) all = ap (λ b. b || is_among ks k) all.0 ∙ apart_from_all k ks all.1

pub among_at : (ks : List LockKey) (i : ℕ) (key : LockKey) → slice_get ks i ≡ Some key → is_among ks key ≡ true
among_at [] i key here = absurd (cc here)
among_at (k ∷ ks) zero key here = let same : k ≡ key = cc here in ap (λ b. b || is_among ks key) (ap (eq_by_cmp lock_cmp key) same ∙ lock_ties-itself key)
among_at (k ∷ ks) (suc i) key here = ap (λ b. eq_by_cmp lock_cmp key k || b) (among_at ks i key here) ∙ or_yes (eq_by_cmp lock_cmp key k)

pub removed_once : (ks : List LockKey) (i : ℕ) → AreOnce ks → AreOnce (remove ks i)
removed_once [] zero once = once
removed_once [] (suc i) once = once
removed_once (k ∷ ks) zero once = IsDistinct-tail (eq_by_cmp lock_cmp) k ks once
removed_once (k ∷ ks) (suc i) once =
    IsDistinct-cons (eq_by_cmp lock_cmp) k (remove ks i) (all_removed (λ y. eq_by_cmp lock_cmp k y ≡ false) ks i (IsDistinct-head (eq_by_cmp lock_cmp) k ks once)) (removed_once ks i (IsDistinct-tail (eq_by_cmp lock_cmp) k ks once))

pub removed_is : (ks : List LockKey) (i : ℕ) (key q : LockKey) → slice_get ks i ≡ Some key → AreOnce ks → is_among (remove ks i) q ≡ cond (eq_by_cmp lock_cmp key q) false (is_among ks q)
removed_is [] i key q here once = absurd (cc here)
removed_is (k ∷ ks) zero key q here once =
    let same : k ≡ key = cc here in
    elim (eq_by_cmp lock_cmp key q) as (λ t. eq_by_cmp lock_cmp key q ≡ t → is_among ks q ≡ cond t false (eq_by_cmp lock_cmp q k || is_among ks q)) [
      | true ↦ λ tie. ap (is_among ks) (sym (same ∙ lock_ties-is key q tie)) ∙ apart_from_all k ks (IsDistinct-head (eq_by_cmp lock_cmp) k ks once)
      | false ↦ λ other. sym (ap (λ b. b || is_among ks q) (lock_ties-symm q k ∙ ap (λ l. eq_by_cmp lock_cmp l q) same ∙ other))
    ] refl
removed_is (k ∷ ks) (suc i) key q here once =
    ap (λ b. eq_by_cmp lock_cmp q k || b) (removed_is ks i key q here (IsDistinct-tail (eq_by_cmp lock_cmp) k ks once))
    ∙ elim (eq_by_cmp lock_cmp key q) as (λ t. eq_by_cmp lock_cmp key q ≡ t → (eq_by_cmp lock_cmp q k || cond t false (is_among ks q)) ≡ cond t false (eq_by_cmp lock_cmp q k || is_among ks q)) [
      | true ↦ λ tie.
          let apart : eq_by_cmp lock_cmp k key ≡ false = all_at (λ y. eq_by_cmp lock_cmp k y ≡ false) ks i key (IsDistinct-head (eq_by_cmp lock_cmp) k ks once) here in
          ap (λ b. b || false) (ap (λ l. eq_by_cmp lock_cmp l k) (sym (lock_ties-is key q tie)) ∙ lock_ties-symm key k ∙ apart)
      | false ↦ λ _. refl
    ] refl

-- what holds anyway holds if nothing was found
pub if_none_always : {X P : Type 0} (o : Option X) → P → IfNone o P
if_none_always None p = p
if_none_always (Some x) p = tt

-- ---- room for one more

pub room_within : (keys : KeysBySession) (who : ℕ) → has_room keys who ≡ true → who < length keys
room_within [] who room = absurd (cc room)
room_within (v ∷ keys) zero room = omega arith
room_within (v ∷ keys) (suc who) room = let rest = room_within keys who room in omega arith

pub room_there : (keys : KeysBySession) (who : ℕ) (v : Vec LockKey Global) → has_room keys who ≡ true → v ≡ get_or keys who v → vec_len v < vec_capacity v
room_there keys who v room is = ltb-true (vec_len v) (vec_capacity v) (sym (at-read (λ (v : Vec LockKey Global). nat_lt (vec_len v) (vec_capacity v)) false keys who v v (room_within keys who room) is) ∙ room)

pub room_made : (keys : KeysBySession) (who : ℕ) (v : Vec LockKey Global) → who < length keys → vec_len v < vec_capacity v → has_room (slice_set keys who v) who ≡ true
room_made keys who v within room =
    at-set (λ (v : Vec LockKey Global). nat_lt (vec_len v) (vec_capacity v)) false keys who who v within
    ∙ ap (λ b. cond b (nat_lt (vec_len v) (vec_capacity v)) (has_room keys who)) (eq-eqb who who refl)
    ∙ lt-ltb (vec_len v) (vec_capacity v) room
