-- The list of freed keys, as keys are taken and given back, and as sessions come to wait and leave.
use Rattle.std.proofs.Common.{◌≡◌, ◌≢◌, ℕ, ◌<◌, ◌≤◌, ◌+◌, Bool, true, false, cond, not, List, [], ◌∷◌, ◌++◌, map, length, Option, Some, None, is_some, refl, sym, subst, ◌∙◌, ap, arith}
use Rattle.std.specs.Prelude.{◌==◌, ◌||◌, find, filter}
use Rattle.std.specs.List.{All, AllByRecursion, IsDistinct}
use Rattle.std.specs.Cmp.{eq_by_cmp_equiv}
use Rattle.std.specs.Ordering.{eq_by_cmp}
use Rattle.std.proofs.lemmas.List.Elements.{recursion_from_All}
use Rattle.std.proofs.lemmas.List.{length-append, length-map}
use Rattle.std.proofs.lemmas.Map.Keys.{IsDistinct-push}
use Rattle.std.proofs.lemmas.Map.Made.{length-le_from_is_member}
use Rattle.sky_keys.specs.Waits.{Waiting, entry_of, without, other_than}
use Rattle.sky_lock_table.specs.declared.lock_key.LockKey.{LockKey}
use Rattle.sky_lock_table.specs.Order.{lock_cmp}
use Rattle.sky_lock_table.specs.Holders.{Held, holder_of, Frees}
use Rattle.sky_lock_table.specs.Waiters.{entry, key_of, is_among, is_waited}
use Rattle.sky_lock_table.proofs.Orders.{lock_cmp-IsTotalOrder, lock_ties-is, lock_ties-symm}
use Rattle.sky_lock_table.proofs.Basics.{or_no, or_yes}
use Rattle.sky_lock_table.proofs.HeldLemmas.{among-push}
use Rattle.sky_locks.specs.Freed.{noted, IsListed}

-- ---- lists

pub all_filtered : {A : Type 0} (P : A → Type 0) (p : A → Bool) (xs : List A) → AllByRecursion P xs → AllByRecursion P (filter p xs)
all_filtered P p [] all = tt
all_filtered P p (x ∷ xs) all = elim (p x) as (λ b. AllByRecursion P (cond b (x ∷ filter p xs) (filter p xs))) [
  | true ↦ (all.0, all_filtered P p xs all.1)
  | false ↦ all_filtered P p xs all.1
]

all_and : {A : Type 0} {P Q R : A → Type 0} → ((x : A) → P x → Q x → R x) → (xs : List A) → AllByRecursion P xs → AllByRecursion Q xs → AllByRecursion R xs
all_and both [] p q = tt
all_and both (x ∷ xs) p q = (both x p.0 q.0, all_and both xs p.1 q.1)

all_more : {A : Type 0} {P Q : A → Type 0} → ((x : A) → P x → Q x) → (xs : List A) → AllByRecursion P xs → AllByRecursion Q xs
all_more more [] p = tt
all_more more (x ∷ xs) p = (more x p.0, all_more more xs p.1)

length-filter : {A : Type 0} (p : A → Bool) (xs : List A) → length (filter p xs) ≤ length xs
length-filter p [] = omega arith
length-filter p (x ∷ xs) = let rest = length-filter p xs in elim (p x) as (λ b. length (cond b (x ∷ filter p xs) (filter p xs)) ≤ length (x ∷ xs)) [
  | true ↦ omega arith
  | false ↦ omega arith
]

pub distinct_filtered : {K : Type 0} (eq : K → K → Bool) (p : K → Bool) (xs : List K) → IsDistinct eq xs → IsDistinct eq (filter p xs)
unfolding IsDistinct
distinct_filtered eq p [] distinct = tt
distinct_filtered eq p (x ∷ xs) distinct = elim (p x) as (λ b. IsDistinct eq (cond b (x ∷ filter p xs) (filter p xs))) [
  | true ↦ (all_filtered (λ y. eq x y ≡ false) p xs distinct.0, distinct_filtered eq p xs distinct.1)
  | false ↦ distinct_filtered eq p xs distinct.1
]

all_pushed : {A : Type 0} (P : A → Type 0) (xs : List A) (x : A) → AllByRecursion P xs → P x → AllByRecursion P (xs ++ x ∷ [])
all_pushed P [] x all last = (last, tt)
all_pushed P (y ∷ xs) x all last = (all.0, all_pushed P xs x all.1 last)

find-same : {A : Type 0} (p q : A → Bool) (xs : List A) → AllByRecursion (λ x. p x ≡ q x) xs → find p xs ≡ find q xs
find-same p q [] same = refl
find-same p q (x ∷ xs) same = ap (λ b. cond b (Some x) (find p xs)) same.0 ∙ ap (cond (q x) (Some x)) (find-same p q xs same.1)

-- ---- who waits for a key

pub none_waits : (waiting : List Waiting) (key : LockKey) → is_waited waiting key ≡ false → AllByRecursion (λ w. eq_by_cmp lock_cmp (key_of w) key ≡ false) waiting
none_waits [] key none = tt
none_waits (w ∷ waiting) key none = elim (eq_by_cmp lock_cmp (key_of w) key) as (λ b. eq_by_cmp lock_cmp (key_of w) key ≡ b → is_some (cond b (Some w) (find (λ w. eq_by_cmp lock_cmp (key_of w) key) waiting)) ≡ false → AllByRecursion (λ w. eq_by_cmp lock_cmp (key_of w) key ≡ false) (w ∷ waiting)) [
  | true ↦ λ _ some. absurd (cc some)
  | false ↦ λ other rest. (other, none_waits waiting key rest)
] refl none

-- who waits, by a list of keys
waited_among : (waiting : List Waiting) (key : LockKey) → is_waited waiting key ≡ is_among (map key_of waiting) key
waited_among [] key = refl
waited_among (w ∷ waiting) key = elim (eq_by_cmp lock_cmp (key_of w) key) as (λ b. eq_by_cmp lock_cmp (key_of w) key ≡ b → is_some (cond b (Some w) (find (λ w. eq_by_cmp lock_cmp (key_of w) key) waiting)) ≡ (eq_by_cmp lock_cmp key (key_of w) || is_among (map key_of waiting) key)) [
  | true ↦ λ tie. ap (λ b. b || is_among (map key_of waiting) key) (sym (lock_ties-symm key (key_of w) ∙ tie))
  | false ↦ λ other. waited_among waiting key ∙ ap (λ b. b || is_among (map key_of waiting) key) (sym (lock_ties-symm key (key_of w) ∙ other))
] refl

-- distinct keys that are waited for are no more than those that wait
no_more_than_wait : (freed : List LockKey) (waiting : List Waiting) → IsDistinct (eq_by_cmp lock_cmp) freed → ((q : LockKey) → is_among freed q ≡ true → is_waited waiting q ≡ true) → length freed ≤ length waiting
no_more_than_wait freed waiting distinct waited =
    subst (λ n. length freed ≤ n) (length-map waiting key_of)
    (length-le_from_is_member (eq_by_cmp_equiv lock_cmp-IsTotalOrder) freed (map key_of waiting) distinct (λ q here. sym (waited_among waiting q) ∙ waited q here))

-- one more waits
still_waited-more : (waiting more : List Waiting) (q : LockKey) → is_waited waiting q ≡ true → is_waited (waiting ++ more) q ≡ true
still_waited-more [] more q waited = absurd (cc waited)
still_waited-more (w ∷ waiting) more q waited = elim (eq_by_cmp lock_cmp (key_of w) q) as (λ b. is_some (cond b (Some w) (find (λ w. eq_by_cmp lock_cmp (key_of w) q) waiting)) ≡ true
    → is_some (cond b (Some w) (find (λ w. eq_by_cmp lock_cmp (key_of w) q) (waiting ++ more))) ≡ true) [
      | true ↦ λ here. here
      | false ↦ λ later. still_waited-more waiting more q later
    ] waited

-- a session leaves, all whose entries are at one key, and the others are waited for as before
still_waited-less : (waiting : List Waiting) (who : ℕ) (key q : LockKey) → AllByRecursion (λ w. (w.who == who) ≡ true → key_of w ≡ key) waiting → eq_by_cmp lock_cmp key q ≡ false → is_waited waiting q ≡ true → is_waited (without who waiting) q ≡ true
still_waited-less [] who key q own other waited = absurd (cc waited)
still_waited-less (w ∷ waiting) who key q own other waited = elim (eq_by_cmp lock_cmp (key_of w) q) as (λ t. eq_by_cmp lock_cmp (key_of w) q ≡ t → is_some (cond t (Some w) (find (λ w. eq_by_cmp lock_cmp (key_of w) q) waiting)) ≡ true
    → is_waited (cond (not (w.who == who)) (w ∷ without who waiting) (without who waiting)) q ≡ true) [
      | true ↦ λ tie _. elim (w.who == who) as (λ b. (w.who == who) ≡ b → is_waited (cond (not b) (w ∷ without who waiting) (without who waiting)) q ≡ true) [
        | true ↦ λ its. let both : true ≡ false = sym tie ∙ ap (λ k. eq_by_cmp lock_cmp k q) (own.0 its) ∙ other in absurd (cc both)
        | false ↦ λ _. ap (λ t. is_some (cond t (Some w) (find (λ w. eq_by_cmp lock_cmp (key_of w) q) (without who waiting)))) tie
      ] refl
      | false ↦ λ apart later. elim (w.who == who) as (λ b. is_waited (cond (not b) (w ∷ without who waiting) (without who waiting)) q ≡ true) [
        | true ↦ still_waited-less waiting who key q own.1 other later
        | false ↦ ap (λ t. is_some (cond t (Some w) (find (λ w. eq_by_cmp lock_cmp (key_of w) q) (without who waiting)))) apart ∙ still_waited-less waiting who key q own.1 other later
      ]
    ] refl waited

-- a session without an entry leaves none
without-nobody : (waiting : List Waiting) (who : ℕ) → entry_of who waiting ≡ None → without who waiting ≡ waiting
without-nobody [] who none = refl
without-nobody (w ∷ waiting) who none = elim (w.who == who) as (λ b. cond b (Some w) (entry_of who waiting) ≡ None → cond (not b) (w ∷ without who waiting) (without who waiting) ≡ w ∷ waiting) [
  | true ↦ λ some. absurd (cc some)
  | false ↦ λ later. ap (λ rest. w ∷ rest) (without-nobody waiting who later)
] none

-- ---- which keys are listed

-- one is listed no more
pub among-without : (freed : List LockKey) (key q : LockKey) → is_among (filter (λ f. not (eq_by_cmp lock_cmp f key)) freed) q ≡ cond (eq_by_cmp lock_cmp key q) false (is_among freed q)
among-without [] key q = elim (eq_by_cmp lock_cmp key q) as (λ b. false ≡ cond b false false) [ true ↦ refl | false ↦ refl ]
among-without (f ∷ freed) key q = elim (eq_by_cmp lock_cmp f key) as (λ b. eq_by_cmp lock_cmp f key ≡ b
    → is_among (cond (not b) (f ∷ filter (λ f. not (eq_by_cmp lock_cmp f key)) freed) (filter (λ f. not (eq_by_cmp lock_cmp f key)) freed)) q ≡ cond (eq_by_cmp lock_cmp key q) false (eq_by_cmp lock_cmp q f || is_among freed q)) [
      | true ↦ λ tie. among-without freed key q ∙ elim (eq_by_cmp lock_cmp key q) as (λ b. eq_by_cmp lock_cmp key q ≡ b → cond b false (is_among freed q) ≡ cond b false (eq_by_cmp lock_cmp q f || is_among freed q)) [
        | true ↦ λ _. refl
        | false ↦ λ other. ap (λ b. b || is_among freed q) (sym (lock_ties-symm q f ∙ ap (λ k. eq_by_cmp lock_cmp k q) (lock_ties-is f key tie) ∙ other))
      ] refl
      | false ↦ λ apart. ap (λ b. eq_by_cmp lock_cmp q f || b) (among-without freed key q) ∙ elim (eq_by_cmp lock_cmp key q) as (λ b. eq_by_cmp lock_cmp key q ≡ b → (eq_by_cmp lock_cmp q f || cond b false (is_among freed q)) ≡ cond b false (eq_by_cmp lock_cmp q f || is_among freed q)) [
        | true ↦ λ same. ap (λ b. b || false) (lock_ties-symm q f ∙ ap (eq_by_cmp lock_cmp f) (sym (lock_ties-is key q same)) ∙ apart)
        | false ↦ λ _. refl
      ] refl
    ] refl

-- what is still listed is another key, and was listed
stayed : (freed freed' : List LockKey) (key q : LockKey) → freed' ≡ filter (λ f. not (eq_by_cmp lock_cmp f key)) freed → is_among freed' q ≡ true → (eq_by_cmp lock_cmp key q ≡ false) × (is_among freed q ≡ true)
stayed freed freed' key q is here =
    let both : cond (eq_by_cmp lock_cmp key q) false (is_among freed q) ≡ true = sym (among-without freed key q) ∙ ap (λ f. is_among f q) (sym is) ∙ here in
    elim (eq_by_cmp lock_cmp key q) as (λ t. eq_by_cmp lock_cmp key q ≡ t → cond t false (is_among freed q) ≡ true → (eq_by_cmp lock_cmp key q ≡ false) × (is_among freed q ≡ true)) [
      | true ↦ λ _ gone. absurd (cc gone)
      | false ↦ λ other stays. (other, stays)
    ] refl both

-- what is listed and isn't the one that came was listed
before : (freed : List LockKey) (key q : LockKey) (b : Bool) → eq_by_cmp lock_cmp key q ≡ false → is_among (cond b (freed ++ key ∷ []) freed) q ≡ true → is_among freed q ≡ true
before freed key q true other listed = sym (or_no (is_among freed q)) ∙ ap (λ b. is_among freed q || b) (sym other) ∙ sym (among-push freed key q) ∙ listed
before freed key q false other listed = listed

-- nobody waits
pub listed_none : (held : Held) (waiting : List Waiting) (freed : List LockKey) (capacity : ℕ) → waiting ≡ [] → freed ≡ [] → IsListed held waiting freed capacity
unfolding IsDistinct
listed_none held waiting freed capacity nobody none =
    subst (λ ws. IsListed held ws freed capacity) (sym nobody) (subst (λ f. IsListed held [] f capacity) (sym none) (record {
      distinct = tt;
      free = λ q here. absurd (cc here);
      waited = λ q here. absurd (cc here);
      complete = tt;
      room = omega arith;
    }))

-- ---- a key is given back

-- what is held isn't listed
held_unlisted : (held : Held) (waiting : List Waiting) (freed : List LockKey) (capacity who : ℕ) (key : LockKey) → IsListed held waiting freed capacity → holder_of held key ≡ Some who → is_among freed key ≡ false
held_unlisted held waiting freed capacity who key listed was = elim (is_among freed key) as (λ b. is_among freed key ≡ b → b ≡ false) [
  | true ↦ λ here. let both : Some who ≡ None = sym was ∙ listed.free key here in absurd (cc both)
  | false ↦ λ _. refl
] refl

noted_distinct : (held : Held) (waiting : List Waiting) (freed : List LockKey) (capacity who : ℕ) (key : LockKey) → IsListed held waiting freed capacity → holder_of held key ≡ Some who → (b : Bool) → IsDistinct (eq_by_cmp lock_cmp) (cond b (freed ++ key ∷ []) freed)
noted_distinct held waiting freed capacity who key listed was true = IsDistinct-push (eq_by_cmp_equiv lock_cmp-IsTotalOrder) freed key listed.distinct (held_unlisted held waiting freed capacity who key listed was)
noted_distinct held waiting freed capacity who key listed was false = listed.distinct

noted_free : (held held' : Held) (freed : List LockKey) (who : ℕ) (key : LockKey) → Frees held who key held' → ((q : LockKey) → is_among freed q ≡ true → holder_of held q ≡ None)
    → (b : Bool) (q : LockKey) → is_among (cond b (freed ++ key ∷ []) freed) q ≡ true → holder_of held' q ≡ None
noted_free held held' freed who key frees free b q listed =
    frees.free q ∙ elim (eq_by_cmp lock_cmp key q) as (λ t. eq_by_cmp lock_cmp key q ≡ t → cond t None (holder_of held q) ≡ None) [
      | true ↦ λ _. refl
      | false ↦ λ other. free q (before freed key q b other listed)
    ] refl

noted_waited : (waiting : List Waiting) (freed : List LockKey) (key : LockKey) → ((q : LockKey) → is_among freed q ≡ true → is_waited waiting q ≡ true)
    → (b : Bool) → is_waited waiting key ≡ b → (q : LockKey) → is_among (cond b (freed ++ key ∷ []) freed) q ≡ true → is_waited waiting q ≡ true
noted_waited waiting freed key waited true is q listed = elim (eq_by_cmp lock_cmp key q) as (λ t. eq_by_cmp lock_cmp key q ≡ t → is_waited waiting q ≡ true) [
  | true ↦ λ tie. ap (is_waited waiting) (sym (lock_ties-is key q tie)) ∙ is
  | false ↦ λ other. waited q (before freed key q true other listed)
] refl
noted_waited waiting freed key waited false is q listed = waited q listed

noted_complete : (held held' : Held) (waiting : List Waiting) (freed : List LockKey) (who : ℕ) (key : LockKey) → Frees held who key held'
    → AllByRecursion (λ w. holder_of held (key_of w) ≡ None → is_among freed (key_of w) ≡ true) waiting
    → (b : Bool) → is_waited waiting key ≡ b → AllByRecursion (λ w. holder_of held' (key_of w) ≡ None → is_among (cond b (freed ++ key ∷ []) freed) (key_of w) ≡ true) waiting
noted_complete held held' waiting freed who key frees complete true is = all_more (λ w listed none.
    among-push freed key (key_of w) ∙ elim (eq_by_cmp lock_cmp key (key_of w)) as (λ t. eq_by_cmp lock_cmp key (key_of w) ≡ t → (is_among freed (key_of w) || t) ≡ true) [
      | true ↦ λ _. or_yes (is_among freed (key_of w))
      | false ↦ λ other. or_no (is_among freed (key_of w)) ∙ listed (sym (ap (λ t. cond t None (holder_of held (key_of w))) other) ∙ sym (frees.free (key_of w)) ∙ none)
    ] refl) waiting complete
noted_complete held held' waiting freed who key frees complete false is = all_and (λ w listed other none.
    listed (sym (ap (λ t. cond t None (holder_of held (key_of w))) (lock_ties-symm key (key_of w) ∙ other)) ∙ sym (frees.free (key_of w)) ∙ none)) waiting complete (none_waits waiting key is)

-- there is room for it, if it is waited for
pub room_for : (held held' : Held) (waiting : List Waiting) (freed : List LockKey) (capacity who : ℕ) (key : LockKey) → IsListed held waiting freed capacity → Frees held who key held' → is_waited waiting key ≡ true → length freed < capacity
room_for held held' waiting freed capacity who key listed frees is =
    let short : length (freed ++ key ∷ []) ≤ length waiting =
    no_more_than_wait (freed ++ key ∷ []) waiting (noted_distinct held waiting freed capacity who key listed frees.was true) (noted_waited waiting freed key listed.waited true is) in
    let one_more : length (freed ++ key ∷ []) ≡ length freed + 1 = length-append freed (key ∷ []) in
    let room = listed.room in
    omega arith

pub listed_noted : (held held' : Held) (waiting : List Waiting) (freed freed' : List LockKey) (capacity capacity' : ℕ) (who : ℕ) (key : LockKey) → IsListed held waiting freed capacity → Frees held who key held'
    → freed' ≡ noted waiting key freed → capacity' ≡ capacity → IsListed held' waiting freed' capacity'
listed_noted held held' waiting freed freed' capacity capacity' who key listed frees is same = subst (λ f. IsListed held' waiting f capacity') (sym is) (record {
  distinct = noted_distinct held waiting freed capacity who key listed frees.was (is_waited waiting key);
  free = noted_free held held' freed who key frees listed.free (is_waited waiting key);
  waited = noted_waited waiting freed key listed.waited (is_waited waiting key) refl;
  complete = noted_complete held held' waiting freed who key frees listed.complete (is_waited waiting key) refl;
  room = let room = listed.room in omega arith;
})

-- ---- a key is taken

pub listed_taken : (held held' : Held) (waiting : List Waiting) (freed freed' : List LockKey) (capacity capacity' : ℕ) (who : ℕ) (key : LockKey) → IsListed held waiting freed capacity
    → ((q : LockKey) → holder_of held' q ≡ cond (eq_by_cmp lock_cmp key q) (Some who) (holder_of held q))
    → freed' ≡ filter (λ f. not (eq_by_cmp lock_cmp f key)) freed → capacity' ≡ capacity → IsListed held' waiting freed' capacity'
listed_taken held held' waiting freed freed' capacity capacity' who key listed now is same = record {
  distinct = subst (IsDistinct (eq_by_cmp lock_cmp)) (sym is) (distinct_filtered (eq_by_cmp lock_cmp) (λ f. not (eq_by_cmp lock_cmp f key)) freed listed.distinct);
  free = λ q here. let stays = stayed freed freed' key q is here in
      now q ∙ ap (λ t. cond t (Some who) (holder_of held q)) stays.0 ∙ listed.free q stays.1;
  waited = λ q here. listed.waited q (stayed freed freed' key q is here).1;
  complete = all_more (λ w before none.
      let none_now : cond (eq_by_cmp lock_cmp key (key_of w)) (Some who) (holder_of held (key_of w)) ≡ None = sym (now (key_of w)) ∙ none in
      ap (λ f. is_among f (key_of w)) is ∙ among-without freed key (key_of w) ∙ elim (eq_by_cmp lock_cmp key (key_of w)) as (λ t. cond t (Some who) (holder_of held (key_of w)) ≡ None → cond t false (is_among freed (key_of w)) ≡ true) [
        | true ↦ λ some. absurd (cc some)
        | false ↦ λ free. before free
      ] none_now) waiting listed.complete;
  room = let room = listed.room in omega arith;
}

-- ---- one comes to wait

-- what another session holds is held
pub other_holds : (who other : ℕ) (o : Option ℕ) → other_than who o ≡ Some other → o ≢ None
other_holds who other None is none = absurd (cc is)
other_holds who other (Some s) is none = absurd (cc none)

pub listed_arrived : (held : Held) (waiting waiting' : List Waiting) (freed freed' : List LockKey) (capacity capacity' : ℕ) (who : ℕ) (key : LockKey) → IsListed held waiting freed capacity → holder_of held key ≢ None
    → waiting' ≡ waiting ++ entry who key ∷ [] → freed' ≡ freed → length waiting + 1 ≤ capacity' → IsListed held waiting' freed' capacity'
listed_arrived held waiting waiting' freed freed' capacity capacity' who key listed holds more is fits =
    subst (λ ws. IsListed held ws freed' capacity') (sym more) (subst (λ f. IsListed held (waiting ++ entry who key ∷ []) f capacity') (sym is) (record {
      distinct = listed.distinct;
      free = listed.free;
      waited = λ q here. still_waited-more waiting (entry who key ∷ []) q (listed.waited q here);
      complete = all_pushed (λ w. holder_of held (key_of w) ≡ None → is_among freed (key_of w) ≡ true) waiting (entry who key) listed.complete (λ none. absurd (holds none));
      room =
          let count : length (waiting ++ entry who key ∷ []) ≡ length waiting + 1 = length-append waiting (entry who key ∷ []) in
          omega arith;
    }))

-- ---- one leaves

-- nobody left
pub listed_unchanged : (held : Held) (waiting waiting' : List Waiting) (freed : List LockKey) (capacity who : ℕ) → IsListed held waiting freed capacity → entry_of who waiting ≡ None → waiting' ≡ without who waiting → IsListed held waiting' freed capacity
listed_unchanged held waiting waiting' freed capacity who listed none is = subst (λ ws. IsListed held ws freed capacity) (sym (is ∙ without-nobody waiting who none)) listed

complete_left : (held : Held) (waiting waiting' : List Waiting) (freed : List LockKey) (who : ℕ) → AllByRecursion (λ w. holder_of held (key_of w) ≡ None → is_among freed (key_of w) ≡ true) waiting → waiting' ≡ without who waiting
    → AllByRecursion (λ w. holder_of held (key_of w) ≡ None → is_among freed (key_of w) ≡ true) waiting'
complete_left held waiting waiting' freed who complete is =
    subst (AllByRecursion (λ w. holder_of held (key_of w) ≡ None → is_among freed (key_of w) ≡ true)) (sym is) (all_filtered (λ w. holder_of held (key_of w) ≡ None → is_among freed (key_of w) ≡ true) (λ w. not (w.who == who)) waiting complete)

room_left : (waiting waiting' : List Waiting) (capacity who : ℕ) → length waiting ≤ capacity → waiting' ≡ without who waiting → length waiting' ≤ capacity
room_left waiting waiting' capacity who room is =
    let short : length (without who waiting) ≤ length waiting = length-filter (λ w. not (w.who == who)) waiting in
    let now : length waiting' ≡ length (without who waiting) = ap length is in
    omega arith

-- its key is waited for by others too
pub listed_left : (held : Held) (waiting waiting' : List Waiting) (freed : List LockKey) (capacity who : ℕ) (key : LockKey) → IsListed held waiting freed capacity → waiting' ≡ without who waiting
    → All (λ w. (w.who == who) ≡ true → key_of w ≡ key) waiting → is_waited waiting' key ≡ true → IsListed held waiting' freed capacity
listed_left held waiting waiting' freed capacity who key listed is own still = record {
  distinct = listed.distinct;
  free = listed.free;
  waited = λ q here. elim (eq_by_cmp lock_cmp key q) as (λ t. eq_by_cmp lock_cmp key q ≡ t → is_waited waiting' q ≡ true) [
    | true ↦ λ tie. ap (is_waited waiting') (sym (lock_ties-is key q tie)) ∙ still
    | false ↦ λ other. ap (λ ws. is_waited ws q) is ∙ still_waited-less waiting who key q (recursion_from_All (λ w. (w.who == who) ≡ true → key_of w ≡ key) waiting own) other (listed.waited q here)
  ] refl;
  complete = complete_left held waiting waiting' freed who listed.complete is;
  room = room_left waiting waiting' capacity who listed.room is;
}

-- and its key is no longer waited for
pub listed_dropped : (held : Held) (waiting waiting' : List Waiting) (freed freed' : List LockKey) (capacity capacity' : ℕ) (who : ℕ) (key : LockKey) → IsListed held waiting freed capacity → waiting' ≡ without who waiting
    → All (λ w. (w.who == who) ≡ true → key_of w ≡ key) waiting → is_waited waiting' key ≡ false → freed' ≡ filter (λ f. not (eq_by_cmp lock_cmp f key)) freed → capacity' ≡ capacity → IsListed held waiting' freed' capacity'
listed_dropped held waiting waiting' freed freed' capacity capacity' who key listed is own none drops same = record {
  distinct = subst (IsDistinct (eq_by_cmp lock_cmp)) (sym drops) (distinct_filtered (eq_by_cmp lock_cmp) (λ f. not (eq_by_cmp lock_cmp f key)) freed listed.distinct);
  free = λ q here. listed.free q (stayed freed freed' key q drops here).1;
  waited = λ q here. let stays = stayed freed freed' key q drops here in
      ap (λ ws. is_waited ws q) is ∙ still_waited-less waiting who key q (recursion_from_All (λ w. (w.who == who) ≡ true → key_of w ≡ key) waiting own) stays.0 (listed.waited q stays.1);
  complete = all_and (λ w before other free.
      ap (λ f. is_among f (key_of w)) drops ∙ among-without freed key (key_of w) ∙ ap (λ t. cond t false (is_among freed (key_of w))) (lock_ties-symm key (key_of w) ∙ other) ∙ before free)
      waiting' (complete_left held waiting waiting' freed who listed.complete is) (none_waits waiting' key none);
  room = let room = room_left waiting waiting' capacity who listed.room is in omega arith;
}

-- ---- who is ready

listed_is_free : (o : Option ℕ) (b : Bool) → (b ≡ true → o ≡ None) → (o ≡ None → b ≡ true) → b ≡ not (is_some o)
listed_is_free None b one other = other refl
listed_is_free (Some h) true one other = let both : Some h ≡ None = one refl in absurd (cc both)
listed_is_free (Some h) false one other = refl

pub ready_is : (held : Held) (waiting : List Waiting) (freed : List LockKey) (capacity : ℕ) → IsListed held waiting freed capacity
    → find (λ w. is_among freed (key_of w)) waiting ≡ find (λ w. not (is_some (holder_of held (key_of w)))) waiting
ready_is held waiting freed capacity listed =
    find-same (λ w. is_among freed (key_of w)) (λ w. not (is_some (holder_of held (key_of w)))) waiting
    (all_more (λ w waited. listed_is_free (holder_of held (key_of w)) (is_among freed (key_of w)) (listed.free (key_of w)) waited) waiting listed.complete)

-- ---- what is seen otherwise

-- the same holders, in another list
pub listed_held : (held held' : Held) (waiting : List Waiting) (freed : List LockKey) (capacity : ℕ) → IsListed held waiting freed capacity → ((q : LockKey) → holder_of held' q ≡ holder_of held q) → IsListed held' waiting freed capacity
listed_held held held' waiting freed capacity listed same = record {
  distinct = listed.distinct;
  free = λ q here. same q ∙ listed.free q here;
  waited = listed.waited;
  complete = all_more (λ w waited none. waited (sym (same (key_of w)) ∙ none)) waiting listed.complete;
  room = listed.room;
}

-- the same wait queue
pub listed_waiting : (held : Held) (waiting waiting' : List Waiting) (freed : List LockKey) (capacity : ℕ) → IsListed held waiting freed capacity → waiting' ≡ waiting → IsListed held waiting' freed capacity
listed_waiting held waiting waiting' freed capacity listed same = subst (λ ws. IsListed held ws freed capacity) (sym same) listed
