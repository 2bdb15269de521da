-- The indexes of the wait queue, and how they follow what is added and removed.
use Rattle.std.proofs.Common.{nat_eq, subst, ◌≡◌, ℕ, zero, suc, ◌<◌, ◌≤◌, Bool, true, false, cond, not, List, [], ◌∷◌, ◌++◌, length, slice_set, map, Option, Some, None, refl, sym, ◌∙◌, ap, arith}
use Rattle.std.specs.Prelude.{◌==◌, filter, find, option_map, option_and_then, slice_get}
use Rattle.std.specs.List.{AllByRecursion, IsDistinct}
use Rattle.std.proofs.lemmas.Map.Keys.{IsDistinct-cons}
use Rattle.std.specs.Ordering.{nat_cmp, eq_by_cmp}
use Rattle.std.proofs.lemmas.Bool.{eqb-true, eq-eqb, ne_eqb}
use Rattle.std.proofs.lemmas.List.{append-nil}
use Rattle.sky_keys.specs.Waits.{Waiting}
use Rattle.sky_lock_table.specs.declared.lock_key.LockKey.{LockKey}
use Rattle.sky_lock_table.specs.declared.entries.Waiter.{Waiter}
use Rattle.sky_lock_table.specs.Order.{lock_cmp}
use Rattle.sky_lock_table.specs.Holders.{is_holder}
use Rattle.sky_lock_table.specs.Sessions.{arrival_of}
use Rattle.sky_lock_table.specs.Slots.{Queues, Joins, Leaves}
use Rattle.sky_lock_table.specs.Waiters.{entry, entry_at, waiting_in, key_of, is_of, queue_in, IsKept}
use Rattle.sky_lock_table.proofs.Orders.{nat_ties, tie_is}
use Rattle.sky_lock_table.proofs.Basics.{set-last, apart_turned}
use Rattle.sky_lock_table.proofs.SessionVectors.{at-set, at-past, at-padded}
use Rattle.sky_lock_table.proofs.HolderLemmas.{holder_from_index}
use Rattle.sky_lock_table.proofs.EntryLemmas.{Entries, NoneOf, OneOf, waiting-append, without-one, own-one}
use Rattle.sky_lock_table.proofs.QueueLemmas.{queue-more, queue-without, queue-first}
use Rattle.sky_lock_table.proofs.FirstLemmas.{first_at, first-found, first-none}

-- the arrival of each session agrees with the entries
abbrev pub Tells : (ℕ → Option ℕ) → Entries → Type 0
Tells arrival es = (s a : ℕ) → is_holder a (arrival s) ≡ is_of s (entry_at es a)

-- ---- a session's arrival

pub none-told : (es : Entries) (arrival : ℕ → Option ℕ) (who : ℕ) → Tells arrival es → arrival who ≡ None → NoneOf who es
none-told es arrival who tells none b = sym (tells who b) ∙ ap (is_holder b) none

pub one-told : (es : Entries) (arrival : ℕ → Option ℕ) (who a : ℕ) → Tells arrival es → arrival who ≡ Some a → OneOf who a es
one-told es arrival who a tells some = (
  sym (tells who a) ∙ ap (is_holder a) some ∙ eq-eqb a a refl,
  λ b other. sym (tells who b) ∙ ap (is_holder b) some ∙ ne_eqb b a other,
)

pub not_gone : (es : Entries) (who a : ℕ) → OneOf who a es → entry_at es a ≡ None → ⊥
not_gone es who a one gone = let both : true ≡ false = sym one.0 ∙ ap (is_of who) gone in cc both

-- the first in the queue of a key has the arrival of the first that waits for it
pub first-arrival : (es : Entries) (arrivals : List (Option ℕ)) (queues : Queues) (key : LockKey) → IsKept es arrivals queues
    → option_and_then (arrival_of arrivals) (slice_get (queues key) 0) ≡ first_at (λ w. eq_by_cmp lock_cmp w.key key) es
first-arrival es arrivals queues key kept =
    ap (λ ks. option_and_then (arrival_of arrivals) (slice_get ks 0)) (kept.queued key)
    ∙ ap (option_and_then (arrival_of arrivals)) (queue-first (waiting_in es) key)
    ∙ of (first_at (λ w. eq_by_cmp lock_cmp w.key key) es) refl
  where
    of : (o : Option ℕ) → first_at (λ w. eq_by_cmp lock_cmp w.key key) es ≡ o → option_and_then (arrival_of arrivals) (option_map (λ w. w.who) (find (λ w. eq_by_cmp lock_cmp (key_of w) key) (waiting_in es))) ≡ o
    of None is = ap (λ f. option_and_then (arrival_of arrivals) (option_map (λ (w : Waiting). w.who) f)) (first-none (λ w. eq_by_cmp lock_cmp (key_of w) key) es is)
    of (Some a) is =
        let found = first-found (λ w. eq_by_cmp lock_cmp (key_of w) key) es a is in
        ap (λ f. option_and_then (arrival_of arrivals) (option_map (λ (w : Waiting). w.who) f)) found.2
        ∙ holder_from_index a (arrival_of arrivals found.0.who) (kept.sessions found.0.who a ∙ ap (is_of found.0.who) found.1 ∙ eq-eqb found.0.who found.0.who refl)

-- ---- the entries by arrival

at-pushed : (es : Entries) (e : Option Waiter) (b : ℕ) → entry_at (es ++ e ∷ []) b ≡ cond (length es == b) e (entry_at es b)
at-pushed es e b =
    ap (λ (fs : Entries). entry_at fs b) (sym (set-last es None e))
    ∙ at-set (λ (w : Option Waiter). w) None (es ++ None ∷ []) (length es) b e (room es)
    ∙ ap (cond (length es == b) e) (at-padded (λ (w : Option Waiter). w) None es None b refl)
  where
    room : (es : Entries) → length es < length (es ++ None ∷ [])
    room [] = omega arith
    room (e ∷ es) = let rest = room es in omega arith

at_within : (es : Entries) (a : ℕ) (w : Waiter) → entry_at es a ≡ Some w → a < length es
at_within [] a w here = absurd (cc here)
at_within (e ∷ es) zero w here = omega arith
at_within (e ∷ es) (suc a) w here = let rest = at_within es a w here in omega arith

-- ---- one is added

pub told-more : (es : Entries) (arrival arrival' : ℕ → Option ℕ) (w : Waiter) → Tells arrival es → NoneOf w.who es
    → ((s : ℕ) → arrival' s ≡ cond (eq_by_cmp nat_cmp w.who s) (Some (length es)) (arrival s)) → Tells arrival' (es ++ Some w ∷ [])
told-more es arrival arrival' w tells none arrivals s b =
    ap (is_holder b) (arrivals s)
    ∙ elim (eq_by_cmp nat_cmp w.who s) as (λ t. eq_by_cmp nat_cmp w.who s ≡ t → is_holder b (cond t (Some (length es)) (arrival s)) ≡ is_of s (cond (length es == b) (Some w) (entry_at es b))) [
      | true ↦ λ own. elim (length es == b) as (λ t. (length es == b) ≡ t → (b == length es) ≡ is_of s (cond t (Some w) (entry_at es b))) [
        | true ↦ λ here. eq-eqb b (length es) (sym (eqb-true (length es) b here)) ∙ sym (eq-eqb w.who s (tie_is w.who s own))
        | false ↦ λ apart. apart_turned (length es) b apart ∙ sym (ap (λ n. is_of n (entry_at es b)) (sym (tie_is w.who s own)) ∙ none b)
      ] refl
      | false ↦ λ other. elim (length es == b) as (λ t. (length es == b) ≡ t → is_holder b (arrival s) ≡ is_of s (cond t (Some w) (entry_at es b))) [
        | true ↦ λ here.
            let past : length es ≤ b = behind (eqb-true (length es) b here) in
            tells s b ∙ ap (is_of s) (at-past (λ (w : Option Waiter). w) None es b past) ∙ sym (sym (nat_ties w.who s) ∙ other)
        | false ↦ λ _. tells s b
      ] refl
    ] refl
    ∙ ap (is_of s) (sym (at-pushed es (Some w) b))
  where
    behind : {m n : ℕ} → m ≡ n → m ≤ n
    behind same = omega arith

pub kept-more : (es : Entries) (arrivals arrivals' : List (Option ℕ)) (queues queues' : Queues) (who : ℕ) (key own : LockKey) → IsKept es arrivals queues → NoneOf who es → own ≡ key
    → ((s : ℕ) → arrival_of arrivals' s ≡ cond (eq_by_cmp nat_cmp who s) (Some (length es)) (arrival_of arrivals s)) → Joins queues who key queues'
    → IsKept (es ++ Some (record { who = who; key = own }) ∷ []) arrivals' queues'
kept-more es arrivals arrivals' queues queues' who key own kept none same arrives joins = record {
  sessions = told-more es (arrival_of arrivals) (arrival_of arrivals') (record { who = who; key = own }) kept.sessions none arrives;
  queued = λ q.
      joins q
      ∙ ap (λ ks. cond (eq_by_cmp lock_cmp key q) (ks ++ who ∷ []) ks) (kept.queued q)
      ∙ ap (λ k. cond (eq_by_cmp lock_cmp k q) (queue_in q (waiting_in es) ++ who ∷ []) (queue_in q (waiting_in es))) (sym same)
      ∙ sym (ap (queue_in q) (waiting-append es (Some (record { who = who; key = own }) ∷ [])) ∙ queue-more (waiting_in es) who own q);
}

-- it was added in vain
pub waiting-again : (es fs : Entries) → fs ≡ es ++ None ∷ [] → waiting_in fs ≡ waiting_in es
waiting-again es fs is = ap waiting_in is ∙ waiting-append es (None ∷ []) ∙ append-nil (waiting_in es)

pub kept-again : (es fs : Entries) (arrivals arrivals' : List (Option ℕ)) (queues queues' : Queues) → IsKept es arrivals queues
    → fs ≡ es ++ None ∷ [] → ((s : ℕ) → arrival_of arrivals' s ≡ arrival_of arrivals s) → ((q : LockKey) → queues' q ≡ queues q) → IsKept fs arrivals' queues'
kept-again es fs arrivals arrivals' queues queues' kept is same keeps = record {
  sessions = λ s a.
      ap (is_holder a) (same s) ∙ kept.sessions s a
      ∙ ap (is_of s) (sym (ap (λ (gs : Entries). entry_at gs a) is ∙ at-padded (λ (w : Option Waiter). w) None es None a refl));
  queued = λ q. keeps q ∙ kept.queued q ∙ ap (queue_in q) (sym (waiting-again es fs is));
}

-- ---- one leaves

pub told-less : (es : Entries) (arrival arrival' : ℕ → Option ℕ) (who a : ℕ) (w : Waiter) → Tells arrival es → arrival who ≡ Some a → entry_at es a ≡ Some w
    → ((s : ℕ) → arrival' s ≡ cond (eq_by_cmp nat_cmp who s) None (arrival s)) → Tells arrival' (slice_set es a None)
told-less es arrival arrival' who a w tells some here arrivals s b =
    let one = one-told es arrival who a tells some in
    ap (is_holder b) (arrivals s)
    ∙ elim (eq_by_cmp nat_cmp who s) as (λ t. eq_by_cmp nat_cmp who s ≡ t → is_holder b (cond t None (arrival s)) ≡ is_of s (cond (a == b) None (entry_at es b))) [
      | true ↦ λ own. elim (a == b) as (λ t. (a == b) ≡ t → false ≡ is_of s (cond t None (entry_at es b))) [
        | true ↦ λ _. refl
        | false ↦ λ apart. sym (ap (λ n. is_of n (entry_at es b)) (sym (tie_is who s own)) ∙ one.1 b (λ same. let both : true ≡ false = sym (eq-eqb a b (sym same)) ∙ apart in cc both))
      ] refl
      | false ↦ λ other. elim (a == b) as (λ t. (a == b) ≡ t → is_holder b (arrival s) ≡ is_of s (cond t None (entry_at es b))) [
        | true ↦ λ at.
            let its : w.who ≡ who = eqb-true w.who who (sym (ap (is_of who) here) ∙ one.0) in
            tells s b ∙ ap (λ n. is_of s (entry_at es n)) (sym (eqb-true a b at)) ∙ ap (is_of s) here ∙ ap (λ n. n == s) its ∙ sym (nat_ties who s) ∙ other
        | false ↦ λ _. tells s b
      ] refl
    ] refl
    ∙ ap (is_of s) (sym (at-set (λ (w : Option Waiter). w) None es a b None (at_within es a w here)))

-- it was in no other queue
not_queued : (waiting : List Waiting) (who : ℕ) (key q : LockKey) → AllByRecursion (λ v. (v.who == who) ≡ true → key_of v ≡ key) waiting → eq_by_cmp lock_cmp key q ≡ false
    → queue_in q waiting ≡ filter (λ s. not (s == who)) (queue_in q waiting)
not_queued [] who key q own other = refl
not_queued (w ∷ waiting) who key q own other = of (eq_by_cmp lock_cmp (key_of w) q) refl (w.who == who) refl (not_queued waiting who key q own.1 other)
  where
    of : (t : Bool) → eq_by_cmp lock_cmp (key_of w) q ≡ t → (b : Bool) → (w.who == who) ≡ b → queue_in q waiting ≡ filter (λ s. not (s == who)) (queue_in q waiting)
        → map (λ w. w.who) (cond t (w ∷ filter (λ w. eq_by_cmp lock_cmp (key_of w) q) waiting) (filter (λ w. eq_by_cmp lock_cmp (key_of w) q) waiting))
        ≡ filter (λ s. not (s == who)) (map (λ w. w.who) (cond t (w ∷ filter (λ w. eq_by_cmp lock_cmp (key_of w) q) waiting) (filter (λ w. eq_by_cmp lock_cmp (key_of w) q) waiting)))
    of true tie true its rest = let both : true ≡ false = sym tie ∙ ap (λ k. eq_by_cmp lock_cmp k q) (own.0 its) ∙ other in absurd (cc both)
    of true tie false its rest = ap (λ ks. w.who ∷ ks) rest ∙ ap (λ b. cond (not b) (w.who ∷ filter (λ s. not (s == who)) (queue_in q waiting)) (filter (λ s. not (s == who)) (queue_in q waiting))) (sym its)
    of false apart b its rest = rest

pub kept-less : (es : Entries) (arrivals arrivals' : List (Option ℕ)) (queues queues' : Queues) (who a : ℕ) (w : Waiter) → IsKept es arrivals queues → arrival_of arrivals who ≡ Some a → entry_at es a ≡ Some w
    → ((s : ℕ) → arrival_of arrivals' s ≡ cond (eq_by_cmp nat_cmp who s) None (arrival_of arrivals s)) → Leaves queues who w.key queues'
    → IsKept (slice_set es a None) arrivals' queues'
kept-less es arrivals arrivals' queues queues' who a w kept some here takes leaves =
    let one = one-told es (arrival_of arrivals) who a kept.sessions some in
    record {
      sessions = told-less es (arrival_of arrivals) (arrival_of arrivals') who a w kept.sessions some here takes;
      queued = λ q.
          leaves q
          ∙ elim (eq_by_cmp lock_cmp w.key q) as (λ t. eq_by_cmp lock_cmp w.key q ≡ t → cond t (filter (λ s. not (s == who)) (queues q)) (queues q) ≡ filter (λ s. not (s == who)) (queue_in q (waiting_in es))) [
            | true ↦ λ _. ap (filter (λ s. not (s == who))) (kept.queued q)
            | false ↦ λ other. kept.queued q ∙ not_queued (waiting_in es) who w.key q (own-one es who a w one here) other
          ] refl
          ∙ sym (ap (queue_in q) (without-one es who a one) ∙ queue-without (waiting_in es) who q);
    }

-- ---- no session is in a queue twice

-- no entry, or one
abbrev pub AtMostOne : Entries → Type 0
AtMostOne es = (s a b : ℕ) → is_of s (entry_at es a) ≡ true → is_of s (entry_at es b) ≡ true → a ≡ b

one-each : (es : Entries) (arrival : ℕ → Option ℕ) → Tells arrival es → AtMostOne es
one-each es arrival tells s a b at_a at_b =
    let both : Some a ≡ Some b = sym (holder_from_index a (arrival s) (tells s a ∙ at_a)) ∙ holder_from_index b (arrival s) (tells s b ∙ at_b) in
    cc both

later_ones : (e : Option Waiter) (es : Entries) → AtMostOne (e ∷ es) → AtMostOne es
later_ones e es one s a b at_a at_b = down (one s (suc a) (suc b) at_a at_b)
  where
    down : {m n : ℕ} → suc m ≡ suc n → m ≡ n
    down same = omega arith

first_alone : (w : Waiter) (es : Entries) → AtMostOne (Some w ∷ es) → NoneOf w.who es
first_alone w es one b = elim (is_of w.who (entry_at es b)) as (λ t. is_of w.who (entry_at es b) ≡ t → t ≡ false) [
  | true ↦ λ its. let same : zero ≡ suc b = one w.who zero (suc b) (eq-eqb w.who w.who refl) its in absurd (omega arith)
  | false ↦ λ _. refl
] refl

none-queued : (es : Entries) (who : ℕ) (q : LockKey) → NoneOf who es → AllByRecursion (λ y. nat_eq who y ≡ false) (queue_in q (waiting_in es))
none-queued [] who q none = tt
none-queued (None ∷ es) who q none = none-queued es who q (λ b. none (suc b))
none-queued (Some v ∷ es) who q none = of (eq_by_cmp lock_cmp v.key q) (none-queued es who q (λ b. none (suc b))) (apart_turned v.who who (none zero))
  where
    of : (t : Bool) → AllByRecursion (λ y. nat_eq who y ≡ false) (queue_in q (waiting_in es)) → (who == v.who) ≡ false
        → AllByRecursion (λ y. nat_eq who y ≡ false) (map (λ w. w.who) (cond t (entry v.who v.key ∷ filter (λ w. eq_by_cmp lock_cmp (key_of w) q) (waiting_in es)) (filter (λ w. eq_by_cmp lock_cmp (key_of w) q) (waiting_in es))))
    of true rest other = (other, rest)
    of false rest other = rest

none_twice : IsDistinct nat_eq []
unfolding IsDistinct
none_twice = tt

queue-once : (es : Entries) (q : LockKey) → AtMostOne es → IsDistinct nat_eq (queue_in q (waiting_in es))
queue-once [] q one = none_twice
queue-once (None ∷ es) q one = queue-once es q (later_ones None es one)
queue-once (Some w ∷ es) q one = of (eq_by_cmp lock_cmp w.key q) (queue-once es q (later_ones (Some w) es one)) (none-queued es w.who q (first_alone w es one))
  where
    of : (t : Bool) → IsDistinct nat_eq (queue_in q (waiting_in es)) → AllByRecursion (λ y. nat_eq w.who y ≡ false) (queue_in q (waiting_in es))
        → IsDistinct nat_eq (map (λ w. w.who) (cond t (entry w.who w.key ∷ filter (λ w. eq_by_cmp lock_cmp (key_of w) q) (waiting_in es)) (filter (λ w. eq_by_cmp lock_cmp (key_of w) q) (waiting_in es))))
    of true rest apart = IsDistinct-cons nat_eq w.who (queue_in q (waiting_in es)) apart rest
    of false rest apart = rest

pub queues-once : (es : Entries) (arrivals : List (Option ℕ)) (queues : Queues) (key : LockKey) → IsKept es arrivals queues → IsDistinct nat_eq (queues key)
queues-once es arrivals queues key kept = subst (IsDistinct nat_eq) (sym (kept.queued key)) (queue-once es key (one-each es (arrival_of arrivals) kept.sessions))
