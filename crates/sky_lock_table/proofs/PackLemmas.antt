-- The arrivals of sessions, once those that wait have new ones.
use Rattle.std.proofs.Common.{◌≡◌, ◌≢◌, ℕ, zero, suc, ◌+◌, ◌<◌, ◌≤◌, true, false, cond, drop, length, List, [], ◌∷◌, Option, Some, None, refl, sym, ◌∙◌, ap, arith}
use Rattle.std.specs.Prelude.{◌==◌}
use Rattle.std.specs.Ordering.{nat_cmp, eq_by_cmp}
use Rattle.std.proofs.lemmas.Bool.{eqb-true, eq-eqb}
use Rattle.sky_lock_table.specs.Slots.{Queues}
use Rattle.sky_lock_table.specs.declared.entries.Waiter.{Waiter}
use Rattle.sky_lock_table.specs.Holders.{is_holder}
use Rattle.sky_lock_table.specs.Sessions.{arrival_of}
use Rattle.sky_lock_table.specs.Waiters.{entry_at, waiting_in, packed, is_of, queue_in, IsKept}
use Rattle.sky_lock_table.proofs.Orders.{nat_ties}
use Rattle.sky_lock_table.proofs.EntryLemmas.{Entries, NoneOf, OneOf, later_one, none_later, waiting-packed}
use Rattle.sky_lock_table.proofs.IndexLemmas.{Tells, none-told, one-told}

-- those from a number on have these numbers as arrivals, and the others what they had
abbrev pub renumbered : (ℕ → Option ℕ) → ℕ → Entries → ℕ → Option ℕ
renumbered arrival n [] s = arrival s
renumbered arrival n (e ∷ es) s = renumbered (λ t. cond (is_of t e) (Some n) (arrival t)) (n + 1) es s

-- another way to say what they had
pub renumbered-same : (one other : ℕ → Option ℕ) (n : ℕ) (es : Entries) → ((s : ℕ) → one s ≡ other s) → (s : ℕ) → renumbered one n es s ≡ renumbered other n es s
renumbered-same one other n es same s = λ i. renumbered (λ t. same t i) n es s

renumbered-none : (arrival : ℕ → Option ℕ) (n : ℕ) (es : Entries) (s : ℕ) → NoneOf s es → renumbered arrival n es s ≡ arrival s
renumbered-none arrival n [] s none = refl
renumbered-none arrival n (e ∷ es) s none =
    renumbered-none (λ t. cond (is_of t e) (Some n) (arrival t)) (n + 1) es s (λ b. none (suc b)) ∙ ap (λ t. cond t (Some n) (arrival s)) (none zero)

renumbered-one : (arrival : ℕ → Option ℕ) (n : ℕ) (es : Entries) (s a : ℕ) → OneOf s a es → renumbered arrival n es s ≡ Some (n + a)
renumbered-one arrival n [] s a one = absurd (cc one.0)
renumbered-one arrival n (e ∷ es) s zero one =
    let start : n ≡ n + zero = omega arith in
    renumbered-none (λ t. cond (is_of t e) (Some n) (arrival t)) (n + 1) es s (none_later s e es one) ∙ ap (λ t. cond t (Some n) (arrival s)) one.0 ∙ ap Some start
renumbered-one arrival n (e ∷ es) s (suc a) one =
    let step : (n + 1) + a ≡ n + suc a = omega arith in
    renumbered-one (λ t. cond (is_of t e) (Some n) (arrival t)) (n + 1) es s a (later_one s a e es one) ∙ ap Some step

-- ---- without the arrivals of those that have left

packed-none : (es : Entries) (s : ℕ) → NoneOf s es → NoneOf s (packed es)
packed-none [] s none b = none b
packed-none (None ∷ es) s none b = packed-none es s (λ b. none (suc b)) b
packed-none (Some w ∷ es) s none zero = none zero
packed-none (Some w ∷ es) s none (suc b) = packed-none es s (λ b. none (suc b)) b

packed-one : (es : Entries) (s a : ℕ) → OneOf s a es → (b : ℕ) × OneOf s b (packed es)
packed-one [] s a one = absurd (cc one.0)
packed-one (None ∷ es) s zero one = absurd (cc one.0)
packed-one (None ∷ es) s (suc a) one = packed-one es s a (later_one s a None es one)
packed-one (Some w ∷ es) s zero one = (zero, (one.0, first (packed-none es s (none_later s (Some w) es one))))
  where
    first : NoneOf s (packed es) → (b : ℕ) → b ≢ zero → is_of s (entry_at (Some w ∷ packed es) b) ≡ false
    first none zero other = absurd (other refl)
    first none (suc b) other = none b
packed-one (Some w ∷ es) s (suc a) one = later (packed-one es s a (later_one s a (Some w) es one)) (one.1 zero (λ same. apart same))
  where
    apart : zero ≡ suc a → ⊥
    apart same = absurd (omega arith)

    later : ((b : ℕ) × OneOf s b (packed es)) → is_of s (Some w) ≡ false → (b : ℕ) × OneOf s b (Some w ∷ packed es)
    later found not_its = (suc found.0, (found.1.0, rest))
      where
        rest : (b : ℕ) → b ≢ suc found.0 → is_of s (entry_at (Some w ∷ packed es) b) ≡ false
        rest zero other = not_its
        rest (suc b) other = found.1.1 b (λ same. other (ap suc same))

-- the new arrivals agree with the entries
pub told-packed : (es : Entries) (arrival : ℕ → Option ℕ) → Tells arrival es → Tells (renumbered arrival zero (packed es)) (packed es)
told-packed es arrival tells s a = of (arrival s) refl
  where
    of : (o : Option ℕ) → arrival s ≡ o → is_holder a (renumbered arrival zero (packed es) s) ≡ is_of s (entry_at (packed es) a)
    of None is =
        let none = packed-none es s (none-told es arrival s tells is) in
        ap (is_holder a) (renumbered-none arrival zero (packed es) s none ∙ is) ∙ sym (none a)
    of (Some b) is = at (packed-one es s b (one-told es arrival s b tells is))
      where
        at : ((c : ℕ) × OneOf s c (packed es)) → is_holder a (renumbered arrival zero (packed es) s) ≡ is_of s (entry_at (packed es) a)
        at found =
            let start : zero + found.0 ≡ found.0 = omega arith in
            ap (is_holder a) (renumbered-one arrival zero (packed es) s found.0 found.1 ∙ ap Some start)
            ∙ elim (a == found.0) as (λ t. (a == found.0) ≡ t → t ≡ is_of s (entry_at (packed es) a)) [
              | true ↦ λ here. sym (ap (λ n. is_of s (entry_at (packed es) n)) (eqb-true a found.0 here) ∙ found.1.0)
              | false ↦ λ apart. sym (found.1.1 a (λ same. let both : true ≡ false = sym (eq-eqb a found.0 same) ∙ apart in cc both))
            ] refl

-- each that waits has a place among the arrivals
pub packed-places : (es : Entries) (arrivals : List (Option ℕ)) → Tells (arrival_of arrivals) es → (s b : ℕ) → is_of s (entry_at (packed es) b) ≡ true → s < length arrivals
packed-places es arrivals tells s b its = of (arrival_of arrivals s) refl
  where
    placed : (xs : List (Option ℕ)) (s a : ℕ) → arrival_of xs s ≡ Some a → s < length xs
    placed [] s a some = absurd (cc some)
    placed (x ∷ xs) zero a some = omega arith
    placed (x ∷ xs) (suc s) a some = let rest = placed xs s a some in omega arith

    of : (o : Option ℕ) → arrival_of arrivals s ≡ o → s < length arrivals
    of None is = let both : true ≡ false = sym its ∙ packed-none es s (none-told es (arrival_of arrivals) s tells is) b in absurd (cc both)
    of (Some a) is = placed arrivals s a is

-- ---- the loop that gives them

dropped : (es : Entries) (i : ℕ) → i < length es → drop i es ≡ entry_at es i ∷ drop (i + 1) es
dropped [] i within = absurd (omega arith)
dropped (e ∷ es) zero within = refl
dropped (e ∷ es) (suc i) within =
    let step : suc (i + 1) ≡ suc i + 1 = omega arith in
    dropped es i (omega arith) ∙ ap (λ n. entry_at es i ∷ drop n (e ∷ es)) step

all_dropped : (es : Entries) (i : ℕ) → length es ≤ i → drop i es ≡ []
all_dropped [] zero past = refl
all_dropped [] (suc i) past = refl
all_dropped (e ∷ es) zero past = absurd (omega arith)
all_dropped (e ∷ es) (suc i) past = all_dropped es i (omega arith)

pub step-some : (arrival arrival' : ℕ → Option ℕ) (es : Entries) (i : ℕ) (w : Waiter) (s : ℕ) (out : Option ℕ) → i < length es → entry_at es i ≡ Some w
    → ((t : ℕ) → arrival' t ≡ cond (eq_by_cmp nat_cmp w.who t) (Some i) (arrival t)) → renumbered arrival i (drop i es) s ≡ out → renumbered arrival' (i + 1) (drop (i + 1) es) s ≡ out
step-some arrival arrival' es i w s out within here sets is =
    renumbered-same arrival' (λ t. cond (is_of t (entry_at es i)) (Some i) (arrival t)) (i + 1) (drop (i + 1) es)
    (λ t. sets t ∙ ap (λ b. cond b (Some i) (arrival t)) (nat_ties w.who t ∙ ap (is_of t) (sym here))) s
    ∙ sym (ap (λ fs. renumbered arrival i fs s) (dropped es i within)) ∙ is

pub step-none : (arrival : ℕ → Option ℕ) (es : Entries) (i s : ℕ) (out : Option ℕ) → i < length es → entry_at es i ≡ None
    → renumbered arrival i (drop i es) s ≡ out → renumbered arrival (i + 1) (drop (i + 1) es) s ≡ out
step-none arrival es i s out within here is =
    renumbered-same arrival (λ t. cond (is_of t (entry_at es i)) (Some i) (arrival t)) (i + 1) (drop (i + 1) es)
    (λ t. ap (λ e. cond (is_of t e) (Some i) (arrival t)) (sym here)) s
    ∙ sym (ap (λ fs. renumbered arrival i fs s) (dropped es i within)) ∙ is

pub step-last : (arrival : ℕ → Option ℕ) (es : Entries) (i s : ℕ) (out : Option ℕ) → length es ≤ i → renumbered arrival i (drop i es) s ≡ out → arrival s ≡ out
step-last arrival es i s out past is = sym (ap (λ fs. renumbered arrival i fs s) (all_dropped es i past)) ∙ is

pub kept-packed : (es fs : Entries) (arrivals arrivals' : List (Option ℕ)) (queues : Queues) → IsKept es arrivals queues → fs ≡ packed es
    → ((s : ℕ) → arrival_of arrivals' s ≡ renumbered (arrival_of arrivals) 0 fs s) → IsKept fs arrivals' queues
kept-packed es fs arrivals arrivals' queues kept is gives = record {
  sessions = λ s a.
      ap (is_holder a) (gives s ∙ ap (λ gs. renumbered (arrival_of arrivals) 0 gs s) is)
      ∙ told-packed es (arrival_of arrivals) kept.sessions s a
      ∙ ap (λ (gs : Entries). is_of s (entry_at gs a)) (sym is);
  queued = λ q. kept.queued q ∙ ap (queue_in q) (sym (ap waiting_in is ∙ waiting-packed es));
}
