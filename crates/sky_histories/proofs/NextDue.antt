-- The next moment at which a daemon is due is the first one.
use Rattle.std.proofs.Common.{◌≡◌, ◌⊎◌, inl, inr, ℕ, zero, suc, ◌+◌, ◌*◌, ◌/◌, ◌%◌, ◌<◌, ◌≤◌, ℤ, pos, ◌+ℤ◌, ◌-ℤ◌, ◌<ℤ◌, ◌≤ℤ◌, int_lt, unsigned_abs, Bool, true, false, ◌&&◌, ◌==◌, Option, Some, None, IfSome, option_map, refl, ◌∙◌, ap, subst, arith, if◌then◌else◌}
use Rattle.std.proofs.lemmas.Int.{ints}
use Rattle.std.proofs.lemmas.Bool.{eqb-true}
use Rattle.sky_model.specs.declared.daemon.DaemonPart.{DaemonPart}
use Rattle.sky_model.specs.declared.daemon.DaemonPart.TheVariants.{Tick, Retry, Maintain}
use Rattle.sky_model.specs.World.{daemon}
use Rattle.sky_model.specs.Daemon.{period, is_due_at, first_after, earlier, next_due}
use Rattle.sky_model.specs.LawsOfDaemons.{IsDue, IsFirstDue, IsNextDue, NextDueIsFirst}

-- ---- one daemon

right-and : (a b : Bool) → (a && b) ≡ true → b ≡ true
right-and true b is = is
right-and false b is = absurd (cc)

both-and : (a b : Bool) → a ≡ true → b ≡ true → (a && b) ≡ true
both-and true b is also = also
both-and false b is also = is

lt-test : (a b : ℤ) → a <ℤ b → int_lt a b ≡ true
lt-test a b lt = by (int_lt a b) refl
  where
    by : (t : Bool) → int_lt a b ≡ t → t ≡ true
    by true e = refl
    by false e = absurd (omega (arith, ints, e, lt))

-- a whole number of periods of any part is one of those of ticks
whole-periods : (part : DaemonPart) (n : ℕ) → n % period part ≡ 0 → n % 1_000_000 ≡ 0
whole-periods Tick n is = is
whole-periods Retry n is = omega (arith, is)
whole-periods Maintain n is = omega (arith, is)

-- the next one after some is the first
next-whole : (m n : ℕ) → n % 1_000_000 ≡ 0 → m < n → (m / 1_000_000 + 1) * 1_000_000 ≤ n
next-whole m n is lt = omega (arith, is, lt)

abs-of : (start : ℤ) (n : ℕ) → unsigned_abs (start +ℤ pos n -ℤ start) ≡ n
abs-of start n = omega (arith, ints)

whole-test : (n : ℕ) → ((n + 1) * 1_000_000 % 1_000_000 == 0) ≡ true
whole-test n =
    let is : (n + 1) * 1_000_000 % 1_000_000 ≡ 0 = omega arith in
    ap (λ m. m == 0) is

first-later : (now start : ℤ) → start ≤ℤ now → now <ℤ first_after now start
first-later now start le = omega (arith, ints, le)

first-due : (now start : ℤ) → is_due_at (first_after now start) Tick (Some start) ≡ true
first-due now start =
    let n : ℕ = unsigned_abs (now -ℤ start) / 1_000_000 in
    both-and _ _ (lt-test start (start +ℤ pos ((n + 1) * 1_000_000)) (omega (arith, ints)))
    (ap (λ m. m % 1_000_000 == 0) (abs-of start ((n + 1) * 1_000_000)) ∙ whole-test n)

first-first : (now start x : ℤ) (part : DaemonPart) → start ≤ℤ now → now <ℤ x → is_due_at x part (Some start) ≡ true → first_after now start ≤ℤ x
first-first now start x part le lt due =
    let n : ℕ = unsigned_abs (x -ℤ start) in
    let is : n % 1_000_000 ≡ 0 = whole-periods part n (eqb-true _ _ (right-and (int_lt start x) _ due)) in
    let more : unsigned_abs (now -ℤ start) < n = omega (arith, ints, le, lt) in
    let least : (unsigned_abs (now -ℤ start) / 1_000_000 + 1) * 1_000_000 ≤ n = next-whole (unsigned_abs (now -ℤ start)) n is more in
    omega (arith, ints, le, lt, least)

-- ---- the daemons of the first databases

-- what is due of fewer is due of more
due-more : (daemons : ℕ → Option ℤ) (n : ℕ) (part : DaemonPart) (x : ℤ) → IsDue daemons n part x → IsDue daemons (suc n) part x
due-more daemons n part x is = record { database = is.database; below = omega (arith, is.below); due = is.due }

-- and what is due of one more is due of those before, or of the last
due-split : (daemons : ℕ → Option ℤ) (n : ℕ) (part : DaemonPart) (x : ℤ) → IsDue daemons (suc n) part x → IsDue daemons n part x ⊎ (is_due_at x part (daemons n) ≡ true)
due-split daemons n part x is = by (is.database == n) refl
  where
    by : (b : Bool) → (is.database == n) ≡ b → IsDue daemons n part x ⊎ (is_due_at x part (daemons n) ≡ true)
    by true e = inr (subst (λ d. is_due_at x part (daemons d) ≡ true) (eqb-true is.database n e) is.due)
    by false e = inl (record { database = is.database; below = grind (arith, is.below, e); due = is.due })

-- the first moment, with one more daemon
abbrev IsFirstOf : ℤ → Option ℤ → Option ℤ → Type 0
IsFirstOf now daemon None = (x : ℤ) (part : DaemonPart) → is_due_at x part daemon ≡ true → ⊥
IsFirstOf now daemon (Some moment) = (now <ℤ moment) × (is_due_at moment Tick daemon ≡ true) × ((x : ℤ) (part : DaemonPart) → now <ℤ x → is_due_at x part daemon ≡ true → moment ≤ℤ x)

first-of : (now : ℤ) (daemon : Option ℤ) → IfSome daemon (λ start. start ≤ℤ now) → IsFirstOf now daemon (option_map (first_after now) daemon)
first-of now None le = λ x part due. absurd (cc)
first-of now (Some start) le = (first-later now start le, first-due now start, λ x part lt due. first-first now start x part le lt due)

-- the earlier of two first moments is the first of both
first-earlier : (now : ℤ) (daemons : ℕ → Option ℤ) (n : ℕ) (a b : Option ℤ) → IsNextDue now daemons n a → IsFirstOf now (daemons n) b → IsNextDue now daemons (suc n) (earlier a b)
first-earlier now daemons n None None none never = λ x part is. elim (due-split daemons n part x is) [
  | inl before ↦ none x part before
  | inr last ↦ never x part last
]
first-earlier now daemons n None (Some moment) none first = record {
  later = first.0;
  due = record { database = n; below = omega arith; due = first.1 };
  first = λ x part lt is. elim (due-split daemons n part x is) [
    | inl before ↦ absurd (none x part before)
    | inr last ↦ first.2 x part lt last
  ];
}
first-earlier now daemons n (Some moment) None first never = record {
  later = first.later;
  due = due-more daemons n Tick moment first.due;
  first = λ x part lt is. elim (due-split daemons n part x is) [
    | inl before ↦ first.first x part lt before
    | inr last ↦ absurd (never x part last)
  ];
}
first-earlier now daemons n (Some moment) (Some other) first last = by (int_lt other moment) refl
  where
    at_most : (m : ℤ) → m ≤ℤ moment → m ≤ℤ other → (x : ℤ) (part : DaemonPart) → now <ℤ x → IsDue daemons (suc n) part x → m ≤ℤ x
    at_most m le also x part lt is = elim (due-split daemons n part x is) [
      | inl before ↦ (let than : moment ≤ℤ x = first.first x part lt before in omega (arith, ints, le, than))
      | inr here ↦ (let than : other ≤ℤ x = last.2 x part lt here in omega (arith, ints, also, than))
    ]

    by : (b : Bool) → int_lt other moment ≡ b → IsFirstDue now daemons (suc n) (if b then other else moment)
    by true e = record {
      later = last.0;
      due = record { database = n; below = omega arith; due = last.1 };
      first = at_most other (omega (arith, ints, e)) (omega (arith, ints));
    }
    by false e = record {
      later = first.later;
      due = due-more daemons n Tick moment first.due;
      first = at_most moment (omega (arith, ints)) (omega (arith, ints, e));
    }

pub next_due_is_first : NextDueIsFirst
next_due_is_first now daemons zero since = λ x part is. absurd (omega (arith, is.below))
next_due_is_first now daemons (suc n) since =
    first-earlier now daemons n (next_due now daemons n) (option_map (first_after now) (daemons n)) (next_due_is_first now daemons n since) (first-of now (daemons n) (since n))
