-- The laws of daemons: they work at each moment at which their work is due, in rising order, and at no other.
use Rattle.std.specs.Prelude.{◌≡◌, ℕ, ◌<◌, ℤ, ◌<ℤ◌, ◌≤ℤ◌, true, List, [], ◌∷◌, length, Option, Some, None, IfSome, All, Contains, ⊤}
use Rattle.sky_model.specs.declared.daemon.DaemonPart.{DaemonPart}
use Rattle.sky_model.specs.declared.daemon.DaemonPart.TheVariants.{Tick}
use Rattle.sky_model.specs.declared.reply.Reply.TheVariants.{Moment}
use Rattle.sky_model.specs.History.{clock_at, Past}
use Rattle.sky_model.specs.World.{database_names, clock, daemon}
use Rattle.sky_model.specs.Reader.{Reader, by_past, Deed, answers_with, idles, followed}
use Rattle.sky_model.specs.Daemon.{is_due_at, next_due}
use Rattle.sky_model.specs.Moment.{last_moment}
use Rattle.sky_model.specs.Clock.{at_moment, clock_goes}
use Rattle.sky_model.specs.Calls.{Call, past_of}
use Rattle.sky_model.specs.Steps.{IsCallInForm}

-- ---- since when daemons are on

-- each daemon that is on was started at this moment or an earlier one
abbrev pub AreOnSince : ℤ → (ℕ → Option ℤ) → Type 0
AreOnSince now daemons = (database : ℕ) → IfSome (daemons database) (λ start. start ≤ℤ now)

-- after calls in form no daemon was started later than the moment that the clock is at
abbrev pub DaemonsHaveStarted : Type 0
DaemonsHaveStarted = (calls : List Call) → All IsCallInForm calls → AreOnSince (clock (past_of calls)) (daemon (past_of calls))

-- ---- the next moment

-- a part of the daemon of one of so many databases is due at a moment
pub record IsDue (daemons : ℕ → Option ℤ) (n : ℕ) (part : DaemonPart) (moment : ℤ) : Type 0 where
  pub database : ℕ
  pub below : database < n
  pub due : is_due_at moment part (daemons database) ≡ true

-- a moment is the first one after another at which any part is due: ticks are due at it
pub record IsFirstDue (now : ℤ) (daemons : ℕ → Option ℤ) (n : ℕ) (moment : ℤ) : Type 0 where
  pub later : now <ℤ moment
  pub due : IsDue daemons n Tick moment
  pub first : (x : ℤ) (part : DaemonPart) → now <ℤ x → IsDue daemons n part x → moment ≤ℤ x

-- no part is due at any moment
abbrev pub IsNeverDue : (ℕ → Option ℤ) → ℕ → Type 0
IsNeverDue daemons n = (x : ℤ) (part : DaemonPart) → IsDue daemons n part x → ⊥

-- a next moment is the first one, and there is none if no part is ever due
abbrev pub IsNextDue : ℤ → (ℕ → Option ℤ) → ℕ → Option ℤ → Type 0
IsNextDue now daemons n None = IsNeverDue daemons n
IsNextDue now daemons n (Some moment) = IsFirstDue now daemons n moment

abbrev pub NextDueIsFirst : Type 0
NextDueIsFirst = (now : ℤ) (daemons : ℕ → Option ℤ) (n : ℕ) → AreOnSince now daemons → IsNextDue now daemons n (next_due now daemons n)

-- ---- all moments

-- each moment is later than the one before, and the first one than this one
abbrev pub RiseFrom : ℤ → List ℤ → Type 0
RiseFrom now [] = ⊤
RiseFrom now (moment ∷ moments) = (now <ℤ moment) × RiseFrom moment moments

-- the clock is set to each of these moments, one after another, and the daemons that are due at it work
abbrev pub at_moments : {P : Type 0} → Reader P → List ℤ → P → Deed
at_moments r [] p = idles
at_moments r (moment ∷ moments) p = followed r p (at_moments r moments) (at_moment r moment p)

-- the clock moves to a moment: daemons work at these moments, which rise, and then it is set to that one. They are those, up to that moment, at which
-- a part of the daemon of some database is due, and at each of them ticks are
pub record WorksWhenDue (past : Past) (who : ℕ) (to : ℤ) : Type 0 where
  pub moments : List ℤ
  pub goes : clock_goes by_past past who to ≡ followed by_past past (λ p. answers_with who (Moment to) (clock_at to ∷ [])) (at_moments by_past moments past)
  pub rise : RiseFrom (clock past) moments
  pub all_due : (x : ℤ) (part : DaemonPart) → clock past <ℤ x → x ≤ℤ to → IsDue (daemon past) (length (database_names past)) part x → Contains moments x
  pub only_due : (x : ℤ) → Contains moments x → (clock past <ℤ x) × (x ≤ℤ to) × IsDue (daemon past) (length (database_names past)) Tick x

-- so does each `clock` that isn't refused
abbrev pub DaemonsWorkWhenDue : Type 0
DaemonsWorkWhenDue = (calls : List Call) → All IsCallInForm calls → (who : ℕ) (to : ℤ) → clock (past_of calls) ≤ℤ to → to ≤ℤ last_moment → WorksWhenDue (past_of calls) who to
