-- What `clock` does in the world: the clock moves from one moment to the next at which a daemon is due, and then to its new moment.
use Rattle.std.specs.Prelude.{ℕ, zero, suc, ◌+◌, ℤ, ◌+ℤ◌, ◌-ℤ◌, int_lt, unsigned_abs, Bool, true, false, if◌then◌else◌, List, [], ◌∷◌, ◌++◌, map, length, Option, Some, None}
use Rattle.sky_keys.specs.Waits.{is_waiting}
use Rattle.sky_model.specs.declared.daemon.DaemonPart.{DaemonPart}
use Rattle.sky_model.specs.declared.daemon.DaemonPart.TheVariants.{Tick, Retry, Maintain}
use Rattle.sky_model.specs.declared.reply.Reply.TheVariants.{Moment}
use Rattle.sky_model.specs.declared.reply.Refusal.TheVariants.{Busy, ClockSpent}
use Rattle.sky_model.specs.History.{Fact, within, clock_at}
use Rattle.sky_model.specs.Moment.{last_moment}
use Rattle.sky_model.specs.Settling.{Turn}
use Rattle.sky_model.specs.World.{World}
use Rattle.sky_model.specs.Reader.{Reader, within_database, Deed, answers_with, refuses, idles, followed}
use Rattle.sky_model.specs.Daemon.{daemon_does, is_due_at, next_due}

-- what is done in a database, and what this changes in the world
abbrev pub deed_in : ℕ → List Fact → Turn → Deed
deed_in d facts turn = record { answers = turn.answers; facts = map (within d) turn.marks ++ facts }

-- a part of a database's daemon, if it is due
abbrev pub part_works : {P : Type 0} → Reader P → ℕ → DaemonPart → P → Deed
part_works r d part p =
    if is_due_at (r.world p).now part ((r.world p).daemons d) then deed_in d [] (daemon_does (within_database r d) p part (r.world p).now)
    else idles

-- all parts, one after another
abbrev pub daemon_works : {P : Type 0} → Reader P → ℕ → P → Deed
daemon_works r d p = followed r p (λ q. followed r q (part_works r d Maintain) (part_works r d Retry q)) (part_works r d Tick p)

-- the daemons of so many databases from one on, in the order of making
abbrev pub daemons_work : {P : Type 0} → Reader P → ℕ → ℕ → P → Deed
daemons_work r zero d p = idles
daemons_work r (suc n) d p = followed r p (daemons_work r n (d + 1)) (daemon_works r d p)

-- the clock is set to a moment, and the daemons that are due work
abbrev pub at_moment : {P : Type 0} → Reader P → ℤ → P → Deed
at_moment r moment p =
    followed r p (λ q. daemons_work r (length (r.world q).databases) 0 q) (record { answers = []; facts = clock_at moment ∷ [] })

-- the same at the next moment at which one is due, if that isn't after the last, and then at those that follow
abbrev pub goes_to : {P : Type 0} → Reader P → ℤ → (P → Deed) → P → Option ℤ → Deed
goes_to r last rest p None = idles
goes_to r last rest p (Some moment) = if int_lt last moment then idles else followed r p rest (at_moment r moment p)

-- at each of so many moments
abbrev pub through : {P : Type 0} → Reader P → ℤ → ℕ → P → Deed
through r last zero p = idles
through r last (suc n) p = goes_to r last (through r last n) p (next_due (r.world p).now (r.world p).daemons (length (r.world p).databases))

-- the clock moves to a moment: there are at most as many moments before it at which a daemon is due as there are microseconds
abbrev pub clock_goes : {P : Type 0} → Reader P → P → ℕ → ℤ → Deed
clock_goes r p who to =
    if int_lt last_moment to then refuses who ClockSpent
    else followed r p (λ q. answers_with who (Moment to) (clock_at to ∷ [])) (through r to (unsigned_abs (to -ℤ (r.world p).now)) p)

-- `clock +INTERVAL` of a session that waits or doesn't
abbrev pub clock : {P : Type 0} → Reader P → P → ℕ → ℤ → Bool → Deed
clock r p who time true = refuses who Busy
clock r p who time false = clock_goes r p who ((r.world p).now +ℤ time)

-- whether a session waits in the database that it has open
abbrev pub waits_at : World → ℕ → Option ℕ → Bool
waits_at w who None = false
waits_at w who (Some d) = is_waiting who (w.database d).part.waiting
