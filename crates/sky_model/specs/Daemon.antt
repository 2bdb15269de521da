-- What the daemon of a database does, and at which moments.
use Rattle.std.specs.Prelude.{ℕ, zero, suc, nat_le, length, true, ◌+◌, ◌*◌, ◌/◌, ◌%◌, ◌==◌, ◌&&◌, ℤ, pos, ◌+ℤ◌, ◌-ℤ◌, int_lt, unsigned_abs, Bool, false, if◌then◌else◌, List, [], ◌∷◌, Option, Some, None, option_map}
use Rattle.sky_model.specs.declared.daemon.DaemonPart.{DaemonPart}
use Rattle.sky_model.specs.declared.daemon.DaemonPart.TheVariants.{Tick, Retry, Maintain}
use Rattle.sky_model.specs.Queues.{NamedQueue}
use Rattle.sky_model.specs.declared.reply.Reply.{Reply}
use Rattle.sky_model.specs.declared.reply.Reply.TheVariants.{Number}
use Rattle.sky_model.specs.Outcome.{Outcome, Checked, reply_of, marks_of}
use Rattle.sky_model.specs.StepRetry.{most_back, maint_retry_events}
use Rattle.sky_model.specs.Reader.{DatabaseReader, within_part}
use Rattle.sky_model.specs.Settling.{Turn, rests, and_then}
use Rattle.sky_model.specs.StepQueue.{next_tick}
use Rattle.sky_model.specs.StepRotation.{rotates_by_itself, maint_rotate_step2}

-- what is done unless it is refused, without an answer
abbrev pub quietly : Checked Outcome → Turn
quietly c = record { answers = []; marks = marks_of c }

-- the tick that is due of each of these queues, one after another
abbrev pub ticks_of : {P : Type 0} → DatabaseReader P → ℤ → List NamedQueue → P → Turn
ticks_of r now [] p = rests
ticks_of r now (q ∷ queues) p = and_then (within_part r now) p (quietly (next_tick (r.database p) now q.number)) (ticks_of r now queues)

-- how many events a call of `maint_retry_events` moves: the number that it answers, or none if it is refused
abbrev pub moved_by : Reply → ℕ
moved_by (Number n) = n
moved_by _ = 0

-- what follows is done if a test holds
abbrev pub again_if : {P : Type 0} → Bool → (P → Turn) → P → Turn
again_if true rest p = rest p
again_if false rest p = rests

-- `maint_retry_events`, again until it moves fewer events than it may, and at most so many times
abbrev pub retries_of : {P : Type 0} → DatabaseReader P → ℤ → ℕ → P → Turn
retries_of r now zero p = rests
retries_of r now (suc n) p =
    let c : Checked Outcome = maint_retry_events (r.database p) now in
    and_then (within_part r now) p (quietly c) (again_if (nat_le most_back (moved_by (reply_of c))) (retries_of r now n))

-- the first step of the rotation of each of these queues, one after another
abbrev pub first_steps_of : {P : Type 0} → DatabaseReader P → ℤ → List NamedQueue → P → Turn
first_steps_of r now [] p = rests
first_steps_of r now (q ∷ queues) p = and_then (within_part r now) p (quietly (rotates_by_itself (r.database p) now q.number)) (first_steps_of r now queues)

-- the second step
abbrev pub second_step_of_all : {P : Type 0} → DatabaseReader P → P → Turn
second_step_of_all r p = quietly (maint_rotate_step2 (r.database p))

-- what a part of the daemon of a database does: it makes the ticks of its queues, in the order of making; it moves events that are due to be retried,
-- not more often than there are such that wait; it makes the first step of the rotation of each queue, in the order of making, and then the second
abbrev pub daemon_does : {P : Type 0} → DatabaseReader P → P → DaemonPart → ℤ → Turn
daemon_does r p Tick now = ticks_of r now (r.database p).queues p
daemon_does r p Retry now = retries_of r now (length (r.database p).retries) p
daemon_does r p Maintain now = and_then (within_part r now) p (first_steps_of r now (r.database p).queues p) (second_step_of_all r)

-- the time from one turn of a part to the next: a second, half a minute, two minutes
abbrev pub period : DaemonPart → ℕ
period Tick = 1_000_000
period Retry = 30_000_000
period Maintain = 120_000_000

-- a part of a daemon is due at a moment: a whole number of its periods after the one at which the daemon was started
abbrev pub is_due_at : ℤ → DaemonPart → Option ℤ → Bool
is_due_at now part None = false
is_due_at now part (Some start) = int_lt start now && unsigned_abs (now -ℤ start) % period part == 0

-- the first moment after this one at which a daemon is due that was started no later than at this one: other parts are due only when ticks are
abbrev pub first_after : ℤ → ℤ → ℤ
first_after now start = start +ℤ pos ((unsigned_abs (now -ℤ start) / period Tick + 1) * period Tick)

-- the earlier of two moments, of which there may be none
abbrev pub earlier : Option ℤ → Option ℤ → Option ℤ
earlier None other = other
earlier (Some moment) None = Some moment
earlier (Some moment) (Some other) = Some (if int_lt other moment then other else moment)

-- the first moment after one at which the daemon of one of so many databases is due
abbrev pub next_due : ℤ → (ℕ → Option ℤ) → ℕ → Option ℤ
next_due now daemons zero = None
next_due now daemons (suc n) = earlier (next_due now daemons n) (option_map (first_after now) (daemons n))
