-- What the statements on rotation do: a queue's event tables are switched in two steps, each in a transaction of its own.
use Rattle.std.specs.Prelude.{ℕ, ℤ, ◌+ℤ◌, int_lt, List, [], ◌∷◌, ◌++◌, true, Option, Some, None, option_map, is_none, filter, length, if◌then◌else◌}
use Rattle.std.specs.Option.{option_or, option_and_then}
use Rattle.sky_model.specs.declared.reply.Reply as reply
use Rattle.sky_model.specs.declared.reply.Reply.TheVariants.{Number}
use Rattle.sky_model.specs.declared.reply.HeldBack as held
use Rattle.sky_model.specs.declared.reply.HeldBack.TheVariants.{Pending, Period, SecondStep, Consumer}
use Rattle.sky_model.specs.declared.reply.HeldBack.TheVariants as held_by
use Rattle.sky_model.specs.History.{Mark, of_worker, began, ended, queued, switching, switched, second_step}
use Rattle.sky_model.specs.Sessions.{Block, outside, inside}
use Rattle.sky_model.specs.Queues.{NamedQueue, is_pending, Tick, tick, newest_tick, is_above}
use Rattle.sky_model.specs.Consumers.{Subscription}
use Rattle.sky_model.specs.State.{Queue, Database}
use Rattle.sky_model.specs.OwnTransaction.{next_id, txid_for, in_own}
use Rattle.sky_model.specs.Outcome.{Outcome, Checked, ◌>>=◌, answers, does_marks}
use Rattle.sky_model.specs.StepQueue.{queue_called}

-- ---- what holds a switch back

-- the moment at which the rotation period of a queue ends
abbrev pub period_ends : Queue → ℤ
period_ends q = q.event_tables.switched_at +ℤ q.config.rotation_period

-- the period isn't over
abbrev pub held_by_period : ℤ → Queue → Option held.HeldBack
held_by_period now q = if int_lt now (period_ends q) then Some (Period (period_ends q)) else None

-- a tick isn't above a transaction: so it doesn't see all that was put before
abbrev pub held_by_tick_of : (Tick → held.HeldBack) → ℕ → Tick → Option held.HeldBack
held_by_tick_of why t tick = if is_above t tick then None else Some (why tick)

-- the position of a consumer isn't
abbrev pub held_by_consumer : ℕ → Queue → List ℕ → Option held.HeldBack
held_by_consumer t q consumer =
    option_and_then (held_by_tick_of (λ at. Consumer consumer at.id at.snapshot.xmin) t)
    (option_and_then (λ (sub : Subscription). tick sub.position q.tick_list) (q.sub consumer))

-- that of the first such consumer of some
abbrev pub held_by_consumers : ℕ → Queue → List (List ℕ) → Option held.HeldBack
held_by_consumers t q [] = None
held_by_consumers t q (consumer ∷ consumers) = option_or (held_by_consumer t q consumer) (held_by_consumers t q consumers)

-- the newest tick isn't
abbrev pub held_by_newest : ℕ → Queue → Option held.HeldBack
held_by_newest t q = option_and_then (held_by_tick_of (λ newest. held_by.Tick newest.id newest.snapshot.xmin) t) (newest_tick q.tick_list)

-- the second step of the last switch is missing; or, of the consumers in the order of registering, the position of one isn't above it; or the newest
-- tick isn't
abbrev pub held_by_second_step : Queue → Option ℕ → Option held.HeldBack
held_by_second_step q None = Some (SecondStep q.event_tables.first_step)
held_by_second_step q (Some t) = option_or (held_by_consumers t q q.members) (held_by_newest t q)

-- what holds a switch of a queue back, the first that does: one that is pending, the period, or what the last switch needs
abbrev pub held_back : ℤ → Queue → Option held.HeldBack
held_back now q =
    option_or (option_map Pending q.event_tables.pending) (option_or (held_by_period now q) (held_by_second_step q q.event_tables.second_step))

-- ---- the first step

-- a switch is pending, and outside a block it is made at once, as its transaction commits at once
abbrev pub switch_of : ℕ → ℕ → ℤ → Block → List Mark
switch_of queue t now outside = queued (switching queue t) ∷ queued (switched queue now) ∷ []
switch_of queue t now _ = queued (switching queue t) ∷ []

-- `maint_rotate_step1 NAME`, unless something holds it back
abbrev pub rotates : Database → ℤ → ℕ → ℕ → Option held.HeldBack → Checked Outcome
rotates d now who queue (Some why) = answers (reply.TheVariants.HeldBack why)
rotates d now who queue None = do
  t ← txid_for d.part who
  does_marks (Number 1) (in_own who t (d.part.session who) (switch_of queue t now (d.part.session who).block))

abbrev pub maint_rotate_step1 : Database → ℤ → ℕ → List ℕ → Checked Outcome
maint_rotate_step1 d now who name = do
  queue ← queue_called name d
  rotates d now who queue (held_back now (d.queue queue))

-- the same by a daemon, in a worker's transaction
abbrev pub rotates_alone : Database → ℤ → ℕ → Option held.HeldBack → Checked Outcome
rotates_alone d now queue (Some why) = answers (reply.TheVariants.HeldBack why)
rotates_alone d now queue None = do
  t ← next_id d.part
  does_marks (Number 1) (began of_worker t ∷ queued (switching queue t) ∷ queued (switched queue now) ∷ ended of_worker t true ∷ [])

abbrev pub rotates_by_itself : Database → ℤ → ℕ → Checked Outcome
rotates_by_itself d now queue = rotates_alone d now queue (held_back now (d.queue queue))

-- ---- the second step

-- the queues whose last switch lacks its second step
abbrev pub lack_second_step : Database → List NamedQueue
lack_second_step d = filter (λ q. is_none (d.queue q.number).event_tables.second_step) d.queues

-- a worker's transaction makes it for each
abbrev pub second_steps : ℕ → List NamedQueue → List Mark
second_steps t [] = []
second_steps t (q ∷ queues) = queued (second_step q.number t) ∷ second_steps t queues

abbrev pub ends_switches : Database → List NamedQueue → Checked Outcome
ends_switches d [] = answers (Number 0)
ends_switches d (q ∷ queues) = do
  t ← next_id d.part
  does_marks (Number (length (q ∷ queues))) (began of_worker t ∷ second_steps t (q ∷ queues) ++ ended of_worker t true ∷ [])

-- `maint_rotate_step2`
abbrev pub maint_rotate_step2 : Database → Checked Outcome
maint_rotate_step2 d = ends_switches d (lack_second_step d)

-- ---- a commit makes the switches that its transaction has pending

-- those of the queues that exist, in the order of making
abbrev pub switches_by : Database → ℤ → ℕ → List NamedQueue → List Mark
switches_by d now t [] = []
switches_by d now t (q ∷ queues) =
    if is_pending t (d.queue q.number).event_tables then queued (switched q.number now) ∷ switches_by d now t queues else switches_by d now t queues

-- the transaction of a session's block that `commit` makes permanent, if it has an id
abbrev pub committed_by : Block → Option ℕ → Option ℕ
committed_by inside txid = txid
committed_by block txid = None

abbrev pub switches_of : Database → ℤ → Option ℕ → List Mark
switches_of d now None = []
switches_of d now (Some t) = switches_by d now t d.queues
