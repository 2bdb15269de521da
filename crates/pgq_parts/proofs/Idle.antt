-- Where nothing is to be done at a moment, the daemon does nothing at it, nor before it.
use Rattle.std.proofs.Common.{◌≡◌, ℕ, zero, suc, ℤ, pos, ◌-ℤ◌, ◌*ℤ◌, ◌≤ℤ◌, ◌-◌, ◌<◌, int_lt, nat_le, nat_lt, Bool, true, false, not, ◌&&◌, ◌||◌, ◌==◌, is_some, List, [], ◌∷◌, ◌++◌, length, take, drop, filter, slice_index_or, Option, Some, None, option_map, refl, ◌∙◌, ap, arith, if◌then◌else◌}
use Rattle.std.specs.Option.{option_or}
use Rattle.std.specs.Prelude.{int_le}
use Rattle.std.specs.List.{list_all}
use Rattle.std.proofs.lemmas.Int.{ints}
use Rattle.std.proofs.lemmas.Bool.{eqb-true}
use Rattle.pgq_retry.specs.declared.retry.Retry as retry
use Rattle.pgq_retry.specs.Retries as retries
use Rattle.pgq_retry.specs.Retries.{by_due, due_now}
use Rattle.sky_model.specs.declared.daemon.DaemonPart.TheVariants.{Tick, Retry, Maintain}
use Rattle.sky_model.specs.declared.reply.HeldBack.{HeldBack}
use Rattle.sky_model.specs.declared.reply.HeldBack.TheVariants.{Pending, Period}
use Rattle.sky_model.specs.History.{Mark}
use Rattle.sky_model.specs.Config.{Config}
use Rattle.sky_model.specs.Queues as model
use Rattle.sky_model.specs.Queues.{NamedQueue}
use Rattle.sky_model.specs.State.{Queue, Database}
use Rattle.sky_model.specs.Outcome.{Outcome, Checked, reply_of, answers}
use Rattle.sky_model.specs.declared.reply.Reply.TheVariants.{Null}
use Rattle.sky_model.specs.StepQueue.{is_idle_due, is_due_after, last_two, due_of, is_due, next_tick}
use Rattle.sky_model.specs.StepRetry.{brings, most_back}
use Rattle.sky_model.specs.StepRotation.{period_ends, held_by_second_step, held_back, rotates_alone, rotates_by_itself, lack_second_step, ends_switches}
use Rattle.sky_model.specs.Reader.{PartReader, database_by_itself, within_part}
use Rattle.sky_model.specs.Settling.{Turn, behind_marks, and_then}
use Rattle.sky_model.specs.Daemon.{quietly, ticks_of, moved_by, again_if, retries_of, first_steps_of, second_step_of_all}
use Rattle.pgq_queues.specs.Views.{QueuesView}
use Rattle.pgq_queues.specs.Seen.{Beside, seen_with, queue_at, unnamed}
use Rattle.sky_store.specs.Idle.{queue_idles, all_idle, idles_at, IsIdleUntil}

-- ---- tests

left-and : (a b : Bool) → (a && b) ≡ true → a ≡ true
left-and true b is = refl
left-and false b is = absurd (cc)

right-and : (a b : Bool) → (a && b) ≡ true → b ≡ true
right-and true b is = is
right-and false b is = absurd (cc)

not-so : (a : Bool) → not a ≡ true → a ≡ false
not-so true is = absurd (cc)
not-so false is = refl

-- what is below a bound at a moment is below it before
below-before : (a b c : ℤ) → a ≤ℤ b → int_lt b c ≡ true → int_lt a c ≡ true
below-before a b c le below = by (int_lt a c) refl
  where
    by : (t : Bool) → int_lt a c ≡ t → t ≡ true
    by true e = refl
    by false e = absurd (omega (arith, ints, e, below, le))

-- ---- ticks

-- with new events
few-before : (few late earlier : Bool) → (late ≡ true → earlier ≡ true) → not (few && late) ≡ false → not (few && earlier) ≡ false
few-before true true earlier before is = ap not (before refl)
few-before true false earlier before is = absurd (cc)
few-before false late earlier before is = absurd (cc)

-- without any
idle-before : (a b c early steady short : Bool) → (a ≡ true → early ≡ true) → (b ≡ true → steady ≡ true) → (c ≡ true → short ≡ true) → not (a || (b && c)) ≡ false → not (early || (steady && short)) ≡ false
idle-before true b c early steady short one two three is = ap (λ t. not (t || (steady && short))) (one refl)
idle-before false true true early steady short one two three is = (λ i. not (early || (two refl i && three refl i))) ∙ of early
  where
    of : (t : Bool) → not (t || true) ≡ false
    of true = refl
    of false = refl
idle-before false true false early steady short one two three is = absurd (cc)
idle-before false false c early steady short one two three is = absurd (cc)

after-before : (config : Config) (earlier moment : ℤ) (seq : ℕ) (last : model.Tick) (before : Option model.Tick) → earlier ≤ℤ moment → is_due_after config moment seq last before ≡ false → is_due_after config earlier seq last before ≡ false
after-before config earlier moment seq last before le = by (nat_lt last.seq seq) before
  where
    lag : (earlier -ℤ last.time) ≤ℤ (moment -ℤ last.time)
    lag = omega (arith, ints, le)

    twice : (pos 2 *ℤ (earlier -ℤ last.time)) ≤ℤ (pos 2 *ℤ (moment -ℤ last.time))
    twice = omega (arith, ints, le)

    idle : (before : Option model.Tick) → is_idle_due config (moment -ℤ last.time) last before ≡ false → is_idle_due config (earlier -ℤ last.time) last before ≡ false
    idle None is = absurd (cc)
    idle (Some before) is =
        idle-before (int_lt (pos 2 *ℤ (moment -ℤ last.time)) config.max_lag) (int_lt (moment -ℤ last.time) (pos 2 *ℤ (last.time -ℤ before.time))) (int_lt (moment -ℤ last.time) config.idle_period) _ _ _
        (below-before _ _ config.max_lag twice) (below-before _ _ (pos 2 *ℤ (last.time -ℤ before.time)) lag) (below-before _ _ config.idle_period lag) is

    by : (new : Bool) (before : Option model.Tick)
        → (if new then not (nat_lt (seq - last.seq) config.max_count && int_lt (moment -ℤ last.time) config.max_lag) else is_idle_due config (moment -ℤ last.time) last before) ≡ false
        → (if new then not (nat_lt (seq - last.seq) config.max_count && int_lt (earlier -ℤ last.time) config.max_lag) else is_idle_due config (earlier -ℤ last.time) last before) ≡ false
    by true before is = few-before (nat_lt (seq - last.seq) config.max_count) (int_lt (moment -ℤ last.time) config.max_lag) _ (below-before _ _ config.max_lag lag) is
    by false before is = idle before is

due-before : (config : Config) (earlier moment : ℤ) (seq : ℕ) (two : Option (model.Tick × Option model.Tick)) → earlier ≤ℤ moment → due_of config moment seq two ≡ false → due_of config earlier seq two ≡ false
due-before config earlier moment seq None le = λ is. refl
due-before config earlier moment seq (Some (last, before)) le = by config.paused
  where
    by : (paused : Bool) → (not paused && is_due_after config moment seq last before) ≡ false → (not paused && is_due_after config earlier seq last before) ≡ false
    by true is = refl
    by false is = after-before config earlier moment seq last before le is

-- a tick that isn't due
tick-none : (due : Bool) (checked : Checked Outcome) → due ≡ false → (quietly (if due then checked else answers Null)).marks ≡ []
tick-none true checked free = absurd (cc)
tick-none false checked free = refl

-- ---- turns

-- one that does nothing, and then another that doesn't
and-none : {P : Type 0} (r : PartReader P) (p : P) (turn : Turn) (rest : P → Turn) → turn.marks ≡ [] → (rest p).marks ≡ [] → (and_then r p turn rest).marks ≡ []
and-none r p turn rest none also = ap (λ (marks : List Mark). marks ++ (rest (behind_marks r p marks)).marks) none ∙ also

ticks-none : (d : Database) (earlier moment : ℤ) (queues : List NamedQueue) → earlier ≤ℤ moment → all_idle moment d queues ≡ true → (ticks_of database_by_itself earlier queues d).marks ≡ []
ticks-none d earlier moment [] le idle = refl
ticks-none d earlier moment (q ∷ queues) le idle =
    let here : queue_idles moment (d.queue q.number) ≡ true = left-and _ _ idle in
    let free : is_due moment (d.queue q.number) ≡ false = not-so _ (left-and _ _ here) in
    and-none (within_part database_by_itself earlier) d (quietly (next_tick d earlier q.number)) (ticks_of database_by_itself earlier queues)
    (tick-none (is_due earlier (d.queue q.number)) _ (due-before (d.queue q.number).config earlier moment (d.queue q.number).seq (last_two None (d.queue q.number).tick_list) le free))
    (ticks-none d earlier moment queues le (right-and _ _ idle))

-- ---- rotation

period-before : (why : HeldBack) (rest : Option HeldBack) (later before : Bool) → (later ≡ true → before ≡ true) → is_some (option_or (if later then Some why else None) rest) ≡ true
    → is_some (option_or (if before then Some why else None) rest) ≡ true
period-before why rest true before also is = ap (λ b. is_some (option_or (if b then Some why else None) rest)) (also refl)
period-before why rest false true also is = refl
period-before why rest false false also is = is

held-before : (q : Queue) (earlier moment : ℤ) → earlier ≤ℤ moment → is_some (held_back moment q) ≡ true → is_some (held_back earlier q) ≡ true
held-before q earlier moment le = by q.event_tables.pending
  where
    rest : Option HeldBack
    rest = held_by_second_step q q.event_tables.second_step

    by : (pending : Option ℕ) → is_some (option_or (option_map Pending pending) (option_or (if int_lt moment (period_ends q) then Some (Period (period_ends q)) else None) rest)) ≡ true
        → is_some (option_or (option_map Pending pending) (option_or (if int_lt earlier (period_ends q) then Some (Period (period_ends q)) else None) rest)) ≡ true
    by (Some t) is = refl
    by None is = period-before (Period (period_ends q)) rest (int_lt moment (period_ends q)) (int_lt earlier (period_ends q)) (below-before earlier moment (period_ends q) le) is

rotates-none : (d : Database) (now : ℤ) (queue : ℕ) (why : Option HeldBack) → is_some why ≡ true → (quietly (rotates_alone d now queue why)).marks ≡ []
rotates-none d now queue None held = absurd (cc)
rotates-none d now queue (Some why) held = refl

steps-none : (d : Database) (earlier moment : ℤ) (queues : List NamedQueue) → earlier ≤ℤ moment → all_idle moment d queues ≡ true → (first_steps_of database_by_itself earlier queues d).marks ≡ []
steps-none d earlier moment [] le idle = refl
steps-none d earlier moment (q ∷ queues) le idle =
    let here : queue_idles moment (d.queue q.number) ≡ true = left-and _ _ idle in
    let held : is_some (held_back moment (d.queue q.number)) ≡ true = right-and _ _ here in
    and-none (within_part database_by_itself earlier) d (quietly (rotates_by_itself d earlier q.number)) (first_steps_of database_by_itself earlier queues)
    (rotates-none d earlier q.number (held_back earlier (d.queue q.number)) (held-before (d.queue q.number) earlier moment le held))
    (steps-none d earlier moment queues le (right-and _ _ idle))

ends-none : (d : Database) (queues : List NamedQueue) → (length queues == 0) ≡ true → (quietly (ends_switches d queues)).marks ≡ []
ends-none d [] none = refl
ends-none d (q ∷ queues) none = let more : suc (length queues) ≡ 0 = eqb-true _ _ none in absurd (omega (arith, more))

-- ---- retries

-- of none that is due none was due before
back-none : (earlier moment : ℤ) (rs : List retry.Retry) → earlier ≤ℤ moment → filter (retries.is_due moment) rs ≡ [] → filter (retries.is_due earlier) rs ≡ []
back-none earlier moment [] le none = refl
back-none earlier moment (r ∷ rs) le none = by (int_le r.due moment) (int_le r.due earlier) refl refl none (back-none earlier moment rs le)
  where
    by : (later before : Bool) → int_le r.due moment ≡ later → int_le r.due earlier ≡ before
        → (if later then r ∷ filter (retries.is_due moment) rs else filter (retries.is_due moment) rs) ≡ []
        → (filter (retries.is_due moment) rs ≡ [] → filter (retries.is_due earlier) rs ≡ [])
        → (if before then r ∷ filter (retries.is_due earlier) rs else filter (retries.is_due earlier) rs) ≡ []
    by true before e f none rest = absurd (cc)
    by false true e f none rest = absurd (omega (arith, ints, e, f, le))
    by false false e f none rest = rest none

taken-none : (rs : List retry.Retry) → (length (take most_back rs) == 0) ≡ true → rs ≡ []
taken-none [] none = refl
taken-none (r ∷ rs) none = let more : suc (length (take 9 rs)) ≡ 0 = eqb-true _ _ none in absurd (omega (arith, more))

due-none : (earlier moment : ℤ) (rs : List retry.Retry) → earlier ≤ℤ moment → (length (due_now moment most_back rs) == 0) ≡ true → due_now earlier most_back rs ≡ []
due-none earlier moment rs le none = ap (take most_back) (back-none earlier moment (by_due rs) le (taken-none (filter (retries.is_due moment) (by_due rs)) none))

retries-none : (d : Database) (now : ℤ) (n : ℕ) → due_now now most_back d.retries ≡ [] → (retries_of database_by_itself now n d).marks ≡ []
retries-none d now zero none = refl
retries-none d now (suc n) none =
    ap (λ rs. marks_in (and_then (within_part database_by_itself now) d (quietly (brings d now rs)) (again_if (nat_le most_back (moved_by (reply_of (brings d now rs)))) (retries_of database_by_itself now n)))) none
  where
    marks_in : Turn → List Mark
    marks_in turn = turn.marks

-- ---- the daemon

pub idle-until : (d : Database) (moment : ℤ) → idles_at moment d ≡ true → IsIdleUntil moment d
idle-until d moment idle Tick earlier le = ticks-none d earlier moment d.queues le (left-and _ _ idle)
idle-until d moment idle Retry earlier le = retries-none d earlier (length d.retries) (due-none earlier moment d.retries le (right-and _ _ (right-and (all_idle moment d d.queues) _ idle)))
idle-until d moment idle Maintain earlier le =
    and-none (within_part database_by_itself earlier) d (first_steps_of database_by_itself earlier d.queues d) (second_step_of_all database_by_itself)
    (steps-none d earlier moment d.queues le (left-and _ _ idle)) (ends-none d (lack_second_step d) (left-and _ _ (right-and (all_idle moment d d.queues) _ idle)))

-- ---- over the queues alone

pub idle-all : (beside : Beside) (q : QueuesView) (moment : ℤ) (queues : List NamedQueue) → list_all (λ (n : NamedQueue). queue_idles moment (queue_at q n.number)) queues ≡ all_idle moment (seen_with beside q) queues
idle-all beside q moment [] = refl
idle-all beside q moment (n ∷ queues) = ap (λ rest. queue_idles moment (queue_at q n.number) && rest) (idle-all beside q moment queues)

-- a queue that isn't idle, at a place
pub not-idle-at : (f : NamedQueue → Bool) (queues : List NamedQueue) (place : ℕ) → place < length queues → f (slice_index_or queues place unnamed) ≡ false → list_all f (drop place queues) ≡ false
not-idle-at f [] place lt isnt = absurd (omega (arith, lt))
not-idle-at f (q ∷ queues) zero lt isnt = ap (λ b. b && list_all f queues) isnt
not-idle-at f (q ∷ queues) (suc n) lt isnt = not-idle-at f queues n (omega (arith, lt)) isnt
