-- What the world shows as the clock moves, and the daemons work at each moment at which one is due.
use Rattle.std.proofs.Common.{◌≡◌, ℕ, zero, suc, nat_le, ◌+◌, ◌-◌, ◌<◌, ◌≤◌, List, [], ◌∷◌, ◌++◌, Bool, true, false, Option, Some, None, length, refl, sym, ◌∙◌, ap, subst, arith, All, if◌then◌else◌, IfSome, option_map, ℤ, ◌+ℤ◌, ◌-ℤ◌, ◌≤ℤ◌, ◌<ℤ◌, int_lt, unsigned_abs}
use Rattle.std.proofs.lemmas.Int.{ints}
use Rattle.std.proofs.lemmas.List.Elements.{All-from_recursion}
use Rattle.sky_model.specs.declared.daemon.DaemonPart.{DaemonPart}
use Rattle.sky_model.specs.declared.daemon.DaemonPart.TheVariants.{Tick, Retry, Maintain}
use Rattle.sky_model.specs.declared.reply.Reply.{Reply}
use Rattle.sky_model.specs.declared.reply.Reply.TheVariants.{Moment, Refused}
use Rattle.sky_model.specs.declared.reply.Refusal.TheVariants.{ClockSpent}
use Rattle.sky_model.specs.History.{Fact, clock_at}
use Rattle.sky_model.specs.Moment.{HasMoment, last_moment}
use Rattle.sky_model.specs.Printed.{HaveMoments, ReplyHasMoments}
use Rattle.sky_model.specs.Queues.{NamedQueue}
use Rattle.sky_model.specs.World.{World, after_fact, after_facts}
use Rattle.sky_model.specs.Reader.{DatabaseReader, within_part, within_database, by_world, Deed, answers_with, refuses, idles, followed}
use Rattle.sky_model.specs.Settling.{Turn, behind_marks}
use Rattle.sky_model.specs.Outcome.{Outcome, Checked, reply_of, marks_of}
use Rattle.sky_model.specs.StepRetry.{most_back, maint_retry_events}
use Rattle.sky_model.specs.StepRotation.{rotates_by_itself}
use Rattle.sky_model.specs.StepQueue.{next_tick}
use Rattle.sky_model.specs.Daemon.{quietly, ticks_of, moved_by, again_if, retries_of, first_steps_of, daemon_does, is_due_at, first_after, earlier, next_due}
use Rattle.sky_model.specs.LawsOfDaemons.{AreOnSince, NextDueIsFirst}
use Rattle.sky_model.specs.Clock.{deed_in, part_works, daemon_works, daemons_work, at_moment, goes_to, through, clock_goes, clock}
use Rattle.sky_world.specs.Views.{StateView}
use Rattle.sky_world.specs.Seen.{seen_state}
use Rattle.sky_world.specs.Whole.{IsWhole}
use Rattle.sky_world.specs.Adds.{AddsDeed}
use Rattle.sky_world.specs.Works.{Works}
use Rattle.sky_world.specs.Idle.{Skips}
use Rattle.sky_world.proofs.Worlds.{after_facts-append}
use Rattle.sky_world.proofs.Skipping.{is_late, is_in_time, idle-none, idle-late, way, IsSkipped, through-skipped}
use Rattle.sky_model.specs.State.{Database}

-- ---- the next moment

pub due-next : (now : ℤ) (daemons : ℕ → Option ℤ) (d : ℕ) (due other new : Option ℤ) → due ≡ next_due now daemons d → other ≡ option_map (first_after now) (daemons d) → new ≡ earlier due other → new ≡ next_due now daemons (d + 1)
due-next now daemons d due other new is is_other both =
    let next : suc d ≡ d + 1 = omega arith in
    both ∙ (λ i. earlier (is i) (is_other i)) ∙ ap (next_due now daemons) next

-- what holds of both, holds of the earlier one
pub earlier-is : (P : ℤ → Type 0) (due other new : Option ℤ) → new ≡ earlier due other → IfSome due P → IfSome other P → IfSome new P
earlier-is P due other new both is_due is_other = subst (λ o. IfSome o P) (sym both) (of due other is_due is_other)
  where
    of : (due other : Option ℤ) → IfSome due P → IfSome other P → IfSome (earlier due other) P
    of None other is_due is_other = is_other
    of (Some moment) None is_due is_other = is_due
    of (Some moment) (Some second) is_due is_other = by (int_lt second moment)
      where
        by : (b : Bool) → P (if b then second else moment)
        by true = is_other
        by false = is_due

module _ {D : Type 0} (seen : D → Database) where
  -- ---- the daemons at a moment

  -- the daemons of the databases from one on are still to work
  pub record IsWorking (start cur : StateView D) (moment : ℤ) (d : ℕ) : Type 0 where
    pub same : after_facts (seen_state seen start) (at_moment by_world moment (seen_state seen start)).facts
        ≡ after_facts (seen_state seen cur) (daemons_work by_world (length start.databases.names - d) d (seen_state seen cur)).facts
    pub now : cur.now ≡ moment
    pub sessions : cur.sessions.names ≡ start.sessions.names
    pub databases : cur.databases.names ≡ start.databases.names
    pub whole : IsWhole seen cur

module _ {D : Type 0} {seen : D → Database} where
  pub working-next : (start cur new : StateView D) (moment : ℤ) (d : ℕ) → d < length start.databases.names → IsWorking seen start cur moment d → Works seen cur new (daemon_works by_world d (seen_state seen cur))
      → IsWorking seen start new moment (d + 1)
  working-next start cur new moment d lt working works = record {
    same = working.same
        ∙ ap (λ n. after_facts (seen_state seen cur) (daemons_work by_world n d (seen_state seen cur)).facts) one
        ∙ after_facts-append (seen_state seen cur) first.facts (daemons_work by_world left (d + 1) (after_facts (seen_state seen cur) first.facts)).facts
        ∙ ap (λ w. after_facts w (daemons_work by_world left (d + 1) w).facts) (sym works.changed);
    now = works.now ∙ working.now;
    sessions = works.sessions ∙ working.sessions;
    databases = works.databases ∙ working.databases;
    whole = works.whole;
  }
    where
      left : ℕ
      left = length start.databases.names - (d + 1)

      first : Deed
      first = daemon_works by_world d (seen_state seen cur)

      one : length start.databases.names - d ≡ suc left
      one = omega (arith, lt)

module _ {D : Type 0} (seen : D → Database) where
  -- ---- from moment to moment

  -- the world once the clock is at a moment
  abbrev pub whole_way : StateView D → ℤ → World
  whole_way start last = way last (unsigned_abs (last -ℤ start.now)) (seen_state seen start)

module _ {D : Type 0} (seen : D → Database) where
  -- what is left to be done up to a moment ends where all does, however many more moments than there are it may take
  pub record IsGoing (start cur : StateView D) (last : ℤ) : Type 0 where
    pub left : ℕ
    pub enough : unsigned_abs (last -ℤ cur.now) ≤ left
    pub earlier : cur.now ≤ℤ last
    pub same : whole_way seen start last ≡ way last left (seen_state seen cur)
    pub sessions : cur.sessions.names ≡ start.sessions.names
    pub whole : IsWhole seen cur

module _ {D : Type 0} {seen : D → Database} where
  pub going-next : (start cur new : StateView D) (last moment passed : ℤ) → IsGoing seen start cur last → Some moment ≡ next_due cur.now (seen_state seen cur).daemons (length cur.databases.names) → cur.now <ℤ moment → passed ≡ moment → moment ≤ℤ last
      → seen_state seen new ≡ after_facts (seen_state seen cur) (at_moment by_world passed (seen_state seen cur)).facts → new.now ≡ passed → new.sessions.names ≡ cur.sessions.names → IsWhole seen new
      → IsGoing seen start new last
  going-next start cur new last moment passed going due later same_moment le changed now sessions whole = by going.left going.enough going.same
    where
      first : Deed
      first = at_moment by_world moment (seen_state seen cur)

      by : (left : ℕ) → unsigned_abs (last -ℤ cur.now) ≤ left
          → whole_way seen start last ≡ way last left (seen_state seen cur)
          → IsGoing seen start new last
      by zero enough same = absurd (omega (arith, ints, enough, later, le))
      by (suc n) enough same = record {
        left = n;
        enough = subst (λ t. unsigned_abs (last -ℤ t) ≤ n) (sym (now ∙ same_moment)) (omega (arith, ints, enough, later, le));
        earlier = subst (λ t. t ≤ℤ last) (sym (now ∙ same_moment)) le;
        same = same
            ∙ ap (λ o. stood (after_facts (seen_state seen cur) (goes_to by_world last (through by_world last n) (seen_state seen cur) o).facts)) (sym due)
            ∙ ap (λ b. stood (after_facts (seen_state seen cur) (facts_of (if b then idles else followed by_world (seen_state seen cur) (through by_world last n) first)))) (is_in_time last moment le)
            ∙ ap stood (after_facts-append (seen_state seen cur) first.facts (through by_world last n (after_facts (seen_state seen cur) first.facts)).facts)
            ∙ ap (λ w. stood (after_facts w (through by_world last n w).facts)) (sym (changed ∙ ap (λ t. after_facts (seen_state seen cur) (at_moment by_world t (seen_state seen cur)).facts) same_moment));
        sessions = sessions ∙ going.sessions;
        whole = whole;
      }
        where
          facts_of : Deed → List Fact
          facts_of deed = deed.facts

          stood : World → World
          stood w = after_fact w (clock_at last)

  -- moments at which daemons are idle are passed over
  pub going-skipped : NextDueIsFirst → (start cur new : StateView D) (last : ℤ) → IsGoing seen start cur last → Skips seen cur new last → AreOnSince cur.now (seen_state seen cur).daemons → IsGoing seen start new last
  going-skipped law start cur new last going skips since = subst (λ v. IsGoing seen start v last) (sym skips.only) (record {
    left = skipped.left;
    enough = skipped.enough;
    earlier = skips.most;
    same = going.same ∙ skipped.same;
    sessions = going.sessions;
    whole = going.whole;
  })
    where
      skipped : IsSkipped (seen_state seen cur) last new.now going.left
      skipped = through-skipped law last new.now going.left (seen_state seen cur) skips.later skips.most since going.enough skips.idle

  -- there is no further moment: the clock is set to the last one
  going-last : (start cur new : StateView D) (last : ℤ) (going : IsGoing seen start cur last) → through by_world last going.left (seen_state seen cur) ≡ idles → new ≡ record cur { now = last } → seen_state seen new ≡ whole_way seen start last
  going-last start cur new last going idle stands = ap (seen_state seen) stands ∙ ap (λ (deed : Deed). after_fact (after_facts (seen_state seen cur) deed.facts) (clock_at last)) (sym idle) ∙ sym going.same

  pub going-none : (start cur new : StateView D) (last : ℤ) → IsGoing seen start cur last → None ≡ next_due cur.now (seen_state seen cur).daemons (length cur.databases.names) → new ≡ record cur { now = last }
      → seen_state seen new ≡ whole_way seen start last
  going-none start cur new last going none stands = going-last start cur new last going (idle-none last going.left (seen_state seen cur) none) stands

  pub going-late : (start cur new : StateView D) (last moment : ℤ) → IsGoing seen start cur last → Some moment ≡ next_due cur.now (seen_state seen cur).daemons (length cur.databases.names) → last <ℤ moment
      → new ≡ record cur { now = last } → seen_state seen new ≡ whole_way seen start last
  going-late start cur new last moment going due late stands = going-last start cur new last going (idle-late last moment going.left (seen_state seen cur) due (is_late last moment late)) stands

-- ---- daemons answer nothing

ticks-silent : {P : Type 0} (r : DatabaseReader P) (now : ℤ) (queues : List NamedQueue) (p : P) → [] ≡ (ticks_of r now queues p).answers
ticks-silent r now [] p = refl
ticks-silent r now (q ∷ queues) p = ticks-silent r now queues (behind_marks (within_part r now) p (quietly (next_tick (r.database p) now q.number)).marks)

again-silent : {P : Type 0} (rest : P → Turn) → ((p : P) → [] ≡ (rest p).answers) → (b : Bool) (p : P) → [] ≡ (again_if b rest p).answers
again-silent rest silent true p = silent p
again-silent rest silent false p = refl

retries-silent : {P : Type 0} (r : DatabaseReader P) (now : ℤ) (n : ℕ) (p : P) → [] ≡ (retries_of r now n p).answers
retries-silent r now zero p = refl
retries-silent r now (suc n) p =
    let c : Checked Outcome = maint_retry_events (r.database p) now in
    again-silent (retries_of r now n) (retries-silent r now n) (nat_le most_back (moved_by (reply_of c))) (behind_marks (within_part r now) p (marks_of c))

steps-silent : {P : Type 0} (r : DatabaseReader P) (now : ℤ) (queues : List NamedQueue) (p : P) → [] ≡ (first_steps_of r now queues p).answers
steps-silent r now [] p = refl
steps-silent r now (q ∷ queues) p = steps-silent r now queues (behind_marks (within_part r now) p (quietly (rotates_by_itself (r.database p) now q.number)).marks)

does-silent : {P : Type 0} (r : DatabaseReader P) (p : P) (part : DaemonPart) (now : ℤ) → [] ≡ (daemon_does r p part now).answers
does-silent r p Tick now = ticks-silent r now (r.database p).queues p
does-silent r p Retry now = retries-silent r now (length (r.database p).retries) p
does-silent r p Maintain now = λ i. steps-silent r now (r.database p).queues p i ++ []

part-silent : (d : ℕ) (part : DaemonPart) (w : World) → [] ≡ (part_works by_world d part w).answers
part-silent d part w = by (is_due_at w.now part (w.daemons d))
  where
    answers_of : Deed → List (ℕ × Reply)
    answers_of deed = deed.answers

    by : (b : Bool) → [] ≡ answers_of (if b then deed_in d [] (daemon_does (within_database by_world d) w part w.now) else idles)
    by true = does-silent (within_database by_world d) w part w.now
    by false = refl

-- two deeds that answer nothing
followed-silent : (w : World) (rest : World → Deed) (deed : Deed) → [] ≡ deed.answers → ((v : World) → [] ≡ (rest v).answers) → [] ≡ (followed by_world w rest deed).answers
followed-silent w rest deed one also = λ i. one i ++ also (after_facts w deed.facts) i

daemon-silent : (d : ℕ) (w : World) → [] ≡ (daemon_works by_world d w).answers
daemon-silent d w =
    followed-silent w (λ q. followed by_world q (part_works by_world d Maintain) (part_works by_world d Retry q)) (part_works by_world d Tick w) (part-silent d Tick w)
    (λ v. followed-silent v (part_works by_world d Maintain) (part_works by_world d Retry v) (part-silent d Retry v) (part-silent d Maintain))

daemons-silent : (n d : ℕ) (w : World) → [] ≡ (daemons_work by_world n d w).answers
daemons-silent zero d w = refl
daemons-silent (suc n) d w = followed-silent w (daemons_work by_world n (d + 1)) (daemon_works by_world d w) (daemon-silent d w) (daemons-silent n (d + 1))

moment-silent : (moment : ℤ) (w : World) → [] ≡ (at_moment by_world moment w).answers
moment-silent moment w =
    followed-silent w (λ q. daemons_work by_world (length q.databases) 0 q) (record { answers = []; facts = clock_at moment ∷ [] }) refl (λ v. daemons-silent (length v.databases) 0 v)

goes-silent : (last : ℤ) (rest : World → Deed) (w : World) (o : Option ℤ) → ((v : World) → [] ≡ (rest v).answers) → [] ≡ (goes_to by_world last rest w o).answers
goes-silent last rest w None also = refl
goes-silent last rest w (Some moment) also = by (int_lt last moment)
  where
    answers_of : Deed → List (ℕ × Reply)
    answers_of deed = deed.answers

    by : (b : Bool) → [] ≡ answers_of (if b then idles else followed by_world w rest (at_moment by_world moment w))
    by true = refl
    by false = followed-silent w rest (at_moment by_world moment w) (moment-silent moment w) also

through-silent : (last : ℤ) (n : ℕ) (w : World) → [] ≡ (through by_world last n w).answers
through-silent last zero w = refl
through-silent last (suc n) w = goes-silent last (through by_world last n) w (next_due w.now w.daemons (length w.databases)) (through-silent last n)

module _ {D : Type 0} {seen : D → Database} where
  -- ---- the clock

  -- a refusal
  adds-refusal : (v : StateView D) (who : ℕ) (reply : Reply) (before after : List (ℕ × Reply)) → IsWhole seen v → who < length v.sessions.names → ReplyHasMoments reply → after ≡ before ++ (who, reply) ∷ [] → AddsDeed seen v v before after (answers_with who reply [])
  adds-refusal v who reply before after whole lt moments is = record {
    answered = is;
    known = All-from_recursion (λ (answer : ℕ × Reply). answer.0 < length v.sessions.names) ((who, reply) ∷ []) (lt, tt);
    moments = All-from_recursion (λ (answer : ℕ × Reply). ReplyHasMoments answer.1) ((who, reply) ∷ []) (moments, tt);
    changed = refl;
    sessions = refl;
    whole = whole;
  }

abbrev going_if : World → ℕ → ℤ → Bool → Deed
going_if w who to late = if late then refuses who ClockSpent else followed by_world w (λ q. answers_with who (Moment to) (clock_at to ∷ [])) (through by_world to (unsigned_abs (to -ℤ w.now)) w)

module _ {D : Type 0} {seen : D → Database} where
  -- the clock would pass its last moment
  pub clock-spent : (v : StateView D) (who : ℕ) (time to : ℤ) (waits : Bool) (before after : List (ℕ × Reply)) → IsWhole seen v → who < length v.sessions.names → false ≡ waits → to ≡ v.now +ℤ time → last_moment <ℤ to
      → after ≡ before ++ (who, Refused ClockSpent) ∷ [] → AddsDeed seen v v before after (clock by_world (seen_state seen v) who time waits)
  clock-spent v who time to waits before after whole lt free at late is =
      subst (λ b. AddsDeed seen v v before after (clock by_world (seen_state seen v) who time b)) free
      (subst (λ t. AddsDeed seen v v before after (clock_goes by_world (seen_state seen v) who t)) at
      (subst (λ b. AddsDeed seen v v before after (going_if (seen_state seen v) who to b)) (sym (is_late last_moment to late)) (adds-refusal v who (Refused ClockSpent) before after whole lt tt is)))

  -- the clock moves
  pub clock-moved : (v new : StateView D) (who : ℕ) (time to : ℤ) (waits : Bool) (before after : List (ℕ × Reply)) → who < length v.sessions.names → false ≡ waits → to ≡ v.now +ℤ time → to ≤ℤ last_moment → HasMoment to
      → seen_state seen new ≡ whole_way seen v to → new.sessions.names ≡ v.sessions.names → IsWhole seen new
      → after ≡ before ++ (who, Moment to) ∷ [] → AddsDeed seen v new before after (clock by_world (seen_state seen v) who time waits)
  clock-moved v new who time to waits before after lt free at in_time printed changed sessions whole is =
      subst (λ b. AddsDeed seen v new before after (clock by_world (seen_state seen v) who time b)) free
      (subst (λ t. AddsDeed seen v new before after (clock_goes by_world (seen_state seen v) who t)) at
      (subst (λ b. AddsDeed seen v new before after (going_if (seen_state seen v) who to b)) (sym (is_in_time last_moment to in_time)) (record {
        answered = is ∙ ap (λ answers. before ++ (answers ++ (who, Moment to) ∷ [])) silent;
        known = subst (λ answers. All (λ (answer : ℕ × Reply). answer.0 < length v.sessions.names) (answers ++ (who, Moment to) ∷ [])) silent
            (All-from_recursion (λ (answer : ℕ × Reply). answer.0 < length v.sessions.names) ((who, Moment to) ∷ []) (lt, tt));
        moments = subst (λ answers. HaveMoments (answers ++ (who, Moment to) ∷ [])) silent
            (All-from_recursion (λ (answer : ℕ × Reply). ReplyHasMoments answer.1) ((who, Moment to) ∷ []) (printed, tt));
        changed = changed
            ∙ sym (after_facts-append (seen_state seen v) (through by_world to (unsigned_abs (to -ℤ v.now)) (seen_state seen v)).facts (clock_at to ∷ []));
        sessions = sessions;
        whole = whole;
      })))
    where
      silent : [] ≡ (through by_world to (unsigned_abs (to -ℤ v.now)) (seen_state seen v)).answers
      silent = through-silent to (unsigned_abs (to -ℤ v.now)) (seen_state seen v)
