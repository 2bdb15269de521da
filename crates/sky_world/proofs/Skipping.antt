-- What the clock passes over: at a moment at which no daemon changes anything only the clock is set, and the moments after it are due as before.
use Rattle.std.proofs.Common.{◌≡◌, ℕ, zero, suc, ◌+◌, ◌≤◌, List, [], ◌∷◌, ◌++◌, Bool, true, false, Option, Some, None, map, length, refl, sym, ◌∙◌, ap, subst, arith, if◌then◌else◌, IfSome, ℤ, pos, ◌-ℤ◌, ◌≤ℤ◌, ◌<ℤ◌, int_lt, unsigned_abs}
use Rattle.std.proofs.lemmas.Int.{ints}
use Rattle.sky_model.specs.declared.daemon.DaemonPart.{DaemonPart}
use Rattle.sky_model.specs.declared.daemon.DaemonPart.TheVariants.{Tick, Retry, Maintain}
use Rattle.sky_model.specs.History.{Mark, Fact, within, clock_at}
use Rattle.sky_model.specs.World.{World, after_fact, after_facts}
use Rattle.sky_model.specs.Reader.{within_database, by_world, Deed, idles, followed}
use Rattle.sky_model.specs.Settling.{Turn}
use Rattle.sky_model.specs.Daemon.{daemon_does, is_due_at, next_due}
use Rattle.sky_model.specs.Clock.{deed_in, part_works, daemon_works, daemons_work, at_moment, goes_to, through}
use Rattle.sky_model.specs.LawsOfDaemons.{AreOnSince, IsDue, IsFirstDue, IsNextDue, NextDueIsFirst}
use Rattle.sky_store.specs.Idle.{IsIdleUntil}
use Rattle.sky_world.specs.Views.{StateView}
use Rattle.sky_world.specs.Seen.{seen_state}
use Rattle.sky_world.specs.Daemons.{StartedBy}
use Rattle.sky_world.specs.Idle.{AreIdle, Skips}
use Rattle.sky_world.proofs.Daemons.{daemon-within}
use Rattle.sky_model.specs.State.{Database}

-- ---- tests

pub is_late : (a b : ℤ) → a <ℤ b → int_lt a b ≡ true
is_late a b lt = by (int_lt a b) refl
  where
    by : (t : Bool) → int_lt a b ≡ t → t ≡ true
    by true e = refl
    by false e = absurd (omega (arith, ints, e, lt))

pub is_in_time : (a b : ℤ) → b ≤ℤ a → int_lt a b ≡ false
is_in_time a b le = by (int_lt a b) refl
  where
    by : (t : Bool) → int_lt a b ≡ t → t ≡ false
    by true e = absurd (omega (arith, ints, e, le))
    by false e = refl

-- ---- a moment at which no daemon changes anything

abbrev facts_of : Deed → List Fact
facts_of deed = deed.facts

part-idle : (d : ℕ) (part : DaemonPart) (w : World) → IfSome (w.daemons d) (λ start. IsIdleUntil w.now (w.database d)) → (part_works by_world d part w).facts ≡ []
part-idle d part w idle = by (w.daemons d) idle
  where
    turn : Turn
    turn = daemon_does (within_database by_world d) w part w.now

    marks_of : Turn → List Mark
    marks_of t = t.marks

    of : (b : Bool) → turn.marks ≡ [] → facts_of (if b then deed_in d [] turn else idles) ≡ []
    of true none = ap (λ marks. map (within d) marks ++ []) none
    of false none = refl

    by : (o : Option ℤ) → IfSome o (λ start. IsIdleUntil w.now (w.database d)) → facts_of (if is_due_at w.now part o then deed_in d [] turn else idles) ≡ []
    by None idle = refl
    by (Some start) idle = of (is_due_at w.now part (Some start)) (ap marks_of (daemon-within w d part w.now) ∙ idle part w.now (omega (arith, ints)))

-- a deed without facts, and then another
followed-idle : (w : World) (rest : World → Deed) (deed : Deed) → deed.facts ≡ [] → (rest w).facts ≡ [] → (followed by_world w rest deed).facts ≡ []
followed-idle w rest deed none also = ap (λ facts. facts ++ (rest (after_facts w facts)).facts) none ∙ also

daemon-idle : (d : ℕ) (w : World) → IfSome (w.daemons d) (λ start. IsIdleUntil w.now (w.database d)) → (daemon_works by_world d w).facts ≡ []
daemon-idle d w idle =
    followed-idle w (λ q. followed by_world q (part_works by_world d Maintain) (part_works by_world d Retry q)) (part_works by_world d Tick w) (part-idle d Tick w idle)
    (followed-idle w (part_works by_world d Maintain) (part_works by_world d Retry w) (part-idle d Retry w idle) (part-idle d Maintain w idle))

daemons-idle : (n d : ℕ) (w : World) → n + d ≤ length w.databases → AreIdle w.now w → (daemons_work by_world n d w).facts ≡ []
daemons-idle zero d w all idle = refl
daemons-idle (suc n) d w all idle =
    followed-idle w (daemons_work by_world n (d + 1)) (daemon_works by_world d w) (daemon-idle d w (idle d (omega (arith, all)))) (daemons-idle n (d + 1) w (omega (arith, all)) idle)

-- then only the clock is set
moment-idle : (moment : ℤ) (w : World) → AreIdle moment w → (at_moment by_world moment w).facts ≡ clock_at moment ∷ []
moment-idle moment w idle = ap (λ facts. clock_at moment ∷ facts) (daemons-idle (length w.databases) 0 (after_fact w (clock_at moment)) (omega arith) idle)

-- ---- the next moment

pub idle-none : (last : ℤ) (n : ℕ) (w : World) → None ≡ next_due w.now w.daemons (length w.databases) → through by_world last n w ≡ idles
idle-none last zero w none = refl
idle-none last (suc n) w none = ap (goes_to by_world last (through by_world last n) w) (sym none)

pub idle-late : (last moment : ℤ) (n : ℕ) (w : World) → Some moment ≡ next_due w.now w.daemons (length w.databases) → int_lt last moment ≡ true → through by_world last n w ≡ idles
idle-late last moment zero w due late = refl
idle-late last moment (suc n) w due late =
    ap (goes_to by_world last (through by_world last n) w) (sym due)
    ∙ ap (λ b. if b then idles else followed by_world w (through by_world last n) (at_moment by_world moment w)) late

-- the clock is at a later moment
abbrev later_at : World → ℤ → World
later_at w now = record w { now = now }

since-later : (w : World) (now : ℤ) → w.now ≤ℤ now → AreOnSince w.now w.daemons → AreOnSince now w.daemons
since-later w now le since d = by (w.daemons d) (since d)
  where
    by : (o : Option ℤ) → IfSome o (λ start. start ≤ℤ w.now) → IfSome o (λ start. start ≤ℤ now)
    by None known = tt
    by (Some start) known = omega (arith, ints, known, le)

-- the next moment after a later one, if none is due up to a last one
late-then : NextDueIsFirst → (last now : ℤ) (n : ℕ) (w : World) → w.now ≤ℤ now → AreOnSince w.now w.daemons → ((x : ℤ) → w.now <ℤ x → x ≤ℤ last → IsDue w.daemons (length w.databases) Tick x → ⊥) → through by_world last n (later_at w now) ≡ idles
late-then law last now n w le since never = by (next_due now w.daemons (length w.databases)) refl (law now w.daemons (length w.databases) (since-later w now le since))
  where
    by : (o : Option ℤ) → o ≡ next_due now w.daemons (length w.databases) → IsNextDue now w.daemons (length w.databases) o → through by_world last n (later_at w now) ≡ idles
    by None is first = idle-none last n (later_at w now) is
    by (Some x) is first = of (int_lt last x) refl
      where
        of : (b : Bool) → int_lt last x ≡ b → through by_world last n (later_at w now) ≡ idles
        of true late = idle-late last x n (later_at w now) is late
        of false early = let lt : now <ℤ x = first.later in absurd (never x (omega (arith, ints, lt, le)) (omega (arith, ints, early)) first.due)

-- or the same as before, if that is later
same-then : NextDueIsFirst → (now moment : ℤ) (w : World) → w.now ≤ℤ now → now <ℤ moment → AreOnSince w.now w.daemons → IsFirstDue w.now w.daemons (length w.databases) moment → next_due now w.daemons (length w.databases) ≡ Some moment
same-then law now moment w le lt since first = by (next_due now w.daemons (length w.databases)) (law now w.daemons (length w.databases) (since-later w now le since))
  where
    by : (o : Option ℤ) → IsNextDue now w.daemons (length w.databases) o → o ≡ Some moment
    by None never = absurd (never moment Tick first.due)
    by (Some x) next =
        let after : now <ℤ x = next.later in
        let least : moment ≤ℤ x = first.first x Tick (omega (arith, ints, after, le)) next.due in
        let most : x ≤ℤ moment = next.first moment Tick lt first.due in
        let same : x ≡ moment = omega (arith, ints, least, most) in
        ap Some same

-- ---- all moments

-- the world once the clock is at a last moment, after so many moments at which daemons are due
abbrev pub way : ℤ → ℕ → World → World
way last n w = after_fact (after_facts w (through by_world last n w).facts) (clock_at last)

-- from a later moment on it is the same
pub record IsSkipped (w : World) (last now : ℤ) (n : ℕ) : Type 0 where
  pub left : ℕ
  pub enough : unsigned_abs (last -ℤ now) ≤ left
  pub same : way last n w ≡ way last left (later_at w now)

-- none is due up to the last one
skipped-none : NextDueIsFirst → (last now : ℤ) (n : ℕ) (w : World) → w.now ≤ℤ now → AreOnSince w.now w.daemons → through by_world last n w ≡ idles → ((x : ℤ) → w.now <ℤ x → x ≤ℤ last → IsDue w.daemons (length w.databases) Tick x → ⊥) → IsSkipped w last now n
skipped-none law last now n w le since none never = record {
  left = unsigned_abs (last -ℤ now);
  enough = omega arith;
  same = ap (λ (deed : Deed). after_fact (after_facts w deed.facts) (clock_at last)) none
      ∙ ap (λ (deed : Deed). after_fact (after_facts (later_at w now) deed.facts) (clock_at last)) (sym (late-then law last now (unsigned_abs (last -ℤ now)) w le since never));
}

abbrev Further : ℤ → ℤ → ℕ → Type 0
Further last now n = (w : World) → w.now ≤ℤ now → now ≤ℤ last → AreOnSince w.now w.daemons → unsigned_abs (last -ℤ w.now) ≤ n
    → ((moment : ℤ) → w.now <ℤ moment → moment ≤ℤ now → AreIdle moment w) → IsSkipped w last now n

pub through-skipped : NextDueIsFirst → (last now : ℤ) (n : ℕ) → Further last now n
through-skipped law last now zero w le most since enough idle = skipped-none law last now zero w le since refl (λ x lt before is. absurd (omega (arith, ints, enough, lt, before)))
through-skipped law last now (suc n) w le most since enough idle =
    by (through-skipped law last now n) (next_due w.now w.daemons (length w.databases)) refl (law w.now w.daemons (length w.databases) since)
  where
    by : Further last now n → (o : Option ℤ) → o ≡ next_due w.now w.daemons (length w.databases) → IsNextDue w.now w.daemons (length w.databases) o → IsSkipped w last now (suc n)
    by further None is never = skipped-none law last now (suc n) w le since (idle-none last (suc n) w is) (λ x lt before due. never x Tick due)
    by further (Some m) is first = in_time (int_lt last m) refl
      where
        lt : w.now <ℤ m
        lt = first.later

        goes : int_lt last m ≡ false → through by_world last (suc n) w ≡ followed by_world w (through by_world last n) (at_moment by_world m w)
        goes early =
            ap (goes_to by_world last (through by_world last n) w) (sym is)
            ∙ ap (λ b. if b then idles else followed by_world w (through by_world last n) (at_moment by_world m w)) early

        passes : int_lt last m ≡ false → (b : Bool) → int_lt now m ≡ b → IsSkipped w last now (suc n)
        passes early true e = record {
          left = suc n;
          enough = omega (arith, ints, enough, le, most);
          same = ap (λ (deed : Deed). after_fact (after_facts w deed.facts) (clock_at last)) (goes early)
              ∙ sym (ap (λ (deed : Deed). after_fact (after_facts (later_at w now) deed.facts) (clock_at last))
              (ap (goes_to by_world last (through by_world last n) (later_at w now)) (same-then law now m w le (omega (arith, ints, e)) since first)
              ∙ ap (λ b. if b then idles else followed by_world (later_at w now) (through by_world last n) (at_moment by_world m (later_at w now))) early));
        }
        passes early false e =
            let before : m ≤ℤ now = omega (arith, ints, e) in
            let rest : IsSkipped (later_at w m) last now n = further (later_at w m) before most (since-later w m (omega (arith, ints, lt)) since) (omega (arith, ints, enough, lt, most, before))
            (λ moment later at. idle moment (omega (arith, ints, later, lt)) at) in
            record {
              left = rest.left;
              enough = rest.enough;
              same = ap (λ (deed : Deed). after_fact (after_facts w deed.facts) (clock_at last)) (goes early)
                  ∙ ap (λ facts. after_fact (after_facts w (facts ++ (through by_world last n (after_facts w facts)).facts)) (clock_at last)) (moment-idle m w (idle m lt before))
                  ∙ rest.same;
            }

        in_time : (b : Bool) → int_lt last m ≡ b → IsSkipped w last now (suc n)
        in_time true late =
            skipped-none law last now (suc n) w le since (idle-late last m (suc n) w is late)
            (λ x after before due. let least : m ≤ℤ x = first.first x Tick after due in absurd (omega (arith, ints, late, least, before)))
        in_time false early = passes early (int_lt now m) refl

module _ {D : Type 0} {seen : D → Database} where
  -- ---- what is passed over in turn

  pub skips-none : (v : StateView D) (last : ℤ) → v.now ≤ℤ last → Skips seen v v last
  skips-none v last le = record {
    only = refl;
    later = omega (arith, ints);
    most = le;
    idle = λ moment lt at. absurd (omega (arith, ints, lt, at));
  }

  pub skips-to : (old new : StateView D) (to last : ℤ) → new ≡ record old { now = to } → old.now ≤ℤ to → to ≤ℤ last → AreIdle to (seen_state seen old) → Skips seen old new last
  skips-to old new to last stands le most idle = subst (λ v. Skips seen old v last) (sym stands) (record {
    only = refl;
    later = le;
    most = most;
    idle = λ moment lt at d low. earlier moment at ((seen_state seen old).daemons d) d (idle d low);
  })
    where
      earlier : (moment : ℤ) → moment ≤ℤ to → (o : Option ℤ) (d : ℕ) → IfSome o (λ start. IsIdleUntil to ((seen_state seen old).database d)) → IfSome o (λ start. IsIdleUntil moment ((seen_state seen old).database d))
      earlier moment at None d idle = tt
      earlier moment at (Some start) d idle = λ part x before. idle part x (omega (arith, ints, before, at))

  pub skips-then : (old mid new : StateView D) (last : ℤ) → Skips seen old mid last → Skips seen mid new last → Skips seen old new last
  skips-then old mid new last one two = record {
    only = two.only ∙ ap (λ (v : StateView D). record v { now = new.now }) one.only;
    later = (let first : old.now ≤ℤ mid.now = one.later in let second : mid.now ≤ℤ new.now = two.later in omega (arith, ints, first, second));
    most = two.most;
    idle = λ moment lt at. by moment lt at (int_lt mid.now moment) refl;
  }
    where
      by : (moment : ℤ) → old.now <ℤ moment → moment ≤ℤ new.now → (b : Bool) → int_lt mid.now moment ≡ b → AreIdle moment (seen_state seen old)
      by moment lt at true e = subst (λ (v : StateView D). AreIdle moment (seen_state seen v)) one.only (two.idle moment (omega (arith, ints, e)) at)
      by moment lt at false e = one.idle moment lt (omega (arith, ints, e))

module _ {D : Type 0} (seen : D → Database) where
  -- the daemons that are on were started by now
  pub since-started : (v now : StateView D) → v ≡ now → StartedBy v.now v.daemons → AreOnSince now.now (seen_state seen now).daemons
  since-started v now same started = subst (λ (w : StateView D). AreOnSince w.now (seen_state seen w).daemons) same (λ d. by ((seen_state seen v).daemons d) (started d))
    where
      by : (o : Option ℤ) → IfSome o (λ start. (pos 0 ≤ℤ start) × (start ≤ℤ v.now)) → IfSome o (λ start. start ≤ℤ v.now)
      by None known = tt
      by (Some start) known = known.1
