-- The moments at which daemons are due, as the clock moves from one to the next.
use Rattle.std.proofs.Common.{◌≡◌, ◌⊎◌, inl, inr, ℕ, zero, suc, ◌+◌, ◌<◌, ◌≤◌, ℤ, pos, ◌+ℤ◌, ◌-ℤ◌, ◌<ℤ◌, ◌≤ℤ◌, int_lt, unsigned_abs, List, [], ◌∷◌, ◌++◌, Bool, true, false, ◌==◌, nat_le, map, length, Option, Some, None, IfSome, Contains, refl, sym, ◌∙◌, ap, subst, arith, if◌then◌else◌}
use Rattle.std.proofs.lemmas.Int.{ints}
use Rattle.std.proofs.lemmas.List.Elements.{All-head, All-tail}
use Rattle.sky_names.specs.Places.{place_of}
use Rattle.sky_model.specs.declared.daemon.DaemonPart.{DaemonPart}
use Rattle.sky_model.specs.declared.daemon.DaemonPart.TheVariants.{Tick, Retry, Maintain}
use Rattle.sky_model.specs.declared.stmt.Stmt.{Stmt}
use Rattle.sky_model.specs.declared.stmt.DbStmt.{DbStmt}
use Rattle.sky_model.specs.declared.stmt.NodeStmt.{NodeStmt}
use Rattle.sky_model.specs.declared.stmt.WorldStmt.{WorldStmt}
use Rattle.sky_model.specs.declared.stmt.WorldStmt.TheVariants.{Clock, PgqdOn, PgqdOff}
use Rattle.sky_model.specs.declared.reply.Refusal.{Refusal}
use Rattle.sky_model.specs.declared.stmt.Stmt.TheVariants.{Db, Node, World as OnWorld}
use Rattle.sky_model.specs.declared.reply.Reply.TheVariants.{Moment}
use Rattle.sky_model.specs.declared.reply.Refusal.TheVariants.{ClockSpent}
use Rattle.sky_model.specs.InForm.{IsWorldInForm, IsInForm}
use Rattle.sky_model.specs.History.{Mark, Fact, appeared, founded, entered, within, clock_at, daemon_on, daemon_off, Past}
use Rattle.sky_model.specs.World.{world_of, history_in, session_names, database_names, home, clock, daemon, on_top}
use Rattle.sky_model.specs.State.{database_of}
use Rattle.sky_model.specs.Outcome.{marks_of}
use Rattle.sky_model.specs.StepNode.{node_does}
use Rattle.sky_histories.proofs.NodeDeeds.{after-node_does, after-refused, after-switches}
use Rattle.sky_model.specs.Settling.{Turn}
use Rattle.sky_model.specs.Reader.{Reader, within_database, by_past, Deed, answers_with, refuses, appears, idles, followed}
use Rattle.sky_model.specs.Daemon.{daemon_does, is_due_at, next_due}
use Rattle.sky_model.specs.Moment.{last_moment}
use Rattle.sky_model.specs.Clock.{deed_in, part_works, daemon_works, daemons_work, at_moment, goes_to, through, waits_at}
use Rattle.sky_model.specs.Clock as statement
use Rattle.sky_model.specs.Calls.{database_turn, opening, opens, outside_does, is_leaving, left_if, turn, Call, called, past_of, db_stmt_does, fails_if, refused_in, node_stmt_does, on_unless, world_stmt_does}
use Rattle.sky_model.specs.Steps.{IsCallInForm}
use Rattle.sky_model.specs.LawsOfDaemons.{AreOnSince, DaemonsHaveStarted, IsDue, IsFirstDue, IsNextDue, RiseFrom, at_moments, DaemonsWorkWhenDue}
use Rattle.sky_histories.proofs.PastHistories.{on_top-append}
use Rattle.sky_histories.proofs.ClockSteps.{after-clock}
use Rattle.sky_histories.proofs.NextDue.{next_due_is_first}

-- ---- what daemons do

-- facts that leave the clock, the daemons and the databases as they are
record AreStill (facts : List Fact) : Type 0 where
  clocks : (past : Past) → clock (on_top past facts) ≡ clock past
  daemons : (past : Past) (d : ℕ) → daemon (on_top past facts) d ≡ daemon past d
  databases : (past : Past) → database_names (on_top past facts) ≡ database_names past

still-none : AreStill []
still-none = record { clocks = λ past. refl; daemons = λ past d. refl; databases = λ past. refl }

still-marks : (d : ℕ) (marks : List Mark) → AreStill (map (within d) marks)
still-marks d [] = still-none
still-marks d (mark ∷ marks) =
    let still : AreStill (map (within d) marks) = still-marks d marks in
    record { clocks = λ past. still.clocks (within d mark ∷ past); daemons = λ past e. still.daemons (within d mark ∷ past) e; databases = λ past. still.databases (within d mark ∷ past) }

still-append : (xs ys : List Fact) → AreStill xs → AreStill ys → AreStill (xs ++ ys)
still-append xs ys still also = record {
  clocks = λ past. ap clock (on_top-append past xs ys) ∙ also.clocks (on_top past xs) ∙ still.clocks past;
  daemons = λ past d. ap (λ p. daemon p d) (on_top-append past xs ys) ∙ also.daemons (on_top past xs) d ∙ still.daemons past d;
  databases = λ past. ap database_names (on_top-append past xs ys) ∙ also.databases (on_top past xs) ∙ still.databases past;
}

-- what happens in a deed
abbrev facts_of : Deed → List Fact
facts_of deed = deed.facts

module _ {P : Type 0} (r : Reader P) where
  still-followed : (p : P) (rest : P → Deed) (deed : Deed) → AreStill deed.facts → ((q : P) → AreStill (rest q).facts) → AreStill (followed r p rest deed).facts
  still-followed p rest deed still also = still-append deed.facts (rest (r.behind p deed.facts)).facts still (also (r.behind p deed.facts))

  still-part : (d : ℕ) (part : DaemonPart) (p : P) → AreStill (part_works r d part p).facts
  still-part d part p = of (is_due_at (r.world p).now part ((r.world p).daemons d))
    where
      turn : Turn
      turn = daemon_does (within_database r d) p part (r.world p).now

      of : (b : Bool) → AreStill (facts_of (if b then deed_in d [] turn else idles))
      of true = still-append (map (within d) turn.marks) [] (still-marks d turn.marks) still-none
      of false = still-none

  still-daemon : (d : ℕ) (p : P) → AreStill (daemon_works r d p).facts
  still-daemon d p =
      still-followed p (λ q. followed r q (part_works r d Maintain) (part_works r d Retry q)) (part_works r d Tick p) (still-part d Tick p)
      (λ q. still-followed q (part_works r d Maintain) (part_works r d Retry q) (still-part d Retry q) (still-part d Maintain))

  still-daemons : (n d : ℕ) (p : P) → AreStill (daemons_work r n d p).facts
  still-daemons zero d p = still-none
  still-daemons (suc n) d p = still-followed p (daemons_work r n (d + 1)) (daemon_works r d p) (still-daemon d p) (still-daemons n (d + 1))

-- ---- the moments of a clock

contains-here : (m : ℤ) (ms : List ℤ) → Contains (m ∷ ms) m
contains-here m ms = (0, omega arith, refl)

contains-later : (m : ℤ) (ms : List ℤ) (x : ℤ) → Contains ms x → Contains (m ∷ ms) x
contains-later m ms x (k, lt, is) = (suc k, omega (arith, lt), is)

contains-split : (m : ℤ) (ms : List ℤ) (x : ℤ) → Contains (m ∷ ms) x → (m ≡ x) ⊎ Contains ms x
contains-split m ms x (zero, lt, is) = inl is
contains-split m ms x (suc k, lt, is) = inr (k, omega (arith, lt), is)

contains-none : (x : ℤ) → Contains [] x → ⊥
contains-none x (k, lt, is) = absurd (omega (arith, lt))

-- the moments up to one at which a deed lets the daemons work are those at which they are due
record DoneWhenDue (past : Past) (to : ℤ) (deed : Deed) : Type 0 where
  moments : List ℤ
  done : deed ≡ at_moments by_past moments past
  rise : RiseFrom (clock past) moments
  all_due : (x : ℤ) (part : DaemonPart) → clock past <ℤ x → x ≤ℤ to → IsDue (daemon past) (length (database_names past)) part x → Contains moments x
  only_due : (x : ℤ) → Contains moments x → (clock past <ℤ x) × (x ≤ℤ to) × IsDue (daemon past) (length (database_names past)) Tick x

-- there are none
done-none : (past : Past) (to : ℤ) → ((x : ℤ) (part : DaemonPart) → clock past <ℤ x → x ≤ℤ to → IsDue (daemon past) (length (database_names past)) part x → ⊥) → DoneWhenDue past to idles
done-none past to none = record {
  moments = [];
  done = refl;
  rise = tt;
  all_due = λ x part lt le is. absurd (none x part lt le is);
  only_due = λ x is. absurd (contains-none x is);
}

-- what is due by some daemons and databases is due by the same
due-same : (old new : Past) (part : DaemonPart) (x : ℤ) → ((d : ℕ) → daemon new d ≡ daemon old d) → database_names new ≡ database_names old
    → IsDue (daemon old) (length (database_names old)) part x → IsDue (daemon new) (length (database_names new)) part x
due-same old new part x daemons databases is = record {
  database = is.database;
  below = subst (λ names. is.database < length names) (sym databases) is.below;
  due = ap (is_due_at x part) (daemons is.database) ∙ is.due;
}

-- or they work at a first moment, and then at those that follow
module _ (past : Past) (to m : ℤ) (rest : Past → Deed) where
  abbrev place : Past
  place = on_top past (at_moment by_past m past).facts

  there-still : AreStill (daemons_work by_past (length (database_names past)) 0 (clock_at m ∷ past)).facts
  there-still = still-daemons by_past (length (database_names past)) 0 (clock_at m ∷ past)

  there-clock : clock place ≡ m
  there-clock = there-still.clocks (clock_at m ∷ past)

  there-daemons : (d : ℕ) → daemon place d ≡ daemon past d
  there-daemons = there-still.daemons (clock_at m ∷ past)

  there-databases : database_names place ≡ database_names past
  there-databases = there-still.databases (clock_at m ∷ past)

  there-since : clock past <ℤ m → AreOnSince (clock past) (daemon past) → AreOnSince (clock place) (daemon place)
  there-since lt since d = subst (λ o. IfSome o (λ start. start ≤ℤ clock place)) (sym (there-daemons d)) (by (daemon past d) (since d))
    where
      by : (o : Option ℤ) → IfSome o (λ start. start ≤ℤ clock past) → IfSome o (λ start. start ≤ℤ clock place)
      by None le = tt
      by (Some start) le = omega (arith, ints, le, lt, there-clock)

  done-first : m ≤ℤ to → IsFirstDue (clock past) (daemon past) (length (database_names past)) m → DoneWhenDue place to (rest place) → DoneWhenDue past to (followed by_past past rest (at_moment by_past m past))
  done-first le first next = record {
    moments = m ∷ next.moments;
    done = ap (λ deed. followed by_past past (λ p. deed) (at_moment by_past m past)) next.done;
    rise = (first.later, subst (λ now. RiseFrom now next.moments) there-clock next.rise);
    all_due = λ x part lt most is. all x part (first.first x part lt is) most is;
    only_due = λ x is. elim (contains-split m next.moments x is) [
      | inl same ↦ subst (λ y. (clock past <ℤ y) × (y ≤ℤ to) × IsDue (daemon past) (length (database_names past)) Tick y) same (first.later, le, first.due)
      | inr later ↦ only x (next.only_due x later)
    ];
  }
    where
      all : (x : ℤ) (part : DaemonPart) → m ≤ℤ x → x ≤ℤ to → IsDue (daemon past) (length (database_names past)) part x → Contains (m ∷ next.moments) x
      all x part least most is = by (int_lt m x) refl
        where
          by : (b : Bool) → int_lt m x ≡ b → Contains (m ∷ next.moments) x
          by true e = contains-later m next.moments x (next.all_due x part (omega (arith, ints, e, there-clock)) most (due-same past place part x there-daemons there-databases is))
          by false e = let same : m ≡ x = omega (arith, ints, e, least) in subst (Contains (m ∷ next.moments)) same (contains-here m next.moments)

      only : (x : ℤ) → (clock place <ℤ x) × (x ≤ℤ to) × IsDue (daemon place) (length (database_names place)) Tick x → (clock past <ℤ x) × (x ≤ℤ to) × IsDue (daemon past) (length (database_names past)) Tick x
      only x (lt, most, is) =
          (let before : clock past <ℤ m = first.later in omega (arith, ints, lt, there-clock, before), most, due-same place past Tick x (λ d. sym (there-daemons d)) (sym there-databases) is)

-- so it is of the next moment, if that isn't after the last, and of those that follow
goes-due : (past : Past) (to : ℤ) (n : ℕ) (rest : Past → Deed) (o : Option ℤ) → unsigned_abs (to -ℤ clock past) ≤ suc n → clock past ≤ℤ to → AreOnSince (clock past) (daemon past)
    → IsNextDue (clock past) (daemon past) (length (database_names past)) o
    → ((p : Past) → unsigned_abs (to -ℤ clock p) ≤ n → clock p ≤ℤ to → AreOnSince (clock p) (daemon p) → DoneWhenDue p to (rest p))
    → DoneWhenDue past to (goes_to by_past to rest past o)
goes-due past to n rest None enough le since never also = done-none past to (λ x part lt most is. never x part is)
goes-due past to n rest (Some m) enough le since first also = by (int_lt to m) refl
  where
    by : (b : Bool) → int_lt to m ≡ b → DoneWhenDue past to (if b then idles else followed by_past past rest (at_moment by_past m past))
    by true e = done-none past to (λ x part lt most is. let least : m ≤ℤ x = first.first x part lt is in absurd (omega (arith, ints, e, least, most)))
    by false e =
        let at : clock (place past to m rest) ≡ m = there-clock past to m rest in
        let lt : clock past <ℤ m = first.later in
        let most : m ≤ℤ to = omega (arith, ints, e) in
        done-first past to m rest most first (also (place past to m rest) (omega (arith, ints, at, lt, most, enough)) (omega (arith, ints, at, most)) (there-since past to m rest lt since))

through-due : (to : ℤ) (n : ℕ) (past : Past) → unsigned_abs (to -ℤ clock past) ≤ n → clock past ≤ℤ to → AreOnSince (clock past) (daemon past) → DoneWhenDue past to (through by_past to n past)
through-due to zero past enough le since = done-none past to (λ x part lt most is. absurd (omega (arith, ints, enough, lt, most)))
through-due to (suc n) past enough le since =
    goes-due past to n (through by_past to n) (next_due (clock past) (daemon past) (length (database_names past))) enough le since
    (next_due_is_first (clock past) (daemon past) (length (database_names past)) since) (through-due to n)

-- ---- since when daemons are on

abbrev AreStarted : Past → Type 0
AreStarted past = AreOnSince (clock past) (daemon past)

-- the clock doesn't move back
clock-later : (past : Past) (who : ℕ) (time : ℤ) (waits : Bool) → pos 1 ≤ℤ time → clock past ≤ℤ clock (on_top past (statement.clock by_past past who time waits).facts)
clock-later past who time true more = omega (arith, ints)
clock-later past who time false more = of (int_lt last_moment to)
  where
    to : ℤ
    to = clock past +ℤ time

    facts : List Fact
    facts = (through by_past to (unsigned_abs (to -ℤ clock past)) past).facts

    of : (b : Bool) → clock past ≤ℤ clock (on_top past (facts_of (if b then refuses who ClockSpent else followed by_past past (λ q. answers_with who (Moment to) (clock_at to ∷ [])) (through by_past to (unsigned_abs (to -ℤ clock past)) past))))
    of true = omega (arith, ints)
    of false = subst (λ p. clock past ≤ℤ clock p) (sym (on_top-append past facts (clock_at to ∷ []))) (omega (arith, ints, more))

-- and leaves the daemons as they are
clock-daemons : (past : Past) (who : ℕ) (time : ℤ) (waits : Bool) (d : ℕ) → daemon (on_top past (statement.clock by_past past who time waits).facts) d ≡ daemon past d
clock-daemons past who time waits d =
    after-clock (λ p. daemon p d ≡ daemon past d) (λ p moment same. same)
    (λ p e part now same. (still-marks e (daemon_does (within_database by_past e) p part now).marks).daemons p d ∙ same) past who time waits refl

started-clock : (past : Past) (who : ℕ) (time : ℤ) (waits : Bool) → pos 1 ≤ℤ time → AreStarted past → AreStarted (on_top past (statement.clock by_past past who time waits).facts)
started-clock past who time waits more since d = subst (λ o. IfSome o (λ start. start ≤ℤ clock later)) (sym (clock-daemons past who time waits d)) (by (daemon past d) (since d))
  where
    later : Past
    later = on_top past (statement.clock by_past past who time waits).facts

    by : (o : Option ℤ) → IfSome o (λ start. start ≤ℤ clock past) → IfSome o (λ start. start ≤ℤ clock later)
    by None le = tt
    by (Some start) le = omega (arith, ints, le, clock-later past who time waits more)

-- facts after which it is so if it was so before
abbrev Keep : List Fact → Type 0
Keep facts = (past : Past) → AreStarted past → AreStarted (on_top past facts)

keep-marks : (d : ℕ) (marks : List Mark) → Keep (map (within d) marks)
keep-marks d [] past since = since
keep-marks d (mark ∷ marks) past since = keep-marks d marks (within d mark ∷ past) since

keep-append : (xs ys : List Fact) → Keep xs → Keep ys → Keep (xs ++ ys)
keep-append xs ys keep also past since = subst AreStarted (sym (on_top-append past xs ys)) (also (on_top past xs) (keep past since))

keep-left : (who : ℕ) (leaving : Bool) → Keep (left_if who leaving)
keep-left who true past since = since
keep-left who false past since = since

-- a daemon is switched on
keep-on : (d : ℕ) → Keep (daemon_on d ∷ [])
keep-on d past since e = by (d == e)
  where
    by : (b : Bool) → IfSome (if b then Some (clock past) else daemon past e) (λ start. start ≤ℤ clock past)
    by true = omega (arith, ints)
    by false = since e

keep-off : (d : ℕ) → Keep (daemon_off d ∷ [])
keep-off d past since e = by (d == e)
  where
    by : (b : Bool) → IfSome (if b then None else daemon past e) (λ start. start ≤ℤ clock past)
    by true = tt
    by false = since e

keep-on_unless : (d : ℕ) (start : Option ℤ) → Keep (on_unless d start)
keep-on_unless d None = keep-on d
keep-on_unless d (Some moment) = λ past since. since

keep-deed : (d : ℕ) (outside : List Fact) (turn : Turn) → Keep outside → Keep (deed_in d outside turn).facts
keep-deed d outside turn = keep-append (map (within d) turn.marks) outside (keep-marks d turn.marks)

started-if : (past : Past) (b : Bool) (x y : Deed) → AreStarted (on_top past x.facts) → AreStarted (on_top past y.facts) → AreStarted (on_top past (if b then x else y).facts)
started-if past true x y since also = since
started-if past false x y since also = also

started-opens : (past : Past) (who : ℕ) (stmt : DbStmt) (name : List ℕ) (found : Option ℕ) → AreStarted past → AreStarted (on_top past (opens by_past past who stmt name found).facts)
started-opens past who stmt name (Some d) since =
    keep-deed d (entered who d ∷ []) (database_turn (within_database by_past d) past (clock past) who stmt) (λ p still. still) past since
started-opens past who stmt name None since =
    let d : ℕ = length (database_names past) in
    started-if past (nat_le 16 d) _ _ since
    (keep-deed d (entered who d ∷ []) (database_turn (within_database by_past d) (founded name ∷ past) (clock past) who stmt) (λ p still. still) (founded name ∷ past) since)

started-outside : (past : Past) (who : ℕ) (stmt : DbStmt) (name : Option (List ℕ)) → AreStarted past → AreStarted (on_top past (outside_does by_past past who stmt name).facts)
started-outside past who stmt None since = since
started-outside past who stmt (Some name) since = started-opens past who stmt name (place_of name (database_names past)) since

started-db : (past : Past) (who : ℕ) (stmt : DbStmt) (at : Option ℕ) → AreStarted past → AreStarted (on_top past (db_stmt_does by_past past who stmt at).facts)
started-db past who stmt None since = started-outside past who stmt (opening stmt) since
started-db past who stmt (Some d) since =
    keep-deed d (left_if who (is_leaving (waits_at (world_of past) who (Some d)) stmt)) (database_turn (within_database by_past d) past (clock past) who stmt)
    (keep-left who (is_leaving (waits_at (world_of past) who (Some d)) stmt)) past since

started-refused : (past : Past) (who d : ℕ) (refusal : Refusal) → AreStarted past → AreStarted (on_top past (refused_in by_past past who d refusal).facts)
started-refused past who d refusal since = after-refused AreStarted past who d refusal since (keep-marks d (fails_if (within_database by_past d) past (clock past) who true).marks past since)

started-node : (past : Past) (who : ℕ) (stmt : NodeStmt) (at : Option ℕ) → AreStarted past → AreStarted (on_top past (node_stmt_does by_past past who stmt at).facts)
started-node past who stmt at since =
    after-node_does AreStarted (λ p e since. since) (λ p e table hand since. since) (λ p e batch since. since) (λ p e call since. keep-marks e (marks_of (node_does (database_of (history_in p e)) call)) p since) past who stmt at
    (λ d refusal. started-refused past who d refusal since) since

started-world : (past : Past) (who : ℕ) (stmt : WorldStmt) (at : Option ℕ) → IsWorldInForm stmt → AreStarted past → AreStarted (on_top past (world_stmt_does by_past past who stmt at).facts)
started-world past who (Clock time) at form since = started-clock past who time (waits_at (world_of past) who at) form.0 since
started-world past who PgqdOn at form since =
    after-switches AreStarted past who (λ d. on_unless d (daemon past d)) at (λ d. keep-on_unless d (daemon past d) past since) (λ d refusal. started-refused past who d refusal since) since
started-world past who PgqdOff at form since =
    after-switches AreStarted past who (λ d. daemon_off d ∷ []) at (λ d. keep-off d past since) (λ d refusal. started-refused past who d refusal since) since

started-statement : (past : Past) (who : ℕ) (stmt : Stmt) → IsInForm stmt → AreStarted past → AreStarted (on_top past (turn by_past who stmt past).facts)
started-statement past who (Db stmt) form since = started-db past who stmt (home past who) since
started-statement past who (Node stmt) form since = started-node past who stmt (home past who) since
started-statement past who (OnWorld stmt) form since = started-world past who stmt (home past who) form since

started-called : (past : Past) (call : Call) (found : Option ℕ) → IsInForm call.stmt → AreStarted past → AreStarted (on_top past (called by_past past call found).facts)
started-called past call (Some who) form since = started-statement past who call.stmt form since
started-called past call None form since =
    let who : ℕ = length (session_names past) in
    started-if past (nat_le 256 who) _ _ since
    (subst AreStarted (sym (on_top-append past (appears call.who).facts (turn by_past who call.stmt (appeared call.who ∷ past)).facts))
    (started-statement (appeared call.who ∷ past) who call.stmt form since))

pub daemons_have_started : DaemonsHaveStarted
daemons_have_started [] in_form = λ d. tt
daemons_have_started (call ∷ calls) in_form =
    started-called (past_of calls) call (place_of call.who (session_names (past_of calls))) (All-head IsCallInForm call calls in_form).1
    (daemons_have_started calls (All-tail IsCallInForm call calls in_form))

-- ---- the whole

in-time : (a b : ℤ) → b ≤ℤ a → int_lt a b ≡ false
in-time a b le = by (int_lt a b) refl
  where
    by : (t : Bool) → int_lt a b ≡ t → t ≡ false
    by true e = absurd (omega (arith, ints, e, le))
    by false e = refl

pub daemons_work_when_due : DaemonsWorkWhenDue
daemons_work_when_due calls in_form who to later most = record {
  moments = due.moments;
  goes = ap (λ b. if b then refuses who ClockSpent else followed by_past past stands (through by_past to (unsigned_abs (to -ℤ clock past)) past)) (in-time last_moment to most)
      ∙ ap (followed by_past past stands) due.done;
  rise = due.rise;
  all_due = due.all_due;
  only_due = due.only_due;
}
  where
    past : Past
    past = past_of calls

    stands : Past → Deed
    stands p = answers_with who (Moment to) (clock_at to ∷ [])

    due : DoneWhenDue past to (through by_past to (unsigned_abs (to -ℤ clock past)) past)
    due = through-due to (unsigned_abs (to -ℤ clock past)) past (omega arith) later (daemons_have_started calls in_form)
