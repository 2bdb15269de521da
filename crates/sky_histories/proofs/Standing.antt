-- From what the world shows to what has happened.
use Rattle.std.proofs.Common.{◌≡◌, ℕ, zero, suc, ◌+◌, ℤ, ◌+ℤ◌, ◌-ℤ◌, int_lt, unsigned_abs, List, [], ◌∷◌, Bool, true, false, nat_le, length, Option, Some, None, refl, sym, ◌∙◌, ap, if◌then◌else◌, Ok, Err}
use Rattle.sky_model.specs.declared.stmt.Stmt.{Stmt}
use Rattle.sky_model.specs.declared.stmt.DbStmt.{DbStmt}
use Rattle.sky_model.specs.declared.stmt.NodeStmt.{NodeStmt}
use Rattle.sky_model.specs.declared.stmt.WorldStmt.{WorldStmt}
use Rattle.sky_model.specs.declared.stmt.WorldStmt.TheVariants.{Clock, PgqdOn, PgqdOff}
use Rattle.sky_model.specs.declared.reply.Reply.{Reply}
use Rattle.sky_model.specs.declared.reply.Refusal.TheVariants.{TooMany}
use Rattle.sky_model.specs.declared.reply.Limit.TheVariants.{Sessions, Databases}
use Rattle.sky_names.specs.Places.{place_of}
use Rattle.sky_model.specs.History.{Fact, entered, within, clock_at, daemon_off, Past}
use Rattle.sky_model.specs.World.{World, world_of, session_names, database_names, history_in, on_top, after_facts}
use Rattle.sky_model.specs.Reader.{within_database, by_past, by_world, Deed, answers_with, refuses, appears, founds, idles, deed_with, followed}
use Rattle.sky_model.specs.declared.daemon.DaemonPart.{DaemonPart}
use Rattle.sky_model.specs.declared.daemon.DaemonPart.TheVariants.{Tick, Retry, Maintain}
use Rattle.sky_model.specs.declared.stmt.Stmt.TheVariants.{Db, Node, World as OnWorld}
use Rattle.sky_model.specs.declared.reply.Reply.TheVariants.{Done, Moment, Refused}
use Rattle.sky_model.specs.declared.reply.Refusal.TheVariants.{ClockSpent}
use Rattle.sky_model.specs.Daemon.{is_due_at, next_due}
use Rattle.sky_model.specs.Moment.{last_moment}
use Rattle.sky_model.specs.Clock.{deed_in, part_works, daemon_works, daemons_work, at_moment, goes_to, through, clock, waits_at}
use Rattle.sky_model.specs.WorkersOfWorld.{node_form}
use Rattle.sky_model.specs.Outcome.{Checked, aborts}
use Rattle.sky_model.specs.Settling.{with_rest}
use Rattle.sky_model.specs.DatabaseCalls.{failed}
use Rattle.sky_keys.specs.Waits.{is_waiting}
use Rattle.sky_model.specs.Calls.{database_turn, opening, opens_in, opens, outside_does, is_leaving, left_if, db_stmt_does, allowed_outside, fails_if, if_allowed, world_does, node_stmt_does, on_unless, switches_daemon, world_stmt_does, turn, Call, called, does, after, answers_of, world_part, past_of}
use Rattle.sky_model.specs.Steps.{IsCallInForm, Steps, deed_at, answers_at, after_call}
use Rattle.sky_histories.proofs.Marks.{world_of-fact, world_of-facts}
use Rattle.sky_histories.proofs.DaemonTurns.{same-daemon_does}
use Rattle.sky_histories.proofs.Histories.{AllLegal, same-turn-within, same-fails-within, legal_past}
use Rattle.sky_histories.proofs.Promised.{promised}
use Rattle.sky_histories.proofs.RowStanding.{turn-within, fails-within}
use Rattle.sky_histories.proofs.DatabaseStanding.{same-turn_at, same-database_does}

-- in a past a statement does, with those that it unblocks, what it does by what the world shows
same-database_turn : (past : Past) → AllLegal past → (d : ℕ) (now : ℤ) (who : ℕ) (stmt : DbStmt)
    → database_turn (within_database by_past d) past now who stmt ≡ database_turn (within_database by_world d) (world_of past) now who stmt
same-database_turn past all d now who stmt =
    same-turn-within past d now who stmt ∙ same-turn_at (history_in past d) (all d) now who stmt ∙ sym (turn-within (world_of past) d now who stmt)

-- so does a deed after another, if each of them does
same-followed : (past : Past) (rest : Past → Deed) (rest_shown : World → Deed) (deed : Deed) → AllLegal (on_top past deed.facts)
    → ((later : Past) → AllLegal later → rest later ≡ rest_shown (world_of later)) → followed by_past past rest deed ≡ followed by_world (world_of past) rest_shown deed
same-followed past rest rest_shown deed all same = ap (deed_with deed) (same (on_top past deed.facts) all ∙ ap rest_shown (world_of-facts past deed.facts))

-- so does a turn
same-opens_in : (who : ℕ) (stmt : DbStmt) (d : ℕ) (past : Past) → AllLegal past → opens_in by_past who stmt d past ≡ opens_in by_world who stmt d (world_of past)
same-opens_in who stmt d past all = ap (deed_in d (entered who d ∷ [])) (same-database_turn past all d (world_of past).now who stmt)

same-opens : (past : Past) → AllLegal past → (who : ℕ) (stmt : DbStmt) (name : List ℕ) (found : Option ℕ) → opens by_past past who stmt name found ≡ opens by_world (world_of past) who stmt name found
same-opens past all who stmt name (Some d) = same-opens_in who stmt d past all
same-opens past all who stmt name None =
    let d : ℕ = length (database_names past) in
    ap (λ deed. if nat_le 16 d then refuses who (TooMany Databases) else deed)
    (same-followed past (opens_in by_past who stmt d) (opens_in by_world who stmt d) (founds name) all (same-opens_in who stmt d))

same-outside : (past : Past) → AllLegal past → (who : ℕ) (stmt : DbStmt) (name : Option (List ℕ)) → outside_does by_past past who stmt name ≡ outside_does by_world (world_of past) who stmt name
same-outside past all who stmt None = refl
same-outside past all who stmt (Some name) = same-opens past all who stmt name (place_of name (database_names past))

same-db : (past : Past) → AllLegal past → (who : ℕ) (stmt : DbStmt) (home : Option ℕ) → db_stmt_does by_past past who stmt home ≡ db_stmt_does by_world (world_of past) who stmt home
same-db past all who stmt None = same-outside past all who stmt (opening stmt)
same-db past all who stmt (Some d) =
    ap (deed_in d (left_if who (is_leaving (is_waiting who ((world_of past).database d).part.waiting) stmt))) (same-database_turn past all d (world_of past).now who stmt)

-- a refusal
same-fails : (past : Past) → AllLegal past → (d : ℕ) (now : ℤ) (who : ℕ) (b : Bool) → fails_if (within_database by_past d) past now who b ≡ fails_if (within_database by_world d) (world_of past) now who b
same-fails past all d now who true =
    same-fails-within past d now who true ∙ sym (same-database_does (history_in past d) (all d) (failed who now)) ∙ sym (fails-within (world_of past) d now who true)
same-fails past all d now who false = refl

same-refused : (past : Past) → AllLegal past → (who d : ℕ) (may : Checked (Unit {0})) (deed : Deed) → if_allowed by_past past who d may deed ≡ if_allowed by_world (world_of past) who d may deed
same-refused past all who d (Ok _) deed = refl
same-refused past all who d (Err refusal) deed =
    ap (λ turn. deed_in d [] (with_rest (record { answers = (who, Refused refusal) ∷ []; marks = [] }) turn)) (same-fails past all d (world_of past).now who (aborts refusal))

same-node : (past : Past) → AllLegal past → (who : ℕ) (stmt : NodeStmt) (home : Option ℕ) → node_stmt_does by_past past who stmt home ≡ node_stmt_does by_world (world_of past) who stmt home
same-node past all who stmt None = refl
same-node past all who stmt (Some d) = same-refused past all who d (allowed_outside ((world_of past).database d) who) (world_does who (node_form (world_of past) d stmt))

same-switches : (past : Past) → AllLegal past → (who : ℕ) (facts : ℕ → List Fact) (home : Option ℕ) → switches_daemon by_past past who facts home ≡ switches_daemon by_world (world_of past) who facts home
same-switches past all who facts None = refl
same-switches past all who facts (Some d) = same-refused past all who d (allowed_outside ((world_of past).database d) who) (answers_with who Done (facts d))

-- ---- the clock

-- a deed and one after it
same-both : (past : Past) (rest : Past → Deed) (rest_shown : World → Deed) (deed deed_shown : Deed) → deed ≡ deed_shown → ((later : Past) → rest later ≡ rest_shown (world_of later))
    → followed by_past past rest deed ≡ followed by_world (world_of past) rest_shown deed_shown
same-both past rest rest_shown deed deed_shown one same =
    ap (deed_with deed) (same (on_top past deed.facts) ∙ ap rest_shown (world_of-facts past deed.facts)) ∙ ap (λ x. followed by_world (world_of past) rest_shown x) one

same-part : (d : ℕ) (part : DaemonPart) (past : Past) → part_works by_past d part past ≡ part_works by_world d part (world_of past)
same-part d part past =
    ap (λ turn. if is_due_at (world_of past).now part ((world_of past).daemons d) then deed_in d [] turn else idles)
    (same-daemon_does (within_database by_past d) (within_database by_world d) world_of (λ p. refl) (λ p mark. world_of-fact p (within d mark)) past part (world_of past).now)

same-daemon : (d : ℕ) (past : Past) → daemon_works by_past d past ≡ daemon_works by_world d (world_of past)
same-daemon d past =
    same-both past (λ q. followed by_past q (part_works by_past d Maintain) (part_works by_past d Retry q)) (λ q. followed by_world q (part_works by_world d Maintain) (part_works by_world d Retry q)) _ _ (same-part d Tick past)
    (λ p. same-both p (part_works by_past d Maintain) (part_works by_world d Maintain) _ _ (same-part d Retry p) (same-part d Maintain))

same-daemons : (n d : ℕ) (past : Past) → daemons_work by_past n d past ≡ daemons_work by_world n d (world_of past)
same-daemons zero d past = refl
same-daemons (suc n) d past = same-both past (daemons_work by_past n (d + 1)) (daemons_work by_world n (d + 1)) _ _ (same-daemon d past) (same-daemons n (d + 1))

same-moment : (moment : ℤ) (past : Past) → at_moment by_past moment past ≡ at_moment by_world moment (world_of past)
same-moment moment past =
    same-both past (λ q. daemons_work by_past (length (world_of q).databases) 0 q) (λ (w : World). daemons_work by_world (length w.databases) 0 w) (record { answers = []; facts = clock_at moment ∷ [] }) _ refl (λ p. same-daemons (length (world_of p).databases) 0 p)

same-goes : (last : ℤ) (rest : Past → Deed) (rest_shown : World → Deed) (past : Past) (o : Option ℤ) → ((later : Past) → rest later ≡ rest_shown (world_of later))
    → goes_to by_past last rest past o ≡ goes_to by_world last rest_shown (world_of past) o
same-goes last rest rest_shown past None same = refl
same-goes last rest rest_shown past (Some moment) same = ap (λ deed. if int_lt last moment then idles else deed) (same-both past rest rest_shown _ _ (same-moment moment past) same)

same-through : (last : ℤ) (n : ℕ) (past : Past) → through by_past last n past ≡ through by_world last n (world_of past)
same-through last zero past = refl
same-through last (suc n) past =
    same-goes last (through by_past last n) (through by_world last n) past (next_due (world_of past).now (world_of past).daemons (length (world_of past).databases)) (same-through last n)

same-clock : (past : Past) (who : ℕ) (time : ℤ) (waits : Bool) → clock by_past past who time waits ≡ clock by_world (world_of past) who time waits
same-clock past who time true = refl
same-clock past who time false =
    let to : ℤ = (world_of past).now +ℤ time in
    ap (λ deed. if int_lt last_moment to then refuses who ClockSpent else deed)
    (same-both past (λ q. answers_with who (Moment to) (clock_at to ∷ [])) (λ q. answers_with who (Moment to) (clock_at to ∷ [])) _ _
    (same-through to (unsigned_abs (to -ℤ (world_of past).now)) past) (λ later. refl))

same-world : (past : Past) → AllLegal past → (who : ℕ) (stmt : WorldStmt) (home : Option ℕ) → world_stmt_does by_past past who stmt home ≡ world_stmt_does by_world (world_of past) who stmt home
same-world past all who (Clock time) home = same-clock past who time (waits_at (world_of past) who home)
same-world past all who PgqdOn home = same-switches past all who (λ d. on_unless d ((world_of past).daemons d)) home
same-world past all who PgqdOff home = same-switches past all who (λ d. daemon_off d ∷ []) home

same-turn : (past : Past) → AllLegal past → (who : ℕ) (stmt : Stmt) → turn by_past who stmt past ≡ turn by_world who stmt (world_of past)
same-turn past all who (Db stmt) = same-db past all who stmt ((world_of past).homes who)
same-turn past all who (Node stmt) = same-node past all who stmt ((world_of past).homes who)
same-turn past all who (OnWorld stmt) = same-world past all who stmt ((world_of past).homes who)

same-called : (past : Past) → AllLegal past → (call : Call) (found : Option ℕ) → called by_past past call found ≡ called by_world (world_of past) call found
same-called past all call (Some who) = same-turn past all who call.stmt
same-called past all call None =
    ap (λ deed. if nat_le 256 (length (session_names past)) then refuses (length (session_names past)) (TooMany Sessions) else deed)
    (same-followed past (turn by_past (length (session_names past)) call.stmt) (turn by_world (length (session_names past)) call.stmt) (appears call.who) all
    (λ later legal. same-turn later legal (length (session_names past)) call.stmt))

-- what a call does follows from what the world shows
does-deed_at : (past : Past) → AllLegal past → (call : Call) → does past call ≡ deed_at (world_of past) call
does-deed_at past all call = same-called past all call (place_of call.who (session_names past))

answers_of-answers_at : (past : Past) → AllLegal past → (call : Call) → answers_of past call ≡ answers_at (world_of past) call
answers_of-answers_at past all call = ap Deed.answers (does-deed_at past all call)

world_of-after : (past : Past) → AllLegal past → (call : Call) → world_of (after past call) ≡ after_call (world_of past) call
world_of-after past all call =
    world_of-facts past (does past call).facts ∙ ap (λ (deed : Deed). after_facts (world_of past) deed.facts) (does-deed_at past all call)

-- a call that answers and changes the world as the world itself says keeps its promise
pub steps_from_exact : (old new : World) (call : Call) (replies : List (ℕ × Reply)) → replies ≡ answers_at old call → new ≡ after_call old call → Steps old new call replies
steps_from_exact old new call =
    promised world_part IsCallInForm call (λ w. answers_at w call) (λ w. after_call w call)
    (λ calls in_form. sym (answers_of-answers_at (past_of calls) (legal_past calls) call))
    (λ calls in_form. sym (world_of-after (past_of calls) (legal_past calls) call)) old new
