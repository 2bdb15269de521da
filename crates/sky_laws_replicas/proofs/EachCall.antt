-- What each call of the world preserves, if what calls do in a database does that aren't for nodes, each statement on nodes, and what else happens beside
-- them. Of the place of a call, and of the one after it, something may be known besides.
use Rattle.std.proofs.Common.{◌≡◌, ℕ, ℤ, List, [], ◌∷◌, map, length, nat_le, Bool, true, false, Option, Some, None, Ok, Err, IfOk, refl, sym, subst, if◌then◌else◌}
use Rattle.std.proofs.lemmas.Result.{IfOk-weaker}
use Rattle.sky_keys.specs.Waits.{is_waiting}
use Rattle.sky_names.specs.Places.{place_of}
use Rattle.sky_model.specs.declared.stmt.Stmt.{Stmt}
use Rattle.sky_model.specs.declared.stmt.Stmt.TheVariants.{Db, Node as OnNodes, World as OnWorld}
use Rattle.sky_model.specs.declared.stmt.DbStmt.{DbStmt}
use Rattle.sky_model.specs.declared.stmt.NodeStmt.{NodeStmt}
use Rattle.sky_model.specs.declared.stmt.WorldStmt.{WorldStmt}
use Rattle.sky_model.specs.declared.stmt.WorldStmt.TheVariants.{Clock, PgqdOn, PgqdOff}
use Rattle.sky_model.specs.declared.daemon.DaemonPart.{DaemonPart}
use Rattle.sky_model.specs.declared.reply.Limit.TheVariants.{Sessions}
use Rattle.sky_model.specs.declared.reply.Refusal.{Refusal}
use Rattle.sky_model.specs.declared.reply.Refusal.TheVariants.{TooMany}
use Rattle.sky_model.specs.History.{Mark, Fact, appeared, founded, entered as came, left, within, clock_at, daemon_on, daemon_off, node_made, in_hand, batch_in_hand, Past}
use Rattle.sky_model.specs.Outcome.{Checked}
use Rattle.sky_model.specs.Reader.{by_past, database_by_history, within_database, Deed, refuses, appears, followed}
use Rattle.sky_model.specs.Settling.{Turn}
use Rattle.sky_model.specs.Daemon.{daemon_does}
use Rattle.sky_model.specs.Clock.{deed_in, waits_at}
use Rattle.sky_model.specs.NodesOfWorld.{WorldOutcome}
use Rattle.sky_model.specs.WorkersOfWorld.{node_form}
use Rattle.sky_model.specs.World.{world_of, session_names, database_names, home, history_in, on_top}
use Rattle.sky_model.specs.DatabaseCalls.{DatabaseCall, stepped, failed, worked, database_does}
use Rattle.sky_model.specs.Calls.{database_turn, opening, opens, outside_does, is_leaving, left_if, db_stmt_does, allowed_outside, refused_in, if_allowed, world_does, node_stmt_does, on_unless, world_stmt_does, turn, Call, called, past_of}
use Rattle.sky_histories.proofs.Histories.{same-turn-within, same-fails-within, same-daemon-within}
use Rattle.sky_histories.proofs.NodeDeeds.{after-refused, after-switches}
use Rattle.sky_histories.proofs.PastHistories.{on_top-append}
use Rattle.sky_histories.proofs.ClockSteps.{after-clock}
use Rattle.sky_laws_replicas.proofs.SessionsMarks.{is_served}

-- whether a fact is none in a database, of a node, and of what a worker has in hand
abbrev pub is_beside : Fact → Bool
is_beside (within d mark) = false
is_beside (node_made d) = false
is_beside (in_hand d table hand) = false
is_beside (batch_in_hand d batch) = false
is_beside fact = true

-- what a call of a database leaves there
abbrev pub marks_in : Past → ℕ → DatabaseCall → List Mark
marks_in past d call = (database_does database_by_history (history_in past d) call).marks

abbrev pub is_daemons : DatabaseCall → Bool
is_daemons (worked part now) = true
is_daemons call = false

-- what a statement on nodes preserves, by its session's home
abbrev pub NodePreserves : (End Q : Past → Type 0) → Past → ℕ → NodeStmt → Option ℕ → Type 0
NodePreserves End Q past who s home_is = (let facts : List Fact = (node_stmt_does by_past past who s home_is).facts in End (on_top past facts) → Q (on_top past facts))

-- if what it does preserves it unless it is refused
pub by-form : (End Q : Past → Type 0) (past : Past) (who : ℕ) (s : NodeStmt) (home_is : Option ℕ) → ((d : ℕ) → IfOk (node_form (world_of past) d s) (λ o. End (on_top past o.facts) → Q (on_top past o.facts)))
    → ((d : ℕ) (refusal : Refusal) → Q (on_top past (refused_in by_past past who d refusal).facts)) → Q past → NodePreserves End Q past who s home_is
by-form End Q past who s None forms refused q at_end = q
by-form End Q past who s (Some d) forms refused q at_end = of (allowed_outside ((world_of past).database d) who) at_end
  where
    does : (c : Checked WorldOutcome) → IfOk c (λ o. End (on_top past o.facts) → Q (on_top past o.facts)) → End (on_top past (world_does who c).facts) → Q (on_top past (world_does who c).facts)
    does (Ok o) holds e = holds e
    does (Err refusal) holds e = q

    of : (may : Checked (Unit {0})) → (let facts : List Fact = (if_allowed by_past past who d may (world_does who (node_form (world_of past) d s))).facts in End (on_top past facts) → Q (on_top past facts))
    of (Ok _) e = does (node_form (world_of past) d s) (forms d) e
    of (Err refusal) e = refused d refusal

-- each database's history is as at another place
abbrev pub AreSame : (past from : Past) → Type 0
AreSame past from = (d : ℕ) → history_in past d ≡ history_in from d

-- what a session's statement preserves, by a call from a place: where it begins the first holds, and where it ends the second. What it does in a database,
-- it does where each history is as at that place, but for daemons
pub record Preserves (from : Past) (stmt : Stmt) (At End Q : Past → Type 0) : Type 0 where
  pub does : (past : Past) (d : ℕ) (call : DatabaseCall) → is_served call ≡ false → (is_daemons call ≡ false → AreSame past from) → Q past → Q (on_top past (map (within d) (marks_in past d call)))
  pub nodes : (past : Past) (who : ℕ) (s : NodeStmt) (home_is : Option ℕ) → stmt ≡ OnNodes s → At past → ((d : ℕ) (refusal : Refusal) → Q (on_top past (refused_in by_past past who d refusal).facts))
      → Q past → NodePreserves End Q past who s home_is
  pub aside : (past : Past) (fact : Fact) → is_beside fact ≡ true → Q past → Q (fact ∷ past)
  pub appears : (past : Past) (name : List ℕ) → At past → At (appeared name ∷ past)

module _ (from : Past) (stmt : Stmt) (At End Q : Past → Type 0) (is : Preserves from stmt At End Q) where
  -- facts that preserve it
  abbrev Keep : List Fact → Type 0
  Keep facts = (past : Past) → Q past → Q (on_top past facts)

  keep-one : (fact : Fact) → is_beside fact ≡ true → Keep (fact ∷ [])
  keep-one fact beside past q = is.aside past fact beside q

  keep-left : (who : ℕ) (leaving : Bool) → Keep (left_if who leaving)
  keep-left who true past q = keep-one (left who) refl past q
  keep-left who false past q = q

  keep-on : (d : ℕ) (start : Option ℤ) → Keep (on_unless d start)
  keep-on d None past q = keep-one (daemon_on d) refl past q
  keep-on d (Some moment) past q = q

  after-if : (past : Past) (b : Bool) (x y : Deed) → Q (on_top past x.facts) → Q (on_top past y.facts) → Q (on_top past (if b then x else y).facts)
  after-if past true x y q also = q
  after-if past false x y q also = also

  -- what is done in a database, as its history has it
  after-marks : (past : Past) (d : ℕ) (call : DatabaseCall) (deed : Turn) → deed ≡ database_does database_by_history (history_in past d) call → is_served call ≡ false
      → (is_daemons call ≡ false → AreSame past from) → Q past → Q (on_top past (map (within d) deed.marks))
  after-marks past d call deed alike own same q = subst (λ (x : Turn). Q (on_top past (map (within d) x.marks))) (sym alike) (is.does past d call own same q)

  after-works : (past : Past) (d : ℕ) (part : DaemonPart) (now : ℤ) → Q past → Q (on_top past (map (within d) (daemon_does (within_database by_past d) past part now).marks))
  after-works past d part now = after-marks past d (worked part now) _ (same-daemon-within past d part now) refl (λ e. absurd (cc))

  after-refuses : (past : Past) (who d : ℕ) (refusal : Refusal) → AreSame past from → Q past → Q (on_top past (refused_in by_past past who d refusal).facts)
  after-refuses past who d refusal same q =
      let now : ℤ = (world_of past).now in
      after-refused Q past who d refusal q (after-marks past d (failed who now) _ (same-fails-within past d now who true) refl (λ _. same) q)

  -- ---- a statement in a database

  after-deed : (past : Past) (d who : ℕ) (s : DbStmt) (outside : List Fact) → Keep outside → AreSame past from → Q past
      → Q (on_top past (deed_in d outside (database_turn (within_database by_past d) past (world_of past).now who s)).facts)
  after-deed past d who s outside keep same q =
      let now : ℤ = (world_of past).now in
      let deed : Turn = database_turn (within_database by_past d) past now who s in
      subst Q (sym (on_top-append past (map (within d) deed.marks) outside)) (keep _ (after-marks past d (stepped who s now) deed (same-turn-within past d now who s) refl (λ _. same) q))

  after-opens : (past : Past) (who : ℕ) (s : DbStmt) (name : List ℕ) (found : Option ℕ) → AreSame past from → Q past → Q (on_top past (opens by_past past who s name found).facts)
  after-opens past who s name (Some d) same q = after-deed past d who s (came who d ∷ []) (keep-one (came who d) refl) same q
  after-opens past who s name None same q =
      let d : ℕ = length (database_names past) in
      after-if past (nat_le 16 d) _ _ q (after-deed (founded name ∷ past) d who s (came who d ∷ []) (keep-one (came who d) refl) (λ e. same e) (is.aside past (founded name) refl q))

  after-outside : (past : Past) (who : ℕ) (s : DbStmt) (name : Option (List ℕ)) → AreSame past from → Q past → Q (on_top past (outside_does by_past past who s name).facts)
  after-outside past who s None same q = q
  after-outside past who s (Some name) same q = after-opens past who s name (place_of name (database_names past)) same q

  after-db : (past : Past) (who : ℕ) (s : DbStmt) (home_is : Option ℕ) → AreSame past from → Q past → Q (on_top past (db_stmt_does by_past past who s home_is).facts)
  after-db past who s None same q = after-outside past who s (opening s) same q
  after-db past who s (Some d) same q =
      let leaving : Bool = is_leaving (is_waiting who ((world_of past).database d).part.waiting) s in
      after-deed past d who s (left_if who leaving) (keep-left who leaving) same q

  -- ---- any statement

  after-world : (past : Past) (who : ℕ) (s : WorldStmt) (home_is : Option ℕ) → AreSame past from → Q past → Q (on_top past (world_stmt_does by_past past who s home_is).facts)
  after-world past who (Clock time) home_is same q = after-clock Q (λ p moment holds. is.aside p (clock_at moment) refl holds) after-works past who time (waits_at (world_of past) who home_is) q
  after-world past who PgqdOn home_is same q =
      after-switches Q past who (λ d. on_unless d ((world_of past).daemons d)) home_is (λ d. keep-on d ((world_of past).daemons d) past q) (λ d refusal. after-refuses past who d refusal same q) q
  after-world past who PgqdOff home_is same q =
      after-switches Q past who (λ d. daemon_off d ∷ []) home_is (λ d. keep-one (daemon_off d) refl past q) (λ d refusal. after-refuses past who d refusal same q) q

  after-statement : (past : Past) (who : ℕ) (s : Stmt) → stmt ≡ s → AreSame past from → At past → Q past → End (on_top past (turn by_past who s past).facts) → Q (on_top past (turn by_past who s past).facts)
  after-statement past who (Db s) this same at q at_end = after-db past who s (home past who) same q
  after-statement past who (OnNodes s) this same at q at_end = is.nodes past who s (home past who) this at (λ d refusal. after-refuses past who d refusal same q) q at_end
  after-statement past who (OnWorld s) this same at q at_end = after-world past who s (home past who) same q

  -- of a session, which may appear by it
  after-called : (name : List ℕ) (found : Option ℕ) → At from → Q from → (let facts : List Fact = (called by_past from (record { who = name; stmt = stmt }) found).facts in End (on_top from facts) → Q (on_top from facts))
  after-called name (Some who) at q at_end = after-statement from who stmt refl (λ d. refl) at q at_end
  after-called name None at q at_end = of (nat_le 256 who) at_end
    where
      who : ℕ
      who = length (session_names from)

      new : Deed
      new = followed by_past from (turn by_past who stmt) (appears name)

      split : on_top from new.facts ≡ on_top (appeared name ∷ from) (turn by_past who stmt (appeared name ∷ from)).facts
      split = on_top-append from (appears name).facts (turn by_past who stmt (appeared name ∷ from)).facts

      of : (b : Bool) → (let facts : List Fact = (if b then refuses who (TooMany Sessions) else new).facts in End (on_top from facts) → Q (on_top from facts))
      of true e = q
      of false e = subst Q (sym split) (after-statement (appeared name ∷ from) who stmt refl (λ d. refl) (is.appears from name at) (is.aside from (appeared name) refl q) (subst End split e))

-- after a call
pub after-call : (At End Q : Past → Type 0) (call : Call) (calls : List Call) → Preserves (past_of calls) call.stmt At End Q → At (past_of calls) → Q (past_of calls)
    → End (past_of (call ∷ calls)) → Q (past_of (call ∷ calls))
after-call At End Q call calls is at q at_end = after-called (past_of calls) call.stmt At End Q is call.who (place_of call.who (session_names (past_of calls))) at q at_end

-- what each statement preserves, if nothing more is known
pub record AllPreserve (Q : Past → Type 0) : Type 0 where
  pub does : (past : Past) (d : ℕ) (call : DatabaseCall) → is_served call ≡ false → Q past → Q (on_top past (map (within d) (marks_in past d call)))
  pub nodes : (past : Past) (d : ℕ) (s : NodeStmt) → Q past → IfOk (node_form (world_of past) d s) (λ o. Q (on_top past o.facts))
  pub aside : (past : Past) (fact : Fact) → is_beside fact ≡ true → Q past → Q (fact ∷ past)

-- after all calls
pub after-calls : (Q : Past → Type 0) → AllPreserve Q → Q [] → (calls : List Call) → Q (past_of calls)
after-calls Q is start [] = start
after-calls Q is start (call ∷ calls) =
    after-call (λ _. Unit {0}) (λ _. Unit {0}) Q call calls (record {
      does = λ past d call own _ q. is.does past d call own q;
      nodes = λ past who s home_is _ _ refused q.
          by-form (λ _. Unit {0}) Q past who s home_is (λ d. IfOk-weaker (node_form (world_of past) d s) _ _ (λ o holds _. holds) (is.nodes past d s q)) refused q;
      aside = is.aside;
      appears = λ past name at. at;
    }) tt (after-calls Q is start calls) tt
