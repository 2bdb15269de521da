-- Each session has open the database that is its home, whatever is called.
use Rattle.std.proofs.Common.{◌≡◌, ◌≢◌, ◌⊎◌, inl, inr, ℕ, ℤ, List, [], ◌∷◌, ◌++◌, Bool, true, false, ◌==◌, nat_le, Option, Some, None, Ok, map, length, refl, sym, ◌∙◌, ap, subst, arith, if◌then◌else◌, not}
use Rattle.std.proofs.lemmas.Bool.{false_from_ne_true}
use Rattle.std.proofs.lemmas.Bool.Decides.{nat_tests}
use Rattle.sky_keys.specs.Waits.{is_waiting}
use Rattle.sky_names.specs.Places.{place_of}
use Rattle.sky_model.specs.declared.stmt.Stmt.{Stmt}
use Rattle.sky_model.specs.declared.stmt.DbStmt.{DbStmt}
use Rattle.sky_model.specs.declared.stmt.DbStmt.TheVariants.{Row, Queue}
use Rattle.sky_model.specs.declared.stmt.QueueStmt.{QueueStmt}
use Rattle.sky_model.specs.declared.stmt.QueueStmt.TheVariants.{CreateQueue}
use Rattle.sky_model.specs.SessionMarks.{failing}
use Rattle.sky_model.specs.declared.stmt.NodeStmt.{NodeStmt}
use Rattle.sky_model.specs.declared.stmt.WorldStmt.{WorldStmt}
use Rattle.sky_model.specs.declared.stmt.WorldStmt.TheVariants.{Clock, PgqdOn, PgqdOff}
use Rattle.sky_model.specs.declared.reply.Refusal.{Refusal}
use Rattle.sky_model.specs.declared.daemon.DaemonPart.{DaemonPart}
use Rattle.sky_model.specs.declared.stmt.Stmt.TheVariants.{Db, Node, World as OnWorld}
use Rattle.sky_model.specs.declared.stmt.RowStmt.TheVariants.{OpenDb, Close}
use Rattle.sky_model.specs.declared.stmt.Where.TheVariants.{Anywhere, WhenOpen}
use Rattle.sky_model.specs.declared.reply.Refusal.TheVariants.{Busy}
use Rattle.sky_model.specs.History.{Mark, connected, disconnected, sight_taken, History, Fact, appeared, founded, entered, left, within, Past, daemon_off}
use Rattle.sky_model.specs.Sessions.{Block, outside, inside, failed, has_open, block, own_txid, session}
use Rattle.sky_model.specs.Locks.{waiting}
use Rattle.sky_model.specs.State.{database_of, part_of}
use Rattle.sky_model.specs.World.{home, history_in, session_names, database_names, on_top, world_of}
use Rattle.sky_model.specs.Outcome.{Outcome, Checked, or_refused, after_marks_of, marks_of}
use Rattle.sky_model.specs.StepNode.{node_does}
use Rattle.sky_model.specs.Allowed.{where_of, allowed}
use Rattle.sky_model.specs.Made.{runs_if}
use Rattle.sky_model.specs.StepSession.{open_db, close}
use Rattle.sky_model.specs.Telling.{tells}
use Rattle.sky_model.specs.Reader.{shown_in, part_by_history, database_by_history, within_part, within_database, by_past, Deed, appears}
use Rattle.sky_model.specs.Settling.{Turn, marked, behind_marks, settling}
use Rattle.sky_model.specs.Daemon.{daemon_does}
use Rattle.sky_model.specs.Clock.{deed_in, waits_at}
use Rattle.sky_model.specs.Calls.{making, statement, database_turn, opening, opens, outside_does, is_leaving, left_if, turn, Call, called, past_of, db_stmt_does, fails_if, refused_in, node_stmt_does, on_unless, world_stmt_does}
use Rattle.sky_model.specs.LawsOfHistories.{HomesAreOpen, WaitersHaveOpen, BlocksAreOpen}
use Rattle.sky_histories.proofs.Legal.{Fine, begins_block, fails_block, ends_block, connects, disconnects, Legal, start, next}
use Rattle.sky_histories.proofs.WaitersFit.{waits-open}
use Rattle.sky_histories.proofs.SnapshotLaws.{legal_place}
use Rattle.sky_histories.proofs.Resting.{behind-append}
use Rattle.sky_histories.proofs.PastHistories.{on_top-append, history-marks, AreOutside, history-outside, left-outside, AreQuiet, on-quiet, off-quiet}
use Rattle.sky_histories.proofs.NodeCalls.{is_for_nodes, each-node}
use Rattle.sky_histories.proofs.NodeDeeds.{after-node_does, after-refused, after-switches}
use Rattle.sky_histories.proofs.DaemonTurns.{each-daemon_does}
use Rattle.sky_histories.proofs.ClockSteps.{after-clock}
use Rattle.sky_histories.proofs.Histories.{AllLegal, same-turn-within, legal_past, same-fails-within}
use Rattle.sky_histories.proofs.StatementMarks.{AnyReply, each-append, each-abort, each-failure, given-runs}
use Rattle.sky_laws.proofs.Staying.{stays-any, is_staying, Stay, open-stays, IsStaying, stays-form, stay-settling}
use Rattle.sky_model.proofs.Cases.{by_same}

pub waiters_have_open : WaitersHaveOpen
waiters_have_open p is who waits = waits-open p (legal_place p is) who waits

-- ---- who is in a block

abbrev InBlock : History → ℕ → Type 0
InBlock h who = block who h ≢ outside → has_open who h ≡ true

block-step : (h : History) (mark : Mark) → Fine h mark → (who : ℕ) → InBlock h who → InBlock (mark ∷ h) who
block-step h _ (begins_block v e is_open) who ih = λ there. grind (arith, nat_tests, ih, is_open, there)
block-step h _ (fails_block v e f) who ih = λ there. grind (arith, nat_tests, ih, e, there)
block-step h _ (ends_block v e) who ih = λ there. grind (arith, nat_tests, ih, there)
block-step h _ (connects v e) who ih = λ there. grind (arith, ih there)
block-step h _ (disconnects v quiet away) who ih = λ there. grind (arith, nat_tests, ih, away, there)
block-step h _ _ who ih = ih

block-open : (h : History) → Legal h → (who : ℕ) → InBlock h who
block-open _ start who there = absurd (there refl)
block-open _ (next {h = h} {mark = mark} l fine) who there = block-step h mark fine who (block-open h l who) there

pub blocks_are_open : BlocksAreOpen
blocks_are_open p is who there = block-open p (legal_place p is) who there

-- ---- who has a database open after a turn

-- after marks it is open to one session as given, and to the others as before
abbrev Opens : History → List Mark → ℕ → Bool → Type 0
Opens h marks who b = (v : ℕ) → has_open v (marked h marks) ≡ (if who == v then b else has_open v h)

-- after a turn, if it is so after its statement: those that resume leave it
turn-opens : (h : History) (now : ℤ) (who : ℕ) (stmt : DbStmt) (b : Bool) → Opens h (statement database_by_history h now who stmt).marks who b
    → Opens h (database_turn database_by_history h now who stmt).marks who b
turn-opens h now who stmt b own v =
    let marks : List Mark = (statement database_by_history h now who stmt).marks in
    let there : History = behind_marks (within_part database_by_history now) h marks in
    ap (has_open v) (behind-append part_by_history h marks (settling (within_part database_by_history now) there).marks)
    ∙ open-stays v (marked h marks) (settling (within_part database_by_history now) there).marks (stay-settling there now)
    ∙ own v

-- nothing changes, if the session had it as given
stay-opens : (h : History) (marks : List Mark) (who : ℕ) (b : Bool) → Stay marks → has_open who h ≡ b → Opens h marks who b
stay-opens h marks who b stay is v = grind (arith, nat_tests, open-stays v h marks stay, is)

-- a statement that opens no database and closes none
stay-statement : (h : History) (now : ℤ) (who : ℕ) (stmt : DbStmt) (may : Checked (Unit {0})) → IsStaying (has_open who h) stmt
    → Stay (runs_if (making database_by_history now who stmt) (where_of stmt) who h may).marks
stay-statement h now who stmt may is =
    (given-runs AnyReply is_staying (λ _. tt) stays-any (making database_by_history now who stmt) (where_of stmt) who h may
    (stays-form (database_of h) (shown_in h) now who stmt is) (stays-form (database_of (sight_taken who ∷ h)) (shown_in (sight_taken who ∷ h)) now who stmt is)).1

-- how a statement is made, by whether it is allowed
abbrev made : History → ℤ → ℕ → DbStmt → Checked (Unit {0}) → Outcome
made h now who stmt may = runs_if (making database_by_history now who stmt) (where_of stmt) who h may

allowed-close : (b : Block) → allowed false true b WhenOpen ≡ Ok tt
allowed-close outside = refl
allowed-close inside = refl
allowed-close failed = refl

-- `close` of a session that waits is refused
busy-closes : (h : History) (now : ℤ) (who : ℕ) → is_waiting who (waiting h) ≡ true → Stay (statement database_by_history h now who (Row Close)).marks
busy-closes h now who waits =
    subst (λ may. Stay (made h now who (Row Close) may).marks) (sym (ap (λ b. allowed b (has_open who h) (block who h) WhenOpen) waits))
    (each-abort AnyReply is_staying (λ _. tt) stays-any who (block who h) (own_txid who h) Busy)

-- else it closes the database
closes : (h : History) (now : ℤ) (who : ℕ) → is_waiting who (waiting h) ≡ false → has_open who h ≡ true → Opens h (statement database_by_history h now who (Row Close)).marks who false
closes h now who quiet is =
    subst (λ may. Opens h (made h now who (Row Close) may).marks who false) (sym ((λ i. allowed (quiet i) (is i) (block who h) WhenOpen) ∙ allowed-close (block who h)))
    (of (block who h) (own_txid who h))
  where
    of : (b : Block) (o : Option ℕ) → Opens h (or_refused who (session h who) (after_marks_of [] (tells (database_of h) now (close who o b)))).marks who false
    of outside o v = refl
    of inside None v = refl
    of inside (Some t) v = refl
    of failed None v = refl
    of failed (Some t) v = refl

-- and `open` opens it
opens-here : (h : History) (now : ℤ) (who : ℕ) (name : List ℕ) → is_waiting who (waiting h) ≡ false → has_open who h ≡ false
    → Opens h (statement database_by_history h now who (Row (OpenDb name))).marks who true
opens-here h now who name quiet is =
    subst (λ may. Opens h (made h now who (Row (OpenDb name)) may).marks who true) (λ i. allowed (sym quiet i) (sym is i) (block who h) Anywhere)
    (subst (λ o. Opens h (or_refused who (session h who) (after_marks_of [] (tells (database_of h) now (open_db who o)))).marks who true) (sym is) (λ v. refl))

-- ---- homes

-- whether a session whose home is this has that database open
abbrev stands : Option ℕ → ℕ → Bool
stands None d = false
stands (Some e) d = e == d

abbrev Homed : Past → Type 0
Homed past = (who d : ℕ) → has_open who (history_in past d) ≡ stands (home past who) d

abbrev home_if : Bool → ℕ → Option ℕ
home_if true d = Some d
home_if false d = None

-- marks change no home
home-marks : (past : Past) (d : ℕ) (marks : List Mark) (v : ℕ) → home (on_top past (map (within d) marks)) v ≡ home past v
home-marks past d [] v = refl
home-marks past d (mark ∷ marks) v = home-marks (within d mark ∷ past) d marks v

-- a turn in a database that its session has open then, or hasn't, according to its home
homed-turn : (past : Past) → Homed past → (d who : ℕ) (marks : List Mark) (beside : List Fact) (b : Bool) → AreOutside beside
    → ((v : ℕ) → home (on_top (on_top past (map (within d) marks)) beside) v ≡ (if who == v then home_if b d else home past v))
    → Opens (history_in past d) marks who b
    → ((e : ℕ) → (d == e) ≡ false → has_open who (history_in past e) ≡ false)
    → Homed (on_top past (map (within d) marks ++ beside))
homed-turn past homed d who marks beside b none homes own elsewhere v e =
    ap (has_open v) (history-outside past (map (within d) marks) beside e none ∙ history-marks past d marks e)
    ∙ by_same (λ c. has_open v (if c then marked (history_in past e) marks else history_in past e) ≡ stands (if who == v then home_if b d else home past v) e) d e
    (λ one. subst (λ n. has_open v (marked (history_in past n) marks) ≡ stands (if who == v then home_if b d else home past v) n) one (own v ∙ grind (arith, nat_tests, homed v d)))
    (λ other. grind (arith, nat_tests, homed v e, elsewhere e other))
    ∙ ap (λ o. stands o e) (sym (ap (λ p. home p v) (on_top-append past (map (within d) marks) beside) ∙ homes v))

-- if its home is no other database it has no other open
elsewhere-none : (past : Past) → Homed past → (d who : ℕ) (at : Option ℕ) → home past who ≡ at → (at ≡ None) ⊎ (at ≡ Some d) → (e : ℕ) → (d == e) ≡ false → has_open who (history_in past e) ≡ false
elsewhere-none past homed d who at is where_it_is e other = grind (arith, nat_tests, homed who e)

-- the same of a deed
homed-deed : (past : Past) → Homed past → (d who : ℕ) (stmt : DbStmt) (beside : List Fact) (b : Bool) → AreOutside beside
    → ((p : Past) (v : ℕ) → home p v ≡ home past v → home (on_top p beside) v ≡ (if who == v then home_if b d else home past v))
    → Opens (history_in past d) (statement database_by_history (history_in past d) (world_of past).now who stmt).marks who b
    → ((e : ℕ) → (d == e) ≡ false → has_open who (history_in past e) ≡ false)
    → Homed (on_top past (deed_in d beside (database_turn (within_database by_past d) past (world_of past).now who stmt)).facts)
homed-deed past homed d who stmt beside b none homes own elsewhere =
    subst (λ (t : Turn). Homed (on_top past (map (within d) t.marks ++ beside))) (sym (same-turn-within past d (world_of past).now who stmt))
    (homed-turn past homed d who (database_turn database_by_history (history_in past d) (world_of past).now who stmt).marks beside b none
    (λ v. homes (on_top past (map (within d) (database_turn database_by_history (history_in past d) (world_of past).now who stmt).marks)) v
    (home-marks past d (database_turn database_by_history (history_in past d) (world_of past).now who stmt).marks v))
    (turn-opens (history_in past d) (world_of past).now who stmt b own) elsewhere)

-- a session that has none open waits nowhere
quiet-closed : (past : Past) → AllLegal past → (d who : ℕ) → has_open who (history_in past d) ≡ false → is_waiting who (waiting (history_in past d)) ≡ false
quiet-closed past all d who closed = false_from_ne_true (is_waiting who (waiting (history_in past d))) (λ e. absurd (cc (sym closed ∙ waits-open (history_in past d) (all d) who e)))

-- `open` of a session without a home
opening-name : (stmt : DbStmt) (name : List ℕ) → opening stmt ≡ Some name → stmt ≡ Row (OpenDb name)
opening-name (Row (OpenDb n)) name is = let same : n ≡ name = cc in ap (λ m. Row (OpenDb m)) same
opening-name _ name is = absurd (cc)

homed-opens_in : (past : Past) → AllLegal past → Homed past → (who d : ℕ) (name : List ℕ) → home past who ≡ None
    → Homed (on_top past (deed_in d (entered who d ∷ []) (database_turn (within_database by_past d) past (world_of past).now who (Row (OpenDb name)))).facts)
homed-opens_in past all homed who d name none =
    homed-deed past homed d who (Row (OpenDb name)) (entered who d ∷ []) true (λ p n. refl)
    (λ p v same. ap (λ o. if who == v then Some d else o) same)
    (opens-here (history_in past d) (world_of past).now who name (quiet-closed past all d who closed) closed)
    (elsewhere-none past homed d who None none (inl refl))
  where
    closed : has_open who (history_in past d) ≡ false
    closed = homed who d ∙ ap (λ o. stands o d) none

homed-if : (past : Past) (b : Bool) (x y : Deed) → Homed (on_top past x.facts) → Homed (on_top past y.facts) → Homed (on_top past (if b then x else y).facts)
homed-if past true x y homed also = homed
homed-if past false x y homed also = also

homed-opens : (past : Past) → AllLegal past → Homed past → (who : ℕ) (name : List ℕ) (found : Option ℕ) → home past who ≡ None
    → Homed (on_top past (opens by_past past who (Row (OpenDb name)) name found).facts)
homed-opens past all homed who name (Some d) none = homed-opens_in past all homed who d name none
homed-opens past all homed who name None none =
    homed-if past (nat_le 16 (length (database_names past))) _ _ homed (homed-opens_in (founded name ∷ past) all homed who (length (database_names past)) name none)

homed-outside : (past : Past) → AllLegal past → Homed past → (who : ℕ) (stmt : DbStmt) (name : Option (List ℕ)) → opening stmt ≡ name → home past who ≡ None
    → Homed (on_top past (outside_does by_past past who stmt name).facts)
homed-outside past all homed who stmt None is none = homed
homed-outside past all homed who stmt (Some name) is none =
    subst (λ (s : DbStmt). Homed (on_top past (opens by_past past who s name (place_of name (database_names past))).facts)) (sym (opening-name stmt name is))
    (homed-opens past all homed who name (place_of name (database_names past)) none)

queue-stays : (is_open : Bool) (stmt : QueueStmt) → IsStaying is_open (Queue stmt)
queue-stays is_open (CreateQueue queue) = record { opens = refl; closes = refl }
queue-stays is_open _ = record { opens = refl; closes = refl }

-- a statement is `close`, or leaves its session as it is
close-or-stays : (stmt : DbStmt) (waits is_open : Bool) → is_open ≡ true → (stmt ≡ Row Close) ⊎ ((is_leaving waits stmt ≡ false) × IsStaying is_open stmt)
close-or-stays (Row Close) waits is_open is = inl refl
close-or-stays (Row (OpenDb name)) waits is_open is = inr (refl, record { opens = ap not is; closes = refl })
close-or-stays (Row stmt) waits is_open is = inr (refl, record { opens = refl; closes = refl })
close-or-stays (Queue stmt) waits is_open is = inr (refl, queue-stays is_open stmt)

-- a statement of a session that has a home
module _ (past : Past) (homed : Homed past) (d who : ℕ) (at_home : home past who ≡ Some d) where
  h : History
  h = history_in past d

  abbrev After : DbStmt → Bool → Type 0
  After stmt leaving = Homed (on_top past (deed_in d (left_if who leaving) (database_turn (within_database by_past d) past (world_of past).now who stmt)).facts)

  is_here : has_open who (history_in past d) ≡ true
  is_here = homed who d ∙ ap (λ o. stands o d) at_home ∙ grind (arith, nat_tests)

  elsewhere : (e : ℕ) → (d == e) ≡ false → has_open who (history_in past e) ≡ false
  elsewhere = elsewhere-none past homed d who (Some d) at_home (inr refl)

  as-was : (v : ℕ) → home past v ≡ (if who == v then Some d else home past v)
  as-was v = grind (arith, nat_tests, at_home)

  stays-home : (stmt : DbStmt) → Stay (statement database_by_history (history_in past d) (world_of past).now who stmt).marks → After stmt false
  stays-home stmt stay =
      homed-deed past homed d who stmt [] true (λ p n. refl) (λ p v same. same ∙ as-was v)
      (stay-opens (history_in past d) (statement database_by_history (history_in past d) (world_of past).now who stmt).marks who true stay is_here) elsewhere

  leaves-home : is_waiting who (waiting (history_in past d)) ≡ false → After (Row Close) true
  leaves-home quiet =
      homed-deed past homed d who (Row Close) (left who ∷ []) false (left-outside who true) (λ p v same. ap (λ o. if who == v then None else o) same)
      (closes (history_in past d) (world_of past).now who quiet is_here) elsewhere

  pub homed-inside : (stmt : DbStmt) → After stmt (is_leaving (is_waiting who (waiting (history_in past d))) stmt)
  homed-inside stmt = elim (close-or-stays stmt (is_waiting who (waiting (history_in past d))) (has_open who (history_in past d)) is_here) [
    | inl is ↦ subst (λ s. After s (is_leaving (is_waiting who (waiting (history_in past d))) s)) (sym is) (closing (is_waiting who (waiting (history_in past d))) refl)
    | inr (not_leaving, stays) ↦ subst (After stmt) (sym not_leaving) (stays-home stmt (stay-statement (history_in past d) (world_of past).now who stmt _ stays))
  ]
    where
      closing : (w : Bool) → is_waiting who (waiting (history_in past d)) ≡ w → After (Row Close) (is_leaving w (Row Close))
      closing true waits = stays-home (Row Close) (busy-closes (history_in past d) (world_of past).now who waits)
      closing false quiet = leaves-home quiet

-- marks that leave all open as it was
homed-marks : (past : Past) (d : ℕ) (marks : List Mark) → Stay marks → Homed past → Homed (on_top past (map (within d) marks))
homed-marks past d marks stay homed v e =
    ap (has_open v) (history-marks past d marks e)
    ∙ by_same (λ c. has_open v (if c then marked (history_in past e) marks else history_in past e) ≡ stands (home past v) e) d e
    (λ _. open-stays v (history_in past e) marks stay ∙ homed v e) (λ _. homed v e)
    ∙ ap (λ o. stands o e) (sym (home-marks past d marks v))

for-nodes : (mark : Mark) → is_for_nodes mark ≡ true → is_staying mark ≡ true
for-nodes (connected who) e = absurd (cc)
for-nodes (disconnected who) e = absurd (cc)
for-nodes _ e = refl

homed-db : (past : Past) → AllLegal past → Homed past → (who : ℕ) (stmt : DbStmt) (at : Option ℕ) → home past who ≡ at → Homed (on_top past (db_stmt_does by_past past who stmt at).facts)
homed-db past all homed who stmt None is = homed-outside past all homed who stmt (opening stmt) refl is
homed-db past all homed who stmt (Some d) is = homed-inside past homed d who is stmt

-- a refusal in a database leaves all open as it was
homed-refused : (past : Past) → Homed past → (who d : ℕ) (refusal : Refusal) → Homed (on_top past (refused_in by_past past who d refusal).facts)
homed-refused past homed who d refusal =
    after-refused Homed past who d refusal homed
    (homed-marks past d fails.marks
    (subst (λ (t : Turn). Stay t.marks) (sym (same-fails-within past d (world_of past).now who true))
    (each-append is_staying (failing (part_of h) who).marks (settling (within_part database_by_history (world_of past).now) there).marks
    (each-failure AnyReply is_staying (λ _. tt) stays-any who (own_txid who h) (block who h)) (stay-settling there (world_of past).now))) homed)
  where
    h : History
    h = history_in past d

    there : History
    there = behind_marks (within_part database_by_history (world_of past).now) h (failing (part_of h) who).marks

    fails : Turn
    fails = fails_if (within_database by_past d) past (world_of past).now who true

homed-node : (past : Past) → Homed past → (who : ℕ) (stmt : NodeStmt) (at : Option ℕ) → Homed (on_top past (node_stmt_does by_past past who stmt at).facts)
homed-node past homed who stmt at =
    after-node_does Homed (λ p e still. still) (λ p e table hand still. still) (λ p e batch still. still)
    (λ p e call still. homed-marks p e (marks_of (node_does (database_of (history_in p e)) call)) (each-node is_staying for-nodes (database_of (history_in p e)) call) still) past who stmt at
    (homed-refused past homed who) homed

-- facts that are quiet do too
homed-quiet : (past : Past) → Homed past → (facts : List Fact) → AreQuiet facts → Homed (on_top past facts)
homed-quiet past homed facts quiet v e = ap (has_open v) (quiet.histories past e) ∙ homed v e ∙ ap (λ o. stands o e) (sym (quiet.homes past v))

-- what a daemon does leaves all open as it was
homed-works : (past : Past) (d : ℕ) (part : DaemonPart) (now : ℤ) → Homed past → Homed (on_top past (map (within d) (daemon_does (within_database by_past d) past part now).marks))
homed-works past d part now homed =
    let marks : List Mark = (daemon_does (within_database by_past d) past part now).marks in
    homed-marks past d marks (each-daemon_does is_staying now (λ mark _. refl) (λ r. refl) (λ t. refl) (λ t. refl) (within_database by_past d) past part) homed

homed-world : (past : Past) → Homed past → (who : ℕ) (stmt : WorldStmt) (at : Option ℕ) → Homed (on_top past (world_stmt_does by_past past who stmt at).facts)
homed-world past homed who (Clock time) at = after-clock Homed (λ p moment still. still) homed-works past who time (waits_at (world_of past) who at) homed
homed-world past homed who PgqdOn at =
    after-switches Homed past who (λ d. on_unless d ((world_of past).daemons d)) at (λ d. homed-quiet past homed (on_unless d ((world_of past).daemons d)) (on-quiet d ((world_of past).daemons d)))
    (homed-refused past homed who) homed
homed-world past homed who PgqdOff at =
    after-switches Homed past who (λ d. daemon_off d ∷ []) at (λ d. homed-quiet past homed (daemon_off d ∷ []) (off-quiet d)) (homed-refused past homed who) homed

homed-statement : (past : Past) → AllLegal past → Homed past → (who : ℕ) (stmt : Stmt) → Homed (on_top past (turn by_past who stmt past).facts)
homed-statement past all homed who (Db stmt) = homed-db past all homed who stmt (home past who) refl
homed-statement past all homed who (Node stmt) = homed-node past homed who stmt (home past who)
homed-statement past all homed who (OnWorld stmt) = homed-world past homed who stmt (home past who)

homed-called : (past : Past) → AllLegal past → Homed past → (call : Call) (found : Option ℕ) → Homed (on_top past (called by_past past call found).facts)
homed-called past all homed call (Some who) = homed-statement past all homed who call.stmt
homed-called past all homed call None =
    let who : ℕ = length (session_names past) in
    homed-if past (nat_le 256 who) _ _ homed
    (subst Homed (sym (on_top-append past (appears call.who).facts (turn by_past who call.stmt (appeared call.who ∷ past)).facts))
    (homed-statement (appeared call.who ∷ past) all homed who call.stmt))

homed-past : (calls : List Call) → Homed (past_of calls)
homed-past [] = λ who d. refl
homed-past (call ∷ calls) = homed-called (past_of calls) (legal_past calls) (homed-past calls) call (place_of call.who (session_names (past_of calls)))

pub homes_are_open : HomesAreOpen
homes_are_open calls who d = (λ is. to (home (past_of calls) who) (sym (homed-past calls who d) ∙ is), λ at. homed-past calls who d ∙ ap (λ o. stands o d) at ∙ grind (arith, nat_tests))
  where
    to : (o : Option ℕ) → stands o d ≡ true → o ≡ Some d
    to None e = absurd (cc)
    to (Some e) is = let same : e ≡ d = grind (arith, nat_tests) in ap Some same
