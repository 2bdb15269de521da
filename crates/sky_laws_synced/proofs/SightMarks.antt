-- Which marks take a session's sight: of those that a call leaves in a database, the first one alone may.
use Rattle.std.proofs.Common.{◌≡◌, ℕ, zero, suc, ℤ, List, [], ◌∷◌, ◌++◌, length, Bool, true, false, Option, Some, None, Ok, Err, refl, if◌then◌else◌}
use Rattle.std.proofs.lemmas.Bool.{cond_both}
use Rattle.sky_keys.specs.Waits.{Waiting, is_waiting}
use Rattle.sky_model.specs.declared.stmt.DbStmt.{DbStmt}
use Rattle.sky_model.specs.declared.stmt.DbStmt.TheVariants.{Row, Queue}
use Rattle.sky_model.specs.declared.stmt.RowStmt.TheVariants.{OpenDb}
use Rattle.sky_model.specs.declared.stmt.QueueStmt.TheVariants.{CreateQueue}
use Rattle.sky_model.specs.declared.reply.Reply.{Reply}
use Rattle.sky_model.specs.declared.reply.Refusal.{Refusal}
use Rattle.sky_model.specs.declared.reply.Refusal.TheVariants.{Canceled}
use Rattle.sky_model.specs.History.{Mark, block_failed, sight_taken, tabled, waited, History}
use Rattle.sky_model.specs.Permits.{MarkKinds, of_rows, attempt_kinds, may_leave, permit_of}
use Rattle.sky_model.specs.Sessions.{Block, outside, inside, failed, has_open, block, own_txid, Session, session}
use Rattle.sky_model.specs.Locks.{waiting}
use Rattle.sky_model.specs.State.{part_of, Database, database_of}
use Rattle.sky_model.specs.Outcome.{Outcome, Checked, marks_of, end_of, aborts, abort, or_refused}
use Rattle.sky_model.specs.Printed.{ReplyHasMoments}
use Rattle.sky_model.specs.Allowed.{where_of, allowed}
use Rattle.sky_model.specs.Made.{takes_sight, looking, runs_if}
use Rattle.sky_model.specs.Reader.{Shown, shown_in, database_by_history, within_part}
use Rattle.sky_model.specs.Settling.{Turn, turn_of, behind_marks, resumed, ready, goes_on, settles, settling, with_settling}
use Rattle.sky_model.specs.SessionMarks.{failure, look_of, entry_place, enters, failing}
use Rattle.sky_model.specs.StepNode.{NodeCall, node_does}
use Rattle.sky_model.specs.DatabaseCalls.{DatabaseCall, stepped, entered, failed as fails, worked, served, database_does}
use Rattle.sky_model.specs.Calls.{form, making, statement}
use Rattle.sky_histories.proofs.StatementMarks.{EachMark, each-append, Gives, AnyReply, gives-map, gives-tells, gives-attempt, gives-form}
use Rattle.sky_histories.proofs.DaemonTurns.{each-daemon_does}
use Rattle.sky_histories.proofs.NodeCalls.{is_for_nodes, each-node}
use Rattle.sky_laws_replicas.proofs.EachCall.{is_daemons}

-- whether a mark isn't one by which a session takes its sight
abbrev pub takes_none : Mark → Bool
takes_none (sight_taken who) = false
takes_none mark = true

abbrev NoneGives : Checked Outcome → Type 0
NoneGives c = Gives AnyReply takes_none c

none-if : (k : MarkKinds) → k.looks ≡ false → (s : Session) (who : ℕ) (mark : Mark) → may_leave k s who mark ≡ true → takes_none mark ≡ true
none-if k none s who (sight_taken v) e = absurd (cc)
none-if k none s who mark e = refl

-- no statement takes it by itself
no-looks : (stmt : DbStmt) → (permit_of stmt).kinds.looks ≡ false
no-looks (Row (OpenDb name)) = refl
no-looks (Queue (CreateQueue queue)) = refl
no-looks _ = refl

none-form : (d : Database) (shown : Shown) (now : ℤ) (who : ℕ) (stmt : DbStmt) → NoneGives (form d shown now who stmt)
none-form d shown now who stmt =
    let k : MarkKinds = (permit_of stmt).kinds in
    gives-map AnyReply AnyReply (may_leave k (d.part.session who) who) takes_none (λ reply any. any) (none-if k (no-looks stmt) (d.part.session who) who) _ (gives-form who d shown now stmt)

none-abort : (who : ℕ) (b : Block) (txid : Option ℕ) (refusal : Refusal) → EachMark takes_none (abort who b txid refusal)
none-abort who outside txid refusal = tt
none-abort who inside txid refusal = by (aborts refusal) txid
  where
    by : (kind : Bool) (o : Option ℕ) → EachMark takes_none (if kind then end_of false who o ++ block_failed who ∷ [] else [])
    by true None = tt
    by true (Some t) = tt
    by false o = tt
none-abort who failed txid refusal = tt

none-failure : (who : ℕ) (txid : Option ℕ) (b : Block) → EachMark takes_none (failure who txid b)
none-failure who txid outside = tt
none-failure who txid inside = none-abort who inside txid Canceled
none-failure who txid failed = tt

none-settled : (R : Reply → Type 0) (who : ℕ) (s : Session) (c : Checked Outcome) → Gives R takes_none c → EachMark takes_none (or_refused who s c).marks
none-settled R who s (Ok o) gives = gives.1
none-settled R who s (Err refusal) gives = none-abort who s.block s.txid refusal

-- ---- those that resume

none-resumed : (h : History) (now : ℤ) (w : Waiting) → EachMark takes_none (resumed (within_part database_by_history now) h w).marks
none-resumed h now w =
    let g : History = tabled (waited w.who) ∷ h in
    none-settled ReplyHasMoments w.who (session g w.who) _
    (gives-tells takes_none (λ mark _. refl) ReplyHasMoments (database_of g) now _
    (gives-map ReplyHasMoments ReplyHasMoments _ takes_none (λ reply has. has) (none-if (of_rows (attempt_kinds true)) refl (session g w.who) w.who) _
    (gives-attempt w.who (part_of g) ((shown_in g).rows.key w.who w.table w.key) w.table w.key ((part_of h).attempt w.who))))

none-settles : (now : ℤ) (n : ℕ) (h : History) → EachMark takes_none (settles (within_part database_by_history now) n h).marks
none-settles now zero h = tt
none-settles now (suc n) h = of (ready (part_of h)) (none-settles now n)
  where
    of : (o : Option Waiting) → ((g : History) → EachMark takes_none (settles (within_part database_by_history now) n g).marks)
        → EachMark takes_none (goes_on (within_part database_by_history now) h (settles (within_part database_by_history now) n) o).marks
    of None also = tt
    of (Some w) also =
        let turn : Turn = resumed (within_part database_by_history now) h w in
        each-append takes_none turn.marks _ (none-resumed h now w) (also (behind_marks (within_part database_by_history now) h turn.marks))

-- ---- what a call leaves

-- marks of which none takes a sight, but that the first may
pub data LooksFirst : List Mark → Type 0 where
  with_look : (who : ℕ) (marks : List Mark) → EachMark takes_none marks → LooksFirst (sight_taken who ∷ marks)
  without_look : (marks : List Mark) → EachMark takes_none marks → LooksFirst marks

looks-append : (xs ys : List Mark) → LooksFirst xs → EachMark takes_none ys → LooksFirst (xs ++ ys)
looks-append _ ys (with_look who marks each) also = with_look who (marks ++ ys) (each-append takes_none marks ys each also)
looks-append _ ys (without_look marks each) also = without_look (marks ++ ys) (each-append takes_none marks ys each also)

looks-settled : (h : History) (now : ℤ) (turn : Turn) → LooksFirst turn.marks → LooksFirst (with_settling (within_part database_by_history now) h turn).marks
looks-settled h now turn looks =
    let there : History = behind_marks (within_part database_by_history now) h turn.marks in
    looks-append turn.marks (settling (within_part database_by_history now) there).marks looks (none-settles now (length (waiting there)) there)

looks-runs : (h : History) (now : ℤ) (who : ℕ) (stmt : DbStmt) (may : Checked (Unit {0})) → LooksFirst (runs_if (making database_by_history now who stmt) (where_of stmt) who h may).marks
looks-runs h now who stmt (Err refusal) = without_look (or_refused who (session h who) (Err refusal)).marks (none-abort who (session h who).block (session h who).txid refusal)
looks-runs h now who stmt (Ok _) =
    let g : History = sight_taken who ∷ h in
    let late : Outcome = or_refused who (session g who) (form (database_of g) (shown_in g) now who stmt) in
    let soon : Outcome = or_refused who (session h who) (form (database_of h) (shown_in h) now who stmt) in
    cond_both (takes_sight (where_of stmt) (session h who).sight) (looking who late) soon (λ o. LooksFirst o.marks)
    (λ _. with_look who late.marks (none-settled AnyReply who (session g who) (form (database_of g) (shown_in g) now who stmt) (none-form (database_of g) (shown_in g) now who stmt)))
    (λ _. without_look soon.marks (none-settled AnyReply who (session h who) (form (database_of h) (shown_in h) now who stmt) (none-form (database_of h) (shown_in h) now who stmt)))

looks-enters : (who : ℕ) (sight : Bool) (may : Checked (Unit {0})) → LooksFirst (enters who (look_of who sight) may).marks
looks-enters who true (Ok _) = with_look who [] tt
looks-enters who false (Ok _) = without_look [] tt
looks-enters who sight (Err refusal) = without_look [] tt

-- a daemon, and a call for a node
pub none-daemon : (h : History) (call : DatabaseCall) → is_daemons call ≡ true → EachMark takes_none (database_does database_by_history h call).marks
none-daemon h (worked part now) e = each-daemon_does takes_none now (λ mark _. refl) (λ r. refl) (λ t. refl) (λ t. refl) database_by_history h part
none-daemon h _ e = absurd (cc)

for-nodes : (mark : Mark) → is_for_nodes mark ≡ true → takes_none mark ≡ true
for-nodes (sight_taken who) e = absurd (cc e)
for-nodes mark e = refl

pub none-node : (d : Database) (call : NodeCall) → EachMark takes_none (marks_of (node_does d call))
none-node d call = each-node takes_none for-nodes d call

-- any
pub looks-does : (h : History) (call : DatabaseCall) → LooksFirst (database_does database_by_history h call).marks
looks-does h (stepped who stmt now) =
    looks-settled h now (turn_of who (statement database_by_history h now who stmt)) (looks-runs h now who stmt (allowed (is_waiting who (waiting h)) (has_open who h) (block who h) (where_of stmt)))
looks-does h (entered who alone) = looks-enters who (takes_sight (entry_place alone) (session h who).sight) (allowed (is_waiting who (waiting h)) (has_open who h) (block who h) (entry_place alone))
looks-does h (fails who now) = looks-settled h now (failing (part_of h) who) (without_look _ (none-failure who (own_txid who h) (block who h)))
looks-does h (worked part now) = without_look _ (none-daemon h (worked part now) refl)
looks-does h (served call) = without_look _ (none-node (database_of h) call)
