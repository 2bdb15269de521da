-- After a call, too, a copy that runs has written the keys of all rows of its table.
use Rattle.std.proofs.Common.{◌≡◌, ℕ, ℤ, ◌^◌, nat_le, Bool, true, false, List, [], ◌∷◌, ◌++◌, Option, Some, None, Ok, Err, refl, if◌then◌else◌, ◌==◌}
use Rattle.sky_val.specs.declared.val.Val.{Val}
use Rattle.sky_keys.specs.Waits.{is_waiting}
use Rattle.sky_model.specs.declared.stmt.DbStmt.{DbStmt}
use Rattle.sky_model.specs.declared.reply.Reply.TheVariants.{Done, Null}
use Rattle.sky_model.specs.declared.reply.Refusal.TheVariants.{TxidsSpent}
use Rattle.sky_model.specs.History.{Mark, of_copy, began, noded, sight_taken, History, hold_ended}
use Rattle.sky_model.specs.Transactions.{next_txid}
use Rattle.sky_model.specs.Copies.{copies, copy_txid, Hold}
use Rattle.sky_model.specs.Sessions.{Session, session, has_open, block, own_txid}
use Rattle.sky_model.specs.Locks.{waiting}
use Rattle.sky_model.specs.State.{RowPart, part_of, after_part, Database, database_of}
use Rattle.sky_model.specs.Printed.{ReplyHasMoments}
use Rattle.sky_model.specs.Outcome.{Outcome, Checked, ◌>>=◌, ◌>>◌, refused_if, answers, does_marks, marks_of}
use Rattle.sky_model.specs.Allowed.{where_of, allowed}
use Rattle.sky_model.specs.Made.{takes_sight}
use Rattle.sky_model.specs.Reader.{Shown, shown_in, database_by_history, within_part}
use Rattle.sky_model.specs.Settling.{Turn, turn_of, behind_marks, marked, settling, with_settling}
use Rattle.sky_model.specs.Calls.{form, making, statement}
use Rattle.sky_model.specs.Permits.{MarkKinds, of_any, of_resumed, may_leave, permit_of}
use Rattle.sky_model.specs.SessionMarks.{look_of, entry_place, enters, failing}
use Rattle.sky_model.specs.StepCopy.{copy_write, copy_writes, deletions, insertions, rows_now, begins_copy, all_fit, copies_rows, given_up}
use Rattle.sky_model.specs.StepNode.{NodeCall, joining, parting, fetching, finishing, making_root, making_leaf, adding, removing, moving, listing, unlisting, beginning_copy, copying_rows, ending_copy, giving_up_copy, applying, holding, letting_go, if_there, set_queue, table_number, may_serve, call_form, node_does}
use Rattle.sky_model.specs.Rows.{Write, table_names}
use Rattle.sky_names.specs.Places.{place_of}
use Rattle.sky_model.specs.DatabaseCalls.{DatabaseCall, stepped, entered, failed, worked, served, database_does}
use Rattle.sky_histories.proofs.Legal.{Chain, Legal}
use Rattle.sky_model.proofs.Cases.{by_test}
use Rattle.sky_histories.proofs.DaemonTurns.{each-daemon_does}
use Rattle.sky_histories.proofs.CopiesCovered.{AllCovered, is_no_begin, covered-marks, covered-begins}
use Rattle.sky_model.specs.StepApply.{applies_batch}
use Rattle.sky_histories.proofs.CopyCalls.{gives-there}
use Rattle.sky_histories.proofs.ApplyCalls.{is_for_applying, gives-applies}
use Rattle.sky_histories.proofs.NodeCalls.{is_for_consumers, is_consumers, gives-consumers}
use Rattle.sky_histories.proofs.StatementMarks.{EachMark, each-append, each-given, Gives, gives-map, AnyReply, after, either, gives-tells, gives-form, each-failure, given-runs, settling-gives, checked}
use Rattle.std.specs.List.{list_any}

-- ---- calls by which no copy begins

unbegun-if : (k : MarkKinds) (s : Session) (who : ℕ) (mark : Mark) → may_leave k s who mark ≡ true → is_no_begin mark ≡ true
unbegun-if k s who (began (of_copy table) t) e = absurd (cc)
unbegun-if k s who _ e = refl

unbegun-form : (d : Database) (shown : Shown) (now : ℤ) (who : ℕ) (stmt : DbStmt) → Gives AnyReply is_no_begin (form d shown now who stmt)
unbegun-form d shown now who stmt =
    let k : MarkKinds = (permit_of stmt).kinds in
    gives-map AnyReply AnyReply (may_leave k (d.part.session who) who) is_no_begin (λ reply any. any) (unbegun-if k (d.part.session who) who) _ (gives-form who d shown now stmt)

unbegun-statement : (h : History) (now : ℤ) (who : ℕ) (stmt : DbStmt) → EachMark is_no_begin (statement database_by_history h now who stmt).marks
unbegun-statement h now who stmt =
    (given-runs AnyReply is_no_begin (λ _. tt) (unbegun-if of_any) (making database_by_history now who stmt) (where_of stmt) who h
    (allowed (is_waiting who (waiting h)) (has_open who h) (block who h) (where_of stmt))
    (unbegun-form (database_of h) (shown_in h) now who stmt) (unbegun-form (database_of (sight_taken who ∷ h)) (shown_in (sight_taken who ∷ h)) now who stmt)).1

unbegun-settling : (h : History) (now : ℤ) → EachMark is_no_begin (settling (within_part database_by_history now) h).marks
unbegun-settling h now =
    (settling-gives is_no_begin (λ who. refl) (unbegun-if of_resumed) (within_part database_by_history now)
    (record { tells = λ g c gives. gives-tells is_no_begin (λ mark _. refl) ReplyHasMoments (database_of g) now c gives }) h).marks

unbegun-turn : (h : History) (now : ℤ) (turn : Turn) → EachMark is_no_begin turn.marks → EachMark is_no_begin (with_settling (within_part database_by_history now) h turn).marks
unbegun-turn h now turn each =
    let there : History = behind_marks (within_part database_by_history now) h turn.marks in
    each-append is_no_begin turn.marks (settling (within_part database_by_history now) there).marks each (unbegun-settling there now)

unbegun-enters : (who : ℕ) (sight : Bool) (may : Checked (Unit {0})) → EachMark is_no_begin (enters who (look_of who sight) may).marks
unbegun-enters who true (Ok _) = tt
unbegun-enters who false (Ok _) = tt
unbegun-enters who sight (Err refusal) = tt

-- ---- calls for nodes

unbegun-consumers : (mark : Mark) → is_for_consumers mark ≡ true → is_no_begin mark ≡ true
unbegun-consumers (began (of_copy table) t) e = absurd (cc)
unbegun-consumers _ e = refl

unbegun-written : (d : RowPart) (table t : ℕ) (ws : List Write) → EachMark is_no_begin (copy_writes d table t ws)
unbegun-written d table t [] = tt
unbegun-written d table t (w ∷ ws) = unbegun-written (after_part d (copy_write d table t w)) table t ws

unbegun-rows : (d : Database) (table t : ℕ) (rows : List (List Val)) → Gives AnyReply is_no_begin (copies_rows d table t rows)
unbegun-rows d table t rows =
    either AnyReply is_no_begin (all_fit (d.part.columns table) rows) (does_marks Done (copy_writes d.part table t (insertions (d.part.columns table) rows))) (answers Null)
    (tt, unbegun-written d.part table t (insertions (d.part.columns table) rows)) (tt, tt)

unbegun-given_up : (table : ℕ) (name : List ℕ) (o : Option ℕ) → EachMark is_no_begin (given_up table name o)
unbegun-given_up table name None = tt
unbegun-given_up table name (Some t) = tt

-- once a copy is given up
unbegun-then : (table : ℕ) (name : List ℕ) (o : Option ℕ) (marks : List Mark) → EachMark is_no_begin marks → EachMark is_no_begin (given_up table name o ++ marks)
unbegun-then table name None marks each = each
unbegun-then table name (Some t) marks each = each

unbegun-applying : (mark : Mark) → is_for_applying mark ≡ true → is_no_begin mark ≡ true
unbegun-applying (began (of_copy table) t) e = absurd (cc)
unbegun-applying _ e = refl

-- whether a call is one by which a copy begins
abbrev is_beginning : NodeCall → Bool
is_beginning (beginning_copy table) = true
is_beginning _ = false

unbegun-consumer : (d : Database) (call : NodeCall) → is_consumers call ≡ true → Gives AnyReply is_no_begin (call_form d call)
unbegun-consumer d call e = gives-map AnyReply AnyReply is_for_consumers is_no_begin (λ reply any. any) unbegun-consumers (call_form d call) (gives-consumers d call e)

unbegun-call : (d : Database) (call : NodeCall) → is_beginning call ≡ false → Gives AnyReply is_no_begin (call_form d call)
unbegun-call d (joining consumer) e = unbegun-consumer d (joining consumer) refl
unbegun-call d (parting consumer) e = unbegun-consumer d (parting consumer) refl
unbegun-call d (fetching consumer) e = unbegun-consumer d (fetching consumer) refl
unbegun-call d (finishing batch) e = unbegun-consumer d (finishing batch) refl
unbegun-call d (making_root name queue now) e = search (after, checked)
unbegun-call d (making_leaf name provider tick) e = (tt, tt)
unbegun-call d (adding name) e = gives-there is_no_begin (table_number d name) _ (λ table. search (after))
unbegun-call d (removing name) e = gives-there is_no_begin (table_number d name) _ (λ table. (tt, unbegun-then table name (copy_txid table d.copies) _ tt))
unbegun-call d (moving name state) e = gives-there is_no_begin (table_number d name) _ (λ table. (tt, unbegun-then table name (copy_txid table d.copies) _ tt))
unbegun-call d (listing name) e = gives-there is_no_begin (set_queue d) _ (λ queue. gives-there is_no_begin (table_number d name) _ (λ table. search (after)))
unbegun-call d (unlisting name) e = gives-there is_no_begin (table_number d name) _ (λ table. (tt, tt))
unbegun-call d (copying_rows name rows) e = gives-there is_no_begin (table_number d name) _ (λ table. gives-there is_no_begin (copy_txid table d.copies) _ (λ t. unbegun-rows d table t rows))
unbegun-call d (ending_copy name snapshot tick) e = gives-there is_no_begin (table_number d name) _ (λ table. gives-there is_no_begin (copy_txid table d.copies) _ (λ t. (tt, tt)))
unbegun-call d (giving_up_copy name) e = gives-there is_no_begin (table_number d name) _ (λ table. (tt, unbegun-given_up table name (copy_txid table d.copies)))
unbegun-call d (applying events pick tick) e = gives-map AnyReply AnyReply is_for_applying is_no_begin (λ reply any. any) unbegun-applying (applies_batch d pick tick events) (gives-applies d pick tick events)
unbegun-call d holding e = (tt, tt)
unbegun-call d (letting_go hold) e =
    either AnyReply is_no_begin (list_any (λ (x : Hold). x.number == hold) d.holds) (does_marks Done (noded (hold_ended hold) ∷ [])) (answers Null) (tt, tt) (tt, tt)
unbegun-call d (beginning_copy name) e = absurd (cc)

-- ---- the beginning of a copy

covered-there : {A : Type 0} (h : History) → AllCovered h → (o : Option A) (f : A → Checked Outcome) → Chain h (marks_of (if_there o f))
    → ((a : A) → Chain h (marks_of (f a)) → AllCovered (marked h (marks_of (f a)))) → AllCovered (marked h (marks_of (if_there o f)))
covered-there h covered None f chain also = covered
covered-there h covered (Some a) f chain also = also a chain

covered-beginning : (h : History) → Legal h → AllCovered h → (table : ℕ) (o : Option ℕ) → Chain h (marks_of (begins_copy (database_of h) table o)) → AllCovered (marked h (marks_of (begins_copy (database_of h) table o)))
covered-beginning h l covered table (Some t) chain = covered
covered-beginning h l covered table None chain = of (nat_le (2 ^ 62) (next_txid h)) chain
  where
    does : Bool → Checked Outcome
    does spent = (refused_if spent TxidsSpent >> Ok (next_txid h)) >>= (λ t. does_marks Done (began (of_copy table) t ∷ copy_writes (after_part (part_of h) (began (of_copy table) t)) table t (deletions (rows_now (part_of h) table))))

    of : (spent : Bool) → Chain h (marks_of (does spent)) → AllCovered (marked h (marks_of (does spent)))
    of true chain = covered
    of false chain = covered-begins h l covered table (next_txid h) chain

covered-form : (h : History) → Legal h → AllCovered h → (call : NodeCall) → Chain h (marks_of (call_form (database_of h) call)) → AllCovered (marked h (marks_of (call_form (database_of h) call)))
covered-form h l covered (beginning_copy name) chain =
    covered-there h covered (place_of name (table_names h)) _ chain (λ table chain. covered-beginning h l covered table (copy_txid table (copies h)) chain)
covered-form h l covered call chain =
    covered-marks h (marks_of (call_form (database_of h) call)) l chain (each-given AnyReply is_no_begin (call_form (database_of h) call) (unbegun-call (database_of h) call refl)) covered

covered-node : (h : History) → Legal h → AllCovered h → (call : NodeCall) → Chain h (marks_of (node_does (database_of h) call)) → AllCovered (marked h (marks_of (node_does (database_of h) call)))
covered-node h l covered call chain =
    by_test (λ b. Chain h (marks_of (if b then call_form (database_of h) call else answers Null)) → AllCovered (marked h (marks_of (if b then call_form (database_of h) call else answers Null)))) (may_serve call (database_of h).node)
    (λ _ chain. covered-form h l covered call chain) (λ _ _. covered) chain

pub covered-does : (h : History) → Legal h → AllCovered h → (call : DatabaseCall) → Chain h (database_does database_by_history h call).marks → AllCovered (marked h (database_does database_by_history h call).marks)
covered-does h l covered (stepped who stmt now) chain =
    covered-marks h _ l chain (unbegun-turn h now (turn_of who (statement database_by_history h now who stmt)) (unbegun-statement h now who stmt)) covered
covered-does h l covered (entered who alone) chain =
    covered-marks h _ l chain (unbegun-enters who (takes_sight (entry_place alone) (session h who).sight) (allowed (is_waiting who (waiting h)) (has_open who h) (block who h) (entry_place alone))) covered
covered-does h l covered (worked part now) chain =
    covered-marks h _ l chain (each-daemon_does is_no_begin now (λ mark _. refl) (λ r. refl) (λ t. refl) (λ t. refl) database_by_history h part) covered
covered-does h l covered (served call) chain = covered-node h l covered call chain
covered-does h l covered (failed who now) chain =
    covered-marks h _ l chain (unbegun-turn h now (failing (part_of h) who) (each-failure AnyReply is_no_begin (λ _. tt) (unbegun-if of_any) who (own_txid who h) (block who h))) covered
