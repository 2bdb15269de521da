-- What a step gives, part by part.
use Rattle.std.proofs.Common.{◌≡◌, ℕ, List, [], ◌∷◌, ◌++◌, Bool, true, false, Option, Some, None, Result, Ok, Err, IfOk, OnOk, refl, sym, ◌∙◌, ap, subst, append_assoc, append-nil, if◌then◌else◌}
use Rattle.sky_model.specs.declared.reply.Reply.TheVariants.{Number}
use Rattle.sky_model.specs.declared.reply.Refusal.{Refusal}
use Rattle.sky_model.specs.declared.stmt.RowStmt.{RowStmt}
use Rattle.sky_model.specs.declared.stmt.Where.{Where}
use Rattle.sky_model.specs.declared.stmt.Where.TheVariants.{WhenReading}
use Rattle.sky_keys.specs.Waits.{is_waiting}
use Rattle.sky_model.specs.History.{sight_taken}
use Rattle.sky_model.specs.State.{RowPart, after_part, after_part_marks}
use Rattle.sky_val.specs.declared.val.Val.{Val}
use Rattle.sky_val.specs.Schemas.{key_columns}
use Rattle.sky_model.specs.ShownRows.{RowsShown, rows_by}
use Rattle.sky_model.specs.StepRows.{table_called, fits, row_or_none, get}
use Rattle.sky_model.specs.Outcome.{Outcome, Checked, ◌>>=◌, ◌>>◌, does_marks, or_refused, marks_of}
use Rattle.sky_model.specs.Allowed.{where_of_row, allowed}
use Rattle.sky_model.specs.Made.{Making, takes_sight, runs, looking, runs_if}
use Rattle.sky_model.specs.OwnTransaction.{txid_for, begin_of, commit_of, in_own}
use Rattle.sky_model.specs.StepSession.{txid_current}
use Rattle.sky_model.specs.Reader.{part_by_itself}
use Rattle.sky_model.specs.Gates.{Gate, passed_all, gated, by_gate, open_gate}
use Rattle.sky_model.specs.Calls.{row_form, row_making, row_statement}
use Rattle.sky_model.specs.Settling.{Turn, turn_of, with_rest, behind_marks, settling, with_settling}
use Rattle.sky_histories.proofs.GatedLemmas.{gated-behind, passed-append, passed-none, gated-none, PlainOutcome, NoticesNone}
use Rattle.sky_row_store.specs.declared.row_step.RowStep.{RowStep}
use Rattle.sky_row_store.specs.Effects.{with_effects}
use Rattle.sky_state.specs.Views.{RowStateView}
use Rattle.sky_state.specs.Seen.{seen}
use Rattle.sky_model.specs.declared.stop.Stop.{Stop}
use Rattle.sky_model.specs.declared.stop.Stop.TheVariants as stop
use Rattle.sky_model.specs.Sessions.{Block, outside}
use Rattle.sky_model.specs.SessionMarks.{look_of, sight_marks, failing, Enters, entry, entry_place, single_end, takes_id, taking, ending}
use Rattle.sky_model.specs.RowCalls.{RowCall, row_entered, txid_taken, single_ended}
use Rattle.sky_model.specs.RowSteps.{RowSteps}
use Rattle.sky_histories.proofs.RowCallStanding.{row_enter_from_exact, take_txid_from_exact, end_single_from_exact}
use Rattle.sky_row_store.specs.Gives.{nothing, Adds, Settles}
use Rattle.sky_session.specs.Gives.{Gives}
use Rattle.sky_row_statements.specs.Ran.{Does, Ran, Passes, Runs, Writes}
use Rattle.sky_row_writes.proofs.OwnLemmas.{after-append, with-append, begun-txid, begun-block, part-written, begun-told}

-- a transaction gets its id, and commits if it is of one statement
pub does-take : (d begun new : RowPart) (before after : RowStep) (who t : ℕ) → txid_for d who ≡ Ok t → begun ≡ after_part_marks d (begin_of who t (d.session who).txid)
    → new ≡ after_part_marks begun (commit_of who t (begun.session who).block) → after.replies ≡ before.replies ++ (who, Number t) ∷ []
    → after.effects ≡ with_effects before.effects (commit_of who t (begun.session who).block) → Does d new before after who (txid_current d who)
does-take d begun new before after who t is begin end replied told =
    subst (λ checked. Does d new before after who (checked >>= (λ u. does_marks (Number u) (in_own who u (d.session who) [])))) (sym is) (record {
      accepted = refl;
      replied = replied;
      told = told ∙ ap (λ b. with_effects before.effects (commit_of who t b)) blocks ∙ sym (begun-told before.effects who t (d.session who).txid [] (commit_of who t (d.session who).block));
      changed = part-written d begun begun new who t [] begin refl blocks end;
    })
  where
    blocks : (begun.session who).block ≡ (d.session who).block
    blocks = ap (λ (p : RowPart). (p.session who).block) begin ∙ begun-block d who t (d.session who).txid

-- the same, by an id that is taken and a transaction that ends if it is of one statement
pub taken-ended : (d begun new : RowPart) (who t : ℕ) → txid_for d who ≡ Ok t → begun ≡ after_part_marks d (begin_of who t (d.session who).txid)
    → new ≡ after_part_marks begun (ending begun who).marks → new ≡ after_part_marks d (in_own who t (d.session who) [])
taken-ended d begun new who t is begin end =
    part-written d begun begun new who t [] begin refl (ap (λ (p : RowPart). (p.session who).block) begin ∙ begun-block d who t (d.session who).txid)
    (end ∙ ap (after_part_marks begun) (ap (λ o. single_end who o (begun.session who).block) (begun-txid d begun who t is begin) ∙ single (begun.session who).block))
  where
    single : (b : Block) → single_end who (Some t) b ≡ commit_of who t b
    single outside = refl
    single _ = refl

-- so both calls make the same
pub elsewhere-steps : (d new : RowPart) (who t : ℕ) → txid_for d who ≡ Ok t → new ≡ after_part_marks d (in_own who t (d.session who) [])
    → RowSteps d (after_part_marks d (taking d who).marks) (txid_taken who) (taking d who)
    × RowSteps (after_part_marks d (taking d who).marks) new (single_ended who) (ending (after_part_marks d (taking d who).marks) who)
elsewhere-steps d new who t is changed = (
  take_txid_from_exact d begun who t is begin,
  end_single_from_exact begun new who (changed ∙ sym (taken-ended d begun (after_part_marks begun (ending begun who).marks) who t is begin refl)),
)
  where
    begun : RowPart
    begun = after_part_marks d (taking d who).marks

    begin : begun ≡ after_part_marks d (begin_of who t (d.session who).txid)
    begin = ap (λ o. after_part_marks d (takes_id who (d.session who).txid o).marks) is

-- a turn is added after another
pub adds-behind : {G : Type 0} (gate : Gate G) (old mid new : RowPart × G) (before middle after : RowStep) (turn rest : Turn) → Adds gate old mid before middle turn → Adds gate mid new middle after rest
    → Adds gate old new before after (with_rest turn rest)
adds-behind gate old mid new before middle after turn rest first second = record {
  replied = second.replied ∙ ap (λ rs. rs ++ rest.answers) first.replied ∙ append_assoc before.replies turn.answers rest.answers;
  told = second.told ∙ ap (λ e. with_effects e rest.marks) first.told ∙ with-append before.effects turn.marks rest.marks;
  changed = second.changed ∙ ap (λ p. after_part_marks p rest.marks) first.changed ∙ sym (after-append old.0 turn.marks rest.marks);
  passed = second.passed ∙ ap (λ g. passed_all gate g rest.marks) first.passed ∙ sym (passed-append gate old.1 turn.marks rest.marks);
}

-- the place after a turn that was added
pub place-behind : {G : Type 0} (gate : Gate G) (old mid : RowPart × G) (before middle : RowStep) (turn : Turn) → Adds gate old mid before middle turn → mid ≡ behind_marks (by_gate gate part_by_itself) old turn.marks
place-behind gate old mid before middle turn adds = (λ i. (adds.changed i, adds.passed i)) ∙ sym (gated-behind gate old.0 old.1 turn.marks)

-- and so are the statements that it unblocks
pub adds-settled : {G : Type 0} (gate : Gate G) (old mid new : RowPart × G) (before middle after : RowStep) (turn : Turn) → Adds gate old mid before middle turn
    → Adds gate mid new middle after (settling (by_gate gate part_by_itself) mid) → Adds gate old new before after (with_settling (by_gate gate part_by_itself) old turn)
adds-settled gate old mid new before middle after turn first rest =
    adds-behind gate old mid new before middle after turn _ first
    (subst (λ p. Adds gate mid new middle after (settling (by_gate gate part_by_itself) p)) (place-behind gate old mid before middle turn first) rest)

-- all that was added to nothing is given, without a gate too
pub gives-all : (old new : RowPart) (before after : RowStep) (call : RowCall) (turn told : Turn) → before ≡ nothing true → turn ≡ told → Settles open_gate (old, tt) (new, tt) before after call turn
    → Gives old new after call told
gives-all old new before after call turn told first same settles = subst (Gives old new after call) same (subst (λ b. Settles open_gate (old, tt) (new, tt) b after call turn) first settles)

-- a statement is allowed by its session's block, or isn't
pub entered : (d mid : RowPart) (who : ℕ) (place there : Where) (found r : Option Refusal) → place ≡ there → found ≡ r → Enters d mid who place found → Enters d mid who there r
entered d mid who place there found r same is enters = subst (λ p. Enters d mid who p r) same (subst (λ o. Enters d mid who place o) is enters)

-- a statement that its session may not make is refused
pub adds-barred : {G : Type 0} (gate : Gate G) (g : G) (d mid : RowPart) (new : RowPart × G) (before after : RowStep) (who : ℕ) (stmt : RowStmt) (refusal : Refusal) → allowed (is_waiting who d.waiting) (d.session who).is_open (d.session who).block (where_of_row stmt) ≡ Err refusal
    → mid ≡ d → Adds gate (mid, g) new before after (turn_of who (or_refused who (mid.session who) (Err refusal))) → Adds gate (d, g) new before after (turn_of who (row_statement (by_gate gate part_by_itself) (d, g) who stmt))
adds-barred gate g d mid new before after who stmt refusal is same adds =
    subst (λ checked. Adds gate (d, g) new before after (turn_of who (runs_if (row_making (by_gate gate part_by_itself) who stmt) (where_of_row stmt) who (d, g) checked))) (sym is)
    (subst (λ (p : RowPart). Adds gate (p, g) new before after (turn_of who (or_refused who (p.session who) (Err refusal)))) same adds)

-- one that is refused when it is run aborts its session's block
pub adds-refused : {G : Type 0} (gate : Gate G) (old mid : RowStateView × G) (new : RowPart × G) (before middle after : RowStep) (who : ℕ) (refusal : Refusal) (checked : Checked Outcome)
    → Runs gate old mid before middle who (Err (stop.Refused refusal)) checked → Adds gate (seen mid.0, mid.1) new middle after (turn_of who (or_refused who ((seen mid.0).session who) (Err refusal)))
    → Adds gate (seen old.0, old.1) new before after (turn_of who (or_refused who ((seen old.0).session who) checked))
adds-refused {G} gate old mid new before middle after who refusal checked runs adds =
    subst (λ o. Adds gate (seen old.0, old.1) new before after (turn_of who (or_refused who ((seen old.0).session who) o))) (sym runs.ran.0.refused)
    (subst (λ (p : (RowPart × G) × RowStep). Adds gate p.0 new p.1 after (turn_of who (or_refused who (p.0.0.session who) (Err refusal)))) (λ i. ((runs.ran.0.same i, runs.passes i), runs.ran.1 i)) adds)

-- a statement whose block's snapshot was taken before it
pub adds-made : {G : Type 0} (gate : Gate G) (g : G) (d mid : RowPart) (new : RowPart × G) (before after : RowStep) (who : ℕ) (stmt : RowStmt) → allowed (is_waiting who d.waiting) (d.session who).is_open (d.session who).block (where_of_row stmt) ≡ Ok tt
    → mid ≡ after_part_marks d (sight_marks d who (where_of_row stmt)) → Adds gate (mid, g) new before after (turn_of who (or_refused who (mid.session who) (gated gate g (row_form mid (rows_by mid) who stmt))))
    → Adds gate (d, g) new before after (turn_of who (row_statement (by_gate gate part_by_itself) (d, g) who stmt))
adds-made {G} gate g d mid new before after who stmt is look adds =
    subst (λ checked. Adds gate (d, g) new before after (turn_of who (runs_if making (where_of_row stmt) who (d, g) checked))) (sym is)
    (by (takes_sight (where_of_row stmt) (d.session who).sight) look)
  where
    making : Making (RowPart × G)
    making = row_making (by_gate gate part_by_itself) who stmt

    there : RowPart → Type 0
    there p = Adds gate (p, g) new before after (turn_of who (runs making who (p, g)))

    by : (b : Bool) → mid ≡ after_part_marks d (look_of who b)
        → Adds gate (d, g) new before after (turn_of who (if b then looking who (runs making who (after_part d (sight_taken who), g)) else runs making who (d, g)))
    by true e = let behind : there (after_part d (sight_taken who)) = subst there e adds in record { replied = behind.replied; told = behind.told; changed = behind.changed; passed = behind.passed }
    by false e = subst there e adds

-- a statement that writes nothing is done as without the gate
pub writes-passed : {G : Type 0} (gate : Gate G) (g g' : G) (old new : RowStateView) (before after : RowStep) (who : ℕ) (result : Result (Unit {0}) Stop) (checked : Checked Outcome) → PlainOutcome checked
    → Runs gate (old, g) (new, g') before after who result checked → Writes gate (old, g) (new, g') before after who result checked
writes-passed gate g g' old new before after who result checked plain runs = subst (Runs gate (old, g) (new, g') before after who result) (sym (gated-none gate g checked plain)) runs

-- `get` leaves no mark
pub unnoticed-get : (d : RowPart) (shown : RowsShown) (who : ℕ) (name : List ℕ) (key : List Val) → NoticesNone (marks_of (get d shown who name key))
unnoticed-get d shown who name key = called (table_called name d)
  where
    row : (o : Option (List Val)) → NoticesNone (marks_of (row_or_none o))
    row None = tt
    row (Some r) = tt

    fitting : (f : Checked (Unit {0})) (o : Option (List Val)) → NoticesNone (marks_of (f >> row_or_none o))
    fitting (Err refusal) o = tt
    fitting (Ok _) o = row o

    called : (table : Checked ℕ) → NoticesNone (marks_of (table >>= (λ t. fits (key_columns (d.columns t)) key >> row_or_none (shown.key who t key).row)))
    called (Err refusal) = tt
    called (Ok t) = fitting (fits (key_columns (d.columns t)) key) (shown.key who t key).row

-- what rolls nothing back isn't told to the gate either
pub writes-plain : {G : Type 0} (gate : Gate G) (g : G) (old new : RowStateView) (before after : RowStep) (who : ℕ) (result : Result (Unit {0}) Stop) (checked : Checked Outcome) → PlainOutcome checked
    → NoticesNone (marks_of checked) → Ran old new before after who result checked → Writes gate (old, g) (new, g) before after who result checked
writes-plain gate g old new before after who result checked plain none ran = writes-passed gate g g old new before after who result checked plain (record { ran = ran; passes = of result })
  where
    of : (r : Result (Unit {0}) Stop) → Passes gate g g r checked
    of (Ok _) = sym (passed-none gate g (marks_of checked) none)
    of (Err (stop.Refused refusal)) = refl
    of (Err stop.NoMemory) = tt

-- a statement that reads is made by a session that doesn't wait
pub awake-made : (d mid : RowPart) (who : ℕ) (place : Where) → allowed (is_waiting who d.waiting) (d.session who).is_open (d.session who).block place ≡ Ok tt → mid ≡ after_part_marks d (sight_marks d who place)
    → place ≡ WhenReading → is_waiting who mid.waiting ≡ false
awake-made d mid who place may look reads =
    ap (λ (p : RowPart). is_waiting who p.waiting) look ∙ same (takes_sight place (d.session who).sight) ∙ awake (is_waiting who d.waiting) refl (subst (λ p. allowed (is_waiting who d.waiting) (d.session who).is_open (d.session who).block p ≡ Ok tt) reads may)
  where
    same : (b : Bool) → is_waiting who (after_part_marks d (look_of who b)).waiting ≡ is_waiting who d.waiting
    same true = refl
    same false = refl

    awake : (b : Bool) → is_waiting who d.waiting ≡ b → allowed b (d.session who).is_open (d.session who).block WhenReading ≡ Ok tt → is_waiting who d.waiting ≡ false
    awake true is may = absurd (cc)
    awake false is may = is

-- a session that entered, or was refused, keeps its promise
pub entered-steps : {E : Type 0} (old new : RowPart) (who : ℕ) (alone : Bool) (r : Result (Option Refusal) E) → IfOk r (λ refusal. Enters old new who (entry_place alone) refusal)
    → OnOk r (RowSteps old new (row_entered who alone) (entry old who (entry_place alone)))
entered-steps old new who alone (Ok refusal) enters = row_enter_from_exact old new who alone refusal enters
entered-steps old new who alone (Err e) enters = tt

-- a rollback is added
pub adds-failing : {G : Type 0} (gate : Gate G) (d new : RowPart × G) (before after : RowStep) (who : ℕ) → after.replies ≡ before.replies → after.effects ≡ with_effects before.effects (failing d.0 who).marks
    → new.0 ≡ after_part_marks d.0 (failing d.0 who).marks → new.1 ≡ passed_all gate d.1 (failing d.0 who).marks → Adds gate d new before after (failing d.0 who)
adds-failing gate d new before after who replied told changed passed = record { replied = replied ∙ sym (append-nil before.replies); told = told; changed = changed; passed = passed }
