-- The calls of a row part keep their promises.
use Rattle.std.proofs.Common.{◌≡◌, ℕ, ◌^◌, Bool, true, false, not, nat_le, List, [], ◌∷◌, Option, Some, None, Ok, Err, refl, sym, ◌∙◌, ap, if◌then◌else◌}
use Rattle.sky_txid.specs.Ids.{contains}
use Rattle.sky_keys.specs.Waits.{is_waiting}
use Rattle.sky_model.specs.declared.stmt.RowStmt.{RowStmt}
use Rattle.sky_model.specs.declared.reply.Refusal.{Refusal}
use Rattle.sky_model.specs.declared.reply.Refusal.TheVariants.{TxidsSpent}
use Rattle.sky_model.specs.History.{Mark, History, noded, of_worker, began, ended, tabled, read_only, of_copy}
use Rattle.sky_model.specs.Transactions.{next_txid, workers}
use Rattle.sky_model.specs.Sessions.{Block, outside, has_open, block, own_txid, session}
use Rattle.sky_model.specs.Locks.{waiting}
use Rattle.sky_model.specs.Nodes.{node}
use Rattle.sky_model.specs.State.{RowPart, part_of, after_part, after_part_marks}
use Rattle.sky_model.specs.Outcome.{Checked, ◌>>◌, refused_if}
use Rattle.sky_model.specs.OwnTransaction.{own_or_next, txid_for, begin_of, next_id}
use Rattle.sky_model.specs.Allowed.{allowed}
use Rattle.sky_model.specs.Made.{takes_sight}
use Rattle.sky_model.specs.Reader.{part_by_history, part_by_itself}
use Rattle.sky_model.specs.Gates.{Gate, by_gate}
use Rattle.sky_model.specs.Rooms.{Room, room_of, room_gate}
use Rattle.sky_model.specs.Settling.{Turn, rests, behind_marks, marked, settling, with_settling}
use Rattle.sky_model.specs.Calls.{row_turn}
use Rattle.sky_model.specs.SessionMarks.{failure, single_end, Enters, look_of, enters, entry_place, entry, failing, takes_id, taking, ending}
use Rattle.sky_model.specs.WorkerMarks.{begins_with, beginning, ending_work, guarding}
use Rattle.sky_model.specs.Promises.{after_all}
use Rattle.sky_model.specs.RowCalls.{RowCall, row_stepped, row_entered, row_failed, row_settled, txid_taken, single_ended, rolled_back, IsRowCallInForm, row_does, row_part, worker_begun, worker_ended, row_guarded}
use Rattle.sky_model.specs.RowSteps.{RowSteps}
use Rattle.sky_histories.proofs.Legal.{begins, ends, Chain, done, more, Legal, start, begins_work, ends_work, guards, without_node}
use Rattle.sky_histories.proofs.Good.{good_failure}
use Rattle.sky_histories.proofs.LawfulTelling.{legal_behind}
use Rattle.sky_histories.proofs.Histories.{good_enters}
use Rattle.sky_histories.proofs.StatementMarks.{EachMark, each-map, each-append}
use Rattle.sky_histories.proofs.RowOutcomes.{is_of_rows, RowMarks, KeepsRows, by_gate-rows, failure-rows, settling-rows-by, row_turn-rows-by}
use Rattle.sky_histories.proofs.Promised.{promised}
use Rattle.sky_model.proofs.Cases.{by_test}
use Rattle.sky_histories.proofs.Entering.{entered-part}
use Rattle.sky_histories.proofs.RowStanding.{part_of-marks}
use Rattle.sky_histories.proofs.GatedStanding.{good_gated_turn, good_gated_settling, same-gated_turn, same-gated_settling}
use Rattle.sky_histories.proofs.RoomsAlike.{room-turn, room-settling}
use Rattle.sky_model.specs.Copies.{copies, is_copys}

-- ---- legal histories

good_taking : (h : History) (who : ℕ) → Chain h (taking (part_of h) who).marks
good_taking h who = of (own_txid who h) refl
  where
    next : own_txid who h ≡ None → (b : Bool) → Chain h (takes_id who None (refused_if b TxidsSpent >> Ok (next_txid h))).marks
    next none true = done
    next none false = more (begins who none) done

    of : (o : Option ℕ) → own_txid who h ≡ o → Chain h (takes_id who o (own_or_next (part_of h) o)).marks
    of (Some t) mine = done
    of None none = next none (nat_le (2 ^ 62) (next_txid h))

good_ending : (h : History) (who : ℕ) → Chain h (ending (part_of h) who).marks
good_ending h who = of (own_txid who h) (block who h) refl
  where
    of : (o : Option ℕ) (b : Block) → own_txid who h ≡ o → Chain h (single_end who o b)
    of (Some t) outside mine = more (ends who t true mine) done
    of (Some t) _ mine = done
    of None b none = done

good_beginning : (h : History) → Chain h (beginning (part_of h)).marks
good_beginning h = of (nat_le (2 ^ 62) (next_txid h))
  where
    of : (b : Bool) → Chain h (begins_with (refused_if b TxidsSpent >> Ok (next_txid h))).marks
    of true = done
    of false = more begins_work done

good_ending_work : (h : History) (t : ℕ) (committed : Bool) → copies h ≡ [] → Chain h (ending_work (part_of h) t committed).marks
good_ending_work h t committed none =
    by_test (λ (b : Bool). Chain h (if b then record { answers = []; marks = ended of_worker t committed ∷ [] } else rests).marks) (contains t (workers h))
    (λ is. more (ends_work t committed (record { works = is; apart = ap (is_copys t) none })) done) (λ isnt. done)

-- a history without a node and copies
record IsBare (h : History) : Type 0 where
  node : node h ≡ None
  copies : copies h ≡ []

-- what a call does may come
good_row_does : (h : History) → Legal h → IsBare h → (call : RowCall) → Chain h (row_does part_by_history h call).marks
good_row_does h l bare (row_stepped room who stmt) = good_gated_turn (room_gate room) h l [] who stmt
good_row_does h l bare (row_entered who alone) = good_enters h who (takes_sight (entry_place alone) (session h who).sight) (allowed (is_waiting who (waiting h)) (has_open who h) (block who h) (entry_place alone))
good_row_does h l bare (row_failed room who) = good_gated_settling (room_gate room) h l [] (failing (part_of h) who) (good_failure h who)
good_row_does h l bare (row_settled room) = good_gated_settling (room_gate room) h l [] rests done
good_row_does h l bare (txid_taken who) = good_taking h who
good_row_does h l bare (single_ended who) = good_ending h who
good_row_does h l bare (rolled_back who) = good_failure h who
good_row_does h l bare worker_begun = good_beginning h
good_row_does h l bare (row_guarded table on) = more (guards table on (without_node table on bare.node)) done
good_row_does h l bare (worker_ended t committed) = good_ending_work h t committed bare.copies

-- ---- a row part has no node and no copies

abbrev is_nodes : Mark → Bool
is_nodes (noded mark) = true
is_nodes (began (of_copy table) t) = true
is_nodes (ended (of_copy table) t committed) = true
is_nodes _ = false

abbrev LeaveNode : List Mark → Type 0
LeaveNode marks = EachMark (λ mark. not (is_nodes mark)) marks

of-rows : (marks : List Mark) → RowMarks marks → LeaveNode marks
of-rows marks rows = each-map is_of_rows (λ mark. not (is_nodes mark)) by_kind marks rows
  where
    by_kind : (mark : Mark) → is_of_rows mark ≡ true → not (is_nodes mark) ≡ true
    by_kind (noded mark) e = absurd (cc)
    by_kind (began (of_copy table) t) e = absurd (cc)
    by_kind (ended (of_copy table) t committed) e = absurd (cc)
    by_kind _ e = refl

still-bare : (h : History) (marks : List Mark) → LeaveNode marks → IsBare h → IsBare (marked h marks)
still-bare h [] leave bare = bare
still-bare h (noded mark ∷ marks) leave bare = absurd leave
still-bare h (began (of_copy table) t ∷ marks) leave bare = absurd leave
still-bare h (ended (of_copy table) t committed ∷ marks) leave bare = absurd leave
still-bare h (mark ∷ marks) leave bare = still-bare (mark ∷ h) marks leave (record { node = bare.node; copies = bare.copies })

history-rows : KeepsRows part_by_history
history-rows = record { tells = λ h c rows. rows }

leave-settling : (room : Room) (h : History) (turn : Turn) → LeaveNode turn.marks → LeaveNode (with_settling (by_gate (room_gate room) part_by_history) (h, []) turn).marks
leave-settling room h turn leave =
    let there = behind_marks (by_gate (room_gate room) part_by_history) (h, []) turn.marks in
    each-append (λ mark. not (is_nodes mark)) turn.marks (settling (by_gate (room_gate room) part_by_history) there).marks leave
    (of-rows (settling (by_gate (room_gate room) part_by_history) there).marks (settling-rows-by (by_gate (room_gate room) part_by_history) (by_gate-rows (room_gate room) part_by_history history-rows) there).marks)

leave-enters : (who : ℕ) (sight : Bool) (may : Checked (Unit {0})) → LeaveNode (enters who (look_of who sight) may).marks
leave-enters who true (Ok _) = tt
leave-enters who false (Ok _) = tt
leave-enters who sight (Err refusal) = tt

leave-taking : (who : ℕ) (o : Option ℕ) (c : Checked ℕ) → LeaveNode (takes_id who o c).marks
leave-taking who None (Ok t) = tt
leave-taking who (Some own) (Ok t) = tt
leave-taking who o (Err refusal) = tt

leave-ending : (who : ℕ) (o : Option ℕ) (b : Block) → LeaveNode (single_end who o b)
leave-ending who (Some t) outside = tt
leave-ending who (Some t) _ = tt
leave-ending who None b = tt

leave-beginning : (c : Checked ℕ) → LeaveNode (begins_with c).marks
leave-beginning (Ok t) = tt
leave-beginning (Err refusal) = tt

leaves-node : (h : History) (call : RowCall) → LeaveNode (row_does part_by_history h call).marks
leaves-node h (row_stepped room who stmt) =
    of-rows (row_turn (by_gate (room_gate room) part_by_history) (h, []) who stmt).marks (row_turn-rows-by (by_gate (room_gate room) part_by_history) (by_gate-rows (room_gate room) part_by_history history-rows) (h, []) who stmt).marks
leaves-node h (row_entered who alone) = leave-enters who (takes_sight (entry_place alone) (session h who).sight) (allowed (is_waiting who (waiting h)) (has_open who h) (block who h) (entry_place alone))
leaves-node h (row_failed room who) = leave-settling room h (failing (part_of h) who) (of-rows (failure who (own_txid who h) (block who h)) (failure-rows who (own_txid who h) (block who h)))
leaves-node h (row_settled room) = leave-settling room h rests tt
leaves-node h (txid_taken who) = leave-taking who (own_txid who h) (own_or_next (part_of h) (own_txid who h))
leaves-node h (single_ended who) = leave-ending who (own_txid who h) (block who h)
leaves-node h (rolled_back who) = of-rows (failure who (own_txid who h) (block who h)) (failure-rows who (own_txid who h) (block who h))
leaves-node h worker_begun = leave-beginning (next_id (part_of h))
leaves-node h (row_guarded table on) = tt
leaves-node h (worker_ended t committed) =
    by_test (λ (b : Bool). LeaveNode (if b then record { answers = []; marks = ended of_worker t committed ∷ [] } else rests).marks) (contains t (workers h)) (λ _. tt) (λ _. tt)

bare_row_calls : (calls : List RowCall) → IsBare (after_all row_part calls)
bare_row_calls [] = record { node = refl; copies = refl }
bare_row_calls (call ∷ calls) = still-bare (after_all row_part calls) (row_does part_by_history (after_all row_part calls) call).marks (leaves-node (after_all row_part calls) call) (bare_row_calls calls)

-- so the history that calls make is legal
legal_row_calls : (calls : List RowCall) → Legal (after_all row_part calls)
legal_row_calls [] = start
legal_row_calls (call ∷ calls) =
    legal_behind (after_all row_part calls) (row_does part_by_history (after_all row_part calls) call).marks (legal_row_calls calls)
    (good_row_does (after_all row_part calls) (legal_row_calls calls) (bare_row_calls calls) call)

-- ---- promises

-- by what the part keeps a call does what it does by the history
same-row_does : (h : History) → Legal h → (call : RowCall) → row_does part_by_itself (part_of h) call ≡ row_does part_by_history h call
same-row_does h l (row_stepped room who stmt) = sym (same-gated_turn (room_gate room) h l [] who stmt)
same-row_does h l (row_entered who alone) = refl
same-row_does h l (row_failed room who) = sym (same-gated_settling (room_gate room) h l [] (failing (part_of h) who) (good_failure h who))
same-row_does h l (row_settled room) = sym (same-gated_settling (room_gate room) h l [] rests done)
same-row_does h l (txid_taken who) = refl
same-row_does h l (single_ended who) = refl
same-row_does h l (rolled_back who) = refl
same-row_does h l worker_begun = refl
same-row_does h l (worker_ended t committed) = refl
same-row_does h l (row_guarded table on) = refl

-- the part after a call
behind-row_does : (h : History) → Legal h → (call : RowCall)
    → after_part_marks (part_of h) (row_does part_by_itself (part_of h) call).marks ≡ part_of (row_part.after h call)
behind-row_does h l call =
    ap (λ (turn : Turn). after_part_marks (part_of h) turn.marks) (same-row_does h l call) ∙ sym (part_of-marks h (row_does part_by_history h call).marks)

-- a call that changes a part as this turn says keeps its promise, if the turn is the one by what the part keeps
row_call_from_exact : (old new : RowPart) (call : RowCall) (turn : Turn) → turn ≡ row_does part_by_itself old call → new ≡ after_part_marks old turn.marks → RowSteps old new call turn
row_call_from_exact old new call turn is changed =
    promised row_part IsRowCallInForm call (λ d. row_does part_by_itself d call) (λ d. after_part_marks d (row_does part_by_itself d call).marks)
    (λ calls in_form. same-row_does (after_all row_part calls) (legal_row_calls calls) call)
    (λ calls in_form. behind-row_does (after_all row_part calls) (legal_row_calls calls) call)
    old new turn is (changed ∙ ap (λ (x : Turn). after_part_marks old x.marks) is)

-- ---- each call's

-- with a gate
pub gated_step_from_exact : {G : Type 0} (gate : Gate G) (old new : RowPart) (g : G) (who : ℕ) (stmt : RowStmt)
    → new ≡ after_part_marks old (row_turn (by_gate gate part_by_itself) (old, g) who stmt).marks
    → RowSteps old new (row_stepped (room_of gate g) who stmt) (row_turn (by_gate gate part_by_itself) (old, g) who stmt)
gated_step_from_exact gate old new g who stmt =
    row_call_from_exact old new (row_stepped (room_of gate g) who stmt) (row_turn (by_gate gate part_by_itself) (old, g) who stmt) (room-turn gate g old who stmt)

pub gated_fail_from_exact : {G : Type 0} (gate : Gate G) (old new : RowPart) (g : G) (who : ℕ)
    → new ≡ after_part_marks old (with_settling (by_gate gate part_by_itself) (old, g) (failing old who)).marks
    → RowSteps old new (row_failed (room_of gate g) who) (with_settling (by_gate gate part_by_itself) (old, g) (failing old who))
gated_fail_from_exact gate old new g who =
    row_call_from_exact old new (row_failed (room_of gate g) who) (with_settling (by_gate gate part_by_itself) (old, g) (failing old who)) (room-settling gate g old (failing old who))

pub gated_settle_from_exact : {G : Type 0} (gate : Gate G) (old new : RowPart) (g : G)
    → new ≡ after_part_marks old (settling (by_gate gate part_by_itself) (old, g)).marks
    → RowSteps old new (row_settled (room_of gate g)) (settling (by_gate gate part_by_itself) (old, g))
gated_settle_from_exact gate old new g =
    row_call_from_exact old new (row_settled (room_of gate g)) (settling (by_gate gate part_by_itself) (old, g)) (room-settling gate g old rests)

pub row_enter_from_exact : (old new : RowPart) (who : ℕ) (alone : Bool) (refusal : Option Refusal) → Enters old new who (entry_place alone) refusal
    → RowSteps old new (row_entered who alone) (entry old who (entry_place alone))
row_enter_from_exact old new who alone refusal enters =
    row_call_from_exact old new (row_entered who alone) (entry old who (entry_place alone)) refl (entered-part old new who (entry_place alone) refusal enters)

pub take_txid_from_exact : (old new : RowPart) (who t : ℕ) → txid_for old who ≡ Ok t → new ≡ after_part_marks old (begin_of who t (old.session who).txid)
    → RowSteps old new (txid_taken who) (taking old who)
take_txid_from_exact old new who t is changed =
    row_call_from_exact old new (txid_taken who) (taking old who) refl
    (changed ∙ sym (ap (λ o. after_part_marks old (takes_id who (old.session who).txid o).marks) is))

-- no id is left, and nothing has changed
pub no_txid_from_exact : (old new : RowPart) (who : ℕ) (refusal : Refusal) → txid_for old who ≡ Err refusal → new ≡ old → RowSteps old new (txid_taken who) (taking old who)
no_txid_from_exact old new who refusal is same =
    row_call_from_exact old new (txid_taken who) (taking old who) refl (same ∙ sym (ap (λ o. after_part_marks old (takes_id who (old.session who).txid o).marks) is))

pub end_single_from_exact : (old new : RowPart) (who : ℕ) → new ≡ after_part_marks old (ending old who).marks → RowSteps old new (single_ended who) (ending old who)
end_single_from_exact old new who = row_call_from_exact old new (single_ended who) (ending old who) refl

pub roll_back_from_exact : (old new : RowPart) (who : ℕ) → new ≡ after_part_marks old (failing old who).marks → RowSteps old new (rolled_back who) (failing old who)
roll_back_from_exact old new who = row_call_from_exact old new (rolled_back who) (failing old who) refl

-- a worker's transaction begins
pub begin_worker_from_exact : (old new : RowPart) (t : ℕ) → next_id old ≡ Ok t → new ≡ after_part_marks old (began of_worker t ∷ []) → RowSteps old new worker_begun (beginning old)
begin_worker_from_exact old new t is changed =
    row_call_from_exact old new worker_begun (beginning old) refl (changed ∙ sym (ap (λ o. after_part_marks old (begins_with o).marks) is))

-- one that runs ends
pub end_worker_from_exact : (old new : RowPart) (t : ℕ) (committed : Bool) → contains t old.workers ≡ true → new ≡ after_part old (ended of_worker t committed)
    → RowSteps old new (worker_ended t committed) (ending_work old t committed)
end_worker_from_exact old new t committed runs changed =
    row_call_from_exact old new (worker_ended t committed) (ending_work old t committed) refl
    (changed ∙ sym (ap (λ b. after_part_marks old (if b then record { answers = []; marks = ended of_worker t committed ∷ [] } else rests).marks) runs))

-- sessions may not write a table from then on, or may again
pub guard_from_exact : (old new : RowPart) (table : ℕ) (on : Bool) → new ≡ after_part old (tabled (read_only table on)) → RowSteps old new (row_guarded table on) (guarding table on)
guard_from_exact old new table on = row_call_from_exact old new (row_guarded table on) (guarding table on) refl
