-- What the statements on sessions, transactions, tables and rows can do: they list no event, and touch no queue.
use Rattle.std.proofs.Common.{◌≡◌, ℕ, List, Bool, true, false, Option, refl}
use Rattle.sky_val.specs.declared.val.Val.{Val}
use Rattle.sky_keys.specs.Waits.{is_waiting}
use Rattle.sky_model.specs.declared.stmt.RowStmt.{RowStmt}
use Rattle.sky_model.specs.declared.stmt.Attempt.{Attempt}
use Rattle.sky_model.specs.declared.reply.Refusal.{Refusal}
use Rattle.sky_model.specs.History.{Mark, sight_taken, tabled, wrote, read_only, queued, noded, of_worker, of_copy, began, ended}
use Rattle.sky_model.specs.Sessions.{Block, Session}
use Rattle.sky_model.specs.State.{RowPart}
use Rattle.sky_model.specs.ShownRows.{KeyShown, RowsShown}
use Rattle.sky_model.specs.Outcome.{Outcome, Checked, abort}
use Rattle.sky_model.specs.StepRows.{attempts}
use Rattle.sky_model.specs.Printed.{ReplyHasMoments}
use Rattle.sky_model.specs.Allowed.{where_of_row, allowed}
use Rattle.sky_model.specs.Reader.{PartReader, part_by_itself}
use Rattle.sky_model.specs.Gates.{Gate, by_gate}
use Rattle.sky_model.specs.Settling.{Turn, turn_of, settling}
use Rattle.sky_model.specs.SessionMarks.{failure}
use Rattle.sky_model.specs.Calls.{row_form, row_making, row_statement, row_turn}
use Rattle.sky_model.specs.Permits.{MarkKinds, of_any, of_rows, attempt_kinds, of_resumed, may_leave, permit_of_row}
use Rattle.sky_histories.proofs.StatementMarks.{EachMark, Gives, gives-map, no-queued, gives-attempt, gives-row_form, gives-gated, each-abort, each-failure, given-runs, KeepsMarks, TurnGives, turn_of-gives, then-gives, settling-gives}

abbrev pub is_of_rows : Mark → Bool
is_of_rows (queued mark) = false
is_of_rows (noded mark) = false
is_of_rows (tabled (read_only table on)) = false
is_of_rows (tabled (wrote of_worker t table key old new)) = false
is_of_rows (began (of_copy table) t) = false
is_of_rows (ended (of_copy table) t committed) = false
is_of_rows _ = true

-- none of the marks is a queue's, the node's or a copy's, none is a worker's write, and none says who may write a table
abbrev pub RowMarks : List Mark → Type 0
RowMarks marks = EachMark is_of_rows marks

-- no event is the answer either, if a statement isn't refused
abbrev pub OfRows : Checked Outcome → Type 0
OfRows c = Gives ReplyHasMoments is_of_rows c

-- the same of a turn
abbrev pub TurnOfRows : Turn → Type 0
TurnOfRows turn = TurnGives is_of_rows turn

rows-if : (k : MarkKinds) (s : Session) (who : ℕ) (mark : Mark) → may_leave (of_rows k) s who mark ≡ true → is_of_rows mark ≡ true
rows-if k s who (queued mark) e = absurd (no-queued k s who mark e)
rows-if k s who (noded mark) e = absurd (cc)
rows-if k s who (tabled (read_only table on)) e = absurd (cc)
rows-if k s who (tabled (wrote of_worker t table key old new)) e = absurd (cc)
rows-if k s who (began (of_copy table) t) e = absurd (cc)
rows-if k s who (ended (of_copy table) t committed) e = absurd (cc)
rows-if k s who _ e = refl

-- an attempt with a key
pub attempts-rows : (d : RowPart) (shown : KeyShown) (who table : ℕ) (key : List Val) (attempt : Attempt) → OfRows (attempts d shown who table key attempt)
attempts-rows d shown who table key attempt =
    gives-map ReplyHasMoments ReplyHasMoments (may_leave (of_rows (attempt_kinds true)) (d.session who) who) is_of_rows (λ reply has. has) (rows-if (attempt_kinds true) (d.session who) who) _ (gives-attempt who d shown table key attempt)

-- a refusal that aborts a block
pub abort-rows : (who : ℕ) (b : Block) (o : Option ℕ) (refusal : Refusal) → RowMarks (abort who b o refusal)
abort-rows who b o refusal = each-abort ReplyHasMoments is_of_rows (λ _. tt) (rows-if of_any) who b o refusal

-- and a block that is aborted
pub failure-rows : (who : ℕ) (o : Option ℕ) (b : Block) → RowMarks (failure who o b)
failure-rows who o b = each-failure ReplyHasMoments is_of_rows (λ _. tt) (rows-if of_any) who o b

-- a statement on rows
pub form-rows : (d : RowPart) (shown : RowsShown) (who : ℕ) (stmt : RowStmt) → OfRows (row_form d shown who stmt)
form-rows d shown who stmt =
    let k : MarkKinds = (permit_of_row stmt).kinds in
    gives-map ReplyHasMoments ReplyHasMoments (may_leave (of_rows k) (d.session who) who) is_of_rows (λ reply has. has) (rows-if k (d.session who) who) _ (gives-row_form who d shown stmt)

-- a place whose statements on rows do so still when their writes are refused if there is no room for them: a row part
abbrev pub KeepsRows : {P : Type 0} → PartReader P → Type 0
KeepsRows r = KeepsMarks is_of_rows r

pub itself-rows : KeepsRows part_by_itself
itself-rows = record { tells = λ d c rows. rows }

-- and one with a gate
pub by_gate-rows : {G P : Type 0} (gate : Gate G) (r : PartReader P) → KeepsRows r → KeepsRows (by_gate gate r)
by_gate-rows gate r keeps = record { tells = λ p c rows. gives-gated ReplyHasMoments is_of_rows gate p.1 (r.tells p.0 c) (keeps.tells p.0 c rows) }

-- those that resume list no event, and touch no queue
pub settling-rows-by : {P : Type 0} (r : PartReader P) → KeepsRows r → (p : P) → TurnOfRows (settling r p)
settling-rows-by r keeps p = settling-gives is_of_rows (λ who. refl) (rows-if of_resumed) r keeps p

-- nor does a statement on rows with those that it unblocks
pub row_turn-rows-by : {P : Type 0} (r : PartReader P) → KeepsRows r → (p : P) (who : ℕ) (stmt : RowStmt) → TurnOfRows (row_turn r p who stmt)
row_turn-rows-by {P = P} r keeps p who stmt =
    then-gives is_of_rows r p (turn_of who (row_statement r p who stmt)) (settling r)
    (turn_of-gives is_of_rows who (row_statement r p who stmt)
    (given-runs ReplyHasMoments is_of_rows (λ _. tt) (rows-if of_any) (row_making r who stmt) (where_of_row stmt) who p
    (allowed (is_waiting who (r.part p).waiting) ((r.part p).session who).is_open ((r.part p).session who).block (where_of_row stmt)) (at p) (at (r.behind p (sight_taken who)))))
    (settling-rows-by r keeps)
  where
    at : (q : P) → OfRows (r.tells q (row_form (r.part q) (r.rows q) who stmt))
    at q = keeps.tells q _ (form-rows (r.part q) (r.rows q) who stmt)
