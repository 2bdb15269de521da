-- What a gate for writes does: it is notified of each write, refuses those that it has no room for, and leaves all else.
use Rattle.std.proofs.Common.{◌≡◌, ℕ, Bool, true, false, List, [], ◌∷◌, ◌++◌, Option, Ok, Err, refl, ◌∙◌, ap, not, ◌&&◌}
use Rattle.sky_val.specs.declared.val.Val.{Val}
use Rattle.sky_model.specs.declared.stmt.RowStmt.{RowStmt}
use Rattle.sky_model.specs.declared.stmt.RowStmt.TheVariants.{Get}
use Rattle.sky_model.specs.declared.reply.Refusal.{Refusal}
use Rattle.sky_model.specs.declared.reply.Refusal.TheVariants.{EventIdsSpent}
use Rattle.sky_model.specs.History.{Mark, of_session, ended, tabled, wrote}
use Rattle.sky_model.specs.Sessions.{Block}
use Rattle.sky_model.specs.State.{RowPart, after_part, after_part_marks}
use Rattle.sky_model.specs.ShownRows.{RowsShown, rows_by}
use Rattle.sky_model.specs.Outcome.{Outcome, Checked, marks_of, ◌>>◌, refused_if, abort}
use Rattle.sky_model.specs.StepRows.{get}
use Rattle.sky_model.specs.Reader.{part_by_itself}
use Rattle.sky_model.specs.Gates.{Gate, takes, passed, takes_all, passed_all, gated, by_gate, open_gate}
use Rattle.sky_model.specs.Settling.{Turn, behind_marks, with_settling}
use Rattle.sky_model.specs.Calls.{row_turn}
use Rattle.sky_model.specs.Printed.{ReplyHasMoments}
use Rattle.sky_model.specs.Sessions.{Session}
use Rattle.sky_model.specs.Permits.{MarkKinds, of_any, of_rows, may_leave, permit_of_row}
use Rattle.sky_histories.proofs.StatementMarks.{EachMark, each-map, AnyReply, each-given, gives-row_form, each-abort}
use Rattle.sky_histories.proofs.Turns.{ReadAlike, same-with_settling, alike-turn, Any, each-any}

-- a place after marks is the part after them, and the gate after them
pub gated-behind : {G : Type 0} (gate : Gate G) (d : RowPart) (g : G) (marks : List Mark)
    → behind_marks (by_gate gate part_by_itself) (d, g) marks ≡ (after_part_marks d marks, passed_all gate g marks)
gated-behind gate d g [] = refl
gated-behind gate d g (mark ∷ marks) = gated-behind gate (after_part d mark) (passed gate g mark) marks

-- the gate after marks and more of them
pub passed-append : {G : Type 0} (gate : Gate G) (g : G) (xs ys : List Mark) → passed_all gate g (xs ++ ys) ≡ passed_all gate (passed_all gate g xs) ys
passed-append gate g [] ys = refl
passed-append gate g (x ∷ xs) ys = passed-append gate (passed gate g x) xs ys

abbrev pub is_no_write : Mark → Bool
is_no_write (tabled (wrote who t table key old new)) = false
is_no_write _ = true

-- none of the marks is a write
abbrev pub WritesNone : List Mark → Type 0
WritesNone marks = EachMark is_no_write marks

-- nor of what a statement does, if it isn't refused
abbrev pub PlainOutcome : Checked Outcome → Type 0
PlainOutcome c = WritesNone (marks_of c)

none-asked : {G : Type 0} (gate : Gate G) (g : G) (marks : List Mark) → WritesNone marks → takes_all gate g marks ≡ true
none-asked gate g [] plain = refl
none-asked gate g (tabled (wrote who t table key old new) ∷ marks) plain = absurd plain
none-asked gate g (ended whose t false ∷ marks) plain = none-asked gate (gate.undone g t) marks plain
none-asked gate g (mark ∷ marks) plain = none-asked gate g marks plain

-- a mark of which a gate isn't notified
abbrev pub is_unnoticed : Mark → Bool
is_unnoticed (tabled (wrote who t table key old new)) = false
is_unnoticed (ended whose t false) = false
is_unnoticed _ = true

-- it isn't of any of the marks
abbrev pub NoticesNone : List Mark → Type 0
NoticesNone marks = EachMark is_unnoticed marks

-- without a write and a rollback a gate stays as it is
pub passed-none : {G : Type 0} (gate : Gate G) (g : G) (marks : List Mark) → NoticesNone marks → passed_all gate g marks ≡ g
passed-none gate g [] none = refl
passed-none gate g (tabled (wrote who t table key old new) ∷ marks) none = absurd none
passed-none gate g (ended whose t false ∷ marks) none = absurd none
passed-none gate g (mark ∷ marks) none = passed-none gate g marks none

-- and what writes nothing is done as without the gate
pub gated-none : {G : Type 0} (gate : Gate G) (g : G) (c : Checked Outcome) → PlainOutcome c → gated gate g c ≡ c
gated-none gate g (Err refusal) plain = refl
gated-none gate g (Ok o) plain = ap (λ b. refused_if (not b) EventIdsSpent >> Ok o) (none-asked gate g o.marks plain)

-- ---- what writes nothing

pub plain-if : (k : MarkKinds) → k.writes ≡ false → (s : Session) (who : ℕ) (mark : Mark) → may_leave k s who mark ≡ true → is_no_write mark ≡ true
plain-if k none s who (tabled (wrote (of_session v) t table key old new)) e = absurd (cc)
plain-if k none s who (tabled (wrote whose t table key old new)) e = absurd (cc)
plain-if k none s who _ e = refl

-- a refusal that aborts a block
pub plain-abort : (who : ℕ) (b : Block) (txid : Option ℕ) (refusal : Refusal) → WritesNone (abort who b txid refusal)
plain-abort who b txid refusal = each-abort AnyReply is_no_write (λ _. tt) (plain-if of_any refl) who b txid refusal

-- `get`
pub plain-get : (d : RowPart) (shown : RowsShown) (who : ℕ) (name : List ℕ) (key : List Val) → PlainOutcome (get d shown who name key)
plain-get d shown who name key =
    let k : MarkKinds = of_rows (permit_of_row (Get name key)).kinds in
    each-map (may_leave k (d.session who) who) is_no_write (plain-if k refl (d.session who) who) (marks_of (get d shown who name key))
    (each-given ReplyHasMoments (may_leave k (d.session who) who) (get d shown who name key) (gives-row_form who d shown (Get name key)))

-- ---- the gate that always has room

open-mark : (g : Unit {0}) (mark : Mark) → takes open_gate g mark ≡ true
open-mark g (tabled (wrote (of_session who) t table key old new)) = refl
open-mark g mark = refl

open-takes : (g : Unit {0}) (marks : List Mark) → takes_all open_gate g marks ≡ true
open-takes g [] = refl
open-takes g (mark ∷ marks) = ap (λ b. b && takes_all open_gate (passed open_gate g mark) marks) (open-mark g mark) ∙ open-takes (passed open_gate g mark) marks

open-told : (g : Unit {0}) (c : Checked Outcome) → gated open_gate g c ≡ c
open-told g (Err refusal) = refl
open-told g (Ok o) = ap (λ b. refused_if (not b) EventIdsSpent >> Ok o) (open-takes g o.marks)

as-open : ReadAlike (by_gate open_gate part_by_itself) part_by_itself Any (λ p d. p.0 ≡ d)
as-open = record {
  parts = λ p d is. is;
  rows = λ p d is. ap rows_by is;
  tells = λ p d is. λ i c. open-told p.1 c i;
  behind = λ p d mark is _. ap (λ x. after_part x mark) is;
}

-- a turn, with those that it unblocks
pub open-with_settling : (d : RowPart) (turn : Turn) → with_settling (by_gate open_gate part_by_itself) (d, tt) turn ≡ with_settling part_by_itself d turn
open-with_settling d turn =
    same-with_settling (by_gate open_gate part_by_itself) part_by_itself Any (λ p x. p.0 ≡ x) as-open (d, tt) d turn turn refl refl
    (each-any (by_gate open_gate part_by_itself) (d, tt) _)

-- and a statement with them
pub open-turn : (d : RowPart) (who : ℕ) (stmt : RowStmt) → row_turn (by_gate open_gate part_by_itself) (d, tt) who stmt ≡ row_turn part_by_itself d who stmt
open-turn d who stmt =
    alike-turn (by_gate open_gate part_by_itself) part_by_itself Any (λ p x. p.0 ≡ x) as-open (d, tt) d who stmt refl tt
    (each-any (by_gate open_gate part_by_itself) (d, tt) _)
