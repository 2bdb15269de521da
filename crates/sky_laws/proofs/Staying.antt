-- A statement other than `open` and `close` leaves each session as it was: with the database open, or without it.
use Rattle.sky_model.specs.Permits.{MarkKinds, of_any, of_resumed, may_leave, permit_of}
use Rattle.sky_model.specs.Sessions.{Session}
use Rattle.std.proofs.Common.{◌≡◌, ℕ, ℤ, List, [], ◌∷◌, Bool, true, false, refl, ◌&&◌, sym, not, ◌∙◌}
use Rattle.sky_model.specs.declared.stmt.DbStmt.{DbStmt}
use Rattle.sky_model.specs.History.{Mark, connected, disconnected, History}
use Rattle.sky_model.specs.Sessions.{has_open}
use Rattle.sky_model.specs.State.{Database, database_of}
use Rattle.sky_model.specs.Printed.{ReplyHasMoments}
use Rattle.sky_model.specs.Reader.{Shown, database_by_history, within_part}
use Rattle.sky_model.specs.Settling.{marked, settling}
use Rattle.sky_model.specs.Calls.{form}
use Rattle.sky_histories.proofs.StatementMarks.{EachMark, Gives, AnyReply, gives-map, gives-tells, gives-form, settling-gives}

abbrev pub is_staying : Mark → Bool
is_staying (connected who) = false
is_staying (disconnected who) = false
is_staying _ = true

-- none of the marks opens the database or closes it
abbrev pub Stay : List Mark → Type 0
Stay marks = EachMark is_staying marks

-- so it is open to the same sessions after them
pub open-stays : (v : ℕ) (h : History) (marks : List Mark) → Stay marks → has_open v (marked h marks) ≡ has_open v h
open-stays v h [] stay = refl
open-stays v h (connected who ∷ marks) stay = absurd stay
open-stays v h (disconnected who ∷ marks) stay = absurd stay
open-stays v h (mark ∷ marks) stay = open-stays v (mark ∷ h) marks stay

-- kinds that have none of these for a session that has the database open, or hasn't
pub record IsStill (k : MarkKinds) (is_open : Bool) : Type 0 where
  pub opens : (k.opens && not is_open) ≡ false
  pub closes : k.closes ≡ false

pub stays-if : (k : MarkKinds) (s : Session) → IsStill k s.is_open → (who : ℕ) (mark : Mark) → may_leave k s who mark ≡ true → is_staying mark ≡ true
stays-if k s still who (connected v) e = absurd (cc (sym e ∙ still.opens))
stays-if k s still who (disconnected v) e = absurd (cc (sym e ∙ still.closes))
stays-if k s still who _ e = refl

-- a statement that opens no database, and closes none, of a session that has it open or hasn't
abbrev pub IsStaying : Bool → DbStmt → Type 0
IsStaying is_open stmt = IsStill (permit_of stmt).kinds is_open

pub stays-form : (d : Database) (shown : Shown) (now : ℤ) (who : ℕ) (stmt : DbStmt) → IsStaying (d.part.session who).is_open stmt → Gives AnyReply is_staying (form d shown now who stmt)
stays-form d shown now who stmt is =
    let k : MarkKinds = (permit_of stmt).kinds in
    gives-map AnyReply AnyReply (may_leave k (d.part.session who) who) is_staying (λ reply any. any) (stays-if k (d.part.session who) is who) _ (gives-form who d shown now stmt)

pub stays-any : (s : Session) (who : ℕ) (mark : Mark) → may_leave of_any s who mark ≡ true → is_staying mark ≡ true
stays-any s = stays-if of_any s (record { opens = refl; closes = refl })

-- those that resume
pub stay-settling : (h : History) (now : ℤ) → Stay (settling (within_part database_by_history now) h).marks
stay-settling h now =
    (settling-gives is_staying (λ who. refl) (λ s. stays-if of_resumed s (record { opens = refl; closes = refl })) (within_part database_by_history now)
    (record { tells = λ g c stay. gives-tells is_staying (λ mark _. refl) ReplyHasMoments (database_of g) now c stay }) h).marks
