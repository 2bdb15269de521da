-- Marks of which nothing is asked but form, and the statements that leave these alone: those that neither make a table, write a row, wait, store an event
-- nor bring retries back.
use Rattle.std.proofs.Common.{◌≡◌, ◌≢◌, All, List, ℕ, ℤ, Bool, true, false, ◌||◌, not, Option, Some, None, is_some, refl, arith}
use Rattle.std.specs.List.{AllPairs}
use Rattle.sky_val.specs.declared.column.Column.{Column}
use Rattle.sky_val.specs.Schemas.{AreNamed}
use Rattle.sky_urlenc.specs.Held.{IsWord}
use Rattle.sky_model.specs.declared.stmt.DbStmt.{DbStmt}
use Rattle.sky_model.specs.declared.reply.HeldBack.{HeldBack}
use Rattle.sky_model.specs.History.{Mark, of_session, tabled, table_made, wrote, waits, queued, put, returned, traced, untraced, noded, root_made, set_added, set_removed}
use Rattle.sky_model.specs.Permits.{MarkKinds, may_put, may_leave, permit_of}
use Rattle.sky_model.specs.Sessions.{Session}
use Rattle.sky_model.specs.State.{Database}
use Rattle.sky_model.specs.Outcome.{Checked, Outcome}
use Rattle.sky_model.specs.OwnTransaction.{next_id}
use Rattle.sky_model.specs.StepRotation.{rotates_alone}
use Rattle.sky_model.specs.Reader.{Shown}
use Rattle.sky_model.specs.Calls.{form}
use Rattle.sky_histories.proofs.StatementMarks.{Gives, AnyReply, gives-map, checked, gives-form}
use Rattle.sky_laws_changes.proofs.HeldValues.{HeldAttempt}

-- the columns of a table can be read back
pub record IsTableOf (columns : List Column) : Type 0 where
  pub named : AreNamed columns
  pub apart : AllPairs (λ one other. one.name ≢ other.name) columns
  pub words : All (λ c. IsWord c.name) columns

-- a mark that neither writes a row, nor stores an event or says that a retry came back, nor is about a set's tables
abbrev pub Plain : Mark → Type 0
Plain (tabled (wrote whose t table key old new)) = ⊥
Plain (tabled (table_made name columns)) = IsTableOf columns
Plain (tabled (waits who table key attempt)) = HeldAttempt attempt
Plain (queued (put queue event)) = ⊥
Plain (queued (returned retry moment)) = ⊥
Plain (queued (traced table None trigger)) = ⊥
Plain (queued (untraced table)) = ⊥
Plain (noded (root_made name queue)) = ⊥
Plain (noded (set_added table)) = ⊥
Plain (noded (set_removed table)) = ⊥
Plain _ = Unit {0}

-- whether it is plain, whatever it says
abbrev pub is_plain : Mark → Bool
is_plain (tabled (table_made name columns)) = false
is_plain (tabled (wrote whose t table key old new)) = false
is_plain (tabled (waits who table key attempt)) = false
is_plain (queued (put queue event)) = false
is_plain (queued (returned retry moment)) = false
is_plain (queued (traced table name trigger)) = is_some name
is_plain (queued (untraced table)) = false
is_plain (noded (root_made name queue)) = false
is_plain (noded (set_added table)) = false
is_plain (noded (set_removed table)) = false
is_plain _ = true

pub plain-mark : (mark : Mark) → is_plain mark ≡ true → Plain mark
plain-mark (tabled (table_made name columns)) e = absurd (cc)
plain-mark (tabled (wrote whose t table key old new)) e = absurd (cc)
plain-mark (tabled (waits who table key attempt)) e = absurd (cc)
plain-mark (queued (put queue event)) e = absurd (cc)
plain-mark (queued (returned retry moment)) e = absurd (cc)
plain-mark (queued (traced table None trigger)) e = absurd (cc)
plain-mark (queued (untraced table)) e = absurd (cc)
plain-mark (noded (root_made name queue)) e = absurd (cc)
plain-mark (noded (set_added table)) e = absurd (cc)
plain-mark (noded (set_removed table)) e = absurd (cc)
plain-mark _ e = tt

abbrev pub PlainLeaves : Checked Outcome → Type 0
PlainLeaves c = Gives AnyReply is_plain c

-- kinds of plain marks
abbrev pub are_plain : MarkKinds → Bool
are_plain k = not (k.tables || k.writes || k.waits_for || k.puts || k.brings_back)

pub plain-if : (k : MarkKinds) → are_plain k ≡ true → (s : Session) (who : ℕ) (mark : Mark) → may_leave k s who mark ≡ true → is_plain mark ≡ true
plain-if k plain s who (tabled (table_made name columns)) e = absurd (grind (arith, e, plain))
plain-if k plain s who (tabled (wrote (of_session v) t table key old new)) e = absurd (grind (arith, e, plain))
plain-if k plain s who (tabled (wrote _ t table key old new)) e = absurd (cc)
plain-if k plain s who (tabled (waits v table key attempt)) e = absurd (grind (arith, e, plain))
plain-if k plain s who (queued (put queue event)) e = absurd (of event.ev_owner e)
  where
    of : (o : Option ℕ) → may_put k o ≡ true → ⊥
    of None e = grind (arith, e, plain)
    of (Some sub) e = grind (arith, e, plain)
plain-if k plain s who (queued (returned retry moment)) e = absurd (grind (arith, e, plain))
plain-if k plain s who (queued (traced table None trigger)) e = absurd (cc)
plain-if k plain s who (queued (untraced table)) e = absurd (cc)
plain-if k plain s who (noded mark) e = absurd (cc)
plain-if k plain s who _ e = refl

pub plain-form : (d : Database) (shown : Shown) (now : ℤ) (who : ℕ) (stmt : DbStmt) → are_plain (permit_of stmt).kinds ≡ true → PlainLeaves (form d shown now who stmt)
plain-form d shown now who stmt plain =
    let k : MarkKinds = (permit_of stmt).kinds in
    gives-map AnyReply AnyReply (may_leave k (d.part.session who) who) is_plain (λ reply any. any) (plain-if k plain (d.part.session who) who) _ (gives-form who d shown now stmt)

pub plain-alone : (d : Database) (now : ℤ) (q : ℕ) (why : Option HeldBack) → PlainLeaves (rotates_alone d now q why)
plain-alone d now q (Some why) = (tt, tt)
plain-alone d now q None = checked AnyReply is_plain (next_id d.part) _ (λ t. (tt, tt))
