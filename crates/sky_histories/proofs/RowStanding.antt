-- A statement on rows, in its part of a database: from what the part keeps to the history, and to the whole database.
use Rattle.std.proofs.Common.{◌≡◌, Bool, true, false, ℕ, ℤ, List, [], ◌∷◌, true, refl, ◌∙◌, ap, if◌then◌else◌, false}
use Rattle.sky_model.specs.declared.stmt.DbStmt.{DbStmt}
use Rattle.sky_model.specs.History.{Mark, ended, queued, made, History, noded, hold_begun, hold_ended}
use Rattle.sky_model.specs.State.{RowPart, part_of, after_part, after_part_marks, Database, after_mark}
use Rattle.sky_model.specs.ShownRows.{rows_by}
use Rattle.sky_model.specs.World.{World}
use Rattle.sky_model.specs.Reader.{part_by_history, part_by_itself, database_by_itself, within_database, by_world}
use Rattle.sky_model.specs.Settling.{marked}
use Rattle.sky_model.specs.Calls.{fails_if, database_turn}
use Rattle.sky_histories.proofs.Legal.{Fine, Legal, next}
use Rattle.sky_histories.proofs.Marks.{part_of-mark}
use Rattle.sky_histories.proofs.Good.{same-session}
use Rattle.sky_histories.proofs.Turns.{ReadsAs, same-fails_read, ReadAlike, same-turn_read}
use Rattle.sky_histories.proofs.RowSights.{same-rows}

-- a legal history reads as what the part keeps of it
pub record Keeps (h : History) (d : RowPart) : Type 0 where
  pub legal : Legal h
  pub shows : part_of h ≡ d

pub as-kept : ReadAlike part_by_history part_by_itself Fine Keeps
as-kept = record {
  parts = λ h d keeps. keeps.shows;
  rows = λ h d keeps. same-rows h keeps.legal ∙ ap rows_by keeps.shows;
  tells = λ h d keeps. refl;
  behind = λ h d mark keeps fine. record { legal = next keeps.legal fine; shows = part_of-mark h mark ∙ ap (λ x. after_part x mark) keeps.shows };
}

pub part_of-marks : (h : History) (marks : List Mark) → part_of (marked h marks) ≡ after_part_marks (part_of h) marks
part_of-marks h [] = refl
part_of-marks h (mark ∷ marks) = part_of-marks (mark ∷ h) marks ∙ ap (λ d. after_part_marks d marks) (part_of-mark h mark)

-- the row part of a database after a mark
pub part-behind : (d : Database) (mark : Mark) → (after_mark d mark).part ≡ after_part d.part mark
part-behind d (ended who t true) = refl
part-behind d (ended who t false) = refl
part-behind d (queued (made name t time)) = refl
part-behind d (noded (hold_begun hold)) = refl
part-behind d (noded (hold_ended hold)) = refl
part-behind d _ = refl

-- the world reads each database as it is
reads-itself : (d : ℕ) → ReadsAs (within_database by_world d) database_by_itself (λ (v : World). v.database d)
reads-itself d = record {
  database = λ v. refl;
  shown = λ v. refl;
  behind = λ v mark. ap (λ b. if b then after_mark (v.database d) mark else v.database d) (same-session d);
}

-- within the world a statement, with what it unblocks, is one of the database
pub turn-within : (w : World) (d : ℕ) (now : ℤ) (who : ℕ) (stmt : DbStmt) → database_turn (within_database by_world d) w now who stmt ≡ database_turn database_by_itself (w.database d) now who stmt
turn-within w d now who stmt =
    same-turn_read (within_database by_world d) database_by_itself (λ (v : World). v.database d) (reads-itself d) w now who stmt

-- and so is what fails in a session's name
pub fails-within : (w : World) (d : ℕ) (now : ℤ) (who : ℕ) (aborts : Bool) → fails_if (within_database by_world d) w now who aborts ≡ fails_if database_by_itself (w.database d) now who aborts
fails-within w d now who aborts = same-fails_read (within_database by_world d) database_by_itself (λ (v : World). v.database d) (reads-itself d) w now who aborts
