-- The writes of a copy.
use Rattle.std.proofs.Common.{◌≡◌, ℕ, List, [], ◌∷◌, refl}
use Rattle.sky_model.specs.Rows.{Write}
use Rattle.sky_model.specs.State.{after_part_marks, Database, after_mark, after_marks}
use Rattle.sky_model.specs.StepCopy.{copy_write, copy_writes}

-- they change the row part alone
pub tabled-marks : (d : Database) (table t : ℕ) (ws : List Write) → after_marks d (copy_writes d.part table t ws) ≡ record d { part = after_part_marks d.part (copy_writes d.part table t ws) }
tabled-marks d table t [] = refl
tabled-marks d table t (w ∷ ws) = tabled-marks (after_mark d (copy_write d.part table t w)) table t ws
