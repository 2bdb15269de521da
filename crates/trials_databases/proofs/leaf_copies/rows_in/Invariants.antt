use Rattle.std.proofs.Common.{◌≡◌, true}
use Rattle.sky_model.specs.StepCopy.{all_fit}
use Rattle.trials_databases.proofs.leaf_copies.rows_in.Given as goal

-- the rows so far fit
abbrev pub invariant-loop-piece : goal.invariant-loop-piece
invariant-loop-piece l = all_fit l.schema l.rows.items ≡ true
