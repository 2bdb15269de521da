use Rattle.std.proofs.Common.{◌≡◌, drop}
use Rattle.sky_model.specs.StepRows.{with_sets}
use Rattle.sky_fits.proofs.values.with_sets.Given as goal

-- the changes from here on make of the row so far what all make of the row
abbrev pub invariant-loop-set : goal.invariant-loop-set
invariant-loop-set l = with_sets l.columns (drop l.set-index l.sets) l.new ≡ with_sets l.columns l.sets l.row
