use Rattle.std.proofs.Common.{◌≡◌, [], take, drop}
use Rattle.sky_model.specs.StepRows.{bad_sets}
use Rattle.sky_fits.proofs.SetLemmas.{names_onto}
use Rattle.sky_fits.proofs.values.sets_fit.Given as goal

-- the first bad change from here on is the first of all
abbrev pub invariant-loop-place : goal.invariant-loop-place
invariant-loop-place l = bad_sets l.columns (names_onto [] (take l.place l.sets)) (drop l.place l.sets) ≡ bad_sets l.columns [] l.sets
