use Rattle.std.proofs.Common.{◌≡◌}
use Rattle.sky_model.specs.StepRows.{fits}
use Rattle.sky_fits.proofs.ValueLemmas.{takes}
use Rattle.sky_fits.proofs.values.row_fits.Given as goal

-- the values that are left are refused as the row is
abbrev pub invariant-loop-column : goal.invariant-loop-column
invariant-loop-column l = takes l.column-iterator.a.rest.now l.column-iterator.b.rest.now ≡ fits l.columns l.row
