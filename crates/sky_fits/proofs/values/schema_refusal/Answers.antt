-- The column of a fault is one of the columns.
use Rattle.std.proofs.Common.{◌∙◌, ap}
use Rattle.std.specs.Prelude.{Some}
use Rattle.sky_fits.proofs.FaultLemmas.{twice_named-place}
use Rattle.sky_fits.proofs.values.schema_refusal.Goals as goal

pub column_name-requires : goal.column_name-requires
column_name-requires c = twice_named-place c.args.columns.now c.in-TwiceNamed.place (c.requires ∙ ap Some c.in-TwiceNamed.is)
