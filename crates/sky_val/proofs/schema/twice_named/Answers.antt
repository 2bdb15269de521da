-- A column whose name is new is passed.
use Rattle.std.proofs.Common.{◌∙◌, sym}
use Rattle.sky_val.proofs.SchemaLemmas.{twice_named-pass}
use Rattle.sky_val.proofs.schema.twice_named.Goals as goal

pub loop-place-preserved : goal.loop-place-preserved
loop-place-preserved c = twice_named-pass _ _ c.index-columns-place.result c.loop-place-test.true (sym c.index-columns-place.is) (sym c.if-has_name.ensures) ∙ c.loop-place.invariant
