-- Columns that passed the tests are a schema's.
use Rattle.std.proofs.Common.{subst}
use Rattle.sky_val.specs.Schemas.{IsSchema}
use Rattle.sky_val.proofs.SchemaLaws.{is_schema}
use Rattle.sky_val.proofs.schema.Schema.columns.Goals as goal

pub returns-clause-sound : goal.returns-clause-sound
returns-clause-sound c = subst IsSchema c.self.view_is (is_schema c.self.inside.columns.items c.self.invariant.0 c.self.invariant.1)
