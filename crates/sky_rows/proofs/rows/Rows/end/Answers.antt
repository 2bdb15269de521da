use Rattle.std.proofs.Common.{subst}
use Rattle.sky_rows.specs.Rows.{RowsView, AreThere}
use Rattle.sky_rows.proofs.rows.Rows.end.Goals as goal

pub returns-clause-there : goal.returns-clause-there
returns-clause-there c = subst (λ (r : RowsView). AreThere r.slots r.places) c.self.view_is c.self.invariant.there
