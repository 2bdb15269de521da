use Rattle.std.proofs.Common.{subst}
use Rattle.std.specs.List.Sorted.{IsStrictlySortedBy}
use Rattle.std.specs.Map.{keys_of}
use Rattle.sky_val.specs.Order.{key_cmp}
use Rattle.sky_rows.specs.Rows.{RowsView}
use Rattle.sky_rows.proofs.rows.Rows.places.Goals as goal

pub returns-clause-order : goal.returns-clause-order
returns-clause-order c = subst (λ (r : RowsView). IsStrictlySortedBy key_cmp (keys_of r.places)) c.self.view_is c.self.invariant.order
