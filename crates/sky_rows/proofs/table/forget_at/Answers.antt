use Rattle.std.proofs.Common.{sym}
use Rattle.sky_rows.specs.Rows.{rows_in}
use Rattle.sky_rows.proofs.PlaceLemmas.{none_kept}
use Rattle.sky_rows.proofs.RowChanges.{in_order, forget_none}
use Rattle.sky_rows.proofs.table.forget_at.Goals as goal

pub returns-in-Some-clause-in_order : goal.returns-in-Some-clause-in_order
returns-in-Some-clause-in_order c = in_order c.args.older.now (rows_in c.args.rows.now) c.place.ensures.order

pub returns-in_default-clause-entries : goal.returns-in_default-clause-entries
returns-in_default-clause-entries c =
    forget_none c.args.txid c.args.older.now c.args.key.now (rows_in c.args.rows.now) (none_kept c.args.rows.now.slots c.args.rows.now.places c.args.key.now (sym c.in_default.ensures.place))

pub returns-in_default-clause-in_order : goal.returns-in_default-clause-in_order
returns-in_default-clause-in_order c = in_order c.args.older.now (rows_in c.args.rows.now) c.place.ensures.order
