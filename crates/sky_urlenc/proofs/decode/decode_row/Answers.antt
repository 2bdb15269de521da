-- The row that is read fits the columns.
use Rattle.std.proofs.Common.{rules, ◌≡◌, Ok, IfOk}
use Rattle.std.proofs.lemmas.Result.{IfOk-weaker}
use Rattle.sky_urlenc.specs.ReadRow.{read_row}
use Rattle.sky_urlenc.proofs.Fitting.{row_fits}
use Rattle.sky_urlenc.proofs.decode.decode_row.Goals as goal

pub returns-in-Some-clause-fits : goal.returns-in-Some-clause-fits
returns-in-Some-clause-fits c =
    let reads : read_row c.args.schema.now c.args.text.now ≡ Ok c.in-Some.row = search rules in
    row_fits c.args.schema.now c.args.text.now c.in-Some.row reads

pub returns-clause-fits : goal.returns-clause-fits
returns-clause-fits c =
    let reads : IfOk c.row_in_any_order.result (λ row. read_row c.args.schema.now c.args.text.now ≡ Ok row) = search rules in
    IfOk-weaker c.row_in_any_order.result _ _ (row_fits c.args.schema.now c.args.text.now) reads
