-- The rows' lines are printed, and after them how many they are.
use Rattle.std.proofs.Common.{◌++◌, arith, ap, ◌∙◌}
use Rattle.sky_model.specs.Printed.{row_text, line_text}
use Rattle.sky_print.proofs.Keeping.{ok-failed, kept-failed, kept-last}
use Rattle.sky_print.proofs.Printing.{lines-last, items-more}
use Rattle.sky_print.proofs.print.append_listing.Goals as goal

pub returns-clause-ok : goal.returns-clause-ok
returns-clause-ok c = lines-last c.append_count.result c.args.name.now row_text c.args.rows.now c.loop-row.row-index _ _ _ c.loop-row-test.false c.loop-row.invariant c.append_count.ensures.ok

pub loop-row-preserved : goal.loop-row-preserved
loop-row-preserved c =
    items-more (λ x. line_text c.args.name.now (row_text x)) c.args.rows.now c.loop-row.row-index c.row-item.result _ _ _ (omega arith) c.row-item.is c.loop-row.invariant (c.in_ok-append_row_line.ensures.ok ∙ ap (λ values. c.loop-row.into.items ++ line_text c.args.name.now (row_text values)) c.values.ensures)

pub returns-in_err-append_row_line-clause-ok : goal.returns-in_err-append_row_line-clause-ok
returns-in_err-append_row_line-clause-ok c = ok-failed c.from_residual.result _ c.from_residual.ensures.0

pub returns-in_err-append_row_line-clause-kept : goal.returns-in_err-append_row_line-clause-kept
returns-in_err-append_row_line-clause-kept c = kept-failed c.from_residual.result _ _ _ _ c.loop-row.invariant c.in_err-append_row_line.ensures.kept

pub returns-clause-kept : goal.returns-clause-kept
returns-clause-kept c = kept-last c.append_count.result _ _ _ _ c.loop-row.invariant c.append_count.ensures.kept
