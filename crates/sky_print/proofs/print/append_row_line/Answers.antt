-- What a step leaves that failed comes after what was appended before it.
use Rattle.std.proofs.Common.{◌∙◌}
use Rattle.sky_print.proofs.Keeping.{Keeps-grown, ok-failed, kept-first, kept-failed}
use Rattle.sky_print.proofs.print.append_row_line.Goals as goal

pub returns-in_err-append_name-clause-ok : goal.returns-in_err-append_name-clause-ok
returns-in_err-append_name-clause-ok c = ok-failed c.from_residual.result _ c.from_residual.ensures.0

pub returns-in_err-append_name-clause-kept : goal.returns-in_err-append_name-clause-kept
returns-in_err-append_name-clause-kept c = kept-first c.from_residual.result _ _ c.in_err-append_name.ensures.kept

pub returns-in_err-append_row-clause-ok : goal.returns-in_err-append_row-clause-ok
returns-in_err-append_row-clause-ok c = ok-failed c.from_residual-in_err-append_row.result _ c.from_residual-in_err-append_row.ensures.0

pub returns-in_err-append_row-clause-kept : goal.returns-in_err-append_row-clause-kept
returns-in_err-append_row-clause-kept c = kept-failed c.from_residual-in_err-append_row.result _ _ _ _ c.in_ok-append_name.ensures.ok c.in_err-append_row.ensures.kept

pub returns-in_err-push-clause-ok : goal.returns-in_err-push-clause-ok
returns-in_err-push-clause-ok c = ok-failed c.from_residual-in_err-push.result _ c.from_residual-in_err-push.ensures.0

pub returns-in_err-push-clause-kept : goal.returns-in_err-push-clause-kept
returns-in_err-push-clause-kept c = kept-failed c.from_residual-in_err-push.result _ _ _ _ c.in_ok-append_name.ensures.ok (Keeps-grown _ _ _ (c.in_err-push.ensures.items ∙ c.in_ok-append_row.ensures.ok))
