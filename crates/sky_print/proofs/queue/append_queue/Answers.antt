-- Each field is printed after those before it.
use Rattle.sky_print.proofs.Keeping.{Keeps-behind, ok-failed, kept-first, kept-failed, kept-last}
use Rattle.sky_print.proofs.Printing.{queue-printed}
use Rattle.sky_print.proofs.queue.append_queue.Goals as goal

pub returns-in_err-append_field-clause-ok : goal.returns-in_err-append_field-clause-ok
returns-in_err-append_field-clause-ok c = ok-failed c.from_residual.result _ c.from_residual.ensures.0

pub returns-in_err-append_field-clause-kept : goal.returns-in_err-append_field-clause-kept
returns-in_err-append_field-clause-kept c = kept-first c.from_residual.result _ _ c.in_err-append_field.ensures.kept

pub returns-in_err-append_field-2-clause-ok : goal.returns-in_err-append_field-2-clause-ok
returns-in_err-append_field-2-clause-ok c = ok-failed c.from_residual-in_err-append_field-2.result _ c.from_residual-in_err-append_field-2.ensures.0

pub returns-in_err-append_field-2-clause-kept : goal.returns-in_err-append_field-2-clause-kept
returns-in_err-append_field-2-clause-kept c = kept-failed c.from_residual-in_err-append_field-2.result _ _ _ _ c.in_ok-append_field.ensures.ok c.in_err-append_field-2.ensures.kept

pub returns-in_err-append_field-3-clause-ok : goal.returns-in_err-append_field-3-clause-ok
returns-in_err-append_field-3-clause-ok c = ok-failed c.from_residual-in_err-append_field-3.result _ c.from_residual-in_err-append_field-3.ensures.0

pub returns-in_err-append_field-3-clause-kept : goal.returns-in_err-append_field-3-clause-kept
returns-in_err-append_field-3-clause-kept c = kept-failed c.from_residual-in_err-append_field-3.result _ _ _ _ c.in_ok-append_field.ensures.ok (Keeps-behind _ _ _ _ c.in_ok-append_field-2.ensures.ok c.in_err-append_field-3.ensures.kept)

pub returns-in_err-append_field-4-clause-ok : goal.returns-in_err-append_field-4-clause-ok
returns-in_err-append_field-4-clause-ok c = ok-failed c.from_residual-in_err-append_field-4.result _ c.from_residual-in_err-append_field-4.ensures.0

pub returns-in_err-append_field-4-clause-kept : goal.returns-in_err-append_field-4-clause-kept
returns-in_err-append_field-4-clause-kept c = kept-failed c.from_residual-in_err-append_field-4.result _ _ _ _ c.in_ok-append_field.ensures.ok (Keeps-behind _ _ _ _ c.in_ok-append_field-2.ensures.ok (Keeps-behind _ _ _ _ c.in_ok-append_field-3.ensures.ok c.in_err-append_field-4.ensures.kept))

pub returns-clause-kept : goal.returns-clause-kept
returns-clause-kept c = kept-last c.append_stored.result _ _ _ _ c.in_ok-append_field.ensures.ok (kept-last c.append_stored.result _ _ _ _ c.in_ok-append_field-2.ensures.ok (kept-last c.append_stored.result _ _ _ _ c.in_ok-append_field-3.ensures.ok (kept-last c.append_stored.result _ _ _ _ c.in_ok-append_field-4.ensures.ok c.append_stored.ensures.kept)))

pub returns-clause-ok : goal.returns-clause-ok
returns-clause-ok c =
    queue-printed c.append_stored.result c.args.queue.now c.as_slice-stored.result.now c.args.into.now.items _ _ _ _ _ c.as_slice-stored.ensures
    c.in_ok-append_field.ensures.ok c.in_ok-append_field-2.ensures.ok c.in_ok-append_field-3.ensures.ok c.in_ok-append_field-4.ensures.ok c.append_stored.ensures.ok
