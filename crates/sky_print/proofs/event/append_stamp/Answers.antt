-- What a step leaves that failed comes after what was appended before it.
use Rattle.std.proofs.Common.{◌∙◌}
use Rattle.sky_print.proofs.Keeping.{Keeps-grown, Keeps-behind, ok-failed, kept-first, kept-failed, kept-stopped, kept-last}
use Rattle.sky_print.proofs.event.append_stamp.Goals as goal

pub returns-in_err-append_number_word-clause-ok : goal.returns-in_err-append_number_word-clause-ok
returns-in_err-append_number_word-clause-ok c = ok-failed c.from_residual.result _ c.from_residual.ensures.0

pub returns-in_err-append_number_word-clause-kept : goal.returns-in_err-append_number_word-clause-kept
returns-in_err-append_number_word-clause-kept c = kept-first c.from_residual.result _ _ c.in_err-append_number_word.ensures.kept

pub returns-in_err-push-clause-ok : goal.returns-in_err-push-clause-ok
returns-in_err-push-clause-ok c = ok-failed c.from_residual-in_err-push.result _ c.from_residual-in_err-push.ensures.0

pub returns-in_err-push-clause-kept : goal.returns-in_err-push-clause-kept
returns-in_err-push-clause-kept c = kept-stopped c.from_residual-in_err-push.result _ _ _ (c.in_err-push.ensures.items ∙ c.in_ok-append_number_word.ensures.ok)

pub returns-in_err-print_moment-clause-ok : goal.returns-in_err-print_moment-clause-ok
returns-in_err-print_moment-clause-ok c = ok-failed c.from_residual-in_err-print_moment.result _ c.from_residual-in_err-print_moment.ensures.0

pub returns-in_err-print_moment-clause-kept : goal.returns-in_err-print_moment-clause-kept
returns-in_err-print_moment-clause-kept c = kept-failed c.from_residual-in_err-print_moment.result _ _ _ _ c.in_ok-append_number_word.ensures.ok (Keeps-grown _ _ _ (c.in_err-print_moment.ensures.err ∙ c.in_ok-push.ensures.items))

pub returns-in_err-append_number_word-2-clause-ok : goal.returns-in_err-append_number_word-2-clause-ok
returns-in_err-append_number_word-2-clause-ok c = ok-failed c.from_residual-in_err-append_number_word-2.result _ c.from_residual-in_err-append_number_word-2.ensures.0

pub returns-in_err-append_number_word-2-clause-kept : goal.returns-in_err-append_number_word-2-clause-kept
returns-in_err-append_number_word-2-clause-kept c = kept-failed c.from_residual-in_err-append_number_word-2.result _ _ _ _ c.in_ok-append_number_word.ensures.ok (Keeps-behind _ _ _ _ c.in_ok-push.ensures.items (Keeps-behind _ _ _ _ c.in_ok-print_moment.ensures.ok c.in_err-append_number_word-2.ensures.kept))

pub returns-clause-kept : goal.returns-clause-kept
returns-clause-kept c = kept-last c.append_optional_word.result _ _ _ _ c.in_ok-append_number_word.ensures.ok (kept-last c.append_optional_word.result _ _ _ _ c.in_ok-push.ensures.items (kept-last c.append_optional_word.result _ _ _ _ c.in_ok-print_moment.ensures.ok (kept-last c.append_optional_word.result _ _ _ _ c.in_ok-append_number_word-2.ensures.ok c.append_optional_word.ensures.kept)))
