-- Each word is printed after those before it.
use Rattle.sky_print.proofs.Keeping.{Keeps-behind, ok-failed, kept-first, kept-failed, kept-last}
use Rattle.sky_print.proofs.Printing.{texts-printed}
use Rattle.sky_print.proofs.event.append_texts.Goals as goal

pub returns-in_err-append_text_word-clause-ok : goal.returns-in_err-append_text_word-clause-ok
returns-in_err-append_text_word-clause-ok c = ok-failed c.from_residual.result _ c.from_residual.ensures.0

pub returns-in_err-append_text_word-clause-kept : goal.returns-in_err-append_text_word-clause-kept
returns-in_err-append_text_word-clause-kept c = kept-first c.from_residual.result _ _ c.in_err-append_text_word.ensures.kept

pub returns-in_err-append_text_word-2-clause-ok : goal.returns-in_err-append_text_word-2-clause-ok
returns-in_err-append_text_word-2-clause-ok c = ok-failed c.from_residual-in_err-append_text_word-2.result _ c.from_residual-in_err-append_text_word-2.ensures.0

pub returns-in_err-append_text_word-2-clause-kept : goal.returns-in_err-append_text_word-2-clause-kept
returns-in_err-append_text_word-2-clause-kept c = kept-failed c.from_residual-in_err-append_text_word-2.result _ _ _ _ c.in_ok-append_text_word.ensures.ok c.in_err-append_text_word-2.ensures.kept

pub returns-in_err-append_text_word-3-clause-ok : goal.returns-in_err-append_text_word-3-clause-ok
returns-in_err-append_text_word-3-clause-ok c = ok-failed c.from_residual-in_err-append_text_word-3.result _ c.from_residual-in_err-append_text_word-3.ensures.0

pub returns-in_err-append_text_word-3-clause-kept : goal.returns-in_err-append_text_word-3-clause-kept
returns-in_err-append_text_word-3-clause-kept c = kept-failed c.from_residual-in_err-append_text_word-3.result _ _ _ _ c.in_ok-append_text_word.ensures.ok (Keeps-behind _ _ _ _ c.in_ok-append_text_word-2.ensures.ok c.in_err-append_text_word-3.ensures.kept)

pub returns-in_err-append_text_word-4-clause-ok : goal.returns-in_err-append_text_word-4-clause-ok
returns-in_err-append_text_word-4-clause-ok c = ok-failed c.from_residual-in_err-append_text_word-4.result _ c.from_residual-in_err-append_text_word-4.ensures.0

pub returns-in_err-append_text_word-4-clause-kept : goal.returns-in_err-append_text_word-4-clause-kept
returns-in_err-append_text_word-4-clause-kept c = kept-failed c.from_residual-in_err-append_text_word-4.result _ _ _ _ c.in_ok-append_text_word.ensures.ok (Keeps-behind _ _ _ _ c.in_ok-append_text_word-2.ensures.ok (Keeps-behind _ _ _ _ c.in_ok-append_text_word-3.ensures.ok c.in_err-append_text_word-4.ensures.kept))

pub returns-in_err-append_text_word-5-clause-ok : goal.returns-in_err-append_text_word-5-clause-ok
returns-in_err-append_text_word-5-clause-ok c = ok-failed c.from_residual-in_err-append_text_word-5.result _ c.from_residual-in_err-append_text_word-5.ensures.0

pub returns-in_err-append_text_word-5-clause-kept : goal.returns-in_err-append_text_word-5-clause-kept
returns-in_err-append_text_word-5-clause-kept c = kept-failed c.from_residual-in_err-append_text_word-5.result _ _ _ _ c.in_ok-append_text_word.ensures.ok (Keeps-behind _ _ _ _ c.in_ok-append_text_word-2.ensures.ok (Keeps-behind _ _ _ _ c.in_ok-append_text_word-3.ensures.ok (Keeps-behind _ _ _ _ c.in_ok-append_text_word-4.ensures.ok c.in_err-append_text_word-5.ensures.kept)))

pub returns-clause-kept : goal.returns-clause-kept
returns-clause-kept c = kept-last c.append_text_word-6.result _ _ _ _ c.in_ok-append_text_word.ensures.ok (kept-last c.append_text_word-6.result _ _ _ _ c.in_ok-append_text_word-2.ensures.ok (kept-last c.append_text_word-6.result _ _ _ _ c.in_ok-append_text_word-3.ensures.ok (kept-last c.append_text_word-6.result _ _ _ _ c.in_ok-append_text_word-4.ensures.ok (kept-last c.append_text_word-6.result _ _ _ _ c.in_ok-append_text_word-5.ensures.ok c.append_text_word-6.ensures.kept))))

pub returns-clause-ok : goal.returns-clause-ok
returns-clause-ok c =
    texts-printed c.append_text_word-6.result c.args.event.now c.args.into.now.items _ _ _ _ _ _ c.in_ok-append_text_word.ensures.ok c.in_ok-append_text_word-2.ensures.ok
    c.in_ok-append_text_word-3.ensures.ok c.in_ok-append_text_word-4.ensures.ok c.in_ok-append_text_word-5.ensures.ok c.append_text_word-6.ensures.ok
