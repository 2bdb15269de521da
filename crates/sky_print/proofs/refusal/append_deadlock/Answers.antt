-- One more name is printed after those before it.
use Rattle.std.proofs.Common.{◌<◌, ◌∷◌, ◌++◌, length, get_or, arith, codes, ap, ◌∙◌}
use Rattle.std.proofs.lemmas.List.{get_or_default}
use Rattle.sky_model.specs.Printed.{name_at}
use Rattle.sky_print.proofs.Keeping.{ok-failed, kept-words}
use Rattle.sky_print.proofs.Printing.{words-more}
use Rattle.sky_print.proofs.refusal.append_deadlock.Goals as goal

pub loop-waiter-preserved : goal.loop-waiter-preserved
loop-waiter-preserved c =
    let i = c.loop-waiter.waiter-index in
    let waiter = get_or c.args.waiters.now i 0 in
    let within : i < length c.args.waiters.now = omega arith in
    words-more (codes "Deadlock") (name_at c.args.names.now) c.args.waiters.now i waiter _ _ _ within (get_or_default c.args.waiters.now i 0 waiter within)
    c.loop-waiter.invariant (c.in_ok-append_name_word.ensures.ok ∙ ap (λ name. c.loop-waiter.into.items ++ 32 ∷ name) c.name_of.ensures)

pub returns-in_err-append_name_word-clause-ok : goal.returns-in_err-append_name_word-clause-ok
returns-in_err-append_name_word-clause-ok c = ok-failed c.from_residual-in_err-append_name_word.result _ c.from_residual-in_err-append_name_word.ensures.0

pub returns-in_err-append_name_word-clause-kept : goal.returns-in_err-append_name_word-clause-kept
returns-in_err-append_name_word-clause-kept c = kept-words c.from_residual-in_err-append_name_word.result _ _ _ _ _ c.loop-waiter.invariant c.in_err-append_name_word.ensures.kept
