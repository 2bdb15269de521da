-- One more value is printed after those before it.
use Rattle.std.proofs.Common.{arith, codes}
use Rattle.sky_model.specs.Printed.{value_text}
use Rattle.sky_print.proofs.Keeping.{ok-failed, kept-words}
use Rattle.sky_print.proofs.Printing.{words-more}
use Rattle.sky_print.proofs.row.append_row.Goals as goal

pub loop-value-preserved : goal.loop-value-preserved
loop-value-preserved c =
    words-more (codes "row") value_text c.args.values.now c.loop-value.value-index c.value-item.result _ _ _ (omega arith) c.value-item.is c.loop-value.invariant c.in_ok-append_value_word.ensures.ok

pub returns-in_err-append_value_word-clause-ok : goal.returns-in_err-append_value_word-clause-ok
returns-in_err-append_value_word-clause-ok c = ok-failed c.from_residual-in_err-append_value_word.result _ c.from_residual-in_err-append_value_word.ensures.0

pub returns-in_err-append_value_word-clause-kept : goal.returns-in_err-append_value_word-clause-kept
returns-in_err-append_value_word-clause-kept c = kept-words c.from_residual-in_err-append_value_word.result _ _ _ _ _ c.loop-value.invariant c.in_err-append_value_word.ensures.kept
