use Rattle.std.proofs.Common.{arith, sym, ◌∙◌}
use Rattle.sky_txid.proofs.Reading.{number_too_large, number_no_digit, value_more, digits_more}
use Rattle.sky_txid.proofs.text.number.Goals as goal

pub returns-in_err-checked_mul : goal.returns-in_err-checked_mul
returns-in_err-checked_mul c =
    c.from_residual.ensures ∙ sym (number_too_large c.args.digits.now c.loop-digit.digit-index c.loop-digit.value c.loop-digit-test.true
    (sym c.is_ascii_digit.ensures.value ∙ c.if-not-is_ascii_digit.false) c.loop-digit.invariant.value (omega (arith, c.in_err-checked_mul.ensures)))

pub returns-in_err-value : goal.returns-in_err-value
returns-in_err-value c =
    c.from_residual-in_err-value.ensures ∙ sym (number_too_large c.args.digits.now c.loop-digit.digit-index c.loop-digit.value c.loop-digit-test.true
    (sym c.is_ascii_digit.ensures.value ∙ c.if-not-is_ascii_digit.false) c.loop-digit.invariant.value (omega (arith, c.in_err-value.ensures, c.in_ok-checked_mul.ensures, c.from.ensures)))

pub returns-then-not-is_ascii_digit : goal.returns-then-not-is_ascii_digit
returns-then-not-is_ascii_digit c = grind (arith, number_no_digit)

pub loop-digit-preserved : goal.loop-digit-preserved
loop-digit-preserved c = grind (arith, value_more, digits_more)
