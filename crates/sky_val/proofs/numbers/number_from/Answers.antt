use Rattle.std.proofs.Common.{arith}
use Rattle.sky_val.proofs.NumberLemmas.{counts-le}
use Rattle.sky_val.proofs.numbers.number_from.Goals as goal

pub returns-in_err-number : goal.returns-in_err-number
returns-in_err-number c =
    let most = counts-le _ _ _ (omega arith) c.loop-digit.invariant in
    rw c.from_residual.ensures (omega (arith, c.in_err-number.ensures))
