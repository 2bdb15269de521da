use Rattle.sky_val.proofs.NumberLemmas.{Counts}
use Rattle.sky_val.proofs.numbers.number_from.Given as goal

abbrev pub invariant-loop-digit : goal.invariant-loop-digit
invariant-loop-digit l = Counts l.digits l.number l.digit-index
