use Rattle.std.proofs.Common.{arith}
use Rattle.sky_script.proofs.KindLemmas.{text_from_as_written}
use Rattle.sky_script.proofs.kinds.as_written.Goals as goal

pub returns-in-Some-eq39-default : goal.returns-in-Some-eq39-default
returns-in-Some-eq39-default c = grind (arith, text_from_as_written)
