use Rattle.std.proofs.Common.{arith}
use Rattle.sky_txid.proofs.Reading.{four_parts}
use Rattle.sky_txid.proofs.text.three_parts.Goals as goal

pub returns-in-Some : goal.returns-in-Some
returns-in-Some c = grind (arith, four_parts)
