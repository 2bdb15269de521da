use Rattle.std.proofs.Common.{arith}
use Rattle.sky_txid.proofs.Reading.{split_found, split_none, range_behind}
use Rattle.sky_txid.proofs.text.cut.Goals as goal

pub returns-then-other-byte-clause-parts : goal.returns-then-other-byte-clause-parts
returns-then-other-byte-clause-parts c = grind (arith, split_found, range_behind)

pub returns-clause-parts : goal.returns-clause-parts
returns-clause-parts c = grind (arith, split_none)
