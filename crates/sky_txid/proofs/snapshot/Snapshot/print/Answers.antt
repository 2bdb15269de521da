use Rattle.std.proofs.Common.{arith}
use Rattle.sky_txid.proofs.ReadBack.{read_back}
use Rattle.sky_txid.proofs.snapshot.Snapshot.print.Goals as goal

pub returns-then-is_err-clause-read_back : goal.returns-then-is_err-clause-read_back
returns-then-is_err-clause-read_back c = grind (arith, read_back)

pub returns-else-is_err-clause-read_back : goal.returns-else-is_err-clause-read_back
returns-else-is_err-clause-read_back c = grind (arith, read_back)
