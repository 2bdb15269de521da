use Rattle.std.proofs.Common.{arith}
use Rattle.sky_urlenc.proofs.Cutting.{pieces_first}
use Rattle.sky_urlenc.proofs.pieces.PiecesIterator.next.Goals as goal

pub returns-then-not-is_empty-clause-steps : goal.returns-then-not-is_empty-clause-steps
returns-then-not-is_empty-clause-steps c = grind (arith, pieces_first)
