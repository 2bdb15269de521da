use Rattle.std.proofs.Common.{◌≡◌, ◌≤◌, length}
use Rattle.sky_urlenc.specs.Pieces.{pieces_left}
use Rattle.sky_urlenc.proofs.pieces.PiecesIterator.next.Given as goal

-- the pieces that are left are those that were left, and the text that is left gets no longer
abbrev pub invariant-loop-start : goal.invariant-loop-start
invariant-loop-start l = record { same : pieces_left l.self ≡ pieces_left l.fn.self; shorter : length l.self.rest.now ≤ length l.fn.self.rest.now }

abbrev pub decreases-loop-start : goal.decreases-loop-start
decreases-loop-start l = length l.self.rest.now
