use Rattle.std.proofs.Common.{◌≡◌, map, length, None}
use Rattle.sky_urlenc.specs.ReadRow.{all_given, pieces_from}
use Rattle.sky_urlenc.specs.Pieces.{pieces_left}
use Rattle.sky_urlenc.proofs.decode.row_in_any_order.Given as goal

-- the pieces that are left give what all the pieces give
abbrev pub invariant-loop-piece : goal.invariant-loop-piece
invariant-loop-piece l = record {
  same : all_given l.columns l.given.items (pieces_left l.piece-iterator) ≡ all_given l.columns (map (λ _. None) l.columns) (pieces_from 0 l.text);
  alike : length l.given.items ≡ length l.columns;
}
