use Rattle.std.proofs.Common.{◌≡◌, map, length, drop, None}
use Rattle.sky_urlenc.specs.ReadRow.{all_given, pieces_from}
use Rattle.sky_urlenc.specs.Pieces.{pieces_left}
use Rattle.sky_urlenc.proofs.InOrder.{filled}
use Rattle.sky_urlenc.proofs.in_order.row_in_order.Given as goal

-- the columns so far have their values, and the pieces that are left give what all the pieces give
abbrev pub invariant-loop-column : goal.invariant-loop-column
invariant-loop-column l = record {
  same : all_given l.columns (filled l.values.items (drop l.column-index l.columns)) (pieces_left l.pieces) ≡ all_given l.columns (map (λ _. None) l.columns) (pieces_from 0 l.text);
  count : length l.values.items ≡ l.column-index;
}
