-- A piece gives the next column its value; when no piece is left, all columns have theirs.
use Rattle.std.proofs.Common.{◌≡◌, [], ◌∷◌, ◌++◌, ◌+◌, Ok, drop, sym, ap, ◌∙◌, arith}
use Rattle.std.proofs.lemmas.List.{at_drop_all}
use Rattle.sky_urlenc.specs.Pieces.{piece_view, pieces_left}
use Rattle.sky_urlenc.specs.ReadRow.{all_given}
use Rattle.sky_urlenc.proofs.InOrder.{filled, piece_given, all_have}
use Rattle.sky_urlenc.proofs.in_order.row_in_order.Goals as goal

pub loop-column-preserved : goal.loop-column-preserved
loop-column-preserved c =
    let columns = c.args.columns.now in
    let place = c.loop-column.column-index in
    let before = c.loop-column.values.items in
    let left = pieces_left c.next.new.self in
    let value = c.in-Some-2.value in
    let column = c.column-item.result in
    let name = rw c.in-Some-2.is at c.in_ok-value.ensures.name in
    let text = rw c.in-Some-2.is at c.in_ok-value.ensures.text in
    let gives = rw c.in-Some-2.is at c.in_ok-value.ensures.value in
    let pushed : c.push.new.self.items ≡ before ++ value ∷ [] = c.in_ok-push.ensures.items in
    let given = piece_given columns place before column value (piece_view c.in-Some.piece) left (omega arith) c.column-item.is c.loop-column.invariant.count c.requires name text gives in
    record {
      same = ap (λ items. all_given columns (filled items (drop (place + 1) columns)) left) pushed ∙ sym given ∙ ap (all_given columns (filled before (drop place columns))) (sym c.in-Some.ensures.steps) ∙ c.loop-column.invariant.same;
      count = grind (arith, pushed, c.loop-column.invariant.count);
    }

pub returns-in-None : goal.returns-in-None
returns-in-None c =
    let columns = c.args.columns.now in
    let place = c.loop-column.column-index in
    let row = c.loop-column.values.items in
    let none : drop place columns ≡ [] = at_drop_all (λ left. left) columns place (omega arith) in
    let whole : all_given columns (filled row (drop place columns)) (pieces_left c.loop-column.pieces) ≡ Ok (filled row []) = λ i. all_given columns (filled row (none i)) (c.in-None.ensures.steps.0 i) in
    all_have columns c.args.text.now row (sym whole ∙ c.loop-column.invariant.same) ∙ ap (λ values. Ok values) (sym c.new.ensures)
