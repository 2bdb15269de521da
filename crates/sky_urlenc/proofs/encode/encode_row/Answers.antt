-- One more column is written after those before it; if none is left, the text is whole.
use Rattle.std.proofs.Common.{rules, ◌≡◌, ◌⊎◌, length, subst, List, [], ◌∷◌, ◌++◌, ◌+◌, ◌∙◌, sym, ap, inl, inr, append-nil, string_bytes, Ok, None}
use Rattle.std.proofs.lemmas.Result.{IfOk-weaker}
use Rattle.sky_val.specs.Schemas.{row_fault}
use Rattle.sky_urlenc.proofs.ReadBack.{read_back}
use Rattle.sky_val.specs.declared.val.Val.{Val}
use Rattle.sky_val.specs.declared.column.Column.{Column}
use Rattle.sky_urlenc.specs.Held.{HoldsAll}
use Rattle.sky_urlenc.specs.ReadRow.{read_row}
use Rattle.sky_urlenc.specs.RowText.{column_text, column_texts, row_text}
use Rattle.sky_urlenc.proofs.RowTexts.{left_text, next_behind, next_first, left-end, none_held}
use Rattle.sky_urlenc.proofs.encode.encode_row.Goals as goal
use Rattle.sky_urlenc.proofs.encode.encode_row.Goals.{then-place-gt0+in_ok-push, else-place-gt0}

pub loop-place-preserved : goal.loop-place-preserved
loop-place-preserved c =
    let steps = c.in-Some.ensures.steps in
    let count = c.loop-place.place-iterator.count in
    let piece = column_text c.in-Some.column.now c.in-Some.value.now in
    let pieces = column_texts c.next.new.self.iter.a.rest.now c.next.new.self.iter.b.rest.now in
    let old = string_bytes c.loop-place.text in
    let new = string_bytes c.append_column.new.into in
    let grown : new ++ left_text (count + 1) pieces ≡ old ++ left_text count (piece ∷ pieces) =
    elim c.if-place-gt0.branch [
      | then-place-gt0+in_ok-push w ↦
          let pushed : string_bytes w.push.new.self ≡ old ++ 38 ∷ [] = search rules in
          next_behind count old _ new piece pieces (rw steps.1 at w.if-place-gt0.true) pushed (rw (← w.text-is) c.in_ok-append_column.ensures.text)
      | else-place-gt0 w ↦
          next_first count old new piece pieces (rw steps.1 at w.if-place-gt0.false) (rw (← w.text-is) c.in_ok-append_column.ensures.text)
    ] in
    record {
      text = ap (λ n. new ++ left_text n pieces) steps.2 ∙ grown ∙ ap (λ texts. old ++ left_text count texts) (sym (λ i. column_texts (steps.0.0 i) (steps.0.1 i))) ∙ c.loop-place.invariant.text;
      held = λ later. c.loop-place.invariant.held (subst (λ (ends : List Column × List Val). HoldsAll ends.0 ends.1) (sym (λ i. (steps.0.0 i, steps.0.1 i))) (c.in_ok-append_column.ensures.holds, later));
    }

pub returns : goal.returns
returns c =
    let columns = c.loop-place.place-iterator.iter.a.rest.now in
    let row = c.loop-place.place-iterator.iter.b.rest.now in
    let ended : (length columns ≡ 0) ⊎ (length row ≡ 0) = elim c.in-None.ensures.steps.0 [ inl w ↦ inl w.1.0 | inr w ↦ inr w.1.0 ] in
    let left = left-end c.loop-place.place-iterator.count columns row ended in
    let whole = sym (append-nil _) ∙ ap (λ text. string_bytes c.loop-place.text ++ text) (sym left) ∙ c.loop-place.invariant.text in
    let held = c.loop-place.invariant.held (none_held columns row ended) in
    record {
      text = IfOk-weaker c.kept.result (λ text. text ≡ string_bytes c.loop-place.text) (λ text. text ≡ row_text c.args.schema.now c.args.row.now) (λ _ same. same ∙ whole) c.kept.ensures;
      back = IfOk-weaker c.kept.result (λ text. text ≡ string_bytes c.loop-place.text)
          (λ text. row_fault c.args.schema.now c.args.row.now ≡ None → read_row c.args.schema.now text ≡ Ok c.args.row.now)
          (λ _ same fits. ap (read_row c.args.schema.now) (same ∙ whole) ∙ read_back c.args.schema.now c.args.row.now c.columns-columns.ensures.sound.apart fits held c.columns-columns.ensures.sound.named)
          c.kept.ensures;
    }
