-- If no column or no value is left, nothing of the key is left.
use Rattle.std.proofs.Common.{◌++◌, ◌∙◌, sym, ap, inl, inr}
use Rattle.std.proofs.lemmas.List.{append-nil}
use Rattle.sky_val.proofs.SchemaLemmas.{key_of-end}
use Rattle.sky_val.proofs.schema.Schema.key_of.Goals as goal

pub returns : goal.returns
returns c =
    let end = key_of-end c.loop-column.column-iterator.a.rest.now c.loop-column.column-iterator.b.rest.now
    (elim c.in-None.ensures.steps [ inl w ↦ inl w.1.0 | inr w ↦ inr w.1.0 ]) in
    c.new.ensures ∙ sym (append-nil _) ∙ ap (λ left. c.loop-column.values.items ++ left) (sym end) ∙ c.loop-column.invariant
