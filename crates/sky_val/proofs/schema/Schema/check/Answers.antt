-- If no column or no value is left, there is no fault.
use Rattle.std.proofs.Common.{rules, ◌∙◌, ◌≡◌, length, cond, Some, eq-eqb, sym, ap, inl, inr}
use Rattle.sky_val.specs.declared.schema.RowFault.TheVariants.{Count}
use Rattle.sky_val.specs.Schemas.{values_fault}
use Rattle.sky_val.proofs.SchemaLemmas.{values_fault-end}
use Rattle.sky_val.proofs.schema.Schema.check.Goals as goal

pub returns-clause-ok : goal.returns-clause-ok
returns-clause-ok c =
    let end = values_fault-end c.loop-place.place-iterator.count c.loop-place.place-iterator.iter.a.rest.now c.loop-place.place-iterator.iter.b.rest.now
    (elim c.in-None.ensures.steps.0 [ inl w ↦ inl w.1.0 | inr w ↦ inr w.1.0 ]) in
    let alike : length c.args.row.now ≡ length c.args.self.now = search rules in
    ap (λ b. cond b (values_fault 0 c.args.self.now c.args.row.now) (Some Count)) (eq-eqb _ _ alike) ∙ sym c.loop-place.invariant ∙ end
