-- A value that its column takes is passed; at one that it doesn't take the row is refused; and if no column or no value
-- is left, the row fits.
use Rattle.std.proofs.Common.{◌∙◌, sym, ap, subst, ◌∷◌, inl, inr}
use Rattle.sky_model.specs.StepRows.{fits}
use Rattle.sky_model.specs.Stops.{StopsAs}
use Rattle.sky_fits.proofs.ValueLemmas.{takes, takes-pass, takes-stop, takes-end, handed}
use Rattle.sky_fits.proofs.values.row_fits.Goals as goal

pub loop-column-preserved : goal.loop-column-preserved
loop-column-preserved c =
    let column = c.in-Some.column.now in
    let value = c.in-Some.value.now in
    let columns = c.next.new.self.a.rest.now in
    let values = c.next.new.self.b.rest.now in
    sym (ap (λ cs. takes cs c.loop-column.column-iterator.b.rest.now) c.in-Some.ensures.steps.0 ∙ ap (takes (column ∷ columns)) c.in-Some.ensures.steps.1
    ∙ takes-pass column columns value values c.in_ok-fits_column.ensures.ok)
    ∙ c.loop-column.invariant

pub returns-clause-ok : goal.returns-clause-ok
returns-clause-ok c = sym c.loop-column.invariant ∙ takes-end c.loop-column.column-iterator.a.rest.now c.loop-column.column-iterator.b.rest.now
    (elim c.in-None.ensures.steps [ inl w ↦ inl w.1.0 | inr w ↦ inr w.1.0 ])

pub returns-in_err-fits_column-clause-err : goal.returns-in_err-fits_column-clause-err
returns-in_err-fits_column-clause-err c =
    let column = c.in-Some.column.now in
    let value = c.in-Some.value.now in
    let columns = c.next.new.self.a.rest.now in
    let values = c.next.new.self.b.rest.now in
    let stop = c.in_err-fits_column.field-0.0 in
    let left = sym (ap (λ cs. takes cs c.loop-column.column-iterator.b.rest.now) c.in-Some.ensures.steps.0 ∙ ap (takes (column ∷ columns)) c.in-Some.ensures.steps.1) ∙ c.loop-column.invariant in
    handed c.from_residual.result stop (fits c.args.columns.now c.args.row.now) c.from_residual.ensures.1
    (subst (StopsAs stop) left (takes-stop column columns value values stop c.in_err-fits_column.ensures.err))
