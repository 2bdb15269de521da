-- A value that its column takes is passed, and so is a column that isn't part of the key.
use Rattle.std.proofs.Common.{◌≡◌, ◌∙◌, ◌+◌, sym, subst, ap, length, drop, get_or, arith}
use Rattle.sky_val.specs.Schemas.{key_columns}
use Rattle.sky_model.specs.Stops.{StopsAs}
use Rattle.sky_model.specs.StepRows.{fits}
use Rattle.sky_fits.proofs.ValueLemmas.{takes, fits-alike, key_columns-here, key_columns-later, one_left, key-pass, key-stop, handed}
use Rattle.sky_fits.proofs.values.key_fits.Goals as goal
use Rattle.sky_fits.proofs.values.key_fits.Goals.{then-column+in_ok-fits_column, else-column}

pub loop-column-preserved : goal.loop-column-preserved
loop-column-preserved c =
    elim c.if-column.branch [
      | then-column+in_ok-fits_column w ↦ (
          let here = key_columns-here c.args.columns.now c.loop-column.column-index c.column-item.result c.loop-column-test.true (sym c.column-item.is) w.if-column.true in
          let left = one_left c.args.columns.now c.args.key.now c.loop-column.column-index c.loop-column.place c.column-item.result here c.loop-column.invariant.alike in
          let stands : get_or c.args.key.now c.loop-column.place w.index-values-place.result ≡ w.index-values-place.result
          = ap (λ key. get_or key c.loop-column.place w.index-values-place.result) (sym c.values-values.ensures) ∙ sym w.index-values-place.is in
          record {
            alike = ap (λ place. place + length (key_columns (drop (c.loop-column.column-index + 1) c.args.columns.now))) w.place-is ∙ left.1;
            refused = ap (λ place. takes (key_columns (drop (c.loop-column.column-index + 1) c.args.columns.now)) (drop place c.args.key.now)) w.place-is
                ∙ key-pass c.args.columns.now c.args.key.now c.loop-column.column-index c.loop-column.place c.column-item.result w.index-values-place.result here left.0 stands w.in_ok-fits_column.ensures.ok
                ∙ c.loop-column.invariant.refused;
          })
      | else-column w ↦ (
          let later = key_columns-later c.args.columns.now c.loop-column.column-index c.column-item.result c.loop-column-test.true (sym c.column-item.is) w.if-column.false in
          record {
            alike = ap (λ place. place + length (key_columns (drop (c.loop-column.column-index + 1) c.args.columns.now))) w.place-is ∙ ap (λ cs. c.loop-column.place + length cs) (sym later) ∙ c.loop-column.invariant.alike;
            refused = ap (λ place. takes (key_columns (drop (c.loop-column.column-index + 1) c.args.columns.now)) (drop place c.args.key.now)) w.place-is
                ∙ ap (λ cs. takes cs (drop c.loop-column.place c.args.key.now)) (sym later) ∙ c.loop-column.invariant.refused;
          })
    ]

pub loop-column-init : goal.loop-column-init
loop-column-init c =
    let alike : length c.args.key.now ≡ length (key_columns c.args.columns.now) = sym (ap length c.values-values.ensures) ∙ c.if-values-key_len.false ∙ c.key_len.ensures in
    record { alike = omega arith; refused = sym (fits-alike (key_columns c.args.columns.now) c.args.key.now alike) }

pub returns-in_err-fits_column-clause-err : goal.returns-in_err-fits_column-clause-err
returns-in_err-fits_column-clause-err c =
    let stop = c.in_err-fits_column.field-0.0 in
    let here = key_columns-here c.args.columns.now c.loop-column.column-index c.column-item.result c.loop-column-test.true (sym c.column-item.is) c.if-column.true in
    let left = one_left c.args.columns.now c.args.key.now c.loop-column.column-index c.loop-column.place c.column-item.result here c.loop-column.invariant.alike in
    let stands : get_or c.args.key.now c.loop-column.place c.index-values-place.result ≡ c.index-values-place.result
    = ap (λ key. get_or key c.loop-column.place c.index-values-place.result) (sym c.values-values.ensures) ∙ sym c.index-values-place.is in
    handed c.from_residual.result stop (fits (key_columns c.args.columns.now) c.args.key.now) c.from_residual.ensures.1
    (subst (StopsAs stop) c.loop-column.invariant.refused
    (key-stop c.args.columns.now c.args.key.now c.loop-column.column-index c.loop-column.place c.column-item.result c.index-values-place.result stop here left.0 stands c.in_err-fits_column.ensures.err))
