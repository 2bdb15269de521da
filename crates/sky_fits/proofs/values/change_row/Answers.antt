-- The change of a column by its place, if it has one in the row.
use Rattle.std.proofs.Common.{◌≡◌, ℕ, true, ◌∙◌, sym, ap, List, length, get_or, Some, Err}
use Rattle.std.specs.Prelude.{option_map, slice_get, slice_set, nat_lt}
use Rattle.std.proofs.lemmas.Bool.{ltb-false, ltb-true}
use Rattle.std.proofs.lemmas.Option.{slice_get_past, slice_get-get_or}
use Rattle.sky_val.specs.declared.val.Val.{Val}
use Rattle.sky_model.specs.declared.reply.Refusal.TheVariants.{OutOfRange}
use Rattle.sky_model.specs.Outcome.{found_or}
use Rattle.sky_fits.proofs.SetLemmas.{with_set-nowhere, with_set-place, changed_in}
use Rattle.sky_fits.proofs.values.change_row.Goals as goal

-- what was read at a place is there
there : (items row : List Val) (place : ℕ) (v : Val) → items ≡ row → true ≡ nat_lt place (length items) → v ≡ get_or items place v → slice_get row place ≡ Some v
there items row place v same within is =
    ap (λ r. slice_get r place) (sym same) ∙ slice_get-get_or items place v (ltb-true place (length items) (sym within)) ∙ ap Some (sym is)

pub returns-in_default-clause-ok : goal.returns-in_default-clause-ok
returns-in_default-clause-ok c = with_set-nowhere c.args.columns.now c.args.set.now c.args.row.now (sym c.place_of.ensures ∙ c.in_default.is)

pub returns-in_default-get-clause-ok : goal.returns-in_default-get-clause-ok
returns-in_default-get-clause-ok c =
    with_set-place c.args.columns.now c.args.set.now c.args.row.now c.in-Some.place (sym c.in-Some.ensures)
    ∙ ap (changed_in c.args.set.now.change c.args.row.now c.in-Some.place)
    (ap (λ row. slice_get row c.in-Some.place) (sym c.values.ensures) ∙ slice_get_past c.values.result.now c.in-Some.place (ltb-false c.in-Some.place (length c.values.result.now) (sym c.in_default-get.ensures.lookup.0)))

pub returns-in-Some-2-clause-ok : goal.returns-in-Some-2-clause-ok
returns-in-Some-2-clause-ok c =
    with_set-place c.args.columns.now c.args.set.now c.args.row.now c.in-Some.place (sym c.in-Some.ensures)
    ∙ ap (changed_in c.args.set.now.change c.args.row.now c.in-Some.place)
    (there c.values.result.now c.args.row.now c.in-Some.place c.in-Some-get.old.now c.values.ensures c.in-Some-get.ensures.lookup.0 c.in-Some-get.ensures.lookup.1)
    ∙ ap (option_map (λ w. slice_set c.args.row.now c.in-Some.place w)) (sym c.in_ok-new.ensures ∙ c.in-Some-2.is)
    ∙ ap Some (sym c.set.ensures)

pub returns-in_ok-column-in-None-clause-err : goal.returns-in_ok-column-in-None-clause-err
returns-in_ok-column-in-None-clause-err c =
    let unchanged =
    with_set-place c.args.columns.now c.args.set.now c.args.row.now c.in-Some.place (sym c.in-Some.ensures)
    ∙ ap (changed_in c.args.set.now.change c.args.row.now c.in-Some.place)
    (there c.values.result.now c.args.row.now c.in-Some.place c.in-Some-get.old.now c.values.ensures c.in-Some-get.ensures.lookup.0 c.in-Some-get.ensures.lookup.1)
    ∙ ap (option_map (λ w. slice_set c.args.row.now c.in-Some.place w)) (sym c.in_ok-new.ensures ∙ c.in-None.is) in
    ap (λ row. found_or row (OutOfRange c.args.set.now.column)) unchanged ∙ ap (λ column. Err (OutOfRange column)) (sym c.in_ok-column-in-None.ensures)
