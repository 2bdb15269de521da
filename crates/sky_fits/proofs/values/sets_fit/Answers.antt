-- The loop stops at the first bad change.
use Rattle.std.proofs.Common.{◌≡◌, ◌∙◌, sym, ap, subst, List, [], take, Some}
use Rattle.std.specs.Prelude.{option_map}
use Rattle.sky_val.specs.declared.column.Column.{Column}
use Rattle.sky_model.specs.declared.stmt.Set.{Set}
use Rattle.sky_model.specs.declared.reply.BadRow as bad
use Rattle.sky_model.specs.declared.reply.BadRow.TheVariants.{Twice, «Type»}
use Rattle.sky_model.specs.declared.reply.Refusal.TheVariants.{BadRow}
use Rattle.sky_model.specs.Outcome.{refused_by}
use Rattle.sky_model.specs.StepRows.{bad_sets}
use Rattle.sky_model.specs.declared.stop.Stop.{Stop}
use Rattle.sky_model.specs.declared.stop.Stop.TheVariants.{Refused}
use Rattle.sky_model.specs.Stops.{StopsAs}
use Rattle.sky_fits.proofs.SetLemmas.{names_onto, bad_sets-at, bad_sets-pass, twice_bad, kind_bad, not_bad, named_before}
use Rattle.sky_fits.proofs.values.sets_fit.Goals as goal

stopped : (columns : List Column) (sets : List Set) (stop : Stop) (fault : bad.BadRow) → bad_sets columns [] sets ≡ Some fault → stop ≡ Refused (BadRow fault) → StopsAs stop (refused_by (option_map BadRow (bad_sets columns [] sets)))
stopped columns sets stop fault e is = subst (λ s. StopsAs s (refused_by (option_map BadRow (bad_sets columns [] sets)))) (sym is) (ap (λ o. refused_by (option_map BadRow o)) e)

pub returns-then-changes-clause-err : goal.returns-then-changes-clause-err
returns-then-changes-clause-err c =
    let set = c.index-sets-place.result in
    let twice = named_before set.column (take c.loop-place.place c.args.sets.now) ∙ sym c.if-changes.ensures in
    let fault : bad_sets c.args.columns.now [] c.args.sets.now ≡ Some (Twice set.column) = bad_sets-at c.args.columns.now c.args.sets.now c.loop-place.place set (Some c.in-Some.column.now) (Twice set.column) c.loop-place-test.true (sym c.index-sets-place.is) c.loop-place.invariant c.in-Some.ensures
    (twice_bad (names_onto [] (take c.loop-place.place c.args.sets.now)) set c.in-Some.column.now twice) in
    stopped c.args.columns.now c.args.sets.now c.bad-then-changes.result (Twice set.column) fault (c.bad-then-changes.ensures ∙ ap (λ name. Refused (BadRow (Twice name))) c.in_ok-copy-2.ensures)

pub returns-then-not-is_change_of-clause-err : goal.returns-then-not-is_change_of-clause-err
returns-then-not-is_change_of-clause-err c =
    let set = c.index-sets-place.result in
    let once = named_before set.column (take c.loop-place.place c.args.sets.now) ∙ sym c.if-changes.ensures in
    let fault : bad_sets c.args.columns.now [] c.args.sets.now ≡ Some («Type» set.column) = bad_sets-at c.args.columns.now c.args.sets.now c.loop-place.place set (Some c.in-Some.column.now) («Type» set.column) c.loop-place-test.true (sym c.index-sets-place.is) c.loop-place.invariant c.in-Some.ensures
    (kind_bad (names_onto [] (take c.loop-place.place c.args.sets.now)) set c.in-Some.column.now once (sym c.if-not-is_change_of.ensures)) in
    stopped c.args.columns.now c.args.sets.now c.bad-then-not-is_change_of.result («Type» set.column) fault (c.bad-then-not-is_change_of.ensures ∙ ap (λ name. Refused (BadRow («Type» name))) c.in_ok-copy-3.ensures)

pub loop-place-preserved : goal.loop-place-preserved
loop-place-preserved c =
    let set = c.index-sets-place.result in
    let once = named_before set.column (take c.loop-place.place c.args.sets.now) ∙ sym c.if-changes.ensures in
    bad_sets-pass c.args.columns.now c.args.sets.now c.loop-place.place set (Some c.in-Some.column.now) c.loop-place-test.true (sym c.index-sets-place.is) c.in-Some.ensures
    (not_bad (names_onto [] (take c.loop-place.place c.args.sets.now)) set c.in-Some.column.now once (sym c.if-not-is_change_of.ensures))
    ∙ c.loop-place.invariant
