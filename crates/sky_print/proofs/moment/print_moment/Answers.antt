-- The text is the moment's, since a moment has only one.
use Rattle.std.proofs.Common.{◌≡◌, ◌++◌, if◌then◌else◌, is_ok, FitsSigned, w64, to_z-of_z, ap, ◌∙◌, arith}
use Rattle.std.proofs.lemmas.Grind.{common_steps}
use Rattle.sky_model.specs.Moment.{moment}
use Rattle.sky_print.proofs.MomentLemmas.{IsMoment-moment, moment_unique}
use Rattle.sky_print.proofs.moment.print_moment.Goals as goal

pub returns-clause-ok : goal.returns-clause-ok
returns-clause-ok c =
    let fits : FitsSigned w64 c.args.now = c.ranges.now in
    let is = simp to_z-of_z at c.moment_text.ensures in
    let written : c.as_bytes.result.now ≡ c.moment_text.result.bytes = c.as_bytes.ensures.value ∙ c.as_str.ensures.value in
    let text : c.moment_text.result.bytes ≡ moment c.args.now = moment_unique c.args.now _ _ is (IsMoment-moment c.args.now c.requires) in
    let old = c.args.into.now.items in
    let items = c.extend_from_slice.ensures.items ∙ ap (λ more. if is_ok c.extend_from_slice.result then old ++ more else old) (written ∙ text) in
    grind (arith, common_steps, items)
