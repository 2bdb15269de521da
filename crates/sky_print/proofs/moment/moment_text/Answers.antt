-- The printer has the options that it was given, and prints the date and time of the moment.
use Rattle.std.proofs.Common.{◌≡◌, false, Some, FitsSigned, w64, to_z-of_z, ap, ◌∙◌}
use Rattle.jiff_core.specs.DateTime.{civil_nanos}
use Rattle.jiff_fmt.specs.Text.{datetime_text}
use Rattle.sky_print.proofs.moment.moment_text.Goals as goal

pub returns : goal.returns
returns c =
    let fits : FitsSigned w64 c.args.now = c.ranges.now in
    let at = simp to_z-of_z at c.civil_at.ensures in
    let printer = c.precision-printer.result in
    let shown = c.to_plain.result in
    let lowercase : printer.lowercase ≡ false = ap (λ o. o.0) c.precision-printer.ensures ∙ ap (λ o. o.0) c.separator.ensures ∙ ap (λ o. o.0) c.new.ensures in
    let separator : printer.separator ≡ 32 = ap (λ o. o.1) c.precision-printer.ensures ∙ ap (λ o. o.1) c.separator.ensures in
    let precision : printer.precision ≡ Some 6 = ap (λ o. o.2) c.precision-printer.ensures in
    let text : datetime_text printer.lowercase printer.separator printer.precision shown ≡ datetime_text false 32 (Some 6) shown = rw (lowercase, separator, precision) in
    (shown, ap civil_nanos c.to_plain.ensures ∙ at, c.datetime_text.ensures ∙ text)
