-- What is answered of a line is what the line says, and that is in form.
use Rattle.std.proofs.Common.{List, ℕ, Result, Ok, Err, IfOk}
use Rattle.sky_model.specs.declared.line.Line.{Line}
use Rattle.sky_model.specs.Grammar.{line_of}
use Rattle.sky_model.specs.InForm.{IsLineInForm}
use Rattle.sky_model.proofs.InFormLaw.{lines_are_in_form}
use Rattle.sky_script.specs.declared.cause.LineCause.{LineCause}
use Rattle.sky_script.specs.Reading.{IsAnswer}
use Rattle.sky_script.proofs.parse.parse_text.Goals as goal

answered : (line : List ℕ) (r : Result Line LineCause) → IsAnswer r (line_of line) → IfOk r (λ says. IsLineInForm says)
answered line (Ok says) so = lines_are_in_form line says so
answered line (Err cause) so = tt

pub returns-clause-in_form : goal.returns-clause-in_form
returns-clause-in_form c = answered c.args.line.now c.read_line.result c.read_line.ensures

pub returns-clause-utf8 : goal.returns-clause-utf8
returns-clause-utf8 c = c.utf8.line
