use Rattle.sky_model.proofs.InFormLaw as law
use Rattle.sky_laws.proofs.laws.lines_are_in_form.Goals as goal

pub returns : goal.returns
returns c = law.lines_are_in_form
