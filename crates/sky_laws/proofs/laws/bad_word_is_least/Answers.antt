use Rattle.sky_laws.proofs.BadWordLaw as law
use Rattle.sky_laws.proofs.laws.bad_word_is_least.Goals as goal

pub returns : goal.returns
returns c = law.bad_word_is_least
