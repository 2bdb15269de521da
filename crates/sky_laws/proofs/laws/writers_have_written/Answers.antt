use Rattle.sky_laws.proofs.Writers as law
use Rattle.sky_laws.proofs.laws.writers_have_written.Goals as goal

pub returns : goal.returns
returns c = law.writers_have_written
