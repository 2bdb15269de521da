use Rattle.sky_laws.proofs.LockLaws as law
use Rattle.sky_laws.proofs.laws.holders_have_written.Goals as goal

pub returns : goal.returns
returns c = law.holders_have_written
