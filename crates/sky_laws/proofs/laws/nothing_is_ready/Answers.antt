use Rattle.sky_laws.proofs.LockLaws as law
use Rattle.sky_laws.proofs.laws.nothing_is_ready.Goals as goal

pub returns : goal.returns
returns c = law.nothing_is_ready
