use Rattle.sky_laws.proofs.LockLaws as law
use Rattle.sky_laws.proofs.laws.deadlocks_are_rings.Goals as goal

pub returns : goal.returns
returns c = law.deadlocks_are_rings
