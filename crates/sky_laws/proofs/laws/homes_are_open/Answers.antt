use Rattle.sky_laws.proofs.HomeLaws as law
use Rattle.sky_laws.proofs.laws.homes_are_open.Goals as goal

pub returns-clause-homes : goal.returns-clause-homes
returns-clause-homes c = law.homes_are_open

pub returns-clause-waiters : goal.returns-clause-waiters
returns-clause-waiters c = law.waiters_have_open

pub returns-clause-blocks : goal.returns-clause-blocks
returns-clause-blocks c = law.blocks_are_open
