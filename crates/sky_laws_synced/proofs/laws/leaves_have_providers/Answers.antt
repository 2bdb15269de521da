use Rattle.sky_laws_synced.proofs.LeafProviders as law
use Rattle.sky_laws_synced.proofs.laws.leaves_have_providers.Goals as goal

pub returns-clause-found : goal.returns-clause-found
returns-clause-found c = law.leaves_have_providers

pub returns-clause-steps : goal.returns-clause-steps
returns-clause-steps c = law.steps_find_providers
