use Rattle.sky_laws_synced.proofs.WorkersFollow as law
use Rattle.sky_laws_synced.proofs.laws.workers_follow.Goals as goal

pub returns-clause-leaves : goal.returns-clause-leaves
returns-clause-leaves c = law.leaves_follow

pub returns-clause-copies : goal.returns-clause-copies
returns-clause-copies c = law.copies_follow
