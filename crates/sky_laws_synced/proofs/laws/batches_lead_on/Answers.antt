use Rattle.sky_laws_synced.proofs.LeadingBatches as law
use Rattle.sky_laws_synced.proofs.TablesReached as marks
use Rattle.sky_laws_synced.proofs.laws.batches_lead_on.Goals as goal

pub returns-clause-leaves : goal.returns-clause-leaves
returns-clause-leaves c = law.leaves_batches_lead_on

pub returns-clause-copies : goal.returns-clause-copies
returns-clause-copies c = law.copies_batches_lead_on

pub returns-clause-applied : goal.returns-clause-applied
returns-clause-applied c = marks.applied_batches_lead_on
