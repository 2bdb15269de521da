use Rattle.sky_laws_synced.proofs.SyncedLaws as law
use Rattle.sky_laws_synced.proofs.laws.batches_can_be_applied.Goals as goal

pub returns-clause-leaves : goal.returns-clause-leaves
returns-clause-leaves c = law.batches_can_be_applied

pub returns-clause-copies : goal.returns-clause-copies
returns-clause-copies c = law.copies_batches_can_be_applied
