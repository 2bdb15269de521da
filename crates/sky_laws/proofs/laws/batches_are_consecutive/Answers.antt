use Rattle.sky_laws.proofs.FinishedBatches as law
use Rattle.sky_laws.proofs.laws.batches_are_consecutive.Goals as goal

pub returns : goal.returns
returns c = law.batches_are_consecutive
