use Rattle.sky_histories.proofs.SnapshotLaws as law
use Rattle.sky_laws.proofs.laws.batches_are_selected_by_snapshots.Goals as goal

pub returns : goal.returns
returns c = law.batches_are_selected_by_snapshots
