use Rattle.sky_histories.proofs.SnapshotLaws as law
use Rattle.sky_laws.proofs.laws.snapshots_see_what_has_ended.Goals as goal

pub returns : goal.returns
returns c = law.snapshots_see_what_has_ended
