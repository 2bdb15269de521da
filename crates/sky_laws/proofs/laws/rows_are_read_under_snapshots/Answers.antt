use Rattle.sky_laws.proofs.RowLaws as law
use Rattle.sky_laws.proofs.laws.rows_are_read_under_snapshots.Goals as goal

pub returns : goal.returns
returns c = law.rows_are_read_under_snapshots
