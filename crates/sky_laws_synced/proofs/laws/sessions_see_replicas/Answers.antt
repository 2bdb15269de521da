use Rattle.sky_laws_synced.proofs.ReadingRows as reads
use Rattle.sky_laws_synced.proofs.Seen.{sessions_see_replicas}
use Rattle.sky_laws_synced.proofs.Sights.{sights_are_after_calls}
use Rattle.sky_laws_synced.proofs.laws.sessions_see_replicas.Goals as goal

pub returns-clause-sights : goal.returns-clause-sights
returns-clause-sights c = sights_are_after_calls

pub returns-clause-scans : goal.returns-clause-scans
returns-clause-scans c = reads.scans_print_rows_shown

pub returns-clause-gets : goal.returns-clause-gets
returns-clause-gets c = reads.gets_print_rows_shown

pub returns-clause-seen : goal.returns-clause-seen
returns-clause-seen c = sessions_see_replicas
