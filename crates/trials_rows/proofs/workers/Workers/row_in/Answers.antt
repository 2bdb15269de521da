use Rattle.sky_names.proofs.PlaceLemmas.{place_of_within}
use Rattle.trials_rows.proofs.workers.Workers.row_in.Goals as goal

pub worker_row-row-requires : goal.worker_row-row-requires
worker_row-row-requires c = place_of_within _ _ c.in-Some.table c.in-Some.ensures.0
