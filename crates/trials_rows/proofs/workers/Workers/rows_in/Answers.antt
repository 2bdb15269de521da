use Rattle.sky_names.proofs.PlaceLemmas.{place_of_within}
use Rattle.trials_rows.proofs.workers.Workers.rows_in.Goals as goal

pub rows_under-rows-requires : goal.rows_under-rows-requires
rows_under-rows-requires c = place_of_within _ _ c.in-Some.table c.in-Some.ensures.0
