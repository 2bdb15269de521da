use Rattle.sky_rows.specs.Kept.{all_versions}
use Rattle.sky_rows.specs.Rows.{rows_in}
use Rattle.sky_rows.proofs.Visited.{IsVisited}
use Rattle.sky_rows.proofs.table.forget_everywhere.Given as goal

abbrev pub invariant-loop-place : goal.invariant-loop-place
invariant-loop-place l = IsVisited l.txid l.initial.rows (all_versions l.initial.older (rows_in l.initial.rows)) l.older l.rows l.place l.place-end
