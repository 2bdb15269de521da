-- What a database's queues keep agrees with its row part.
use Rattle.std.specs.Prelude.{◌≤◌, ◌^◌}
use Rattle.sky_model.specs.State.{RowPart}
use Rattle.pgq_queues.specs.Views.{QueuesView}
use Rattle.pgq_queues.specs.Traced.{AreTables}

-- what the queues keep of a table is its name and its columns; the number of times that retries came back is at most the next id, and at most
-- 2 ^ 62
pub record Agree (part : RowPart) (q : QueuesView) : Type 0 where
  pub tables : AreTables part q
  pub given : q.rounds ≤ part.next
  pub few : q.rounds ≤ 2 ^ 62
