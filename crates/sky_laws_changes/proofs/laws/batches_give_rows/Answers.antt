use Rattle.sky_laws_changes.proofs.TickPlaces.{ticks_are_in_order}
use Rattle.sky_laws_changes.proofs.BatchLaws.{batches_give_rows}
use Rattle.sky_laws_changes.proofs.laws.batches_give_rows.Goals as goal

pub returns-clause-ordered : goal.returns-clause-ordered
returns-clause-ordered c = ticks_are_in_order

pub returns-clause-gives : goal.returns-clause-gives
returns-clause-gives c = batches_give_rows
