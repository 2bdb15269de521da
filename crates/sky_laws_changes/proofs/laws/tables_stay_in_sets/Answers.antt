use Rattle.sky_laws_changes.proofs.StayingListed.{tables_stay_in_sets}
use Rattle.sky_laws_changes.proofs.laws.tables_stay_in_sets.Goals as goal

pub returns : goal.returns
returns c = tables_stay_in_sets
