use Rattle.sky_laws_synced.proofs.TablesReached.{tables_have_reached_their_ticks}
use Rattle.sky_laws_synced.proofs.laws.tables_have_reached_their_ticks.Goals as goal

pub returns : goal.returns
returns c = tables_have_reached_their_ticks
