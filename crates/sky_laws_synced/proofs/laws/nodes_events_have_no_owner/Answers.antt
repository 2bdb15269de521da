use Rattle.sky_laws_synced.proofs.OwnersInduction as law
use Rattle.sky_laws_synced.proofs.laws.nodes_events_have_no_owner.Goals as goal

pub returns : goal.returns
returns c = law.nodes_events_have_no_owner
