use Rattle.sky_histories.proofs.Histories as law
use Rattle.sky_laws.proofs.laws.histories_are_made_by_own_calls.Goals as goal

pub returns : goal.returns
returns c = law.histories_are_made_by_own_calls
