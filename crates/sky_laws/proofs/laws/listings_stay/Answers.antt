use Rattle.sky_laws.proofs.Listings as law
use Rattle.sky_laws.proofs.WereActive as before
use Rattle.sky_laws.proofs.laws.listings_stay.Goals as goal

pub returns-clause-stay : goal.returns-clause-stay
returns-clause-stay c = law.listings_stay

pub returns-clause-were_active : goal.returns-clause-were_active
returns-clause-were_active c = before.finished_batches_were_active
