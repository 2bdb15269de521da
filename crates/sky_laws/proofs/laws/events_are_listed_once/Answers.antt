use Rattle.sky_laws.proofs.EventsOnce as law
use Rattle.sky_laws.proofs.laws.events_are_listed_once.Goals as goal

pub returns-clause-stands : goal.returns-clause-stands
returns-clause-stands c = law.batches_list_what_stands

pub returns-clause-once : goal.returns-clause-once
returns-clause-once c = law.events_are_listed_once
