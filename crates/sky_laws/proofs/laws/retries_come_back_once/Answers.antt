use Rattle.sky_laws.proofs.RetryLaws as law
use Rattle.sky_laws.proofs.OwnedPuts as owned_puts
use Rattle.sky_laws.proofs.RetryMoments as moments
use Rattle.sky_laws.proofs.RetriesListed as listed
use Rattle.sky_laws.proofs.ListedOnce as listed_once
use Rattle.sky_laws.proofs.laws.retries_come_back_once.Goals as goal

pub returns-clause-copies : goal.returns-clause-copies
returns-clause-copies c = law.retries_are_copies

pub returns-clause-listed : goal.returns-clause-listed
returns-clause-listed c = law.retries_are_of_active_batches

pub returns-clause-once : goal.returns-clause-once
returns-clause-once c = law.retries_wait_once

pub returns-clause-due : goal.returns-clause-due
returns-clause-due c = law.retries_come_back_due

pub returns-clause-puts : goal.returns-clause-puts
returns-clause-puts c = owned_puts.owned_events_come_back

pub returns-clause-moment : goal.returns-clause-moment
returns-clause-moment c = moments.retries_come_back_at_calls

pub returns-clause-in_batches : goal.returns-clause-in_batches
returns-clause-in_batches c = listed.retries_are_listed

pub returns-clause-listed_once : goal.returns-clause-listed_once
returns-clause-listed_once c = listed_once.events_come_once

pub returns-clause-owned : goal.returns-clause-owned
returns-clause-owned c = law.retries_are_for_their_subscription
