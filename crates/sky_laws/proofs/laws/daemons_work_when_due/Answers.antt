use Rattle.sky_histories.proofs.NextDue.{next_due_is_first}
use Rattle.sky_laws.proofs.DueMoments as law
use Rattle.sky_laws.proofs.laws.daemons_work_when_due.Goals as goal

pub returns-clause-started : goal.returns-clause-started
returns-clause-started c = law.daemons_have_started

pub returns-clause-next : goal.returns-clause-next
returns-clause-next c = next_due_is_first

pub returns-clause-works : goal.returns-clause-works
returns-clause-works c = law.daemons_work_when_due
