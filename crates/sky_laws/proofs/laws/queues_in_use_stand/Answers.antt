use Rattle.sky_laws.proofs.QueuesInUse as law
use Rattle.sky_laws.proofs.BusyQueues as busy
use Rattle.sky_laws.proofs.laws.queues_in_use_stand.Goals as goal

pub returns-clause-consumers : goal.returns-clause-consumers
returns-clause-consumers c = law.queues_of_consumers_stand

pub returns-clause-triggers : goal.returns-clause-triggers
returns-clause-triggers c = law.queues_of_triggers_stand

pub returns-clause-busy : goal.returns-clause-busy
returns-clause-busy c = law.busy_queues_stand

pub returns-clause-producers : goal.returns-clause-producers
returns-clause-producers c = busy.producers_have_work

pub returns-clause-gone : goal.returns-clause-gone
returns-clause-gone c = law.other_queues_keep_nothing

pub returns-clause-others : goal.returns-clause-others
returns-clause-others c = law.new_queues_are_others
