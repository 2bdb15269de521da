use Rattle.sky_laws.proofs.Subscriptions as law
use Rattle.sky_laws.proofs.laws.subscriptions_are_given_once.Goals as goal

pub returns-clause-distinct : goal.returns-clause-distinct
returns-clause-distinct c = law.subscriptions_are_distinct

pub returns-clause-given : goal.returns-clause-given
returns-clause-given c = law.subscriptions_are_given

pub returns-clause-new : goal.returns-clause-new
returns-clause-new c = law.subscriptions_are_new
