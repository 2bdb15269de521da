use Rattle.sky_laws_replicas.proofs.GivenUp.{given_up_copies_leave_nothing}
use Rattle.sky_laws_replicas.proofs.Restarts.{restarts_begin_anew}
use Rattle.sky_laws_replicas.proofs.laws.restarts_begin_anew.Goals as goal

pub returns-clause-given_up : goal.returns-clause-given_up
returns-clause-given_up c = given_up_copies_leave_nothing

pub returns-clause-anew : goal.returns-clause-anew
returns-clause-anew c = restarts_begin_anew
