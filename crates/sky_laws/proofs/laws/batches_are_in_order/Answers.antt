use Rattle.sky_laws.proofs.OrderById as law
use Rattle.sky_laws.proofs.laws.batches_are_in_order.Goals as goal

pub returns-clause-rises : goal.returns-clause-rises
returns-clause-rises c = law.ids_dont_fall

pub returns-clause-keeps : goal.returns-clause-keeps
returns-clause-keeps c = law.equal_ids_stay
