use Rattle.trials_databases.proofs.MadeCalls.{made-unless}
use Rattle.trials_databases.proofs.replica.Replica.copy_end.Goals as goal

pub invariant_of-self : goal.invariant_of-self
invariant_of-self g c = made-unless c.copy_end-ended.result _ _ _ _ _ (c.self.invariant c.if-self.false) tt c.copy_end-ended.ensures.steps c.is_err-self-inside.ensures.value
