use Rattle.trials_databases.proofs.MadeCalls.{made-unless}
use Rattle.trials_databases.proofs.replica.Replica.step_into.Goals as goal

pub invariant_of-self : goal.invariant_of-self
invariant_of-self g c = made-unless c.step_into-stepped.result _ _ _ _ _ (c.self.invariant c.if-self.false) c.requires c.step_into-stepped.ensures.steps c.is_err-self-inside.ensures.value
