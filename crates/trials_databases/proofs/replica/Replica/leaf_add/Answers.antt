use Rattle.trials_databases.proofs.MadeCalls.{made-unless}
use Rattle.trials_databases.proofs.replica.Replica.leaf_add.Goals as goal

pub invariant_of-self : goal.invariant_of-self
invariant_of-self g c = made-unless c.leaf_add-added.result _ _ _ _ _ (c.self.invariant c.if-self.false) tt c.leaf_add-added.ensures.steps c.is_err-self-inside.ensures.value
