use Rattle.trials_databases.proofs.MadeCalls.{made-unless}
use Rattle.trials_databases.proofs.replica.Replica.make_leaf.Goals as goal

pub invariant_of-self : goal.invariant_of-self
invariant_of-self g c = made-unless c.make_leaf-made.result _ _ _ _ _ (c.self.invariant c.if-self.false) tt c.make_leaf-made.ensures.steps c.is_err-self-inside.ensures.value
