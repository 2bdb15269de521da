use Rattle.trials_databases.proofs.MadeCalls.{made-applied}
use Rattle.trials_databases.proofs.replica.Replica.apply.Goals as goal

pub invariant_of-self : goal.invariant_of-self
invariant_of-self g c = made-applied c.apply-applied.result _ _ _ _ _ _ (c.self.invariant c.if-self.false) c.apply-applied.ensures.steps c.apply-applied.ensures.fault c.has_run_out-self-inside.ensures
