use Rattle.sky_histories.proofs.MadeCopies.{made-after}
use Rattle.trials_databases.proofs.replica.Replica.set_state.Goals as goal

pub invariant_of-self : goal.invariant_of-self
invariant_of-self g c whole = made-after _ _ _ _ (c.self.invariant whole) tt c.set_state.ensures.steps
