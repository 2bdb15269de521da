use Rattle.sky_histories.proofs.MadeCopies.{made-after}
use Rattle.trials_databases.proofs.MadeCalls.{number-inside}
use Rattle.trials_databases.proofs.replica.Replica.copy_drop.Goals as goal

pub invariant_of-self : goal.invariant_of-self
invariant_of-self g c whole = made-after _ _ _ _ (c.self.invariant whole) tt (c.copy_drop.ensures.steps c.requires.name (number-inside g.D.Store.seen _ _ c.requires.name c.args.table c.self.view_is c.requires.number))
