use Rattle.trials_databases.proofs.MadeCalls.{made-unless, number-inside}
use Rattle.trials_databases.proofs.replica.Replica.copy_rows.Goals as goal

pub invariant_of-self : goal.invariant_of-self
invariant_of-self g c = made-unless c.copy_rows-copied.result _ _ _ _ _ (c.self.invariant c.if-self.false) tt (c.copy_rows-copied.ensures.steps c.requires.may.name (number-inside g.D.Store.seen _ _ c.requires.may.name c.args.table c.self.view_is c.requires.may.number)) c.is_err-self-inside.ensures.value
