use Rattle.std.proofs.Common.{sym, ◌∙◌, ap}
use Rattle.sky_model.specs.State.{changed_at}
use Rattle.sky_databases.specs.Hands.{batch_at}
use Rattle.sky_databases.proofs.hands.Batches.set.Goals as goal

pub returns-in-None-clause-ok : goal.returns-in-None-clause-ok
returns-in-None-clause-ok c = c.empty.ensures ∙ ap (λ o. changed_at c.args.database (λ _. o) (batch_at c.args.self.now)) (sym c.in-None.is)
