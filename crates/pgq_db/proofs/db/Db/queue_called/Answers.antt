use Rattle.std.proofs.Common.{◌≡◌, Ok, IfOk, subst}
use Rattle.std.specs.Result.{IfErr}
use Rattle.sky_model.specs.StepQueue.{queue_called}
use Rattle.sky_model.specs.Stops.{StopsAs}
use Rattle.sky_state.specs.Seen.{seen}
use Rattle.pgq_parts.specs.Views.{DbView}
use Rattle.pgq_parts.specs.Seen.{with_node, seen_database}
use Rattle.pgq_db.proofs.db.Db.queue_called.Goals as goal

pub returns-clause-ok : goal.returns-clause-ok
returns-clause-ok g c =
    subst (λ (v : DbView). IfOk c.queue_called.result (λ number. queue_called c.args.queue.now (seen_database v) ≡ Ok number)) c.self.view_is (c.queue_called.ensures.ok (with_node c.self.inside.node (seen (g.R.RowStore.state c.self.inside.rows))))

pub returns-clause-err : goal.returns-clause-err
returns-clause-err g c =
    subst (λ (v : DbView). IfErr c.queue_called.result (λ stop. StopsAs stop (queue_called c.args.queue.now (seen_database v)))) c.self.view_is (c.queue_called.ensures.err (with_node c.self.inside.node (seen (g.R.RowStore.state c.self.inside.rows))))
