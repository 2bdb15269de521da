use Rattle.std.proofs.Common.{Some, option_map, ap, ◌∙◌}
use Rattle.sky_model.specs.Queues.{Tick}
use Rattle.pgq_parts.proofs.ProviderSteps.{snapshot-as}
use Rattle.pgq_db.proofs.store.DbStore.tick_snapshot.Goals as goal

pub returns : goal.returns
returns g c =
    snapshot-as _ _ c.provided_queue.result c.args.tick _ _ _ c.self.view_is c.provided_queue.ensures.queue c.queue-queue.ensures c.ticks.ensures
    (ap Some c.snapshot.ensures ∙ ap (option_map Tick.snapshot) c.in_ok-tick.ensures)
