use Rattle.std.proofs.Common.{◌∙◌, ap, is_some}
use Rattle.pgq_queues.specs.Seen.{seen_batch, batch_at}
use Rattle.pgq_parts.specs.Views.{DbView}
use Rattle.pgq_parts.proofs.ProviderSteps.{is_some-seen}
use Rattle.pgq_db.proofs.store.DbStore.has_batch.Goals as goal

pub returns : goal.returns
returns g c =
    c.is_some.ensures ∙ is_some-seen seen_batch c.batch.result ∙ ap is_some c.batch.ensures.batch ∙ ap (λ (v : DbView). is_some (batch_at v.queues c.args.id)) c.self.view_is
