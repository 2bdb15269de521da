use Rattle.std.proofs.Common.{Err, ap, ◌∙◌}
use Rattle.trials_databases.proofs.Joined.{joined-after}
use Rattle.trials_databases.proofs.providers.fetch.Goals as goal

pub fetch-requires-clause-registered : goal.fetch-requires-clause-registered
fetch-requires-clause-registered g c = joined-after c.join.result _ _ c.args.consumer.now (c.in-Err-ConsumerExists.is ∙ ap Err c.in-Err-ConsumerExists.field-0-is) c.join.ensures.fault
