use Rattle.sky_model.specs.StepNode.{finishing}
use Rattle.pgq_parts.specs.Seen.{seen_database}
use Rattle.sky_store.proofs.Serving.{serves-steps}
use Rattle.pgq_parts.proofs.ProviderSteps.{finished-as}
use Rattle.pgq_db.proofs.store.DbStore.finish.Goals as goal

pub returns-clause-serves : goal.returns-clause-serves
returns-clause-serves g c = finished-as _ _ c.close_batch.new.self c.args.batch c.self.view_is c.requires.active c.close_batch.ensures.mark

pub returns-clause-steps : goal.returns-clause-steps
returns-clause-steps g c =
    serves-steps (seen_database c.args.self.now) _ (finishing c.args.batch) (finished-as _ _ c.close_batch.new.self c.args.batch c.self.view_is c.requires.active c.close_batch.ensures.mark)
