use Rattle.sky_model.specs.StepNode.{letting_go}
use Rattle.pgq_parts.specs.Seen.{seen_database}
use Rattle.pgq_parts.proofs.CopySteps.{lets-go}
use Rattle.sky_store.proofs.Serving.{serves-steps}
use Rattle.pgq_db.proofs.store.DbStore.let_go.Goals as goal

pub returns-clause-serves : goal.returns-clause-serves
returns-clause-serves g c = lets-go _ _ c.self.view_is c.let_go.new.self c.args.hold c.let_go.ensures

pub returns-clause-steps : goal.returns-clause-steps
returns-clause-steps g c = serves-steps (seen_database c.args.self.now) _ (letting_go c.args.hold) (lets-go _ _ c.self.view_is c.let_go.new.self c.args.hold c.let_go.ensures)
