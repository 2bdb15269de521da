use Rattle.sky_model.specs.StepNode.{holding}
use Rattle.pgq_parts.specs.Seen.{seen_database}
use Rattle.pgq_parts.proofs.CopySteps.{hold-serves, hold-number, hold-fails}
use Rattle.pgq_parts.proofs.NodeSteps.{steps-if}
use Rattle.pgq_db.proofs.store.DbStore.hold.Goals as goal

pub returns-clause-number : goal.returns-clause-number
returns-clause-number g c = hold-number _ _ c.self.view_is c.hold.result c.hold.ensures.number

pub returns-clause-serves : goal.returns-clause-serves
returns-clause-serves g c = hold-serves _ _ c.self.view_is c.hold.result c.hold.new.self c.in_ok-snapshot.snapshot c.hold.ensures.number c.hold.ensures.ok c.in_ok-snapshot.ensures

pub returns-clause-err : goal.returns-clause-err
returns-clause-err g c = hold-fails _ _ c.self.view_is c.hold.result c.hold.new.self c.hold.ensures.err

pub returns-clause-steps : goal.returns-clause-steps
returns-clause-steps g c =
    steps-if c.hold.result (seen_database c.args.self.now) _ holding
    (hold-serves _ _ c.self.view_is c.hold.result c.hold.new.self c.in_ok-snapshot.snapshot c.hold.ensures.number c.hold.ensures.ok c.in_ok-snapshot.ensures)
