use Rattle.sky_model.specs.StepNode.{moving}
use Rattle.pgq_parts.specs.Seen.{seen_database}
use Rattle.pgq_parts.proofs.CopySteps.{runs-now}
use Rattle.pgq_parts.proofs.NodeSteps.{moving-does}
use Rattle.sky_store.proofs.Serving.{serves-steps}
use Rattle.pgq_db.proofs.store.DbStore.set_state.Goals as goal

pub give_up_copy-requires : goal.give_up_copy-requires
give_up_copy-requires g c = runs-now (seen_database c.args.self.now) c.requires.made c.args.number

pub returns-clause-serves : goal.returns-clause-serves
returns-clause-serves g c =
    moving-does c.args.self.now c.args.table.now c.args.number c.requires.number c.args.to c.requires.allowed _ _ c.self.view_is (c.give_up_copy.ensures c.args.table.now) c.set_leaf_state.new.node
    c.set_leaf_state.ensures

pub returns-clause-steps : goal.returns-clause-steps
returns-clause-steps g c =
    serves-steps (seen_database c.args.self.now) _ (moving c.args.table.now c.args.to)
    (moving-does c.args.self.now c.args.table.now c.args.number c.requires.number c.args.to c.requires.allowed _ _ c.self.view_is (c.give_up_copy.ensures c.args.table.now) c.set_leaf_state.new.node
    c.set_leaf_state.ensures)
