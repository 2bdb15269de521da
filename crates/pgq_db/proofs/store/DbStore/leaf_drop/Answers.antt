use Rattle.std.proofs.Common.{[], ◌∷◌, false}
use Rattle.sky_model.specs.History.{tabled, read_only}
use Rattle.sky_model.specs.StepNode.{removing}
use Rattle.sky_state.specs.Seen.{seen}
use Rattle.pgq_parts.specs.Seen.{seen_database}
use Rattle.pgq_parts.proofs.Agreeing.{agree-then}
use Rattle.pgq_parts.proofs.CopySteps.{low-still, runs-now}
use Rattle.pgq_parts.proofs.NodeSteps.{removing-does}
use Rattle.sky_store.proofs.Serving.{serves-steps}
use Rattle.pgq_db.proofs.store.DbStore.leaf_drop.Goals as goal

pub give_up_copy-requires : goal.give_up_copy-requires
give_up_copy-requires g c = runs-now (seen_database c.args.self.now) c.requires.made c.args.number

pub set_read_only-requires : goal.set_read_only-requires
set_read_only-requires g c = low-still c.args.self.now _ _ c.args.table.now c.args.number c.requires.number c.self.view_is (c.give_up_copy.ensures c.args.table.now)

pub invariant_of-self : goal.invariant_of-self
invariant_of-self g c = λ e.
    agree-then (seen (g.R.RowStore.state c.self.inside.rows)) (seen (g.R.RowStore.state c.set_read_only.new.self)) (tabled (read_only c.args.number false) ∷ []) c.self.inside.queues c.set_read_only.ensures.mark (c.self.invariant e)

pub returns-clause-serves : goal.returns-clause-serves
returns-clause-serves g c =
    removing-does c.args.self.now c.args.table.now c.args.number c.requires.may c.requires.number _ _ c.self.view_is (c.give_up_copy.ensures c.args.table.now) (g.R.RowStore.state c.set_read_only.new.self) c.remove_leaf_table.new.node
    c.set_read_only.ensures.mark c.remove_leaf_table.ensures

pub returns-clause-steps : goal.returns-clause-steps
returns-clause-steps g c =
    serves-steps (seen_database c.args.self.now) _ (removing c.args.table.now)
    (removing-does c.args.self.now c.args.table.now c.args.number c.requires.may c.requires.number _ _ c.self.view_is (c.give_up_copy.ensures c.args.table.now) (g.R.RowStore.state c.set_read_only.new.self) c.remove_leaf_table.new.node
    c.set_read_only.ensures.mark c.remove_leaf_table.ensures)
