use Rattle.sky_model.specs.StepNode.{unlisting}
use Rattle.sky_state.specs.Seen.{seen}
use Rattle.pgq_parts.specs.Seen.{seen_database}
use Rattle.pgq_parts.proofs.Agreeing.{agree-traced}
use Rattle.pgq_parts.proofs.NodeSteps.{serves-by, unlisting-there, set_removed-as}
use Rattle.sky_store.proofs.Serving.{serves-steps}
use Rattle.pgq_db.proofs.store.DbStore.root_drop.Goals as goal

pub invariant_of-self : goal.invariant_of-self
invariant_of-self g c = λ e.
    agree-traced (seen (g.R.RowStore.state c.self.inside.rows)) c.self.inside.queues c.untrace.new.self c.untrace.ensures.rounds (c.untrace.ensures.tables (seen (g.R.RowStore.state c.self.inside.rows)) (c.self.invariant e).tables) (c.self.invariant e)

pub returns-clause-serves : goal.returns-clause-serves
returns-clause-serves g c =
    serves-by (seen_database c.args.self.now) _ (unlisting c.args.table.now) _ (unlisting-there (seen_database c.args.self.now) c.args.table.now c.args.number c.requires.may c.requires.number)
    (set_removed-as _ _ c.untrace.new.self c.remove_root_table.new.node c.args.number c.args.table.now c.self.view_is c.untrace.ensures.mark c.remove_root_table.ensures)

pub returns-clause-steps : goal.returns-clause-steps
returns-clause-steps g c =
    serves-steps (seen_database c.args.self.now) _ (unlisting c.args.table.now)
    (serves-by (seen_database c.args.self.now) _ (unlisting c.args.table.now) _ (unlisting-there (seen_database c.args.self.now) c.args.table.now c.args.number c.requires.may c.requires.number)
    (set_removed-as _ _ c.untrace.new.self c.remove_root_table.new.node c.args.number c.args.table.now c.self.view_is c.untrace.ensures.mark c.remove_root_table.ensures))
