use Rattle.std.proofs.Common.{[], ◌∷◌, Some, true, ap, ◌∙◌}
use Rattle.sky_model.specs.History.{tabled, read_only, leaf_added}
use Rattle.sky_model.specs.Nodes.{after_node}
use Rattle.sky_model.specs.StepNode.{adding}
use Rattle.sky_state.specs.Seen.{seen}
use Rattle.pgq_parts.specs.Seen.{seen_database}
use Rattle.pgq_parts.proofs.Agreeing.{agree-then}
use Rattle.pgq_parts.proofs.Databases.{table-low}
use Rattle.pgq_parts.proofs.NodeSteps.{steps-unless, adding-busy, adding-does}
use Rattle.sky_store.proofs.Serving.{serves-steps}
use Rattle.pgq_db.proofs.store.DbStore.leaf_add.Goals as goal

pub returns-in-Some-clause-serves : goal.returns-in-Some-clause-serves
returns-in-Some-clause-serves g c =
    adding-busy _ _ c.args.table.now c.args.number c.self.view_is c.requires.may c.requires.number c.in-Some.txid c.in-Some.ensures

pub returns-in-Some-clause-steps : goal.returns-in-Some-clause-steps
returns-in-Some-clause-steps g c =
    steps-unless (seen_database c.args.self.now) _ (adding c.args.table.now) (Some c.in-Some.txid)
    (adding-busy _ _ c.args.table.now c.args.number c.self.view_is c.requires.may c.requires.number c.in-Some.txid c.in-Some.ensures)

pub set_read_only-requires : goal.set_read_only-requires
set_read_only-requires g c = table-low _ _ c.args.table.now c.args.number c.self.view_is c.requires.number

pub invariant_of-self-2 : goal.invariant_of-self-2
invariant_of-self-2 g c = λ e.
    agree-then (seen (g.R.RowStore.state c.self.inside.rows)) (seen (g.R.RowStore.state c.set_read_only.new.self)) (tabled (read_only c.args.number true) ∷ []) c.self.inside.queues c.set_read_only.ensures.mark (c.self.invariant e)

pub returns-clause-serves : goal.returns-clause-serves
returns-clause-serves g c =
    adding-does _ _ c.args.table.now c.args.number c.self.view_is c.requires.may c.requires.number (g.R.RowStore.state c.set_read_only.new.self) c.add_leaf_table.new.node c.in_default.ensures c.set_read_only.ensures.mark
    (c.in_ok-add_leaf_table.ensures.ok ∙ ap (λ n. after_node (leaf_added n) c.self.inside.node.own) c.in_ok-name.ensures)

pub returns-clause-steps : goal.returns-clause-steps
returns-clause-steps g c =
    serves-steps (seen_database c.args.self.now) _ (adding c.args.table.now)
    (adding-does _ _ c.args.table.now c.args.number c.self.view_is c.requires.may c.requires.number (g.R.RowStore.state c.set_read_only.new.self) c.add_leaf_table.new.node c.in_default.ensures c.set_read_only.ensures.mark
    (c.in_ok-add_leaf_table.ensures.ok ∙ ap (λ n. after_node (leaf_added n) c.self.inside.node.own) c.in_ok-name.ensures))
