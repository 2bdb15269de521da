use Rattle.std.proofs.Common.{◌∙◌, ap, sym, Some}
use Rattle.londiste_state.specs.Nodes.{is_among, tables_of}
use Rattle.sky_model.specs.StepNode.{table_number}
use Rattle.sky_histories.proofs.NodeDeeds.{may-unlist, may-remove}
use Rattle.sky_world.proofs.state.State.remove_table.Goals as goal

pub drop_from_root-requires-clause-number : goal.drop_from_root-requires-clause-number
drop_from_root-requires-clause-number g c = sym (ap (λ d. table_number d c.args.table.now) c.store.ensures) ∙ c.in-Some-table.ensures.0

pub leave_leaf-requires-clause-number : goal.leave_leaf-requires-clause-number
leave_leaf-requires-clause-number g c = sym (ap (λ d. table_number d c.args.table.now) c.store.ensures) ∙ c.in-Some-table.ensures.0

pub drop_from_root-requires-clause-may : goal.drop_from_root-requires-clause-may
drop_from_root-requires-clause-may g c =
    may-unlist _ c.in-Root.root c.args.table.now (c.in-Some.ensures.there ∙ ap Some c.in-Root.is) (ap (λ n. is_among c.args.table.now (tables_of n)) (sym c.in-Root.is) ∙ sym c.if-not-has_table.ensures)

pub leave_leaf-requires-clause-may : goal.leave_leaf-requires-clause-may
leave_leaf-requires-clause-may g c =
    may-remove _ _ c.args.table.now (c.in-Some.ensures.there ∙ ap Some c.in-Leaf.is) (ap (λ n. is_among c.args.table.now (tables_of n)) (sym c.in-Leaf.is) ∙ sym c.if-not-has_table.ensures)
