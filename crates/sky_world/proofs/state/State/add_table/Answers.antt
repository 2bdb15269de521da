use Rattle.std.proofs.Common.{◌∙◌, ap, sym, subst, Some}
use Rattle.londiste_state.specs.Nodes.{is_among, tables_of}
use Rattle.sky_model.specs.declared.reply.Reply.TheVariants.{Done}
use Rattle.sky_model.specs.Outcome.{Checked, ◌>>=◌}
use Rattle.sky_model.specs.StepNode.{adding, table_number, node_does}
use Rattle.sky_model.specs.NodesOfWorld.{WorldOutcome, done_in, add_table}
use Rattle.sky_histories.proofs.NodeDeeds.{may-list, may-add}
use Rattle.sky_world.specs.Seen.{seen_state}
use Rattle.sky_world.specs.Nodes.{Ran, provided_as}
use Rattle.sky_world.proofs.ServedNodes.{columns-found, add-to_leaf, stops-then}
use Rattle.sky_world.proofs.state.State.add_table.Goals as goal

pub returns-in_err-check_provided-in-Leaf : goal.returns-in_err-check_provided-in-Leaf
returns-in_err-check_provided-in-Leaf g c =
    let w = seen_state g.D.Store.seen c.args.self.now in
    let rest : Checked WorldOutcome = done_in c.in-Some.database Done (node_does (w.database c.in-Some.database) (adding c.args.table.now)) in
    let whole = add-to_leaf w c.args.name.now c.args.table.now c.in-Some.database c.in-Leaf.leaf c.columns.result.now
    (c.in-Some.ensures.node ∙ ap (λ n. Some (record { database = c.in-Some.database; node = n })) c.in-Leaf.is)
    (columns-found (g.D.Store.seen c.store.result.now) _ c.args.table.now c.in-Some-table.number c.columns.result.now c.in-Some-table.ensures.0 (c.columns.ensures.value ∙ c.in-Some-table.ensures.1) c.store.ensures)
    (ap (λ n. is_among c.args.table.now (tables_of n)) (sym c.in-Leaf.is) ∙ sym c.if-has_table.ensures) in
    stops-then c.args.self.now c.from_residual-in_err-check_provided-in-Leaf.result c.in_err-check_provided-in-Leaf.field-0.0 (provided_as w c.columns.result.now c.args.table.now c.in-Leaf.leaf) (λ _. rest)
    (add_table w c.args.name.now c.args.table.now) c.requires whole c.from_residual-in_err-check_provided-in-Leaf.ensures.1 c.in_err-check_provided-in-Leaf.ensures.err

pub returns-in_ok-check_provided-in-Leaf : goal.returns-in_ok-check_provided-in-Leaf
returns-in_ok-check_provided-in-Leaf g c =
    let w = seen_state g.D.Store.seen c.args.self.now in
    let rest : Checked WorldOutcome = done_in c.in-Some.database Done (node_does (w.database c.in-Some.database) (adding c.args.table.now)) in
    let whole = add-to_leaf w c.args.name.now c.args.table.now c.in-Some.database c.in-Leaf.leaf c.columns.result.now
    (c.in-Some.ensures.node ∙ ap (λ n. Some (record { database = c.in-Some.database; node = n })) c.in-Leaf.is)
    (columns-found (g.D.Store.seen c.store.result.now) _ c.args.table.now c.in-Some-table.number c.columns.result.now c.in-Some-table.ensures.0 (c.columns.ensures.value ∙ c.in-Some-table.ensures.1) c.store.ensures)
    (ap (λ n. is_among c.args.table.now (tables_of n)) (sym c.in-Leaf.is) ∙ sym c.if-has_table.ensures) in
    subst (Ran g.D.Store.seen c.args.self.now c.add_to_leaf.new.self c.add_to_leaf.result) (sym (whole ∙ ap (λ x. x >>= (λ _. rest)) c.in_ok-check_provided-in-Leaf.ensures.ok)) c.add_to_leaf.ensures

pub add_to_root-requires-clause-may : goal.add_to_root-requires-clause-may
add_to_root-requires-clause-may g c =
    may-list _ c.in-Root.root c.args.table.now (c.in-Some.ensures.there ∙ ap Some c.in-Root.is) (ap (λ n. is_among c.args.table.now (tables_of n)) (sym c.in-Root.is) ∙ sym c.if-has_table.ensures)

pub add_to_leaf-requires-clause-may : goal.add_to_leaf-requires-clause-may
add_to_leaf-requires-clause-may g c =
    may-add _ c.in-Leaf.leaf c.args.table.now (c.in-Some.ensures.there ∙ ap Some c.in-Leaf.is) (ap (λ n. is_among c.args.table.now (tables_of n)) (sym c.in-Leaf.is) ∙ sym c.if-has_table.ensures)

pub add_to_root-requires-clause-number : goal.add_to_root-requires-clause-number
add_to_root-requires-clause-number g c = sym (ap (λ d. table_number d c.args.table.now) c.store.ensures) ∙ c.in-Some-table.ensures.0

pub add_to_leaf-requires-clause-number : goal.add_to_leaf-requires-clause-number
add_to_leaf-requires-clause-number g c = sym (ap (λ d. table_number d c.args.table.now) c.store.ensures) ∙ c.in-Some-table.ensures.0
