use Rattle.std.proofs.Common.{◌∙◌, sym, ap}
use Rattle.sky_model.specs.State.{Database}
use Rattle.sky_model.specs.StepNode.{table_number}
use Rattle.sky_model.specs.NodesOfWorld.{same_columns}
use Rattle.sky_model.specs.WorkersOfWorld.{are_alike}
use Rattle.sky_world.proofs.ServedNodes.{columns-found}
use Rattle.sky_world.proofs.state.State.numbers_alike.Goals as goal

pub returns-then-same_columns-clause-found : goal.returns-then-same_columns-clause-found
returns-then-same_columns-clause-found g c =
    let first = columns-found (g.D.Store.seen c.store.result.now) _ c.args.table.now c.in_ok-from.from _ c.in_ok-from.ensures.0 c.in_ok-from.ensures.1 c.store.ensures in
    let second = columns-found (g.D.Store.seen c.store-2.result.now) _ c.args.table.now c.in_ok-to.to _ c.in_ok-to.ensures.0 c.in_ok-to.ensures.1 c.store-2.ensures in
    sym c.if-same_columns.true ∙ c.same_columns.ensures ∙ (λ i. same_columns (c.columns.ensures.value i) (c.columns-2.ensures.value i)) ∙ (λ i. are_alike (first i) (second i))

pub returns-then-same_columns-clause-alike : goal.returns-then-same_columns-clause-alike
returns-then-same_columns-clause-alike g c = record {
  there = ap (λ (d : Database). table_number d c.args.table.now) (sym c.store.ensures) ∙ c.in_ok-from.ensures.0;
  here = ap (λ (d : Database). table_number d c.args.table.now) (sym c.store-2.ensures) ∙ c.in_ok-to.ensures.0;
  columns = sym (returns-then-same_columns-clause-found g c);
}

pub returns-else-same_columns-clause-found : goal.returns-else-same_columns-clause-found
returns-else-same_columns-clause-found g c =
    let first = columns-found (g.D.Store.seen c.store.result.now) _ c.args.table.now c.in_ok-from.from _ c.in_ok-from.ensures.0 c.in_ok-from.ensures.1 c.store.ensures in
    let second = columns-found (g.D.Store.seen c.store-2.result.now) _ c.args.table.now c.in_ok-to.to _ c.in_ok-to.ensures.0 c.in_ok-to.ensures.1 c.store-2.ensures in
    sym c.if-same_columns.false ∙ c.same_columns.ensures ∙ (λ i. same_columns (c.columns.ensures.value i) (c.columns-2.ensures.value i)) ∙ (λ i. are_alike (first i) (second i))
