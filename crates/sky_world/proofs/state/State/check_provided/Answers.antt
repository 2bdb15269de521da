use Rattle.std.proofs.Common.{◌≡◌, ℕ, List, Bool, true, false, not, Option, Some, Err, ◌∙◌, sym, ap, option_map}
use Rattle.sky_val.specs.declared.column.Column.{Column}
use Rattle.sky_model.specs.declared.reply.Refusal.TheVariants.{NotInSet, SchemaDiffers}
use Rattle.sky_model.specs.State.{Database}
use Rattle.sky_model.specs.World.{World}
use Rattle.sky_model.specs.Outcome.{◌>>=◌, found_or, refused_if}
use Rattle.sky_model.specs.NodesOfWorld.{columns_called, same_columns, are_columns, node_called, provides}
use Rattle.sky_world.specs.Seen.{seen_state}
use Rattle.sky_world.proofs.ServedNodes.{columns-found}
use Rattle.sky_world.proofs.state.State.check_provided.Goals as goal
use Rattle.sky_world.proofs.state.State.check_provided.Goals.{in_default-table-via-in-Some-table+else-same_columns, in_default-table-via-in_default-table}

-- the test of the columns, by what the provider's database has
tested : (w : World) (columns : List Column) (table : List ℕ) (o : Option ℕ) (p : ℕ) (b : Bool) → o ≡ Some p → are_columns columns (columns_called table (w.database p)) ≡ b
    → (found_or o (NotInSet table) >>= (λ q. refused_if (not (are_columns columns (columns_called table (w.database q)))) (SchemaDiffers table))) ≡ refused_if (not b) (SchemaDiffers table)
tested w columns table o p b found is =
    ap (λ x. found_or x (NotInSet table) >>= (λ q. refused_if (not (are_columns columns (columns_called table (w.database q)))) (SchemaDiffers table))) found
    ∙ ap (λ x. refused_if (not x) (SchemaDiffers table)) is

pub returns-in-Some-table-clause-ok : goal.returns-in-Some-table-clause-ok
returns-in-Some-table-clause-ok g c =
    let w = seen_state g.D.Store.seen c.args.self.now in
    let there = columns-found (g.D.Store.seen c.store.result.now) (w.database c.in-Some.provider) c.args.table.now _ _ c.in-Some-table.ensures.0 c.in-Some-table.ensures.1 c.store.ensures in
    tested w c.args.columns.now c.args.table.now _ c.in-Some.provider true
    (ap (λ name. provides c.args.table.now (node_called w name)) (sym c.provider.ensures) ∙ sym c.in-Some.ensures.database)
    (ap (are_columns c.args.columns.now) (sym there) ∙ ap (same_columns c.args.columns.now) (sym c.columns.ensures.value) ∙ sym c.same_columns.ensures ∙ c.if-same_columns.true)

pub returns-in_ok-table-in_default-table-clause-err : goal.returns-in_ok-table-in_default-table-clause-err
returns-in_ok-table-in_default-table-clause-err g c =
    let w = seen_state g.D.Store.seen c.args.self.now in
    let differs : are_columns c.args.columns.now (columns_called c.args.table.now (w.database c.in-Some.provider)) ≡ false =
    elim c.in_default-table.branch [
      | in_default-table-via-in-Some-table+else-same_columns x ↦
          ap (are_columns c.args.columns.now) (sym (columns-found (g.D.Store.seen c.store.result.now) (w.database c.in-Some.provider) c.args.table.now _ _ x.in-Some-table.ensures.0 x.in-Some-table.ensures.1 c.store.ensures))
          ∙ ap (same_columns c.args.columns.now) (sym x.columns.ensures.value) ∙ sym x.same_columns.ensures ∙ x.if-same_columns.false
      | in_default-table-via-in_default-table x ↦
          ap (λ (d : Database). are_columns c.args.columns.now (columns_called c.args.table.now d)) (sym c.store.ensures)
          ∙ ap (λ o. are_columns c.args.columns.now (option_map (g.D.Store.seen c.store.result.now).part.columns o)) x.in_default-table.ensures
    ] in
    tested w c.args.columns.now c.args.table.now _ c.in-Some.provider false
    (ap (λ name. provides c.args.table.now (node_called w name)) (sym c.provider.ensures) ∙ sym c.in-Some.ensures.database) differs
    ∙ ap (λ t. Err (SchemaDiffers t)) (sym c.in_ok-table-in_default-table.ensures)
