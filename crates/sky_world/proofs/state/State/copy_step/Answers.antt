use Rattle.std.proofs.Common.{◌≡◌, Result, subst, sym, IfErr}
use Rattle.sky_model.specs.declared.stop.Stop.{Stop}
use Rattle.sky_model.specs.Outcome.{Checked}
use Rattle.sky_model.specs.State.{Database}
use Rattle.sky_model.specs.NodesOfWorld.{WorldOutcome}
use Rattle.sky_world.specs.Views.{StateView}
use Rattle.sky_world.specs.Seen.{seen_state}
use Rattle.sky_world.specs.Nodes.{Stopped}
use Rattle.sky_world.specs.Workers.{leaf_with}
use Rattle.sky_world.proofs.ServedNodes.{halts-then}
use Rattle.sky_world.proofs.WorkersFound.{copy-by_leaf, copy-goes, same-table}
use Rattle.sky_world.proofs.state.State.copy_step.Goals as goal

pub move_copy-requires-clause-same : goal.move_copy-requires-clause-same
move_copy-requires-clause-same g c =
    same-table ((seen_state g.D.Store.seen c.args.self.now).database c.in_ok-provider.provider) ((seen_state g.D.Store.seen c.args.self.now).database c.in_ok-database.database) c.args.table.now c.in_ok-database.leaf.now c.in_ok-database.ensures.there
    c.in_ok-database.ensures.among (c.in_ok-provider.from, c.in_ok-provider.to) c.in_ok-provider.ensures.alike

pub returns-in_err-database-clause-err : goal.returns-in_err-database-clause-err
returns-in_err-database-clause-err g c =
    halts-then c.args.self.now c.from_residual.result _ (leaf_with (seen_state g.D.Store.seen c.args.self.now) c.args.name.now c.args.table.now) _ _ c.requires (copy-by_leaf (seen_state g.D.Store.seen c.args.self.now) c.args.name.now c.args.table.now) c.from_residual.ensures.1
    c.in_err-database.ensures.err

-- refused as the same in other words
refused-as : {D : Type 0} (seen : D → Database) {B : Type 0} (v after : StateView D) (result : Result B Stop) (checked same : Checked WorldOutcome) → checked ≡ same → IfErr result (λ stop. Stopped seen v after stop same) → IfErr result (λ stop. Stopped seen v after stop checked)
refused-as seen v after result checked same is refused = subst (λ o. IfErr result (λ stop. Stopped seen v after stop o)) (sym is) refused

pub returns-clause-err : goal.returns-clause-err
returns-clause-err g c =
    refused-as g.D.Store.seen c.args.self.now _ c.move_copy.result _ _
    (copy-goes (seen_state g.D.Store.seen c.args.self.now) c.args.name.now c.args.table.now c.in_ok-database.database c.in_ok-provider.provider c.in_ok-database.leaf.now c.in_ok-database.ensures.ok c.in_ok-provider.ensures.ok)
    c.move_copy.ensures.err
