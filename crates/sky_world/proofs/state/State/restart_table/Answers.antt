use Rattle.sky_world.specs.Seen.{seen_state}
use Rattle.sky_world.specs.Workers.{leaf_with}
use Rattle.sky_world.proofs.ServedNodes.{stops-then}
use Rattle.sky_world.proofs.WorkersFound.{restart-by_leaf}
use Rattle.sky_world.proofs.state.State.restart_table.Goals as goal

pub returns-in_err-database : goal.returns-in_err-database
returns-in_err-database g c =
    stops-then c.args.self.now c.from_residual.result _ (leaf_with (seen_state g.D.Store.seen c.args.self.now) c.args.name.now c.args.table.now) _ _ c.requires (restart-by_leaf (seen_state g.D.Store.seen c.args.self.now) c.args.name.now c.args.table.now) c.from_residual.ensures.1
    c.in_err-database.ensures.err
