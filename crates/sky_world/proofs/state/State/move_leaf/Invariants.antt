use Rattle.sky_world.specs.Workers.{leaf_in}
use Rattle.sky_world.proofs.state.State.move_leaf.Given as goal

-- the leaf that the database's node is
abbrev pub ghost-step : goal.ghost-step
ghost-step g a = leaf_in (g.D.Store.seen a.replica.now).node
