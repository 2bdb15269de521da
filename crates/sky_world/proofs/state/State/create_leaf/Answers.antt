use Rattle.sky_world.proofs.ServedNodes.{free-still, leaf-made}
use Rattle.sky_world.proofs.state.State.create_leaf.Goals as goal

pub make_leaf-requires-clause-free : goal.make_leaf-requires-clause-free
make_leaf-requires-clause-free g c =
    free-still _ _ c.args.database c.in_ok-from.from c.in_ok-tick.tick c.args.name.now c.in_ok-from.ensures.free c.in_ok-from.ensures.provides c.in_ok-tick.ensures

pub returns : goal.returns
returns g c =
    leaf-made _ _ _ c.args.database c.in_ok-from.from c.in_ok-tick.tick c.args.name.now c.args.provider.now _ c.in_ok-from.ensures.ok c.in_ok-tick.ensures c.in_ok-make_leaf.ensures
