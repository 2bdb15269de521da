use Rattle.std.proofs.Common.{length}
use Rattle.sky_model.specs.StepNode.{making_leaf}
use Rattle.sky_world.proofs.Whole.{whole-with, whole-served}
use Rattle.sky_world.proofs.ServedNodes.{leaf-there}
use Rattle.sky_world.proofs.state.State.make_leaf.Goals as goal

pub gets_node-requires-clause-whole : goal.gets_node-requires-clause-whole
gets_node-requires-clause-whole g c =
    whole-with _ _ c.args.database c.get_mut-store.result.now c.make_leaf.new.self c.self.view_is c.get_mut-store.ensures.within c.get_mut-store.ensures.value c.requires.whole
    (whole-served (length c.args.self.now.sessions.names) (g.D.Store.seen c.get_mut-store.result.now) (g.D.Store.seen c.make_leaf.new.self) (making_leaf c.args.name.now c.args.provider.now c.args.tick) c.in_ok-make_leaf.ensures.serves)

pub returns : goal.returns
returns g c =
    leaf-there _ _ _ c.args.database _ c.get_mut-store.result.now c.make_leaf.new.self c.args.name.now c.args.provider.now c.self.view_is c.get_mut-store.ensures.within c.get_mut-store.ensures.value
    c.requires.free c.requires.whole c.in_ok-make_leaf.ensures.serves c.in_ok-gets_node.ensures
