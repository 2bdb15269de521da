use Rattle.sky_model.specs.StepNode.{removing}
use Rattle.sky_world.proofs.Whole.{whole-there}
use Rattle.sky_world.proofs.ServedNodes.{served-there}
use Rattle.sky_world.proofs.state.State.drop_from_leaf.Goals as goal

pub leaf_drop-requires-clause-made : goal.leaf_drop-requires-clause-made
leaf_drop-requires-clause-made g c =
    (whole-there _ _ c.args.database c.get_mut-store.result.now c.self.view_is c.get_mut-store.ensures.within c.get_mut-store.ensures.value c.requires.whole).made

pub returns : goal.returns
returns g c = served-there _ _ c.args.database c.get_mut-store.result.now c.leaf_drop.new.self (removing c.args.table.now) c.self.view_is c.get_mut-store.ensures.within c.get_mut-store.ensures.value c.requires.whole c.leaf_drop.ensures.serves
