use Rattle.sky_model.specs.StepNode.{unlisting}
use Rattle.sky_world.proofs.ServedNodes.{done-there}
use Rattle.sky_world.proofs.state.State.drop_from_root.Goals as goal

pub returns : goal.returns
returns g c = done-there _ _ c.args.database c.get_mut-store.result.now c.root_drop.new.self (unlisting c.args.table.now) c.self.view_is c.get_mut-store.ensures.within c.get_mut-store.ensures.value c.requires.whole c.root_drop.ensures.serves
