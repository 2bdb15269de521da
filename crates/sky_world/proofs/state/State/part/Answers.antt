use Rattle.sky_model.specs.StepNode.{parting}
use Rattle.sky_world.proofs.ServedNodes.{served-there}
use Rattle.sky_world.proofs.state.State.part.Goals as goal

pub returns : goal.returns
returns g c = served-there _ _ c.args.database c.get_mut-store.result.now c.part.new.self (parting c.args.consumer.now) c.self.view_is c.get_mut-store.ensures.within c.get_mut-store.ensures.value c.requires.whole c.part.ensures.serves
