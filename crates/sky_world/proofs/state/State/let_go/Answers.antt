use Rattle.sky_model.specs.StepNode.{letting_go}
use Rattle.sky_world.proofs.ServedNodes.{served-there}
use Rattle.sky_world.proofs.state.State.let_go.Goals as goal

pub returns : goal.returns
returns g c = served-there _ _ c.args.database c.get_mut-store.result.now c.let_go.new.self (letting_go c.args.hold) c.self.view_is c.get_mut-store.ensures.within c.get_mut-store.ensures.value c.requires.whole c.let_go.ensures.serves
