use Rattle.sky_world.proofs.ServedNodes.{entered-stays}
use Rattle.sky_world.proofs.state.State.refusal_outside.Goals as goal

pub returns-clause-stays : goal.returns-clause-stays
returns-clause-stays g c =
    entered-stays _ _ c.args.database c.args.who c.get_mut.result.now c.enter.new.self c.enter.result c.self.view_is c.get_mut.ensures.within c.get_mut.ensures.value c.requires.whole c.enter.ensures.enters c.enter.ensures.but
