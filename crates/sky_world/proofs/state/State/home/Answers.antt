use Rattle.sky_world.proofs.Worlds.{homes-at}
use Rattle.sky_world.proofs.state.State.home.Goals as goal

pub returns-clause-within : goal.returns-clause-within
returns-clause-within g c = homes-at _ _ c.args.who _ c.self.view_is c.self.invariant.homes_within c.get.ensures.within c.get.ensures.value
