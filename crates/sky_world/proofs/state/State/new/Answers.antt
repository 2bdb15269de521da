use Rattle.sky_world.proofs.Worlds.{world-new}
use Rattle.sky_world.proofs.state.State.new.Goals as goal

pub returns-clause-new : goal.returns-clause-new
returns-clause-new g c = world-new g.D.Store.seen _ _ _ _ _ _ c.new.ensures c.new-2.ensures c.new-3.ensures.empty c.new-4.ensures.items c.new-5.ensures c.new-6.ensures
