use Rattle.std.proofs.Common.{None}
use Rattle.sky_world.proofs.Worlds.{homes-set, home-as}
use Rattle.sky_world.proofs.state.State.leave.Goals as goal

pub invariant_of-self : goal.invariant_of-self
invariant_of-self g c = record {
  time = c.self.invariant.time;
  homes_within = homes-set _ _ c.args.who None c.self.view_is c.self.invariant.homes_within tt;
  started = c.self.invariant.started;
  nodes_within = c.self.invariant.nodes_within;
}

pub returns-clause-fact : goal.returns-clause-fact
returns-clause-fact g c = home-as g.D.Store.seen _ _ c.args.who None c.self.view_is c.get_mut.ensures.within
