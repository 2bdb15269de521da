use Rattle.std.proofs.Common.{◌<ℤ◌}
use Rattle.sky_model.specs.Moment.{HasMoment}
use Rattle.sky_world.specs.Seen.{seen_state}
use Rattle.sky_world.proofs.Clocks.{due-next, earlier-is}
use Rattle.sky_world.proofs.state.State.next_due.Goals as goal

pub loop-database-preserved : goal.loop-database-preserved
loop-database-preserved g c = record {
  next = due-next c.args.self.now.now (seen_state g.D.Store.seen c.args.self.now).daemons c.loop-database.database _ _ _ c.loop-database.invariant.next c.first_due.ensures.first c.earlier-due.ensures;
  later = earlier-is (λ moment. c.args.self.now.now <ℤ moment) _ _ _ c.earlier-due.ensures c.loop-database.invariant.later c.first_due.ensures.later;
  time = earlier-is HasMoment _ _ _ c.earlier-due.ensures c.loop-database.invariant.time c.first_due.ensures.time;
}
