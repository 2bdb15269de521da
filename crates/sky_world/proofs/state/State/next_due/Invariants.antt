use Rattle.std.proofs.Common.{◌≡◌, ◌<ℤ◌, IfSome}
use Rattle.sky_model.specs.Moment.{HasMoment}
use Rattle.sky_model.specs.Daemon.{next_due}
use Rattle.sky_world.specs.Seen.{seen_state}
use Rattle.sky_world.proofs.state.State.next_due.Given as goal

-- the first moment of the daemons of the databases so far
abbrev pub invariant-loop-database : goal.invariant-loop-database
invariant-loop-database g l = record {
  next : l.due ≡ next_due l.self.now (seen_state g.D.Store.seen l.self).daemons l.database;
  later : IfSome l.due (λ moment. l.self.now <ℤ moment);
  time : IfSome l.due HasMoment;
}
