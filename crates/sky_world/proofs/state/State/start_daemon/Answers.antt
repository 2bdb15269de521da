use Rattle.std.proofs.Common.{w64, arith}
use Rattle.std.proofs.lemmas.Int.{to_z-of_z}
use Rattle.sky_world.proofs.Daemons.{daemon-started, daemon-still-on}
use Rattle.sky_world.proofs.state.State.start_daemon.Goals as goal

pub returns-then-contains_key : goal.returns-then-contains_key
returns-then-contains_key g c = daemon-still-on _ _ c.args.database _ c.self.view_is c.requires c.contains_key.ensures c.if-contains_key.true

pub returns : goal.returns
returns g c =
    daemon-started _ _ c.insert.new.self.entries c.args.database _ _ c.self.view_is c.requires c.in_ok-insert.ensures.updates.0 (to_z-of_z w64 c.self.inside.clock (omega arith)) c.contains_key.ensures c.if-contains_key.false
