use Rattle.sky_world.proofs.Daemons.{daemon-stopped}
use Rattle.sky_world.proofs.state.State.stop_daemon.Goals as goal

pub returns : goal.returns
returns g c = daemon-stopped _ _ c.remove.new.self.entries c.args.database c.self.view_is c.requires c.remove.ensures.updates.0
