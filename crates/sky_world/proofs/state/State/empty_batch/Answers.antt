use Rattle.sky_world.proofs.HandsEmptied.{batch-emptied}
use Rattle.sky_world.proofs.state.State.empty_batch.Goals as goal

pub returns : goal.returns
returns g c = batch-emptied _ _ c.args.database c.empty.new.self c.self.view_is c.empty.ensures c.requires
