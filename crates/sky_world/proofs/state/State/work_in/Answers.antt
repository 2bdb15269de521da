use Rattle.sky_world.proofs.Daemons.{works-all}
use Rattle.sky_world.proofs.state.State.work_in.Goals as goal

pub returns : goal.returns
returns g c =
    works-all c.args.self.now c.work_part.new.self c.work_part-2.new.self c.work_part-3.new.self c.args.database c.in_ok-work_part.ensures.works c.in_ok-work_part-2.ensures.works c.in_ok-work_part-3.ensures.works
