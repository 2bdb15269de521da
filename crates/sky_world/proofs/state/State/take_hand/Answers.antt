use Rattle.sky_world.proofs.HandsEmptied.{emptied-there}
use Rattle.sky_world.proofs.state.State.take_hand.Goals as goal

pub returns-in_err-hand-clause-happened : goal.returns-in_err-hand-clause-happened
returns-in_err-hand-clause-happened g c = emptied-there _ _ c.args.database c.args.table.now c.take.new.self c.self.view_is c.take.ensures.nothing c.requires

pub returns-clause-happened : goal.returns-clause-happened
returns-clause-happened g c = emptied-there _ _ c.args.database c.args.table.now c.take.new.self c.self.view_is c.take.ensures.nothing c.requires
