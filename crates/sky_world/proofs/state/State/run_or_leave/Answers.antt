use Rattle.sky_world.proofs.Worlds.{adds-left, adds-stayed}
use Rattle.sky_world.proofs.state.State.run_or_leave.Goals as goal

pub returns-then-leaving : goal.returns-then-leaving
returns-then-leaving g c =
    adds-left _ _ _ c.args.database c.args.who c.args.stmt.now _ _ _ c.is_leaving-leaving.ensures c.if-leaving.true c.in_ok-run_there.ensures.adds c.leave.ensures.fact c.leave.ensures.sessions c.leave.ensures.whole

pub returns-else-leaving : goal.returns-else-leaving
returns-else-leaving g c = adds-stayed _ _ c.args.database c.args.who c.args.stmt.now _ _ _ c.is_leaving-leaving.ensures c.if-leaving.false c.in_ok-run_there.ensures.adds
