use Rattle.std.proofs.Common.{◌<◌, length, arith}
use Rattle.sky_world.proofs.Worlds.{opens-new}
use Rattle.sky_world.proofs.state.State.open_new.Goals as goal

pub returns : goal.returns
returns g c =
    let room : length c.args.self.now.databases.names < 16 = grind (arith, c.most.ensures, c.if-number-most.false, c.database_count-number.ensures) in
    opens-new _ _ _ c.args.who _ c.args.stmt.now c.args.name.now _ _ room c.database_count-number.ensures c.in_ok-found.ensures.fact c.in_ok-found.ensures.sessions c.in_ok-open_in.ensures
