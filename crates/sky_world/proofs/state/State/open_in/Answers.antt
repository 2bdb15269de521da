use Rattle.sky_model.specs.History.{entered}
use Rattle.sky_model.specs.Reader.{within_database, by_world}
use Rattle.sky_model.specs.Calls.{database_turn}
use Rattle.sky_world.specs.Seen.{seen_state}
use Rattle.sky_world.proofs.Worlds.{adds-moved}
use Rattle.sky_world.proofs.state.State.open_in.Goals as goal

pub returns : goal.returns
returns g c =
    let w = seen_state g.D.Store.seen c.args.self.now in
    adds-moved _ _ _ c.args.database (entered c.args.who c.args.database) _ _ (database_turn (within_database by_world c.args.database) w w.now c.args.who c.args.stmt.now)
    c.in_ok-run_there.ensures.adds c.enter.ensures.fact c.enter.ensures.sessions c.enter.ensures.whole
