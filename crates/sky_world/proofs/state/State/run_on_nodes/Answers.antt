use Rattle.sky_model.specs.Calls.{world_does}
use Rattle.sky_model.specs.WorkersOfWorld.{node_form}
use Rattle.sky_world.specs.Seen.{seen_state}
use Rattle.sky_world.proofs.Outside.{entered-not, nodes-outside}
use Rattle.sky_world.proofs.state.State.run_on_nodes.Goals as goal

pub returns-in_default : goal.returns-in_default
returns-in_default g c =
    let w = seen_state g.D.Store.seen c.args.self.now in
    entered-not _ _ c.args.who _ (λ d. world_does c.args.who (node_form w d c.args.stmt.now)) _ _ _ c.in_ok-database.ensures c.in_default.is (nodes-outside w c.args.who c.args.stmt.now (w.homes c.args.who))
