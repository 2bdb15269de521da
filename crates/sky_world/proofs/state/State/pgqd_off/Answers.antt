use Rattle.std.proofs.Common.{[], ◌∷◌}
use Rattle.sky_model.specs.declared.reply.Reply.TheVariants.{Done}
use Rattle.sky_model.specs.History.{daemon_off}
use Rattle.sky_model.specs.Reader.{answers_with}
use Rattle.sky_world.specs.Seen.{seen_state}
use Rattle.sky_world.proofs.Outside.{entered-not, off-outside}
use Rattle.sky_world.proofs.state.State.pgqd_off.Goals as goal

pub returns-in_default : goal.returns-in_default
returns-in_default g c =
    let w = seen_state g.D.Store.seen c.args.self.now in
    entered-not _ _ c.args.who _ (λ d. answers_with c.args.who Done (daemon_off d ∷ [])) _ _ _ c.in_ok-database.ensures c.in_default.is (off-outside w c.args.who (w.homes c.args.who))
