use Rattle.sky_model.specs.declared.reply.Reply.TheVariants.{Done}
use Rattle.sky_model.specs.Reader.{answers_with}
use Rattle.sky_model.specs.Calls.{on_unless}
use Rattle.sky_model.specs.World.{World}
use Rattle.sky_world.specs.Seen.{seen_state}
use Rattle.sky_world.proofs.Outside.{answers-happened, entered-not, entered-done, on-outside}
use Rattle.sky_world.proofs.state.State.pgqd_on.Goals as goal

pub returns-in_default : goal.returns-in_default
returns-in_default g c =
    let w = seen_state g.D.Store.seen c.args.self.now in
    entered-not _ _ c.args.who _ (λ d. answers_with c.args.who Done (on_unless d (w.daemons d))) _ _ _ c.in_ok-database.ensures c.in_default.is (on-outside w c.args.who (w.homes c.args.who))

pub returns : goal.returns
returns g c =
    let w = seen_state g.D.Store.seen c.args.self.now in
    entered-done _ _ _ c.args.who c.in-Some.database _ (λ (x : World) d. answers_with c.args.who Done (on_unless d (x.daemons d))) _ _ _ _ c.in_ok-database.ensures c.in-Some.is
    (λ known. answers-happened _ _ c.args.who Done _ _ _ known tt c.in_ok-start_daemon.ensures c.in_ok-push.ensures.ok) (on-outside w c.args.who (w.homes c.args.who))
