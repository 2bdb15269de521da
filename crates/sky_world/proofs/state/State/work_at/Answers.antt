use Rattle.std.proofs.Common.{◌≡◌, length, ap, ◌∙◌, arith}
use Rattle.sky_world.specs.Views.{StateView}
use Rattle.sky_world.proofs.Clocks.{working-next}
use Rattle.sky_world.proofs.state.State.work_at.Goals as goal

pub loop-database-preserved : goal.loop-database-preserved
loop-database-preserved g c =
    let names_are : length c.self.inside.databases.names ≡ length c.args.self.now.databases.names = ap (λ (w : StateView g.row.D.Denot). length w.databases.names) (c.self.view_is ∙ c.stand_at.ensures) in
    working-next _ _ _ _ c.loop-database.database (omega (arith, c.loop-database-test.true, c.len-database-end.ensures.len, names_are)) c.loop-database.invariant c.in_ok-work_in.ensures
