use Rattle.std.proofs.Common.{subst}
use Rattle.sky_model.specs.WorkerMarks.{guarding}
use Rattle.sky_model.specs.RowCalls.{row_guarded}
use Rattle.sky_model.specs.RowSteps.{RowSteps}
use Rattle.sky_histories.proofs.RowCallStanding.{guard_from_exact}
use Rattle.sky_state.specs.Views.{RowStateView}
use Rattle.sky_state.specs.Seen.{seen}
use Rattle.sky_session.proofs.row_store.RowDbRowStore.set_read_only.Goals as goal

pub returns-clause-steps : goal.returns-clause-steps
returns-clause-steps c =
    subst (λ (d : RowStateView). RowSteps (seen d) (seen c.set_read_only.new.self) (row_guarded c.args.table c.args.on) (guarding c.args.table c.args.on)) c.self.view_is
    (guard_from_exact (seen c.self.inside.state) (seen c.set_read_only.new.self) c.args.table c.args.on c.set_read_only.ensures)
