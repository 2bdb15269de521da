use Rattle.std.proofs.Common.{subst}
use Rattle.sky_model.specs.SessionMarks.{failing}
use Rattle.sky_model.specs.RowCalls.{rolled_back}
use Rattle.sky_model.specs.RowSteps.{RowSteps}
use Rattle.sky_histories.proofs.RowCallStanding.{roll_back_from_exact}
use Rattle.sky_state.specs.Views.{RowStateView}
use Rattle.sky_state.specs.Seen.{seen}
use Rattle.sky_session.proofs.row_store.RowDbRowStore.roll_back.Goals as goal

pub returns-clause-steps : goal.returns-clause-steps
returns-clause-steps g c =
    subst (λ (d : RowStateView). RowSteps (seen d) (seen c.abort_block.new.state) (rolled_back c.args.who) (failing (seen d) c.args.who)) c.self.view_is
    (roll_back_from_exact (seen c.self.inside.state) (seen c.abort_block.new.state) c.args.who c.in_ok-abort_block.ensures.marks)
