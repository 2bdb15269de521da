use Rattle.std.proofs.Common.{subst}
use Rattle.sky_model.specs.SessionMarks.{ending}
use Rattle.sky_model.specs.RowCalls.{single_ended}
use Rattle.sky_model.specs.RowSteps.{RowSteps}
use Rattle.sky_histories.proofs.RowCallStanding.{end_single_from_exact}
use Rattle.sky_state.specs.Views.{RowStateView}
use Rattle.sky_state.specs.Seen.{seen}
use Rattle.sky_session.proofs.row_db.RowDb.end_single.Goals as goal

pub returns-clause-steps : goal.returns-clause-steps
returns-clause-steps c =
    subst (λ (d : RowStateView). RowSteps (seen d) (seen c.commit_alone.new.state) (single_ended c.args.who) (ending (seen d) c.args.who)) c.self.view_is
    (end_single_from_exact (seen c.self.inside.state) (seen c.commit_alone.new.state) c.args.who c.commit_alone.ensures)
