use Rattle.std.proofs.Common.{◌≡◌, Ok, rules, subst}
use Rattle.sky_model.specs.OwnTransaction.{next_id}
use Rattle.sky_model.specs.WorkerMarks.{beginning}
use Rattle.sky_model.specs.RowCalls.{worker_begun}
use Rattle.sky_model.specs.RowSteps.{RowSteps}
use Rattle.sky_histories.proofs.RowCallStanding.{begin_worker_from_exact}
use Rattle.sky_state.specs.Views.{RowStateView}
use Rattle.sky_state.specs.Seen.{seen}
use Rattle.sky_session.proofs.row_store.RowDbRowStore.begin_worker.Goals as goal

pub returns-clause-steps : goal.returns-clause-steps
returns-clause-steps c =
    let left : next_id (seen c.self.inside.state) ≡ Ok c.in_ok-began_work.field-0 = search rules in
    subst (λ (d : RowStateView). RowSteps (seen d) (seen c.began_work.new.self) worker_begun (beginning (seen d))) c.self.view_is
    (begin_worker_from_exact (seen c.self.inside.state) (seen c.began_work.new.self) c.in_ok-began_work.field-0 left c.in_ok-began_work.ensures.mark)
