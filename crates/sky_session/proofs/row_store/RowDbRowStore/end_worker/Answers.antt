use Rattle.std.proofs.Common.{◌≡◌, true, false, sym, subst}
use Rattle.sky_txid.specs.Ids.{contains}
use Rattle.sky_model.specs.WorkerMarks.{ending_work}
use Rattle.sky_model.specs.RowCalls.{worker_ended}
use Rattle.sky_model.specs.RowSteps.{RowSteps}
use Rattle.sky_histories.proofs.RowCallStanding.{end_worker_from_exact}
use Rattle.sky_state.specs.Views.{RowStateView}
use Rattle.sky_state.specs.Seen.{seen}
use Rattle.sky_session.proofs.row_store.RowDbRowStore.end_worker.Goals as goal

pub returns-then-commit-clause-steps : goal.returns-then-commit-clause-steps
returns-then-commit-clause-steps c =
    subst (λ (d : RowStateView). RowSteps (seen d) (seen c.committed_work.new.self) (worker_ended c.args.txid c.args.commit) (ending_work (seen d) c.args.txid c.args.commit)) c.self.view_is
    (subst (λ commits. RowSteps (seen c.self.inside.state) (seen c.committed_work.new.self) (worker_ended c.args.txid commits) (ending_work (seen c.self.inside.state) c.args.txid commits)) (sym c.if-commit.true)
    (end_worker_from_exact (seen c.self.inside.state) (seen c.committed_work.new.self) c.args.txid true
    (subst (λ (d : RowStateView). contains c.args.txid d.workers ≡ true) (sym c.self.view_is) c.requires) c.committed_work.ensures))

pub returns-else-commit-clause-steps : goal.returns-else-commit-clause-steps
returns-else-commit-clause-steps c =
    subst (λ (d : RowStateView). RowSteps (seen d) (seen c.aborted_work.new.self) (worker_ended c.args.txid c.args.commit) (ending_work (seen d) c.args.txid c.args.commit)) c.self.view_is
    (subst (λ commits. RowSteps (seen c.self.inside.state) (seen c.aborted_work.new.self) (worker_ended c.args.txid commits) (ending_work (seen c.self.inside.state) c.args.txid commits)) (sym c.if-commit.false)
    (end_worker_from_exact (seen c.self.inside.state) (seen c.aborted_work.new.self) c.args.txid false
    (subst (λ (d : RowStateView). contains c.args.txid d.workers ≡ true) (sym c.self.view_is) c.requires) c.aborted_work.ensures))
