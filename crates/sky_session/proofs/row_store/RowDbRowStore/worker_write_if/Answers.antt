use Rattle.std.proofs.Common.{◌≡◌, true, IfOk, subst}
use Rattle.sky_model.specs.History.{of_worker, tabled, wrote}
use Rattle.sky_model.specs.State.{after_part}
use Rattle.sky_state.specs.Views.{RowStateView}
use Rattle.sky_state.specs.Seen.{seen}
use Rattle.sky_session.proofs.row_store.RowDbRowStore.worker_write_if.Goals as goal

pub returns-clause-mark : goal.returns-clause-mark
returns-clause-mark c = λ old.
    subst (λ (d : RowStateView). IfOk c.wrote_work_if.result (λ made. made ≡ true → seen c.wrote_work_if.new.self ≡ after_part (seen d) (tabled (wrote of_worker c.args.txid c.args.table c.args.key old c.args.row)))) c.self.view_is
    (c.wrote_work_if.ensures.ok old)
