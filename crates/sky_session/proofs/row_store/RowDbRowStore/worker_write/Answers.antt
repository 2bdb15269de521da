use Rattle.std.proofs.Common.{◌∙◌, ap}
use Rattle.sky_model.specs.History.{of_worker, tabled, wrote}
use Rattle.sky_model.specs.State.{after_part}
use Rattle.sky_state.specs.Views.{RowStateView}
use Rattle.sky_state.specs.Seen.{seen}
use Rattle.sky_session.proofs.row_store.RowDbRowStore.worker_write.Goals as goal

pub returns-clause-mark : goal.returns-clause-mark
returns-clause-mark c = λ old.
    c.in_ok-wrote_work.ensures.ok old ∙ ap (λ (d : RowStateView). after_part (seen d) (tabled (wrote of_worker c.args.txid c.args.table c.args.key old c.args.row))) c.self.view_is
