use Rattle.std.proofs.Common.{◌∙◌, None, sym}
use Rattle.std.proofs.lemmas.Result.{IfOk-weaker}
use Rattle.sky_model.specs.StepCopy.{row_for}
use Rattle.sky_state.specs.Seen.{seen}
use Rattle.londiste_apply.proofs.Steps.{makes-as-met}
use Rattle.londiste_apply.proofs.Own.{own-newest}
use Rattle.londiste_apply.proofs.apply.make_change.Goals as goal

pub worker_write_if-requires-clause-last : goal.worker_write_if-requires-clause-last
worker_write_if-requires-clause-last g c = own-newest c.args.txid _ None (c.requires.may.last c.args.key)

pub returns-clause-made : goal.returns-clause-made
returns-clause-made g c =
    makes-as-met (seen (g.R.RowStore.state c.args.rows.now)) c.args.table c.args.txid c.args.change c.args.key c.requires.key c.args.snapshot.now c.requires.present
    c.worker_write_if.result (seen (g.R.RowStore.state c.worker_write_if.new.self)) c.row_left.result c.row_left.ensures
    (IfOk-weaker c.worker_write_if.result _ _ (λ made is. is ∙ sym (c.needs_row-needs_row.ensures _)) c.worker_write_if.ensures.made)
    (c.worker_write_if.ensures.mark (row_for (seen (g.R.RowStore.state c.args.rows.now)) c.args.table c.args.txid c.args.key)) c.worker_write_if.ensures.unmade
