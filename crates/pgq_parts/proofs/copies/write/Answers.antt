use Rattle.std.proofs.Common.{None}
use Rattle.sky_model.specs.StepCopy.{row_for}
use Rattle.sky_state.specs.Seen.{seen}
use Rattle.pgq_parts.proofs.CopySteps.{own-newest, still-may, still-agree}
use Rattle.pgq_parts.proofs.copies.write.Goals as goal

pub worker_write-requires-clause-last : goal.worker_write-requires-clause-last
worker_write-requires-clause-last g c = own-newest c.args.txid _ None (c.requires.last c.args.key)

pub returns-clause-mark : goal.returns-clause-mark
returns-clause-mark g c = c.worker_write.ensures.mark (row_for (seen (g.R.RowStore.state c.args.rows.now)) c.args.table c.args.txid c.args.key)

pub returns-clause-may : goal.returns-clause-may
returns-clause-may g c =
    still-may c.worker_write.result (seen (g.R.RowStore.state c.args.rows.now)) (seen (g.R.RowStore.state c.worker_write.new.self)) c.args.table c.args.txid (record { key = c.args.key; row = c.args.row }) c.requires
    (c.worker_write.ensures.mark (row_for (seen (g.R.RowStore.state c.args.rows.now)) c.args.table c.args.txid c.args.key)) c.worker_write.ensures.same

pub returns-clause-agree : goal.returns-clause-agree
returns-clause-agree g c =
    still-agree c.worker_write.result (seen (g.R.RowStore.state c.args.rows.now)) (seen (g.R.RowStore.state c.worker_write.new.self)) c.args.table c.args.txid (record { key = c.args.key; row = c.args.row })
    (c.worker_write.ensures.mark (row_for (seen (g.R.RowStore.state c.args.rows.now)) c.args.table c.args.txid c.args.key)) c.worker_write.ensures.same
