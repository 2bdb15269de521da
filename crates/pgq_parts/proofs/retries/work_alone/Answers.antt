use Rattle.sky_state.specs.Seen.{seen}
use Rattle.pgq_parts.proofs.RetrySteps.{works}
use Rattle.pgq_parts.proofs.retries.work_alone.Goals as goal

pub end_worker-requires : goal.end_worker-requires
end_worker-requires g c = works (seen (g.R.RowStore.state c.args.rows.now)) (seen (g.R.RowStore.state c.begin_worker.new.self)) c.in-Ok.txid c.in-Ok.ensures.mark
