use Rattle.std.proofs.Common.{◌≡◌, true, sym, subst}
use Rattle.sky_txid.specs.Ids.{contains}
use Rattle.sky_state.specs.Seen.{seen}
use Rattle.pgq_parts.specs.Views.{DbView}
use Rattle.pgq_parts.proofs.ApplySteps.{aborted-work}
use Rattle.pgq_parts.proofs.CopySteps.{agree-undone}
use Rattle.pgq_db.proofs.db.Db.roll_back_work.Goals as goal

pub end_worker-requires : goal.end_worker-requires
end_worker-requires g c = subst (λ (v : DbView). contains c.args.txid (seen v.rows).workers ≡ true) (sym c.self.view_is) c.requires

pub invariant_of-self : goal.invariant_of-self
invariant_of-self g c = λ e.
    agree-undone (seen (g.R.RowStore.state c.self.inside.rows)) (seen (g.R.RowStore.state c.end_worker.new.self)) c.self.inside.queues c.rolled_back.new.self c.args.txid c.end_worker.ensures.mark c.rolled_back.ensures (c.self.invariant e)

pub returns : goal.returns
returns g c = aborted-work _ _ (g.R.RowStore.state c.end_worker.new.self) c.rolled_back.new.self c.args.txid c.self.view_is c.end_worker.ensures.mark c.rolled_back.ensures
