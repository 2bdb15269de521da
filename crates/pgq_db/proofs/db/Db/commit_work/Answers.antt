use Rattle.std.proofs.Common.{◌≡◌, [], ◌∷◌, true, sym, subst}
use Rattle.sky_txid.specs.Ids.{contains}
use Rattle.sky_model.specs.History.{of_worker, ended}
use Rattle.sky_state.specs.Seen.{seen}
use Rattle.londiste_calls.specs.Picks.{pick_of}
use Rattle.pgq_parts.specs.Views.{DbView}
use Rattle.pgq_parts.proofs.Agreeing.{agree-then}
use Rattle.pgq_parts.proofs.ApplySteps.{committed-work}
use Rattle.pgq_db.proofs.db.Db.commit_work.Goals as goal

pub end_worker-requires : goal.end_worker-requires
end_worker-requires g c = subst (λ (v : DbView). contains c.args.txid (seen v.rows).workers ≡ true) (sym c.self.view_is) c.requires

pub invariant_of-self : goal.invariant_of-self
invariant_of-self g c = λ e.
    agree-then (seen (g.R.RowStore.state c.self.inside.rows)) (seen (g.R.RowStore.state c.end_worker.new.self)) (ended of_worker c.args.txid true ∷ []) c.self.inside.queues c.end_worker.ensures.mark (c.self.invariant e)

pub returns : goal.returns
returns g c = committed-work _ _ (g.R.RowStore.state c.end_worker.new.self) c.store_tick.new.node c.args.txid (pick_of c.args.pick.now) c.args.tick c.self.view_is c.end_worker.ensures.mark c.store_tick.ensures
