use Rattle.std.proofs.Common.{◌≡◌, Some, refl, ap, sym, subst}
use Rattle.sky_trans.specs.Trans.{TransView}
use Rattle.sky_state.specs.Views.{RowStateView}
use Rattle.sky_state.specs.Seen.{seen}
use Rattle.sky_state.proofs.Owning.{owned-end, within-kept}
use Rattle.sky_state.proofs.SessionLists.{committed-as}
use Rattle.sky_state.proofs.row_state.RowState.committed.Goals as goal

pub invariant_of-self : goal.invariant_of-self
invariant_of-self c = (
  c.self.invariant.0,
  (
    owned-end _ _ _ _ c.args.who c.args.txid c.end_txid.ensures (ap (λ (v : TransView). v.running) c.commit.ensures)
        (subst (λ (d : RowStateView). ((seen d).session c.args.who).txid ≡ Some c.args.txid) (sym c.self.view_is) c.requires) c.self.invariant.1.0,
    within-kept _ _ _ _ refl c.release.ensures.waiting c.self.invariant.1.1,
  ),
)

pub returns : goal.returns
returns c = committed-as _ _ c.commit.new.self _ c.end.new.self c.release.new.self c.args.who c.args.txid c.self.view_is c.commit.ensures c.end_txid.ensures c.end.ensures c.release.ensures.held c.release.ensures.waiting
