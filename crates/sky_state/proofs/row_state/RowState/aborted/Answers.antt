use Rattle.std.proofs.Common.{◌≡◌, ◌≤◌, Some, length, ap, sym, subst}
use Rattle.sky_trans.specs.Trans.{TransView}
use Rattle.sky_state.specs.Views.{RowStateView}
use Rattle.sky_state.specs.Seen.{seen}
use Rattle.sky_state.proofs.Owning.{owned-end, within-kept}
use Rattle.sky_state.proofs.SessionLists.{aborted-as}
use Rattle.sky_state.proofs.row_state.RowState.aborted.Goals as goal

pub invariant_of-self : goal.invariant_of-self
invariant_of-self c = (
  subst (λ names. (length names ≤ 64) × (length c.self.inside.read_only.items ≡ length names)) (sym c.forget_all.ensures.names) c.self.invariant.0,
  (
    owned-end _ _ _ _ c.args.who c.args.txid c.end_txid.ensures (ap (λ (v : TransView). v.running) c.abort.ensures)
        (subst (λ (d : RowStateView). ((seen d).session c.args.who).txid ≡ Some c.args.txid) (sym c.self.view_is) c.requires) c.self.invariant.1.0,
    within-kept _ _ _ _ (ap length c.forget_all.ensures.names) c.release.ensures.waiting c.self.invariant.1.1,
  ),
)

pub returns : goal.returns
returns c = aborted-as _ _ c.abort.new.self _ _ c.end.new.self c.release.new.self c.args.who c.args.txid c.self.view_is c.abort.ensures c.end_txid.ensures c.forget_all.ensures.names c.forget_all.ensures.columns c.forget_all.ensures.versions
    c.end.ensures c.release.ensures.held c.release.ensures.waiting
