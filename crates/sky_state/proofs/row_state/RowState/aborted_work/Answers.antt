use Rattle.std.proofs.Common.{◌≡◌, ◌≤◌, true, not, ◌==◌, length, rules, refl, ap, sym, subst}
use Rattle.std.proofs.lemmas.Fn.{filter_same}
use Rattle.sky_txid.specs.Ids.{contains}
use Rattle.sky_trans.specs.Trans.{TransView}
use Rattle.sky_state.specs.Views.{RowStateView}
use Rattle.sky_state.proofs.Owning.{owned-work_end, within-kept}
use Rattle.sky_state.proofs.WorkLemmas.{work_aborted-as}
use Rattle.sky_state.proofs.row_state.RowState.aborted_work.Goals as goal

pub abort-requires : goal.abort-requires
abort-requires c = c.self.invariant.1.0.works c.args.txid (subst (λ (v : RowStateView). contains c.args.txid v.workers ≡ true) (sym c.self.view_is) c.requires)

pub invariant_of-self : goal.invariant_of-self
invariant_of-self c =
    let kept = filter_same _ (λ u. not (u == c.args.txid)) _ (λ t b f' called. search rules) _ _ c.retain.ensures.filtered in
    let listed = subst (λ (v : RowStateView). contains c.args.txid v.workers ≡ true) (sym c.self.view_is) c.requires in (
      subst (λ names. (length names ≤ 64) × (length c.self.inside.read_only.items ≡ length names)) (sym c.forget_all.ensures.names) c.self.invariant.0,
      (
        owned-work_end _ _ _ _ _ c.args.txid (ap (λ (v : TransView). v.running) c.abort.ensures) kept listed c.self.invariant.1.0,
        within-kept _ _ _ _ (ap length c.forget_all.ensures.names) refl c.self.invariant.1.1,
      ),
    )

pub returns : goal.returns
returns c =
    let kept = filter_same _ (λ u. not (u == c.args.txid)) _ (λ t b f' called. search rules) _ _ c.retain.ensures.filtered in
    work_aborted-as _ _ c.abort.new.self _ _ c.end.new.self c.args.txid c.self.view_is c.abort.ensures kept c.forget_all.ensures.names c.forget_all.ensures.columns c.forget_all.ensures.versions
    c.end.ensures
