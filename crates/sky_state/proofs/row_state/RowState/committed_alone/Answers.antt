-- A transaction without a write of a row, whose id no session has afterwards.
use Rattle.std.proofs.Common.{◌≡◌, ◌∙◌, ◌&&◌, ◌==◌, false, not, ap, subst}
use Rattle.sky_txid.specs.Ids.{contains}
use Rattle.sky_state.specs.Seen.{wrote_in}
use Rattle.sky_state.proofs.AloneLemmas.{spent-as}
use Rattle.sky_state.proofs.row_state.RowState.committed_alone.Goals as goal

pub returns : goal.returns
returns c =
    let v = c.self.inside in
    spent-as _ _ c.spend-txid.new.self c.end.new.self c.release.new.self c.args.who c.self.view_is c.requires.single
    (subst (λ u. contains u v.trans.running ≡ false) c.spend-txid.ensures.id c.spend-txid.ensures.fresh) c.spend-txid.ensures.next
    (c.end.ensures ∙ ap (λ u n m. not (u == m) && wrote_in v.writers n m) c.spend-txid.ensures.id) c.release.ensures.held c.release.ensures.waiting
