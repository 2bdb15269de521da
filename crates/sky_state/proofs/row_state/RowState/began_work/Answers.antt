use Rattle.std.proofs.Common.{ap, sym, ◌∙◌, ◌++◌, ◌∷◌, []}
use Rattle.sky_trans.specs.Trans.{TransView}
use Rattle.sky_state.proofs.Owning.{owned-work}
use Rattle.sky_state.proofs.row_state.RowState.began_work.Goals as goal

pub invariant_of-self-2 : goal.invariant_of-self-2
invariant_of-self-2 c = (
  c.self.invariant.0,
  (
    owned-work _ _ _ _ _ c.in_ok-txid.txid (ap (λ (v : TransView). v.running) c.in_ok-txid.ensures.ok ∙ ap (λ t. c.self.inside.trans.running ++ t ∷ []) (sym c.in_ok-txid.ensures.id))
        (c.push_reserved.ensures.items ∙ ap (λ ids. ids ++ c.in_ok-txid.txid ∷ []) c.in_ok-reserve.ensures.items) c.in_ok-txid.ensures.fresh c.self.invariant.1.0,
    c.self.invariant.1.1,
  ),
)
