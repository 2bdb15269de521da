use Rattle.std.proofs.Common.{Some, ap, sym, ◌∙◌, ◌++◌, ◌∷◌, []}
use Rattle.sky_trans.specs.Trans.{TransView}
use Rattle.sky_model.specs.State.{changed_at, with_txid}
use Rattle.sky_state.proofs.Owning.{owned-begin, owned-kept}
use Rattle.sky_state.proofs.row_state.RowState.began.Goals as goal

pub invariant_of-self : goal.invariant_of-self
invariant_of-self c = (c.self.invariant.0, (owned-kept _ _ _ c.make_room.ensures.same c.self.invariant.1.0, c.self.invariant.1.1))

pub invariant_of-self-2 : goal.invariant_of-self-2
invariant_of-self-2 c = (
  c.self.invariant.0,
  (
    owned-begin _ _ _ _ c.args.who c.in_ok-txid.txid (c.begin_txid.ensures ∙ ap (changed_at c.args.who (with_txid (Some c.in_ok-txid.txid))) c.make_room.ensures.same)
        (ap (λ (v : TransView). v.running) c.in_ok-txid.ensures.ok ∙ ap (λ t. c.self.inside.trans.running ++ t ∷ []) (sym c.in_ok-txid.ensures.id)) c.in_ok-txid.ensures.fresh c.self.invariant.1.0,
    c.self.invariant.1.1,
  ),
)
