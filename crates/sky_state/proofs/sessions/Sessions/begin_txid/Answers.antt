use Rattle.std.proofs.Common.{◌<◌, length, List, Some, refl, ap, sym, subst}
use Rattle.sky_model.specs.State.{with_txid}
use Rattle.sky_state.specs.declared.session.Session.{Session}
use Rattle.sky_state.specs.Seen.{session_of}
use Rattle.sky_state.proofs.SessionLists.{session-set}
use Rattle.sky_state.proofs.sessions.Sessions.begin_txid.Goals as goal

pub returns : goal.returns
returns c =
    session-set _ _ c.args.who c.index_mut.result.now _ (with_txid (Some c.args.txid)) (ap session_of c.self.view_is)
    (subst (λ (s : List Session). c.args.who < length s) (sym c.self.view_is) c.requires) c.index_mut.ensures.value refl
