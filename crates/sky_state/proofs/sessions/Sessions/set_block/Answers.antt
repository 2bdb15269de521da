use Rattle.std.proofs.Common.{◌<◌, length, List, refl, ap, ◌∙◌, sym, subst}
use Rattle.sky_model.specs.State.{with_block}
use Rattle.sky_state.specs.declared.session.Session.{Session}
use Rattle.sky_fits.specs.Blocks.{seen_block}
use Rattle.sky_state.specs.Seen.{session_of}
use Rattle.sky_state.proofs.SessionLists.{session-set}
use Rattle.sky_state.proofs.sessions.Sessions.set_block.Goals as goal

pub returns-clause-ok : goal.returns-clause-ok
returns-clause-ok c =
    session-set _ _ c.args.who c.index_mut.result.now _ (with_block (seen_block c.args.block)) (ap session_of c.self.view_is ∙ c.make_room.ensures.same)
    (subst (λ (s : List Session). c.args.who < length s) (sym c.self.view_is) c.in_ok-make_room.ensures.room) c.index_mut.ensures.value refl
