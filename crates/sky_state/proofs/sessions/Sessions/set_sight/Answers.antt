use Rattle.std.proofs.Common.{◌<◌, length, List, refl, ap, ◌∙◌, sym, subst}
use Rattle.sky_model.specs.State.{with_sight}
use Rattle.sky_state.specs.declared.session.Session.{Session}
use Rattle.sky_state.specs.Seen.{seen_sight, session_of}
use Rattle.sky_state.proofs.SessionLists.{session-set}
use Rattle.sky_state.proofs.sessions.Sessions.set_sight.Goals as goal

pub returns-clause-ok : goal.returns-clause-ok
returns-clause-ok c =
    session-set _ _ c.args.who c.index_mut.result.now _ (with_sight (seen_sight c.args.sight)) (ap session_of c.self.view_is ∙ c.make_room.ensures.same)
    (subst (λ (s : List Session). c.args.who < length s) (sym c.self.view_is) c.in_ok-make_room.ensures.room) c.index_mut.ensures.value refl
