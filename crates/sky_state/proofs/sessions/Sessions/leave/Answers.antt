use Rattle.std.proofs.Common.{rules, refl, ap}
use Rattle.sky_model.specs.Sessions.{outside}
use Rattle.sky_model.specs.State.{without_sight}
use Rattle.sky_state.specs.Seen.{session_of}
use Rattle.sky_state.proofs.SessionLists.{session-set}
use Rattle.sky_state.proofs.sessions.Sessions.leave.Goals as goal

pub returns-then-who-len : goal.returns-then-who-len
returns-then-who-len c = session-set _ _ c.args.who c.index_mut-session.result.now _ (without_sight outside) (ap session_of c.self.view_is) (search rules) c.index_mut-session.ensures.value refl
