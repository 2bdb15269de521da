use Rattle.std.proofs.Common.{rules, refl, ap, false}
use Rattle.sky_model.specs.State.{with_open}
use Rattle.sky_state.specs.Seen.{session_of}
use Rattle.sky_state.proofs.SessionLists.{session-set}
use Rattle.sky_state.proofs.sessions.Sessions.disconnect.Goals as goal

pub returns-then-who-len : goal.returns-then-who-len
returns-then-who-len c = session-set _ _ c.args.who c.index_mut.result.now _ (with_open false) (ap session_of c.self.view_is) (search rules) c.index_mut.ensures.value refl
