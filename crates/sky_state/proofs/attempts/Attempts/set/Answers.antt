use Rattle.std.proofs.Common.{◌<◌, length, List, ap, ◌∙◌, sym, subst}
use Rattle.sky_model.specs.declared.stmt.Attempt.{Attempt}
use Rattle.sky_state.specs.Seen.{attempt_of}
use Rattle.sky_state.proofs.AttemptLists.{attempt-set}
use Rattle.sky_state.proofs.attempts.Attempts.set.Goals as goal

pub returns-clause-ok : goal.returns-clause-ok
returns-clause-ok c =
    attempt-set _ _ c.args.who c.args.attempt (ap attempt_of c.self.view_is ∙ c.make_room.ensures.same)
    (subst (λ (a : List Attempt). c.args.who < length a) (sym c.self.view_is) c.in_ok-make_room.ensures.room)
