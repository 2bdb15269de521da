use Rattle.std.proofs.Common.{◌∙◌, ap}
use Rattle.sky_state.specs.Seen.{attempt_of}
use Rattle.sky_state.proofs.AttemptLists.{padded}
use Rattle.sky_state.proofs.attempts.Attempts.make_room.Goals as goal

pub loop-self-init : goal.loop-self-init
loop-self-init c = ap attempt_of c.self.view_is

pub loop-self-preserved : goal.loop-self-preserved
loop-self-preserved c = ap attempt_of c.in_ok-push.ensures.items ∙ padded _ ∙ c.loop-self.invariant

pub returns-clause-same : goal.returns-clause-same
returns-clause-same c = c.loop-self.invariant
