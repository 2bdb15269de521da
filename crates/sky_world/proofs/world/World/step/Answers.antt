use Rattle.std.proofs.Common.{List, ℕ, subst}
use Rattle.sky_model.specs.Steps.{Steps}
use Rattle.sky_world.specs.Seen.{seen_world}
use Rattle.sky_world.proofs.Worlds.{added-alone}
use Rattle.sky_world.proofs.world.World.step.Goals as goal

pub returns-clause-steps : goal.returns-clause-steps
returns-clause-steps g c =
    subst (λ (name : List ℕ). Steps (seen_world g.D.Store.seen c.args.self.now) (seen_world g.D.Store.seen c.step_into.new.self) (record { who = name; stmt = c.args.stmt.now }) c.step_into.new.replies) c.as_str.ensures
    (added-alone _ _ _ _ _ c.new-replies.ensures c.in_ok-step_into.ensures.adds).0

pub returns-clause-numbered : goal.returns-clause-numbered
returns-clause-numbered g c = (added-alone _ _ _ _ _ c.new-replies.ensures c.in_ok-step_into.ensures.adds).1

pub returns-clause-times : goal.returns-clause-times
returns-clause-times g c = (added-alone _ _ _ _ _ c.new-replies.ensures c.in_ok-step_into.ensures.adds).2
