-- What a method of the world adds to the answers, by what the world showed.
use Rattle.std.specs.Prelude.{◌≡◌, ℕ, ◌<◌, ◌≤◌, List, ◌++◌, All, length}
use Rattle.sky_model.specs.declared.reply.Reply.{Reply}
use Rattle.sky_model.specs.Printed.{HaveMoments}
use Rattle.sky_model.specs.World.{World, after_facts}
use Rattle.sky_model.specs.Reader.{Deed}
use Rattle.sky_model.specs.Calls.{Call}
use Rattle.sky_model.specs.Steps.{Steps}
use Rattle.sky_model.specs.State.{Database}
use Rattle.sky_world.specs.Views.{StateView}
use Rattle.sky_world.specs.Seen.{seen_state}
use Rattle.sky_world.specs.Whole.{IsWhole}

-- the deed's answers come after those that were given before, each of a session that exists, with times that are printed; and the world is then as
-- after the deed's facts, with the same sessions, and whole
pub record AddsDeed {D : Type 0} (seen : D → Database) (old new : StateView D) (before after : List (ℕ × Reply)) (deed : Deed) : Type 0 where
  pub answered : after ≡ before ++ deed.answers
  pub known : All (λ answer. answer.0 < length old.sessions.names) deed.answers
  pub moments : HaveMoments deed.answers
  pub changed : seen_state seen new ≡ after_facts (seen_state seen old) deed.facts
  pub sessions : new.sessions.names ≡ old.sessions.names
  pub whole : IsWhole seen new

-- a call's replies come after those that were given before, each of a session that exists or of one that exceeds the limit, with times that are
-- printed
pub record AddsCall (old new : World) (call : Call) (before after : List (ℕ × Reply)) : Type 0 where
  pub replies : List (ℕ × Reply)
  pub answered : after ≡ before ++ replies
  pub steps : Steps old new call replies
  pub numbered : All (λ answer. answer.0 ≤ length new.sessions) replies
  pub moments : HaveMoments replies
