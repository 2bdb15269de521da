-- What a method of the world does that answers nothing, by what the world showed.
use Rattle.std.specs.Prelude.{◌≡◌}
use Rattle.sky_model.specs.World.{after_facts}
use Rattle.sky_model.specs.Reader.{Deed}
use Rattle.sky_model.specs.State.{Database}
use Rattle.sky_world.specs.Views.{StateView}
use Rattle.sky_world.specs.Seen.{seen_state}
use Rattle.sky_world.specs.Whole.{IsWhole}

-- the world is then as after the deed's facts, with the same sessions and databases, at the same moment, and whole
pub record Works {D : Type 0} (seen : D → Database) (old new : StateView D) (deed : Deed) : Type 0 where
  pub changed : seen_state seen new ≡ after_facts (seen_state seen old) deed.facts
  pub now : new.now ≡ old.now
  pub sessions : new.sessions.names ≡ old.sessions.names
  pub databases : new.databases.names ≡ old.databases.names
  pub whole : IsWhole seen new
