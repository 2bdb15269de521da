-- What the world's methods give on statements that are allowed only outside blocks, by what the world showed.
use Rattle.std.specs.Prelude.{◌≡◌, ℕ, ◌<◌, List, Option, Some, None, Ok, length}
use Rattle.sky_model.specs.declared.reply.Reply.{Reply}
use Rattle.sky_model.specs.Reader.{by_world, Deed}
use Rattle.sky_model.specs.Calls.{allowed_outside, if_outside}
use Rattle.sky_model.specs.State.{Database}
use Rattle.sky_world.specs.Views.{StateView}
use Rattle.sky_world.specs.Seen.{seen_state}
use Rattle.sky_world.specs.Adds.{AddsDeed}
use Rattle.sky_world.specs.Nodes.{Stays}

-- a session may make one in this database, which it has open, and nothing is changed
pub record IsOutside {D : Type 0} (seen : D → Database) (old new : StateView D) (who database : ℕ) : Type 0 where
  pub home : (seen_state seen old).homes who ≡ Some database
  pub allowed : allowed_outside ((seen_state seen old).database database) who ≡ Ok tt
  pub known : who < length new.sessions.names
  pub within : database < length new.databases.names
  pub stays : Stays seen old new

-- it may, and nothing is answered; or whatever such a statement is, it is refused
abbrev pub Enters : {D : Type 0} → (seen : D → Database) → (old new : StateView D) (before after : List (ℕ × Reply)) → ℕ → Option ℕ → Type 0
Enters seen old new before after who (Some database) = IsOutside seen old new who database × (after ≡ before)
Enters seen old new before after who None = (deed : ℕ → Deed) → AddsDeed seen old new before after (if_outside by_world (seen_state seen old) who deed ((seen_state seen old).homes who))
