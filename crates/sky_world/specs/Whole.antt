-- What holds of the state of a world as long as memory hasn't run out.
use Rattle.std.specs.Prelude.{◌≡◌, ℕ, List, None, All, length}
use Rattle.sky_model.specs.State.{Database}
use Rattle.sky_model.specs.Settling.{ready}
use Rattle.sky_model.specs.DatabaseSteps.{IsMade}
use Rattle.sky_store.specs.Waiters.{WaitersWithin}
use Rattle.sky_world.specs.Views.{StateView}

-- of one of its databases, by how many sessions there are: each that waits is one of them, none that waits may resume, and calls in form have made the
-- database
pub record IsWholeIn (sessions : ℕ) (d : Database) : Type 0 where
  pub waiters : WaitersWithin sessions d.part.waiting
  pub rests : ready d.part ≡ None
  pub made : IsMade d

-- of each of them
pub record AreWhole {D : Type 0} (seen : D → Database) (sessions : ℕ) (stores : List D) : Type 0 where
  pub each : All (λ d. IsWholeIn sessions (seen d)) stores

abbrev pub IsWhole : {D : Type 0} → (D → Database) → StateView D → Type 0
IsWhole seen s = AreWhole seen (length s.sessions.names) s.databases.values
