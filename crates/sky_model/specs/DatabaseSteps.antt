-- What a call of a database promises: its turn, by what the database shows alone, is the one that the definitions give after
-- all calls in form after which the database was as it was, and the database is then as it is after this call too.
use Rattle.std.specs.Prelude.{◌≡◌, ℕ, List, All, Some}
use Rattle.sky_val.specs.declared.event.Event.{Event}
use Rattle.sky_model.specs.State.{Database, database_of}
use Rattle.sky_model.specs.Reader.{shown_in}
use Rattle.sky_model.specs.Settling.{Turn}
use Rattle.sky_model.specs.Promises.{after_all, Promises}
use Rattle.sky_model.specs.DatabaseCalls.{DatabaseCall, IsDatabaseCallInForm, database_part}

abbrev pub DatabaseSteps : (old new : Database) (call : DatabaseCall) (turn : Turn) → Type 0
DatabaseSteps old new call turn = Promises database_part IsDatabaseCallInForm old new call turn

-- the events that a database shows of an active batch are those that the definitions list after all calls in form after which it
-- was as it is
abbrev pub ShowsEvents : Database → (batch : ℕ) → List Event → Type 0
ShowsEvents d batch events = (calls : List DatabaseCall) → All IsDatabaseCallInForm calls → d ≡ database_of (after_all database_part calls)
    → (shown_in (after_all database_part calls)).events batch ≡ Some events

-- a database that calls in form have made: the premise of whatever the laws on histories say of it
pub record IsMade (d : Database) : Type 0 where
  pub calls : List DatabaseCall
  pub in_form : All IsDatabaseCallInForm calls
  pub shown : d ≡ database_of (after_all database_part calls)
