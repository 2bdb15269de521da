-- The places of a history that the laws are about.
use Rattle.std.specs.Prelude.{◌≡◌, List, ◌++◌, All}
use Rattle.sky_model.specs.History.{Mark, History}
use Rattle.sky_model.specs.Promises.{after_all}
use Rattle.sky_model.specs.DatabaseCalls.{DatabaseCall, IsDatabaseCallInForm, database_part}

-- a place: calls of a database, in form, made a history, and this was below what came later
pub record IsPlace (p : History) : Type 0 where
  pub calls : List DatabaseCall
  pub in_form : All IsDatabaseCallInForm calls
  pub later : List Mark
  pub below : after_all database_part calls ≡ later ++ p
