-- The laws on histories: each database of the world has one that its own calls make, and each session has open the one that is its home.
use Rattle.std.specs.Prelude.{◌≡◌, ◌≢◌, ◌↔◌, ℕ, true, List, Some, All}
use Rattle.sky_keys.specs.Waits.{is_waiting}
use Rattle.sky_model.specs.History.{History}
use Rattle.sky_model.specs.Sessions.{outside, has_open, block}
use Rattle.sky_model.specs.Locks.{waiting}
use Rattle.sky_model.specs.World.{home, history_in}
use Rattle.sky_model.specs.Calls.{Call, past_of}
use Rattle.sky_model.specs.Promises.{after_all}
use Rattle.sky_model.specs.DatabaseCalls.{DatabaseCall, IsDatabaseCallInForm, database_part}
use Rattle.sky_model.specs.HistoryPlaces.{IsPlace}
use Rattle.sky_model.specs.Steps.{IsCallInForm}

-- calls of a database make a history, and are in form if these calls are
pub record IsMadeByOwnCalls (calls : List Call) (h : History) : Type 0 where
  pub own_calls : List DatabaseCall
  pub in_form : All IsCallInForm calls → All IsDatabaseCallInForm own_calls
  pub make : after_all database_part own_calls ≡ h

-- what calls of the world make in one database, calls of that database make
abbrev pub HistoriesAreMadeByOwnCalls : Type 0
HistoriesAreMadeByOwnCalls = (calls : List Call) (database : ℕ) → IsMadeByOwnCalls calls (history_in (past_of calls) database)

-- each session has open the database that is its home, and no other
abbrev pub HomesAreOpen : Type 0
HomesAreOpen = (calls : List Call) (who database : ℕ) → (has_open who (history_in (past_of calls) database) ≡ true) ↔ (home (past_of calls) who ≡ Some database)

-- a session that waits has the database open
abbrev pub WaitersHaveOpen : Type 0
WaitersHaveOpen = (p : History) → IsPlace p → (who : ℕ) → is_waiting who (waiting p) ≡ true → has_open who p ≡ true

-- so has one that is in a block
abbrev pub BlocksAreOpen : Type 0
BlocksAreOpen = (p : History) → IsPlace p → (who : ℕ) → block who p ≢ outside → has_open who p ≡ true
