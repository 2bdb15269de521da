-- What contracts see of the transactions, sessions, tables and locks of a database, as the code keeps them.
use Rattle.std.specs.Prelude.{ℕ, Bool, List, []}
use Rattle.sky_names.specs.Named.{NamedView}
use Rattle.sky_trans.specs.Trans.{TransView}
use Rattle.sky_rows.specs.Table.{TableView}
use Rattle.sky_locks.specs.Locks.{LocksView}
use Rattle.sky_model.specs.declared.stmt.Attempt.{Attempt}
use Rattle.sky_state.specs.declared.session.Session.{Session}

pub record RowStateView : Type 0 where
  pub trans : TransView
  -- the transactions that run and are workers'
  pub workers : List ℕ
  -- each session at its number; further ones are at rest
  pub sessions : List Session
  pub tables : NamedView TableView
  -- whether sessions may not write a table, at its number
  pub read_only : List Bool
  -- the transactions that have written, each with a number whose bit at a table's number says whether it wrote there
  pub writers : List (ℕ × ℕ)
  pub locks : LocksView
  -- what each session that waits attempts, at its number; further ones don't wait
  pub attempts : List Attempt

-- those of a database in which nothing has happened
abbrev pub no_rows : RowStateView
no_rows = record { trans = record { next = 3; running = [] }; workers = []; sessions = []; tables = record { names = []; values = [] }; read_only = []; writers = []; locks = record { held = []; waiting = []; places = [] }; attempts = [] }
