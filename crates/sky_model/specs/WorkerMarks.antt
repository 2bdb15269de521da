-- What calls do with workers' transactions, which are of no session, and with tables that workers alone write.
use Rattle.std.specs.Prelude.{ℕ, Bool, [], ◌∷◌, Ok, Err, if◌then◌else◌}
use Rattle.sky_txid.specs.Ids.{contains}
use Rattle.sky_model.specs.History.{of_worker, began, ended, tabled, read_only}
use Rattle.sky_model.specs.State.{RowPart}
use Rattle.sky_model.specs.Outcome.{Checked}
use Rattle.sky_model.specs.OwnTransaction.{next_id}
use Rattle.sky_model.specs.Settling.{Turn, rests}

-- one begins with this id, if there is one
abbrev pub begins_with : Checked ℕ → Turn
begins_with (Ok t) = record { answers = []; marks = began of_worker t ∷ [] }
begins_with (Err refusal) = rests

-- one begins with the next id, unless there is none left
abbrev pub beginning : RowPart → Turn
beginning d = begins_with (next_id d)

-- a running one ends; for any other id nothing happens
abbrev pub ending_work : RowPart → ℕ → Bool → Turn
ending_work d t committed = if contains t d.workers then record { answers = []; marks = ended of_worker t committed ∷ [] } else rests

-- sessions may not write a table from now on, or may again
abbrev pub guarding : ℕ → Bool → Turn
guarding table on = record { answers = []; marks = tabled (read_only table on) ∷ [] }
