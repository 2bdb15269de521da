-- The law on rows, at each place of each history that calls make.
use Rattle.std.specs.Prelude.{◌≡◌, ℕ}
use Rattle.sky_keys.specs.Versions.{rows_read}
use Rattle.sky_model.specs.History.{History}
use Rattle.sky_model.specs.Transactions.{snapshot}
use Rattle.sky_model.specs.Sessions.{own_txid, sight, place_of_sight}
use Rattle.sky_model.specs.Rows.{rows_shown}
use Rattle.sky_model.specs.Versions.{versions}
use Rattle.sky_model.specs.HistoryPlaces.{IsPlace}

-- the rows that a session is shown, which are those of the committed transactions at its sight, in the order of their commits, with its own writes on
-- top, are what is read of the kept versions: for each key the own version, or else the newest that the snapshot of the sight sees
abbrev pub RowsAreReadUnderSnapshots : Type 0
RowsAreReadUnderSnapshots = (p : History) → IsPlace p → (who table : ℕ)
    → rows_shown who table p ≡ rows_read (snapshot (place_of_sight p (sight who p))) (own_txid who p) (versions table p)
