-- The laws on snapshots, at each place of each history that calls make.
use Rattle.std.specs.Prelude.{◌≡◌, ℕ}
use Rattle.sky_txid.specs.Snapshot.{sees}
use Rattle.sky_model.specs.History.{Batch, History}
use Rattle.sky_model.specs.Transactions.{has_ended, has_rolled_back, snapshot}
use Rattle.sky_model.specs.Queues.{events, ticks}
use Rattle.pgq_tables.specs.ById.{by_id}
use Rattle.sky_model.specs.Batches.{batch_events}
use Rattle.sky_model.specs.Selection.{selected_of}
use Rattle.sky_model.specs.HistoryPlaces.{IsPlace}

-- the snapshot at a place sees exactly the transactions that have ended there
abbrev pub SnapshotsSeeWhatHasEnded : Type 0
SnapshotsSeeWhatHasEnded = (p : History) → IsPlace p → (t : ℕ) → sees (snapshot p) t ≡ has_ended p t

-- a batch's events are those that the snapshots of its two ticks select, by id
abbrev pub BatchesAreSelectedBySnapshots : Type 0
BatchesAreSelectedBySnapshots = (p : History) → IsPlace p → (b : Batch) → batch_events p b ≡ by_id (selected_of (has_rolled_back p) (ticks b.queue p) (events b.queue p) b)
