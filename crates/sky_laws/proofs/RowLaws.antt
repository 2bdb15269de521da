-- The law on rows.
use Rattle.sky_model.specs.LawsOfRows.{RowsAreReadUnderSnapshots}
use Rattle.sky_histories.proofs.SnapshotLaws.{legal_place}
use Rattle.sky_histories.proofs.RowSights.{rows-at}

pub rows_are_read_under_snapshots : RowsAreReadUnderSnapshots
rows_are_read_under_snapshots p is who table = rows-at p (legal_place p is) who table
