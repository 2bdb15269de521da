-- The laws on snapshots hold, since each place of a history that calls make is legal.
use Rattle.std.proofs.Common.{List, [], ◌∷◌, ◌++◌, subst}
use Rattle.sky_model.specs.History.{Mark, History}
use Rattle.sky_model.specs.HistoryPlaces.{IsPlace}
use Rattle.sky_model.specs.LawsOfSnapshots.{SnapshotsSeeWhatHasEnded, BatchesAreSelectedBySnapshots}
use Rattle.sky_histories.proofs.Legal.{Legal, legal-below_mark}
use Rattle.sky_histories.proofs.Histories.{legal_calls}
use Rattle.sky_histories.proofs.Snapshots.{sees-snapshot}
use Rattle.sky_histories.proofs.Selecting.{batch_events-by_id}

pub legal-below : (later : List Mark) (p : History) → Legal (later ++ p) → Legal p
legal-below [] p l = l
legal-below (mark ∷ later) p l = legal-below later p (legal-below_mark l)

pub legal_place : (p : History) → IsPlace p → Legal p
legal_place p is = legal-below is.later p (subst Legal is.below (legal_calls is.calls))

pub snapshots_see_what_has_ended : SnapshotsSeeWhatHasEnded
snapshots_see_what_has_ended p is = sees-snapshot p (legal_place p is)

pub batches_are_selected_by_snapshots : BatchesAreSelectedBySnapshots
batches_are_selected_by_snapshots p is = batch_events-by_id p (legal_place p is)
