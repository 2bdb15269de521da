-- A restart is done for each table of a leaf, since each is in its provider's set.
use Rattle.sky_model.specs.Calls.{past_of}
use Rattle.sky_histories.proofs.Histories.{legal_past}
use Rattle.sky_laws_replicas.specs.LawsOfReplicas.{RestartsBeginAnew}
use Rattle.sky_laws_replicas.proofs.KeptCalls.{kept-past}
use Rattle.sky_laws_replicas.proofs.GivenUp.{is-restarted}
use Rattle.sky_laws_replicas.proofs.LeafTables.{IsOfferedTo, offered-to}

pub restarts_begin_anew : RestartsBeginAnew
restarts_begin_anew calls in_form name table n leaf found is among =
    let t : IsOfferedTo (past_of calls) n.database leaf table = offered-to calls in_form name n leaf table found is among in
    is-restarted (past_of calls) name table n leaf t.provider.p (legal_past calls) (kept-past calls (legal_past calls)) found is among t.found
