-- What calls for nodes promise.
use Rattle.sky_model.specs.State.{Database}
use Rattle.sky_model.specs.StepNode.{NodeCall, node_does}
use Rattle.sky_model.specs.Daemon.{quietly}
use Rattle.sky_model.specs.DatabaseCalls.{served}
use Rattle.sky_model.specs.DatabaseSteps.{DatabaseSteps}
use Rattle.sky_histories.proofs.DatabaseStanding.{database_steps_from_exact}
use Rattle.sky_store.specs.Served.{Serves}

-- one that is served keeps it
pub serves-steps : (old new : Database) (call : NodeCall) → Serves old new call → DatabaseSteps old new (served call) (quietly (node_does old call))
serves-steps old new call serves = database_steps_from_exact old new (served call) serves.changed
