-- Batches that a leaf applies: why one isn't applied.
use Rattle.std.specs.Prelude.{◌≡◌, ℕ, List, Some}
use Rattle.sky_val.specs.declared.event.Event.{Event}
use Rattle.sky_model.specs.declared.reply.Refusal.TheVariants as refusal
use Rattle.sky_model.specs.Daemon.{quietly}
use Rattle.sky_model.specs.DatabaseCalls.{served}
use Rattle.sky_model.specs.DatabaseSteps.{DatabaseSteps}
use Rattle.sky_model.specs.History as history
use Rattle.sky_model.specs.State.{Database}
use Rattle.sky_model.specs.StepApply.{bad_event}
use Rattle.sky_model.specs.StepNode.{applying, node_does}
use Rattle.sky_model.specs.Stops.{Refuses}
use Rattle.londiste_calls.specs.declared.faults.ApplyFault.{ApplyFault}
use Rattle.londiste_calls.specs.declared.faults.ApplyFault.TheVariants as apply
use Rattle.sky_store.specs.Served.{Serves}

-- an event can't be applied: it is the first such one, and the transaction was rolled back, as the call's definition says
pub record IsBad (id : ℕ) (old new : Database) (events : List Event) (pick : history.Pick) (tick : ℕ) : Type 0 where
  pub first : bad_event old pick events ≡ Some id
  pub serves : Serves old new (applying events pick tick)
  pub steps : DatabaseSteps old new (served (applying events pick tick)) (quietly (node_does old (applying events pick tick)))

-- a batch isn't applied, as its call's definition says: if no id is left, nothing has changed; or memory ran out
abbrev pub ApplyRefused : ApplyFault → (old new : Database) → List Event → history.Pick → (tick : ℕ) → Type 0
ApplyRefused apply.TxidsSpent old new events pick tick = Refuses old new refusal.TxidsSpent (node_does old (applying events pick tick))
ApplyRefused (apply.BadEvent id) old new events pick tick = IsBad id old new events pick tick
ApplyRefused apply.NoMemory old new events pick tick = Unit {0}
