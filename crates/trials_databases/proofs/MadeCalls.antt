-- Calls in form have made the database of a leaf, unless memory ran out.
use Rattle.std.proofs.Common.{◌≡◌, ℕ, List, Bool, true, false, Some, Result, Ok, Err, IfErr, is_err, refl, sym, subst}
use Rattle.std.specs.Result.{OnOk}
use Rattle.sky_val.specs.declared.event.Event.{Event}
use Rattle.sky_model.specs.State.{Database}
use Rattle.sky_model.specs.Settling.{Turn}
use Rattle.sky_model.specs.Daemon.{quietly}
use Rattle.sky_model.specs.History as history
use Rattle.sky_model.specs.StepNode.{applying, node_does, table_number}
use Rattle.sky_model.specs.DatabaseCalls.{DatabaseCall, IsDatabaseCallInForm, served}
use Rattle.sky_model.specs.DatabaseSteps.{DatabaseSteps, IsMade}
use Rattle.sky_histories.proofs.MadeCopies.{made-after}
use Rattle.londiste_calls.specs.declared.faults.ApplyFault.{ApplyFault}
use Rattle.londiste_calls.specs.declared.faults.ApplyFault.TheVariants as fault
use Rattle.sky_store.specs.Applying.{ApplyRefused}
use Rattle.trials_databases.specs.Views.{ReplicaView}

-- after one more call, unless it failed, as a test says
pub made-unless : {A E : Type 0} → (result : Result A E) (test : Bool) (old new : Database) (call : DatabaseCall) (turn : Turn) → IsMade old → IsDatabaseCallInForm call
    → OnOk result (DatabaseSteps old new call turn) → test ≡ is_err result → test ≡ false → IsMade new
made-unless (Ok a) test old new call turn made form steps same whole = made-after old new call turn made form steps
made-unless (Err e) test old new call turn made form steps same whole = absurd (cc)

-- after a batch, unless memory ran out, as a test says
pub made-applied : (result : Result ℕ ApplyFault) (test : Bool) (old new : Database) (events : List Event) (pick : history.Pick) (tick : ℕ) → IsMade old
    → OnOk result (DatabaseSteps old new (served (applying events pick tick)) (quietly (node_does old (applying events pick tick)))) → IfErr result (λ f. ApplyRefused f old new events pick tick)
    → (result ≡ Err fault.NoMemory → test ≡ true) → test ≡ false → IsMade new
made-applied (Ok many) test old new events pick tick made steps refused ran whole = made-after old new (served (applying events pick tick)) _ made tt steps
made-applied (Err fault.TxidsSpent) test old new events pick tick made steps refused ran whole = subst IsMade (sym refused.same) made
made-applied (Err (fault.BadEvent id)) test old new events pick tick made steps refused ran whole = made-after old new (served (applying events pick tick)) _ made tt refused.steps
made-applied (Err fault.NoMemory) test old new events pick tick made steps refused ran whole = let out = ran refl in absurd (cc)

-- a table's number, as it is seen and as it is kept
pub number-inside : {D : Type 0} (seen : D → Database) (v now : ReplicaView D) (name : List ℕ) (table : ℕ) → v ≡ now → table_number (seen now.db) name ≡ Some table → table_number (seen v.db) name ≡ Some table
number-inside {D} seen v now name table same number = subst (λ (r : ReplicaView D). table_number (seen r.db) name ≡ Some table) (sym same) number
