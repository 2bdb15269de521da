-- What calls, one after another, leave.
use Rattle.std.proofs.Common.{List, [], ◌∷◌, ◌++◌, refl, sym, ◌∙◌, ap, subst}
use Rattle.sky_model.specs.State.{Database}
use Rattle.sky_model.specs.StepNode.{NodeCall, node_does}
use Rattle.sky_model.specs.Daemon.{quietly}
use Rattle.sky_model.specs.DatabaseCalls.{served}
use Rattle.sky_model.specs.DatabaseSteps.{IsMade}
use Rattle.sky_histories.proofs.MadeCopies.{made-after}
use Rattle.sky_store.specs.Served.{Serves}
use Rattle.sky_store.proofs.Serving.{serves-steps}
use Rattle.londiste_batches.specs.Moved.{after_call, after_calls, AllAccepted, ServesAll}

-- no call
pub serves-none : (d : Database) → ServesAll d d []
serves-none d = record { accepted = tt; changed = refl }

-- one call
pub serves-one : (old new : Database) (call : NodeCall) → Serves old new call → ServesAll old new (call ∷ [])
serves-one old new call serves = record { accepted = (serves.accepted, tt); changed = serves.changed }

-- one call, and then others
pub serves-then : (old middle new : Database) (call : NodeCall) (calls : List NodeCall) → Serves old middle call → ServesAll middle new calls → ServesAll old new (call ∷ calls)
serves-then old middle new call calls first rest = record {
  accepted = (first.accepted, subst (λ d. AllAccepted d calls) first.changed rest.accepted);
  changed = rest.changed ∙ ap (λ d. after_calls d calls) first.changed;
}

-- calls, and then others
pub serves-append : (old middle new : Database) (calls others : List NodeCall) → ServesAll old middle calls → ServesAll middle new others → ServesAll old new (calls ++ others)
serves-append old middle new [] others first rest = subst (λ d. ServesAll d new others) first.changed rest
serves-append old middle new (call ∷ calls) others first rest =
    let whole : ServesAll (after_call old call) new (calls ++ others)
    = serves-append (after_call old call) middle new calls others (record { accepted = first.accepted.1; changed = first.changed }) rest in
    record { accepted = (first.accepted.0, whole.accepted); changed = whole.changed }

-- a database that calls in form have made is one also after such a call
pub made-served : (old new : Database) (call : NodeCall) → IsMade old → Serves old new call → IsMade new
made-served old new call made serves = made-after old new (served call) (quietly (node_does old call)) made tt (serves-steps old new call serves)

pub made-served_all : (old new : Database) (calls : List NodeCall) → IsMade old → ServesAll old new calls → IsMade new
made-served_all old new [] made serves = subst IsMade (sym serves.changed) made
made-served_all old new (call ∷ calls) made serves =
    made-served_all (after_call old call) new calls (made-served old (after_call old call) call made (record { accepted = serves.accepted.0; changed = refl }))
    (record { accepted = serves.accepted.1; changed = serves.changed })
