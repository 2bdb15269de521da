-- The law on events of a set's queue that were retried: none is for a consumer of a leaf.
use Rattle.std.specs.Prelude.{◌≡◌, ℕ, true, List, [], Option, Some, All}
use Rattle.londiste_state.specs.Nodes.{Node, of_root, is_among}
use Rattle.sky_model.specs.History.{History}
use Rattle.sky_model.specs.Queues.{events}
use Rattle.sky_model.specs.Consumers.{subscription_id}
use Rattle.sky_model.specs.Nodes.{node}
use Rattle.sky_model.specs.State.{database_of}
use Rattle.sky_model.specs.StepNode.{set_queue}
use Rattle.sky_model.specs.Promises.{after_all}
use Rattle.sky_model.specs.DatabaseCalls.{DatabaseCall, IsDatabaseCallInForm, database_part}

-- the consumers of leaves at the queue of a set, if the node is its root
abbrev pub set_consumers : Option Node → List (List ℕ)
set_consumers (Some (of_root r)) = r.consumers
set_consumers n = []

-- after all calls of a database, no event of the set's queue has the subscription of such a consumer as its owner
abbrev pub NodesEventsHaveNoOwner : Type 0
NodesEventsHaveNoOwner = (calls : List DatabaseCall) → All IsDatabaseCallInForm calls → (let h : History = after_all database_part calls in
    (queue : ℕ) (consumer : List ℕ) (sub : ℕ) → set_queue (database_of h) ≡ Some queue → is_among consumer (set_consumers (node h)) ≡ true → subscription_id queue consumer h ≡ Some sub
    → All (λ e. e.ev_owner ≡ Some sub → ⊥) (events queue h))
