-- The laws on the providers of leaves, after all calls of the world.
use Rattle.std.specs.Prelude.{◌≡◌, ◌≢◌, ℕ, List, Some, Ok, All}
use Rattle.londiste_state.specs.Nodes.{Root, of_root, of_leaf, Leaf}
use Rattle.sky_model.specs.History.{batch_in_hand}
use Rattle.sky_model.specs.StepNode.{set_queue}
use Rattle.sky_model.specs.ReplayMoves.{replay_move}
use Rattle.sky_model.specs.NodesOfWorld.{Located, node_called}
use Rattle.sky_model.specs.WorkersOfWorld.{provider_of, moves, londiste_step}
use Rattle.sky_model.specs.World.{World, world_of}
use Rattle.sky_model.specs.Calls.{Call, past_of}
use Rattle.sky_model.specs.Steps.{IsCallInForm}

-- the provider of a leaf of database `d` is found: it is the root of its name, in another database, and its set has a queue
pub record HasProvider (w : World) (d : ℕ) (leaf : Leaf) : Type 0 where
  pub database : ℕ
  pub found : provider_of w leaf ≡ Ok database
  pub root : Root
  pub is_root : (w.database database).node ≡ Some (of_root root)
  pub named : root.name ≡ leaf.provider
  pub queue : ℕ
  pub of_set : set_queue (w.database database) ≡ Some queue
  pub other : database ≢ d

-- so is that of each leaf
abbrev pub LeavesHaveProviders : Type 0
LeavesHaveProviders = (calls : List Call) → All IsCallInForm calls → (let w : World = world_of (past_of calls) in
    (d : ℕ) (leaf : Leaf) → (w.database d).node ≡ Some (of_leaf leaf) → HasProvider w d leaf)

-- `londiste_step NAME` is a move of the worker of the leaf of this name, which is in a database, with that of its provider
pub record StepsWithProvider (w : World) (name : List ℕ) (d : ℕ) (leaf : Leaf) : Type 0 where
  pub provider : HasProvider w d leaf
  pub steps : londiste_step w name ≡ moves w provider.database d (batch_in_hand d) (replay_move (w.database provider.database) (w.database d) leaf (w.batches d))

-- so it is never refused for the leaf's provider
abbrev pub StepsFindProviders : Type 0
StepsFindProviders = (calls : List Call) → All IsCallInForm calls → (let w : World = world_of (past_of calls) in
    (name : List ℕ) (n : Located) (leaf : Leaf) → node_called w name ≡ Some n → n.node ≡ of_leaf leaf → StepsWithProvider w name n.database leaf)
