-- The laws on workers that go through the batches of a provider's queue, after all calls of the world.
use Rattle.std.specs.Prelude.{◌≡◌, ℕ, ◌+◌, ◌≤◌, true, false, List, Option, Some, None, is_some, IfSome, All}
use Rattle.londiste_state.specs.Nodes.{of_leaf, Leaf, LeafTable, table_of}
use Rattle.sky_model.specs.Consumers.{Subscription}
use Rattle.sky_model.specs.State.{Database}
use Rattle.sky_model.specs.Hands.{BatchHand, batch_in}
use Rattle.sky_model.specs.StepNode.{set_queue, snapshot_of_tick}
use Rattle.sky_model.specs.BatchMoves.{Follower}
use Rattle.sky_model.specs.ReplayMoves.{replayer}
use Rattle.sky_model.specs.CopyMoves.{copier}
use Rattle.sky_model.specs.NodesOfWorld.{Located, node_called}
use Rattle.sky_model.specs.World.{World, world_of}
use Rattle.sky_model.specs.Calls.{Call, past_of}
use Rattle.sky_model.specs.Steps.{IsCallInForm}
use Rattle.sky_laws_synced.specs.Tables.{has_own_tick}

-- a batch in hand is the active one of a subscription, from its position to the next tick; and if it is done, the worker has come to its closing tick
pub record IsActive (p : Database) (queue : ℕ) (sub : Subscription) (f : Follower) (b : BatchHand) : Type 0 where
  pub active : p.batch b.id ≡ Some (record { id = b.id; queue = queue; consumer = f.consumer; sub = sub.id; prev = b.prev; cur = b.cur })
  pub from : b.prev ≡ sub.position
  pub upto : b.cur ≡ sub.position + 1
  pub done : b.is_done ≡ true → f.tick ≡ b.cur

-- a worker's consumer is registered at the set's queue of the provider's database `p`. The tick to which the worker has come is the one at which its
-- subscription is, or the next one, if it has applied a batch that isn't finished yet. The queue keeps this tick
pub record Follows (p : Database) (f : Follower) (hand : Option BatchHand) : Type 0 where
  pub queue : ℕ
  pub sub : Subscription
  pub of_set : set_queue p ≡ Some queue
  pub registered : (p.queue queue).sub f.consumer ≡ Some sub
  pub from : sub.position ≤ f.tick
  pub upto : f.tick ≤ sub.position + 1
  pub kept : is_some (snapshot_of_tick p f.tick) ≡ true
  pub in_hand : IfSome hand (IsActive p queue sub f)

-- so it is for the worker of each leaf
abbrev pub LeavesFollow : Type 0
LeavesFollow = (calls : List Call) → All IsCallInForm calls → (let w : World = world_of (past_of calls) in
    (d : ℕ) (leaf : Leaf) (provider : Located) → (w.database d).node ≡ Some (of_leaf leaf) → node_called w leaf.provider ≡ Some provider
    → Follows (w.database provider.database) (replayer leaf) (w.batches d))

-- and for the worker of the copy of each table that catches up or is handed over, of which the copy's snapshot is kept; and for no other table is a batch
-- in the hand of its copy's worker
pub record CopyFollows (w : World) (d p : ℕ) (leaf : Leaf) (t : LeafTable) : Type 0 where
  pub follows : has_own_tick t.state ≡ true → Follows (w.database p) (copier (w.database d).node t) (batch_in (w.hands d t.name))
  pub others : has_own_tick t.state ≡ false → batch_in (w.hands d t.name) ≡ None
  pub under : has_own_tick t.state ≡ true → is_some t.snapshot ≡ true

abbrev pub CopiesFollow : Type 0
CopiesFollow = (calls : List Call) → All IsCallInForm calls → (let w : World = world_of (past_of calls) in
    (d : ℕ) (leaf : Leaf) (provider : Located) (name : List ℕ) (t : LeafTable) → (w.database d).node ≡ Some (of_leaf leaf) → node_called w leaf.provider ≡ Some provider
    → table_of name leaf ≡ Some t → CopyFollows w d provider.database leaf t)
