-- The laws on the rows of replicated tables, after all calls of the world.
use Rattle.std.specs.Prelude.{◌≡◌, ℕ, ◌<◌, true, List, Option, Some, None, All, ◌||◌}
use Rattle.sky_names.specs.Places.{place_of}
use Rattle.londiste_state.specs.Nodes.{of_leaf, Leaf, LeafTable, table_of}
use Rattle.sky_model.specs.History.{History, Past}
use Rattle.sky_model.specs.Transactions.{snapshot}
use Rattle.sky_model.specs.Rows.{table_names, columns_of, rows}
use Rattle.sky_model.specs.Queues.{at_tick}
use Rattle.sky_model.specs.Nodes.{node}
use Rattle.sky_model.specs.State.{database_of}
use Rattle.sky_model.specs.Hands.{BatchHand, batch_in}
use Rattle.sky_model.specs.StepNode.{set_queue}
use Rattle.sky_model.specs.BatchMoves.{Follower, events_of_batch}
use Rattle.sky_model.specs.ReplayMoves.{replayer}
use Rattle.sky_model.specs.CopyMoves.{copier}
use Rattle.sky_model.specs.NodesOfWorld.{Located, node_called}
use Rattle.sky_model.specs.World.{World, world_of, history_in}
use Rattle.sky_model.specs.Calls.{Call, past_of}
use Rattle.sky_model.specs.Steps.{IsCallInForm}
use Rattle.sky_laws_changes.specs.Listing.{IsBelow, later_of, StaysListed}
use Rattle.sky_model.specs.StepApply.{is_synced, bad_event}
use Rattle.sky_laws_synced.specs.Tables.{has_own_tick, tick_of}

-- a leaf's table, in the leaf's history `h`, has the rows that its provider's table had, in the provider's history `k`, at the later of the place at which
-- the snapshot of its copy was taken and that of the tick to which it has come; the table was in the provider's set at each place since then
pub record ShowsProvider (h k : History) (leaf : Leaf) (t : LeafTable) : Type 0 where
  pub queue : ℕ
  pub of_set : set_queue (database_of k) ≡ Some queue
  -- the place of the copy's snapshot
  pub held : History
  pub below : IsBelow held k
  pub under : t.snapshot ≡ Some (snapshot held)
  pub listed : StaysListed held k queue t.name
  -- the tables
  pub table : ℕ
  pub named : place_of t.name (table_names h) ≡ Some table
  pub source : ℕ
  pub source_named : place_of t.name (table_names held) ≡ Some source
  pub alike : columns_of table h ≡ columns_of source held
  -- the rows
  pub same : rows table h ≡ rows source (later_of held (at_tick queue (tick_of leaf t) k))
  -- of a table in sync they are those at the place of the leaf's tick
  pub synced : is_synced t.state ≡ true → rows table h ≡ rows source (at_tick queue leaf.tick k)

-- so does each table that was copied: the rows of one in sync are those that its provider's table had at the leaf's tick
abbrev pub ReplicasShowProvider : Type 0
ReplicasShowProvider = (calls : List Call) → All IsCallInForm calls → (let past : Past = past_of calls in let w : World = world_of past in
    (d : ℕ) (leaf : Leaf) (provider : Located) (name : List ℕ) (t : LeafTable) → node (history_in past d) ≡ Some (of_leaf leaf) → node_called w leaf.provider ≡ Some provider
    → table_of name leaf ≡ Some t → (has_own_tick t.state || is_synced t.state) ≡ true → ShowsProvider (history_in past d) (history_in past provider.database) leaf t)

-- the events of a batch in hand can be applied, unless its worker has come to its closing tick: none of those that the worker picks is bad
abbrev pub CanApply : World → (d p : ℕ) → Follower → Option BatchHand → Type 0
CanApply w d p f hand = (b : BatchHand) → hand ≡ Some b → f.tick < b.cur → bad_event (w.database d) f.pick (events_of_batch (w.database p) b.id) ≡ None

-- so it is of the batch that the worker of a leaf has in hand, and of that which the worker of a table's copy has
abbrev pub BatchesCanBeApplied : Type 0
BatchesCanBeApplied = (calls : List Call) → All IsCallInForm calls → (let w : World = world_of (past_of calls) in
    (d : ℕ) (leaf : Leaf) (provider : Located) → (w.database d).node ≡ Some (of_leaf leaf) → node_called w leaf.provider ≡ Some provider
    → CanApply w d provider.database (replayer leaf) (w.batches d))

abbrev pub CopiesBatchesCanBeApplied : Type 0
CopiesBatchesCanBeApplied = (calls : List Call) → All IsCallInForm calls → (let w : World = world_of (past_of calls) in
    (d : ℕ) (leaf : Leaf) (provider : Located) (name : List ℕ) (t : LeafTable) → (w.database d).node ≡ Some (of_leaf leaf) → node_called w leaf.provider ≡ Some provider
    → table_of name leaf ≡ Some t → has_own_tick t.state ≡ true → CanApply w d provider.database (copier (w.database d).node t) (batch_in (w.hands d t.name)))
