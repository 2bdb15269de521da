-- The laws on what changes a table of a leaf: when its rows change, how far it has come, and where a batch leads it.
use Rattle.std.specs.Prelude.{◌≡◌, ◌≢◌, ℕ, ◌<◌, ◌^◌, Bool, true, false, List, [], ◌∷◌, ◌++◌, Option, Some, None, Ok, All, ◌||◌, length, option_map, bytes_eq, if◌then◌else◌}
use Rattle.sky_val.specs.declared.event.Event.{Event}
use Rattle.sky_names.specs.Places.{place_of}
use Rattle.sky_txid.specs.Snapshot.{SnapshotView}
use Rattle.londiste_state.specs.declared.state.TableState.{TableState}
use Rattle.londiste_state.specs.declared.state.TableState.TheVariants.{CatchingUp, DoSync}
use Rattle.londiste_state.specs.Nodes.{Node, of_leaf, Leaf, LeafTable, table_of}
use Rattle.sky_model.specs.declared.reply.Reply.TheVariants.{BatchApplied}
use Rattle.sky_model.specs.History.{Batch, Fact, Mark, Whose, of_session, of_worker, of_copy, ended, noded, copied, applied, Pick, of_synced, copy_of, History, Past}
use Rattle.sky_model.specs.Rows.{table_names, columns_of, wrote_in, is_read_only, rows}
use Rattle.sky_model.specs.Queues.{at_tick}
use Rattle.sky_model.specs.Batches.{batch_events}
use Rattle.sky_model.specs.Nodes.{node}
use Rattle.sky_model.specs.State.{database_of}
use Rattle.sky_model.specs.StepNode.{set_queue}
use Rattle.sky_model.specs.Outcome.{Checked}
use Rattle.sky_model.specs.Hands.{BatchHand, batch_in}
use Rattle.sky_model.specs.StepApply.{is_synced, has_synced, picked}
use Rattle.sky_model.specs.LawsOfApplying.{picked_of, IsApplied}
use Rattle.sky_model.specs.BatchMoves.{Follower, events_of_batch}
use Rattle.sky_model.specs.ReplayMoves.{replayer}
use Rattle.sky_model.specs.CopyMoves.{copier}
use Rattle.sky_model.specs.NodesOfWorld.{Located, WorldOutcome, node_called}
use Rattle.sky_model.specs.WorkersOfWorld.{copy_step, londiste_step}
use Rattle.sky_model.specs.World.{World, world_of, history_in, on_top}
use Rattle.sky_model.specs.Promises.{after_all}
use Rattle.sky_model.specs.DatabaseCalls.{DatabaseCall, database_part}
use Rattle.sky_model.specs.HistoryPlaces.{IsPlace}
use Rattle.sky_model.specs.Calls.{Call, past_of}
use Rattle.sky_model.specs.Steps.{IsCallInForm}
use Rattle.sky_laws_changes.specs.Listing.{later_of}
use Rattle.sky_laws_changes.specs.LawsOfChanges.{Give}
use Rattle.sky_laws_synced.specs.Tables.{has_own_tick, tick_of}
use Rattle.sky_laws_synced.specs.LawsOfSynced.{ShowsProvider}
use Rattle.sky_laws_synced.specs.LawsOfProviders.{HasProvider}

-- ---- when rows change, at each place of each history that calls of a database make

-- the rows of a table change only by a mark by which a transaction commits that has written the table
abbrev pub RowsChangeByCommits : Type 0
RowsChangeByCommits = (mark : Mark) (h : History) → IsPlace (mark ∷ h) → (table : ℕ)
    → ((whose : Whose) (t : ℕ) → mark ≡ ended whose t true → wrote_in table t h ≡ false) → rows table (mark ∷ h) ≡ rows table h

-- if it is a session's, it has written no read-only table, and so none of a leaf
abbrev pub SessionsCommitNoReadOnlyTable : Type 0
SessionsCommitNoReadOnlyTable = (who t : ℕ) (h : History) → IsPlace (ended (of_session who) t true ∷ h) → (table : ℕ)
    → is_read_only table h ≡ true → wrote_in table t h ≡ false

-- a mark says that the table of a number was copied
pub record SaysCopied (h : History) (table : ℕ) (mark : Mark) : Type 0 where
  pub name : List ℕ
  pub named : place_of name (table_names h) ≡ Some table
  pub under : SnapshotView
  pub tick : ℕ
  pub is : mark ≡ noded (copied name under tick)

-- if it is a copy's, it has written no other table, and the next mark says that this one was copied
abbrev pub CopiesWriteOwnTables : Type 0
CopiesWriteOwnTables = (n t : ℕ) (h : History) → IsPlace (ended (of_copy n) t true ∷ h) → (table : ℕ) → wrote_in table t h ≡ true → table ≡ n

abbrev pub CopiesSayThatTheyEnd : Type 0
CopiesSayThatTheyEnd = (next : Mark) (n t : ℕ) (h : History) → IsPlace (next ∷ ended (of_copy n) t true ∷ h) → SaysCopied h n next

-- whether a batch that is applied with a pick is one for the table of a name: this is in sync, or it is the one of the pick
abbrev pub is_picked : Pick → List ℕ → Option Node → Bool
is_picked of_synced name (Some (of_leaf l)) = has_synced l name
is_picked of_synced name n = false
is_picked (copy_of table) name n = bytes_eq table name

-- a mark says that a batch was applied that is one for the table of a number
pub record SaysApplied (h : History) (table : ℕ) (mark : Mark) : Type 0 where
  pub name : List ℕ
  pub named : place_of name (table_names h) ≡ Some table
  pub pick : Pick
  pub tick : ℕ
  pub is : mark ≡ noded (applied pick tick)
  pub picks : is_picked pick name (node h) ≡ true

-- if it is a worker's, the next mark says so of each table that it has written
abbrev pub BatchesSayThatTheyAreApplied : Type 0
BatchesSayThatTheyAreApplied = (next : Mark) (t : ℕ) (h : History) → IsPlace (next ∷ ended of_worker t true ∷ h) → (table : ℕ)
    → wrote_in table t h ≡ true → SaysApplied h table next

-- whether a transaction is a session's
abbrev pub is_session : Whose → Bool
is_session (of_session who) = true
is_session whose = false

-- and there is a next mark: if the last one of all that calls have left is a commit of a transaction that has written a table, it is a session's
abbrev pub CommitsAreFollowed : Type 0
CommitsAreFollowed = (calls : List DatabaseCall) (whose : Whose) (t : ℕ) (h : History) → after_all database_part calls ≡ ended whose t true ∷ h
    → (table : ℕ) → wrote_in table t h ≡ true → is_session whose ≡ true

-- ---- how far a table has come, after all calls of the world

-- the snapshot under which a table was copied, and a tick
pub record Reached : Type 0 where
  pub under : SnapshotView
  pub tick : ℕ

-- the snapshot of the last copy of the table of a name, and the tick of the last batch since then that was one for it, or that of its copy
abbrev pub reached : List ℕ → History → Option Reached
reached name [] = None
reached name (noded (copied table under tick) ∷ h) = if bytes_eq table name then Some (record { under = under; tick = tick }) else reached name h
reached name (noded (applied pick tick) ∷ h) =
    if is_picked pick name (node h) then option_map (λ (r : Reached). record r { tick = tick }) (reached name h) else reached name h
reached name (_ ∷ h) = reached name h

-- a leaf's table has come so far
pub record HasReached (h : History) (leaf : Leaf) (t : LeafTable) : Type 0 where
  pub under : SnapshotView
  pub taken : t.snapshot ≡ Some under
  pub is : reached t.name h ≡ Some (record { under = under; tick = tick_of leaf t })

-- so has each that was copied
abbrev pub TablesHaveReachedTheirTicks : Type 0
TablesHaveReachedTheirTicks = (calls : List Call) → All IsCallInForm calls → (let past : Past = past_of calls in
    (d : ℕ) (leaf : Leaf) (name : List ℕ) (t : LeafTable) → node (history_in past d) ≡ Some (of_leaf leaf) → table_of name leaf ≡ Some t
    → (has_own_tick t.state || is_synced t.state) ≡ true → HasReached (history_in past d) leaf t)

-- ---- where a batch leads a table

-- a leaf's table had the rows of its provider's table at the later of the place of its copy's snapshot and that of the tick to which it had come; the
-- events that are picked for it apply to them, and give those that it has at the place `g`: its provider's at the later of that place and that of the
-- closing tick
pub record IsLedOn (h g k : History) (leaf : Leaf) (t : LeafTable) (events : List Event) (closing : ℕ) : Type 0 where
  pub before : ShowsProvider h k leaf t
  pub led : Give (columns_of before.table h) (rows before.table h) events (rows before.table g)
  pub after : rows before.table g ≡ rows before.source (later_of before.held (at_tick before.queue closing k))

-- the step of a leaf's worker `f` applies the batch that it has in hand, and so leads each table on for which the batch is; no other database changes
pub record AppliesBatch (past : Past) (d : ℕ) (leaf : Leaf) (f : Follower) (b : BatchHand) (step : Checked WorldOutcome) : Type 0 where
  pub provider : HasProvider (world_of past) d leaf
  pub events : List Event
  pub of_batch : events ≡ events_of_batch ((world_of past).database provider.database) b.id
  pub outcome : WorldOutcome
  pub done : step ≡ Ok outcome
  pub says : outcome.replies ≡ BatchApplied b.cur (length (picked (node (history_in past d)) f.pick events)) ∷ []
  pub puts : IsApplied (history_in past d) (history_in (on_top past outcome.facts) d) events f.pick b.cur
  pub led : (name : List ℕ) (t : LeafTable) → table_of name leaf ≡ Some t → is_picked f.pick name (node (history_in past d)) ≡ true
      → IsLedOn (history_in past d) (history_in (on_top past outcome.facts) d) (history_in past provider.database) leaf t
      (picked_of (history_in past d) f.pick name events) b.cur
  pub others : (e : ℕ) → e ≢ d → history_in (on_top past outcome.facts) e ≡ history_in past e

-- a batch in hand is not applied yet, and a transaction id is left for it
pub record IsInWork (w : World) (d : ℕ) (f : Follower) (b : BatchHand) (hand : Option BatchHand) : Type 0 where
  pub in_hand : hand ≡ Some b
  pub behind : f.tick < b.cur
  pub unspent : (w.database d).part.next < 2 ^ 62

-- so does the next step of the leaf's own worker
abbrev pub LeavesBatchesLeadOn : Type 0
LeavesBatchesLeadOn = (calls : List Call) → All IsCallInForm calls → (let past : Past = past_of calls in let w : World = world_of past in
    (name : List ℕ) (n : Located) (leaf : Leaf) (b : BatchHand) → node_called w name ≡ Some n → n.node ≡ of_leaf leaf
    → IsInWork w n.database (replayer leaf) b (w.batches n.database) → AppliesBatch past n.database leaf (replayer leaf) b (londiste_step w name))

-- whether a table in a state goes through batches of its own
abbrev pub takes_batches : TableState → Bool
takes_batches CatchingUp = true
takes_batches (DoSync tick) = true
takes_batches state = false

-- and that of the worker of a copy
abbrev pub CopiesBatchesLeadOn : Type 0
CopiesBatchesLeadOn = (calls : List Call) → All IsCallInForm calls → (let past : Past = past_of calls in let w : World = world_of past in
    (name table : List ℕ) (n : Located) (leaf : Leaf) (t : LeafTable) (b : BatchHand) → node_called w name ≡ Some n → n.node ≡ of_leaf leaf
    → table_of table leaf ≡ Some t → takes_batches t.state ≡ true
    → IsInWork w n.database (copier (w.database n.database).node t) b (batch_in (w.hands n.database table))
    → AppliesBatch past n.database leaf (copier (w.database n.database).node t) b (copy_step w name table))

-- where the marks of a leaf's database say that a batch was applied, up to a tick, it was one of its provider's queue; and from an earlier past on, that
-- before the worker's step, it led each table on for which it was
pub record WasApplied (past : Past) (d : ℕ) (g : History) (pick : Pick) (tick : ℕ) : Type 0 where
  pub before : Past
  pub later : List Fact
  pub reaches : past ≡ later ++ before
  -- the leaf, and its provider
  pub leaf : Leaf
  pub is_leaf : node (history_in before d) ≡ Some (of_leaf leaf)
  pub provider : Located
  pub found : node_called (world_of before) leaf.provider ≡ Some provider
  -- the batch
  pub batch : Batch
  pub of_set : set_queue (database_of (history_in before provider.database)) ≡ Some batch.queue
  pub closing : batch.cur ≡ tick
  pub puts : IsApplied (history_in before d) (noded (applied pick tick) ∷ g) (batch_events (history_in before provider.database) batch) pick tick
  pub led : (name : List ℕ) (t : LeafTable) → table_of name leaf ≡ Some t → is_picked pick name (node (history_in before d)) ≡ true
      → IsLedOn (history_in before d) (noded (applied pick tick) ∷ g) (history_in before provider.database) leaf t
      (picked_of (history_in before d) pick name (batch_events (history_in before provider.database) batch)) tick

-- so each batch did that was ever applied
abbrev pub AppliedBatchesLeadOn : Type 0
AppliedBatchesLeadOn = (calls : List Call) → All IsCallInForm calls → (d : ℕ) (later : List Mark) (g : History) (pick : Pick) (tick : ℕ)
    → history_in (past_of calls) d ≡ later ++ noded (applied pick tick) ∷ g → WasApplied (past_of calls) d g pick tick
