-- What a database does for nodes, its own and those of other databases. Each definition that takes the database `d` reads it as it is.
use Rattle.std.specs.Prelude.{ℕ, ℤ, List, [], ◌∷◌, ◌++◌, Bool, false, true, not, ◌&&◌, Option, Some, None, option_map, option_and_then, unwrap_or, is_some, is_none, nat_le, length, if◌then◌else◌}
use Rattle.sky_urlenc.specs.RowEvents.{Trigger}
use Rattle.sky_names.specs.Places.{place_of}
use Rattle.sky_val.specs.declared.val.Val.{Val}
use Rattle.sky_val.specs.declared.event.Event.{Event}
use Rattle.sky_txid.specs.Snapshot.{SnapshotView}
use Rattle.londiste_state.specs.declared.state.TableState.{TableState}
use Rattle.londiste_state.specs.declared.state.TableState.TheVariants.{InCopy}
use Rattle.londiste_state.specs.Moves.{is_allowed}
use Rattle.londiste_state.specs.Nodes.{Node, of_root, of_leaf, is_among, table_of}
use Rattle.sky_model.specs.declared.reply.Reply.TheVariants.{Done, Number, Null}
use Rattle.sky_model.specs.declared.reply.Limit.TheVariants.{Consumers, Queues, Triggers}
use Rattle.sky_model.specs.declared.reply.Refusal.TheVariants.{ConsumerExists, QueueExists, TableBusy, TooMany}
use Rattle.sky_model.specs.Limits.{most_of}
use Rattle.sky_model.specs.History.{Batch, Pick, of_worker, began, ended, tabled, read_only, queued, made, unregistered, closed, traced, untraced, noded, root_made, set_added, set_removed, joined, parted, leaf_made, leaf_added, leaf_removed, state_set}
use Rattle.sky_model.specs.Queues.{queue_number, Tick, tick}
use Rattle.sky_model.specs.Nodes.{is_root, is_leaf, set_tables, leaf_tables}
use Rattle.sky_model.specs.Triggers.{triggers_of}
use Rattle.sky_model.specs.Copies.{copy_txid}
use Rattle.sky_model.specs.Consumers.{Subscription}
use Rattle.sky_model.specs.State.{Database}
use Rattle.sky_model.specs.ShownRows.{least_writer}
use Rattle.sky_model.specs.OwnTransaction.{next_id}
use Rattle.sky_model.specs.Outcome.{Outcome, Checked, ◌>>=◌, ◌>>◌, refused_if, refused_by, answers, does_marks}
use Rattle.sky_model.specs.StepQueue.{newest_id}
use Rattle.sky_model.specs.StepConsumer.{registers, takes_batch}
use Rattle.sky_model.specs.StepCopy.{begins_copy, copies_rows, ends_copy, given_up, holds_snapshot, lets_go}
use Rattle.sky_model.specs.StepApply.{may_apply, applies_batch}

-- the root of a set is made, with the set's queue, by a worker's transaction, which takes an id and ends at once
abbrev pub makes_root : Database → ℤ → (name queue : List ℕ) → Checked Outcome
makes_root d now name queue = do
  refused_if (is_some (queue_number queue d.queues)) (QueueExists queue)
  refused_if (nat_le (most_of Queues) (length d.queues)) (TooMany Queues)
  t ← next_id d.part
  does_marks Done (began of_worker t ∷ ended of_worker t true ∷ queued (made queue t now) ∷ noded (root_made name queue) ∷ [])

-- the queue of a node's set, if it is a root
abbrev pub set_queue_of : Database → Option Node → Option ℕ
set_queue_of d (Some (of_root r)) = queue_number r.queue d.queues
set_queue_of d _ = None

-- the queue of the set of a database's node
abbrev pub set_queue : Database → Option ℕ
set_queue d = set_queue_of d d.node

-- whether the set's queue has as many consumers as it may, and none of them is this one
abbrev pub is_full : Database → List ℕ → Bool
is_full d consumer =
    unwrap_or (option_map (λ queue. nat_le (most_of Consumers) (length (d.queue queue).members) && not (is_some ((d.queue queue).sub consumer))) (set_queue d)) false

-- whether a consumer is registered at the set's queue
abbrev pub has_joined : Database → List ℕ → Bool
has_joined d consumer = unwrap_or (option_map (λ queue. is_some ((d.queue queue).sub consumer)) (set_queue d)) false

-- the snapshot of a tick of the set's queue, if it keeps the tick
abbrev pub snapshot_of_tick : Database → (id : ℕ) → Option SnapshotView
snapshot_of_tick d id = option_and_then (λ queue. option_map Tick.snapshot (tick id (d.queue queue).tick_list)) (set_queue d)

-- a consumer of a leaf is registered at the queue, at its newest tick, which is the answer
abbrev pub joins : Database → (queue : ℕ) → List ℕ → Checked Outcome
joins d queue consumer = do
  refused_if (is_some ((d.queue queue).sub consumer)) (ConsumerExists consumer)
  registering ← registers d queue consumer (newest_id (d.queue queue))
  does_marks (Number (newest_id (d.queue queue))) (registering.marks ++ noded (joined consumer) ∷ [])

-- it leaves, if it is there
abbrev pub parts : (queue : ℕ) → List ℕ → Option Subscription → Checked Outcome
parts queue consumer None = answers Null
parts queue consumer (Some sub) = does_marks Done (queued (unregistered queue consumer sub.id) ∷ noded (parted consumer) ∷ [])

-- the trigger of a set: its events go to the set's queue
abbrev pub set_trigger : ℕ → Trigger
set_trigger queue = record { queue = queue; backup = false; ignored = [] }

-- a table joins the set of a root: the set's trigger records its writes from now on
abbrev pub lists : Database → (queue table : ℕ) → List ℕ → Checked Outcome
lists d queue table name = do
  refused_if (nat_le (most_of Triggers) (length (triggers_of table d.triggers))) (TooMany Triggers)
  refused_by (option_map TableBusy (least_writer d.part table))
  does_marks Done (noded (set_added name) ∷ queued (traced table None (set_trigger queue)) ∷ [])

-- it leaves
abbrev pub unlists : (table : ℕ) → List ℕ → Checked Outcome
unlists table name = does_marks Done (noded (set_removed name) ∷ queued (untraced table) ∷ [])

-- a table joins a leaf: sessions may not write it from now on
abbrev pub adds : Database → (table : ℕ) → List ℕ → Checked Outcome
adds d table name = do
  refused_by (option_map TableBusy (least_writer d.part table))
  does_marks Done (noded (leaf_added name) ∷ tabled (read_only table true) ∷ [])

-- it leaves: a copy of it that runs is given up
abbrev pub removes : Database → (table : ℕ) → List ℕ → Checked Outcome
removes d table name = does_marks Done (given_up table name (copy_txid table d.copies) ++ noded (leaf_removed name) ∷ tabled (read_only table false) ∷ [])

-- it goes into a state: a copy of it that runs is given up
abbrev pub moves_table : Database → (table : ℕ) → List ℕ → TableState → Checked Outcome
moves_table d table name state = does_marks Done (given_up table name (copy_txid table d.copies) ++ noded (state_set name state) ∷ [])

-- what a database does for a node, its own or another's
pub data NodeCall : Type 0 where
  -- a leaf's consumer joins the queue of the database's set; it leaves
  joining : (consumer : List ℕ) → NodeCall
  parting : (consumer : List ℕ) → NodeCall
  -- it takes its next batch; one is finished
  fetching : (consumer : List ℕ) → NodeCall
  finishing : (batch : ℕ) → NodeCall
  -- the database gets a root, with its queue, at a time; it gets a leaf
  making_root : (name queue : List ℕ) (now : ℤ) → NodeCall
  making_leaf : (name provider : List ℕ) (tick : ℕ) → NodeCall
  -- a table joins the leaf; it leaves; it goes into a state. A copy of it that runs is given up when it leaves, or goes into a state
  adding : (table : List ℕ) → NodeCall
  removing : (table : List ℕ) → NodeCall
  moving : (table : List ℕ) (state : TableState) → NodeCall
  -- a table joins the set; it leaves
  listing : (table : List ℕ) → NodeCall
  unlisting : (table : List ℕ) → NodeCall
  -- the copy of a table of the leaf begins; it goes on with rows; it ends, with the rows under a snapshot and its consumer at a tick; it is given up
  beginning_copy : (table : List ℕ) → NodeCall
  copying_rows : (table : List ℕ) (rows : List (List Val)) → NodeCall
  ending_copy : (table : List ℕ) (snapshot : SnapshotView) (tick : ℕ) → NodeCall
  giving_up_copy : (table : List ℕ) → NodeCall
  -- the events of a batch that are picked are applied to the tables of the leaf, up to a tick
  applying : (events : List Event) (pick : Pick) (tick : ℕ) → NodeCall
  -- the present snapshot is held; one that is held is let go
  holding : NodeCall
  letting_go : (hold : ℕ) → NodeCall

-- what is done with something, if it is there
abbrev pub if_there : {A : Type 0} → Option A → (A → Checked Outcome) → Checked Outcome
if_there None next = answers Null
if_there (Some a) next = next a

-- a batch is finished
abbrev pub closes : Batch → Checked Outcome
closes batch = does_marks Done (queued (closed batch) ∷ [])

-- the table of a name
abbrev pub table_number : Database → List ℕ → Option ℕ
table_number d name = place_of name d.part.tables

-- whether a table of a leaf may go into a state
abbrev pub may_move : List ℕ → TableState → Option Node → Bool
may_move table state (Some (of_leaf l)) = unwrap_or (option_map (λ t. is_allowed t.state state) (table_of table l)) false
may_move table state _ = false

-- whether a state is that of a table that is being copied
abbrev pub is_in_copy : TableState → Bool
is_in_copy InCopy = true
is_in_copy state = false

-- whether a table of a leaf is in that state
abbrev pub may_copy : List ℕ → Option Node → Bool
may_copy table (Some (of_leaf l)) = unwrap_or (option_map (λ t. is_in_copy t.state) (table_of table l)) false
may_copy table n = false

-- whether a call is one for a database whose node is this: it gets a root or a leaf if it has no node; a table joins a set or a leaf that doesn't have it yet,
-- leaves one that has it, goes only into a state that its own allows, and is copied only in the state for it; a leaf applies a batch, to one table only if
-- that was copied; any other call is one for each database
abbrev pub may_serve : NodeCall → Option Node → Bool
may_serve (making_root name queue now) n = is_none n
may_serve (making_leaf name provider tick) n = is_none n
may_serve (adding table) n = is_leaf n && not (is_among table (leaf_tables n))
may_serve (removing table) n = is_among table (leaf_tables n)
may_serve (moving table state) n = may_move table state n
may_serve (listing table) n = is_root n && not (is_among table (set_tables n))
may_serve (unlisting table) n = is_among table (set_tables n)
may_serve (beginning_copy table) n = may_copy table n
may_serve (copying_rows table rows) n = may_copy table n
may_serve (ending_copy table snapshot tick) n = may_copy table n
may_serve (giving_up_copy table) n = may_copy table n
may_serve (applying events pick tick) n = may_apply pick n
may_serve _ n = true

-- what a call for a node does, if it is one for this database
abbrev pub call_form : Database → NodeCall → Checked Outcome
call_form d (joining consumer) = if_there (set_queue d) (λ queue. joins d queue consumer)
call_form d (parting consumer) = if_there (set_queue d) (λ queue. parts queue consumer ((d.queue queue).sub consumer))
call_form d (fetching consumer) =
    if_there (set_queue d) (λ queue. if_there ((d.queue queue).sub consumer) (λ sub. takes_batch d queue consumer sub sub.active))
call_form d (finishing batch) = if_there (d.batch batch) closes
call_form d (making_root name queue now) = makes_root d now name queue
call_form d (making_leaf name provider tick) = does_marks Done (noded (leaf_made name provider tick) ∷ [])
call_form d (adding name) = if_there (table_number d name) (λ table. adds d table name)
call_form d (removing name) = if_there (table_number d name) (λ table. removes d table name)
call_form d (moving name state) = if_there (table_number d name) (λ table. moves_table d table name state)
call_form d (listing name) = if_there (set_queue d) (λ queue. if_there (table_number d name) (λ table. lists d queue table name))
call_form d (unlisting name) = if_there (table_number d name) (λ table. unlists table name)
call_form d (beginning_copy name) = if_there (table_number d name) (λ table. begins_copy d table (copy_txid table d.copies))
call_form d (copying_rows name rows) = if_there (table_number d name) (λ table. if_there (copy_txid table d.copies) (λ t. copies_rows d table t rows))
call_form d (ending_copy name snapshot tick) =
    if_there (table_number d name) (λ table. if_there (copy_txid table d.copies) (λ t. ends_copy table t name snapshot tick))
call_form d (giving_up_copy name) = if_there (table_number d name) (λ table. does_marks Done (given_up table name (copy_txid table d.copies)))
call_form d (applying events pick tick) = applies_batch d pick tick events
call_form d holding = holds_snapshot d
call_form d (letting_go hold) = lets_go d hold

-- what it does; nothing if it isn't one for this database
abbrev pub node_does : Database → NodeCall → Checked Outcome
node_does d call = if may_serve call d.node then call_form d call else answers Null
