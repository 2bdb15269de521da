-- Legal histories: each mark has evidence of why it may be there, so that a law about histories has one line for each kind of mark, and none for each
-- statement.
use Rattle.std.proofs.Common.{◌≡◌, ℕ, ◌+◌, ◌<◌, ◌≤◌, ◌==◌, ℤ, ◌≤ℤ◌, Bool, true, false, is_some, IfSome, All, Contains, List, [], ◌∷◌, Option, Some, None, length, filter, not, ◌++◌, map}
use Rattle.std.specs.List.{list_any}
use Rattle.sky_val.specs.declared.event.Event.{Event}
use Rattle.sky_val.specs.declared.val.Val.{Val}
use Rattle.sky_val.specs.declared.column.Column.{Column}
use Rattle.sky_keys.specs.Waits.{other_than, is_waiting}
use Rattle.sky_txid.specs.Ids.{contains}
use Rattle.sky_val.specs.Schemas.{row_fault, key_columns}
use Rattle.sky_urlenc.specs.RowEvents.{Trigger}
use Rattle.pgq_retry.specs.declared.retry.Retry.{Retry}
use Rattle.pgq_retry.specs.Retries.{is_asked}
use Rattle.sky_names.specs.Places.{place_of}
use Rattle.sky_model.specs.declared.stmt.Set.{Set}
use Rattle.sky_model.specs.declared.stmt.Attempt.{Attempt}
use Rattle.sky_model.specs.declared.stmt.Attempt.TheVariants.{Insertion, Changes, Deletion}
use Rattle.sky_model.specs.History.{Batch, Mark, of_session, of_worker, of_copy, began, ended, block_begun, repeats, sight_taken, block_failed, block_ended, connected, disconnected, tabled, table_made, wrote, waits, waited, read_only, noded, NodeMark, root_made, set_added, set_removed, joined, parted, leaf_made, leaf_added, leaf_removed, state_set, queued, made, raised, put, ticked, registered, moved, unregistered, opened, closed, asked, returned, switching, switched, second_step, configured, dropped, traced, untraced, History, copied, hold_begun}
use Rattle.sky_model.specs.Config.{Config}
use Rattle.sky_model.specs.Transactions.{next_txid, running, workers}
use Rattle.sky_model.specs.Copies.{Copy, copies, is_copied, is_copied_by, is_copys, Hold, holds}
use Rattle.sky_model.specs.Sessions.{has_open, outside, inside, block, own_txid}
use Rattle.sky_model.specs.Rows.{table_names, columns_of, wrote_in, is_read_only, rows, writes as writes_of, has_written}
use Rattle.sky_model.specs.Locks.{holder, waiting}
use Rattle.sky_model.specs.Triggers.{triggers, triggers_of}
use Rattle.sky_model.specs.Nodes.{node, is_leaf}
use Rattle.londiste_state.specs.Nodes.{Node, of_root}
use Rattle.sky_model.specs.Queues.{NamedQueue, queues, queue_number, sequence, events, event_tables, Tick, ticks, tick, newest_tick}
use Rattle.sky_model.specs.Consumers.{consumers, subscription_id, subscription, last_subscription, last_batch, active_batch}
use Rattle.sky_model.specs.Retries.{retries, retried, brought_by}
use Rattle.sky_model.specs.Queues.{id_of}
use Rattle.sky_model.specs.State.{RowPart, part_of, queue_of}
use Rattle.sky_model.specs.StepQueue.{has_part_in}
use Rattle.sky_model.specs.StepConsumer.{floor}
use Rattle.sky_model.specs.StepRotation.{held_by_second_step}
use Rattle.sky_model.specs.ShownRows.{rows_by, least_writer}
use Rattle.sky_model.specs.StepCopy.{row_for}
use Rattle.sky_model.specs.StepNode.{set_trigger, NodeCall, adding, removing, moving, listing, unlisting, may_copy, may_serve}
use Rattle.sky_model.specs.StepRows.{column_called, bad_set, is_key_change}
use Rattle.sky_model.specs.StepTrigger.{has_trigger}
use Rattle.sky_model.specs.LawsOfWrites.{IsRowOf}
use Rattle.sky_model.specs.LawsOfRetries.{ListsEvent}
use Rattle.sky_val.specs.Entries.{at}
use Rattle.sky_model.specs.LawsOfCopies.{IsLeastFree}

-- a queue of this number is among them
abbrev pub IsAmong : ℕ → List NamedQueue → Type 0
IsAmong q queues = list_any (λ x. x.number == q) queues ≡ true

-- a queue of this number stands
abbrev pub IsQueue : History → ℕ → Type 0
IsQueue h q = IsAmong q (queues h)

-- a batch may be made: from the position of its consumer, which has no active one, to the tick with the next id
pub record Opens (h : History) (batch : Batch) : Type 0 where
  pub within : IsQueue h batch.queue
  pub stands : subscription batch.queue batch.consumer h ≡ Some (record { id = batch.sub; position = batch.prev; active = None })
  pub fresh : last_batch h < batch.id
  pub closing : Tick
  pub made : tick (batch.prev + 1) (ticks batch.queue h) ≡ Some closing
  pub to : batch.cur ≡ closing.id

-- a change is of a column of its kind, and of none of the key
abbrev pub ChangeFits : List Column → Set → Type 0
ChangeFits columns set = (bad_set [] set (column_called set.column columns) ≡ None) × (is_key_change columns set ≡ false)

abbrev pub ChangesFit : List Column → List Set → Type 0
ChangesFit columns [] = Unit {0}
ChangesFit columns (set ∷ sets) = ChangeFits columns set × ChangesFit columns sets

-- what is attempted with a key fits the columns and the key
abbrev pub AttemptFits : List Column → List Val → Attempt → Type 0
AttemptFits columns key (Insertion row) = IsRowOf columns key row
AttemptFits columns key (Changes sets) = ChangesFit columns sets
AttemptFits columns key Deletion = row_fault (key_columns columns) key ≡ None

-- a write to a table that exists, and that isn't a leaf's: the old row is the one that is there, and if it is one that the table may have there, so is
-- the new one
pub record Replaces (d : RowPart) (n : Option Node) (who table : ℕ) (key : List Val) (old new : Option (List Val)) : Type 0 where
  pub within : table < length d.tables
  pub writable : is_leaf n ≡ true → d.is_read_only table ≡ false
  pub stands : ((rows_by d).key who table key).standing ≡ old
  pub fits : IfSome old (IsRowOf (d.columns table) key) → IfSome new (IsRowOf (d.columns table) key)

-- a session that has the database open and doesn't wait yet begins to wait for a key of a table that exists, and that isn't a leaf's, with an attempt
-- that fits
pub record MayWait (d : RowPart) (n : Option Node) (who table : ℕ) (key : List Val) (attempt : Attempt) : Type 0 where
  pub within : table < length d.tables
  pub writable : is_leaf n ≡ true → d.is_read_only table ≡ false
  pub fits : AttemptFits (d.columns table) key attempt
  pub quiet : is_waiting who d.waiting ≡ false
  pub is_open : (d.session who).is_open ≡ true

-- an event that was put into a queue, and that an active batch of a subscription of this queue lists, is to be retried for this subscription, for
-- which none with its id waits
pub record Asks (h : History) (consumer : List ℕ) (source : Event) (retry : Retry) : Type 0 where
  pub registered : subscription_id retry.queue consumer h ≡ Some retry.sub
  pub stored : Contains (events retry.queue h) source
  pub copied : retry.event ≡ retried retry.sub source
  pub listed : ListsEvent h retry source
  pub fresh : is_asked retry.sub retry.event.ev_id (retries h) ≡ false

-- ---- workers

-- the transactions of workers that run and end in the step in which they began: those of copies aren't among them
abbrev pub brief : History → List ℕ
brief [] = []
brief (began of_worker t ∷ h) = brief h ++ t ∷ []
brief (ended of_worker t committed ∷ h) = filter (λ u. not (u == t)) (brief h)
brief (_ ∷ h) = brief h

-- a worker's transaction runs, and is no copy's
pub record IsWork (h : History) (t : ℕ) : Type 0 where
  pub works : contains t (workers h) ≡ true
  pub apart : is_copys t (copies h) ≡ false

-- and ends in the step in which it began
pub record IsBrief (h : History) (t : ℕ) : Type 0 where
  pub work : IsWork h t
  pub brief : contains t (brief h) ≡ true

-- the copy of a table may begin: the table is one of a leaf, in the state for it, no copy of it runs, and no running transaction has written it
pub record MayCopy (h : History) (table : ℕ) : Type 0 where
  pub name : List ℕ
  pub there : place_of name (table_names h) ≡ Some table
  pub may : may_copy name (node h) ≡ true
  pub leaf : is_leaf (node h) ≡ true
  pub guarded : is_read_only table h ≡ true
  pub alone : is_copied table (copies h) ≡ false
  pub unwritten : least_writer (part_of h) table ≡ None

-- each row of a table is under a key that a transaction has written
abbrev pub Covers : History → (table t : ℕ) → Type 0
Covers h table t = (key : List Val) → is_some (at key (rows table h)) ≡ true → has_written key (writes_of table t h) ≡ true

-- the copy that runs in this transaction may end: it commits only once it has written all keys that have rows
pub record MayEndCopy (h : History) (table t : ℕ) (committed : Bool) : Type 0 where
  pub runs : is_copied_by table t (copies h) ≡ true
  pub whole : committed ≡ true → Covers h table t

-- the copy of the table of a name has just committed
pub record JustCopied (h : History) (name : List ℕ) : Type 0 where
  pub below : History
  pub table : ℕ
  pub t : ℕ
  pub last : h ≡ ended (of_copy table) t true ∷ below
  pub there : place_of name (table_names below) ≡ Some table

-- it may write a row, as its transaction: the old row is the one that is there for it, and the new one is one that the table may have there
pub record CopiesRow (d : RowPart) (running : List Copy) (table t : ℕ) (key : List Val) (old new : Option (List Val)) : Type 0 where
  pub within : table < length d.tables
  pub runs : is_copied_by table t running ≡ true
  pub stands : row_for d table t key ≡ old
  pub fits : IfSome new (IsRowOf (d.columns table) key)

-- a worker's transaction that ends in the step in which it began may write a row of a table: the table is one of a leaf, no copy of it runs, and no
-- other running transaction has written it; the old row is the one that is there for it, and the new one is one that the table may have there
pub record AppliesRow (h : History) (table t : ℕ) (key : List Val) (old new : Option (List Val)) : Type 0 where
  pub within : table < length (table_names h)
  pub leaf : is_leaf (node h) ≡ true
  pub guarded : is_read_only table h ≡ true
  pub uncopied : is_copied table (copies h) ≡ false
  pub brief : IsBrief h t
  pub alone : (u : ℕ) → contains u (running h) ≡ true → (t == u) ≡ false → wrote_in table u h ≡ false
  pub stands : row_for (part_of h) table t key ≡ old
  pub fits : IfSome new (IsRowOf (columns_of table h) key)

-- ---- retries and switches

-- a retry that waits comes back into its queue, which stands, in a worker's transaction; its event has an id that was given there
pub record Returns (h : History) (retry : Retry) (t : ℕ) : Type 0 where
  pub waits : Contains (retries h) retry
  pub works : contains t (workers h) ≡ true
  pub brief : contains t (brief h) ≡ true
  pub stands : IsQueue h retry.queue
  pub given : retry.event.ev_id ≤ sequence retry.queue h

-- the switch of a queue may be pending, and the commit of a running transaction is to make it: none is pending, and nothing holds one back
pub record MaySwitch (h : History) (q t : ℕ) : Type 0 where
  pub within : IsQueue h q
  pub runs : contains t (running h) ≡ true
  pub none : (event_tables q h).pending ≡ None
  pub free : held_by_second_step (queue_of h q) (event_tables q h).second_step ≡ None

-- the second step of a queue's last switch may be made by the newest transaction, which is a worker's
pub record MayEnd (h : History) (q t : ℕ) : Type 0 where
  pub within : IsQueue h q
  pub missing : (event_tables q h).second_step ≡ None
  pub works : contains t (workers h) ≡ true
  pub newest : next_txid h ≡ t + 1

-- ---- nodes

-- the number of the queue of the set of which a database's node is the root
abbrev pub queue_of_set : List NamedQueue → Option Node → Option ℕ
queue_of_set queues (Some (of_root r)) = queue_number r.queue queues
queue_of_set queues _ = None

-- a queue isn't the set's
abbrev pub IsNotSets : History → ℕ → Type 0
IsNotSets h q = IfSome (queue_of_set (queues h) (node h)) (λ set. (set == q) ≡ false)

-- no table is read-only
abbrev pub AllWritable : History → Type 0
AllWritable h = (table : ℕ) → is_read_only table h ≡ false

-- no running transaction has written a table, and no session waits for a key of it
pub record IsUnused (h : History) (table : ℕ) : Type 0 where
  pub unwritten : least_writer (part_of h) table ≡ None
  pub unawaited : All (λ w. (w.table == table) ≡ false) (waiting h)

-- a table may join a set or a leaf, as this call says, and is an unused one of the database
pub record Joins (h : History) (call : NodeCall) (name : List ℕ) : Type 0 where
  pub may : may_serve call (node h) ≡ true
  pub table : ℕ
  pub there : place_of name (table_names h) ≡ Some table
  pub unused : IsUnused h table

-- or leave it, as this call says
pub record Leaves (h : History) (call : NodeCall) (name : List ℕ) : Type 0 where
  pub may : may_serve call (node h) ≡ true
  pub table : ℕ
  pub there : place_of name (table_names h) ≡ Some table

-- or leave a leaf, or go into a state, as this call says, while no copy of it runs
pub record GoesUncopied (h : History) (call : NodeCall) (name : List ℕ) : Type 0 where
  pub may : may_serve call (node h) ≡ true
  pub table : ℕ
  pub there : place_of name (table_names h) ≡ Some table
  pub uncopied : is_copied table (copies h) ≡ false

-- a consumer is registered at the set's queue, or isn't
pub record IsAtSet (h : History) (consumer : List ℕ) (there : Bool) : Type 0 where
  pub queue : ℕ
  pub set : queue_of_set (queues h) (node h) ≡ Some queue
  pub registered : is_some (subscription_id queue consumer h) ≡ there

-- a mark of a node may come next
abbrev pub NodeFits : History → NodeMark → Type 0
NodeFits h (root_made name queue) = (node h ≡ None) × (is_some (queue_number queue (queues h)) ≡ true)
NodeFits h (set_added table) = Joins h (listing table) table
NodeFits h (set_removed table) = Leaves h (unlisting table) table
NodeFits h (joined consumer) = IsAtSet h consumer true
NodeFits h (parted consumer) = IsAtSet h consumer false
NodeFits h (leaf_made name provider tick) = (node h ≡ None) × AllWritable h
NodeFits h (leaf_added table) = Joins h (adding table) table
NodeFits h (leaf_removed table) = GoesUncopied h (removing table) table
NodeFits h (state_set table state) = GoesUncopied h (moving table state) table
NodeFits h (copied table snapshot tick) = JustCopied h table
NodeFits h (hold_begun number) = IsLeastFree number (map Hold.number (holds h))
NodeFits h _ = Unit {0}

-- the last mark is such a one, of the table of this number
pub record IsOfLast (h : History) (mark : List ℕ → NodeMark) (table : ℕ) : Type 0 where
  pub below : History
  pub name : List ℕ
  pub last : h ≡ noded (mark name) ∷ below
  pub there : place_of name (table_names below) ≡ Some table

-- a table of a set gets the trigger into the set's queue as soon as it has joined
pub record IsSets (h : History) (table : ℕ) (trigger : Trigger) : Type 0 where
  pub just_joined : IsOfLast h set_added table
  pub set : queue_of_set (queues h) (node h) ≡ Some trigger.queue
  pub plain : trigger ≡ set_trigger trigger.queue

-- a trigger with a name is into another queue than the set's, and the table has none of its name; one without a name is the set's
abbrev pub MayTrace : History → ℕ → Option (List ℕ) → Trigger → Type 0
MayTrace h table None trigger = IsSets h table trigger
MayTrace h table (Some name) trigger = (has_trigger name (triggers_of table (triggers h)) ≡ false) × IsNotSets h trigger.queue

-- a table becomes read-only as soon as it has joined a leaf, if it is unused, and may be written again as soon as it has left, while no copy of it runs
-- and no running transaction has written it; if there is no node, whoever uses the tables alone decides
pub data MayGuard (h : History) : ℕ → Bool → Type 0 where
  without_node : (table : ℕ) (on : Bool) → node h ≡ None → MayGuard h table on
  at_joining : (table : ℕ) → IsOfLast h leaf_added table → IsUnused h table → MayGuard h table true
  at_leaving : (table : ℕ) → IsOfLast h leaf_removed table → is_copied table (copies h) ≡ false → least_writer (part_of h) table ≡ None → MayGuard h table false

-- ---- all marks

-- the mark may come next
pub data Fine (h : History) : Mark → Type 0 where
  begins : (who : ℕ) → own_txid who h ≡ None → Fine h (began (of_session who) (next_txid h))
  ends : (who t : ℕ) (committed : Bool) → own_txid who h ≡ Some t → Fine h (ended (of_session who) t committed)
  begins_work : Fine h (began of_worker (next_txid h))
  ends_work : (t : ℕ) (committed : Bool) → IsWork h t → Fine h (ended of_worker t committed)
  begins_copy : (table : ℕ) → MayCopy h table → Fine h (began (of_copy table) (next_txid h))
  ends_copy : (table t : ℕ) (committed : Bool) → MayEndCopy h table t committed → Fine h (ended (of_copy table) t committed)
  begins_block : (who : ℕ) → block who h ≡ outside → has_open who h ≡ true → Fine h (block_begun who)
  fails_block : (who : ℕ) → block who h ≡ inside → own_txid who h ≡ None → Fine h (block_failed who)
  ends_block : (who : ℕ) → own_txid who h ≡ None → Fine h (block_ended who)
  connects : (who : ℕ) → has_open who h ≡ false → Fine h (connected who)
  disconnects : (who : ℕ) → is_waiting who (waiting h) ≡ false → block who h ≡ outside → Fine h (disconnected who)
  repeats_block : (who : ℕ) → Fine h (repeats who)
  looks : (who : ℕ) → Fine h (sight_taken who)
  makes_table : (name : List ℕ) (columns : List Column) → place_of name (table_names h) ≡ None → Fine h (tabled (table_made name columns))
  writes : (who t table : ℕ) (key : List Val) (old new : Option (List Val)) → own_txid who h ≡ Some t → other_than who (holder table key h) ≡ None
      → Replaces (part_of h) (node h) who table key old new
      → Fine h (tabled (wrote (of_session who) t table key old new))
  copies_row : (table t : ℕ) (key : List Val) (old new : Option (List Val)) → CopiesRow (part_of h) (copies h) table t key old new
      → Fine h (tabled (wrote (of_copy table) t table key old new))
  applies_row : (table t : ℕ) (key : List Val) (old new : Option (List Val)) → AppliesRow h table t key old new → Fine h (tabled (wrote of_worker t table key old new))
  begins_waiting : (who table : ℕ) (key : List Val) (attempt : Attempt) → MayWait (part_of h) (node h) who table key attempt → Fine h (tabled (waits who table key attempt))
  ends_waiting : (who : ℕ) → Fine h (tabled (waited who))
  makes : (name : List ℕ) (t : ℕ) (time : ℤ) → queue_number name (queues h) ≡ None → Fine h (queued (made name t time))
  raises : (q value : ℕ) → IsQueue h q → sequence q h ≤ value → Fine h (queued (raised q value))
  puts : (who q : ℕ) (event : Event) → IsQueue h q → event.ev_id ≡ sequence q h → own_txid who h ≡ Some event.ev_txid
      → All (λ e. e.ev_id < event.ev_id) (events q h) → Fine h (queued (put q event))
  ticks_next : (q id : ℕ) (time : ℤ) (seq : ℕ) → IsQueue h q → id_of (newest_tick (ticks q h)) < id → id ≡ id_of (newest_tick (ticks q h)) + 1 → Fine h (queued (ticked q id time seq))
  registers : (q : ℕ) (name : List ℕ) (sub tick : ℕ) → IsQueue h q → subscription_id q name h ≡ None → last_subscription h < sub
      → tick ≤ id_of (newest_tick (ticks q h)) → floor (queue_of h q) ≤ tick → length (consumers q h) < 256 → Fine h (queued (registered q name sub tick))
  moves : (q : ℕ) (name : List ℕ) (sub tick : ℕ) → IsQueue h q → subscription_id q name h ≡ Some sub → 1 ≤ tick
      → tick ≤ id_of (newest_tick (ticks q h)) → floor (queue_of h q) ≤ tick → Fine h (queued (moved q name tick))
  unregisters : (q : ℕ) (name : List ℕ) (sub : ℕ) → IsQueue h q → subscription_id q name h ≡ Some sub → Fine h (queued (unregistered q name sub))
  opens : (batch : Batch) → Opens h batch → Fine h (queued (opened batch))
  closes : (batch : Batch) → active_batch batch.id h ≡ Some batch → Fine h (queued (closed batch))
  asks : (consumer : List ℕ) (source : Event) (retry : Retry) → Asks h consumer source retry → Fine h (queued (asked retry))
  puts_back : (retry : Retry) (t : ℕ) → Returns h retry t → Fine h (queued (put retry.queue (brought_by t retry.event)))
  returns : (below : History) (retry : Retry) (t : ℕ) (moment : ℤ) → h ≡ queued (put retry.queue (brought_by t retry.event)) ∷ below → Returns below retry t
      → retry.due ≤ℤ moment → Fine h (queued (returned retry moment))
  begins_switch : (q t : ℕ) → MaySwitch h q t → Fine h (queued (switching q t))
  makes_switch : (q t : ℕ) (time : ℤ) → IsQueue h q → (event_tables q h).pending ≡ Some t → Fine h (queued (switched q time))
  ends_switch : (q t : ℕ) → MayEnd h q t → Fine h (queued (second_step q t))
  configures : (q : ℕ) (config : Config) → IsQueue h q → Fine h (queued (configured q config))
  drops : (q : ℕ) → ((consumer : List ℕ) → subscription_id q consumer h ≡ None) → All (λ t. (t.trigger.queue == q) ≡ false) (triggers h)
      → All (λ t. has_part_in (event_tables q h) t ≡ false) (running h) → IsNotSets h q → Fine h (queued (dropped q))
  traces : (table : ℕ) (name : Option (List ℕ)) (trigger : Trigger) → table < length (table_names h) → IsQueue h trigger.queue
      → MayTrace h table name trigger → Fine h (queued (traced table name trigger))
  untraces : (table : ℕ) → IsOfLast h set_removed table → Fine h (queued (untraced table))
  guards : (table : ℕ) (on : Bool) → MayGuard h table on → Fine h (tabled (read_only table on))
  nodes : (mark : NodeMark) → NodeFits h mark → Fine h (noded mark)

-- these marks may come next, one after another
pub data Chain : History → List Mark → Type 0 where
  done : {h : History} → Chain h []
  more : {h : History} {mark : Mark} {marks : List Mark} → Fine h mark → Chain (mark ∷ h) marks → Chain h (mark ∷ marks)

-- each mark was allowed to come where it came
pub data Legal : History → Type 0 where
  start : Legal []
  next : {h : History} {mark : Mark} → Legal h → Fine h mark → Legal (mark ∷ h)

pub legal-below_mark : {h : History} {mark : Mark} → Legal (mark ∷ h) → Legal h
legal-below_mark (next l f) = l

pub fine_mark : {h : History} {mark : Mark} → Legal (mark ∷ h) → Fine h mark
fine_mark (next l f) = f
