-- What a database shows at a place: all that a statement reads of it, each part by its definition. The code keeps these, and a mark changes them.
use Rattle.std.specs.Prelude.{ℕ, ℤ, ◌+◌, List, [], ◌∷◌, ◌++◌, Bool, true, false, not, ◌&&◌, ◌||◌, Option, Some, None, ◌==◌, bytes_eq, filter, length, option_map, if◌then◌else◌}
use Rattle.sky_val.specs.declared.column.Column.{Column}
use Rattle.sky_val.specs.Entries.{Entries}
use Rattle.sky_keys.specs.Waits.{Holders, taken, released, Waiting, without}
use Rattle.sky_keys.specs.declared.version.Version.{Version}
use Rattle.sky_txid.specs.Snapshot.{SnapshotView, snapshot_of}
use Rattle.sky_keys.specs.Versions.{written, forgotten}
use Rattle.sky_model.specs.declared.stmt.Attempt.{Attempt}
use Rattle.sky_model.specs.declared.stmt.Attempt.TheVariants.{Deletion}
use Rattle.sky_model.specs.History.{Batch, Mark, Whose, of_session, of_worker, of_copy, began, ended, block_begun, repeats, sight_taken, block_failed, block_ended, connected, disconnected, tabled, TableMark, table_made, wrote, waits, waited, read_only, noded, NodeMark, hold_begun, hold_ended, queued, QueueMark, made, raised, put, ticked, registered, moved, unregistered, opened, closed, asked, returned, switching, switched, second_step, configured, dropped, traced, untraced, History}
use Rattle.sky_model.specs.Transactions.{next_txid, running, workers}
use Rattle.pgq_tables.specs.Tables as tables_of
use Rattle.pgq_tables.specs.Tables.{Tables, no_tables, new_tables, with_stored, with_pending, with_second_step}
use Rattle.sky_model.specs.Sessions.{Block, inside, failed, outside, Sight, at_each, at_first, at_place, Session, session}
use Rattle.sky_model.specs.Config.{Config, default_config}
use Rattle.sky_model.specs.Rows.{table_names, columns_of, wrote_in, is_read_only}
use Rattle.sky_model.specs.Versions.{versions}
use Rattle.sky_model.specs.Locks.{holder, waiting, attempt}
use Rattle.sky_model.specs.Triggers.{TableTrigger, but_sets, triggers}
use Rattle.sky_model.specs.Queues.{NamedQueue, queues_made, queues, others_than, config, sequence, event_tables, without_transaction, Tick, kept_ticks, ticks_above, second_step_of}
use Rattle.pgq_retry.specs.declared.retry.Retry.{Retry}
use Rattle.pgq_retry.specs.Retries.{without as without_retry, without_sub}
use Rattle.sky_model.specs.Retries.{retries}
use Rattle.londiste_state.specs.Nodes.{Node, all_but}
use Rattle.sky_model.specs.Nodes.{after_node, node}
use Rattle.sky_model.specs.Copies.{Copy, without_copy, copies, Hold, without_hold, holds}
use Rattle.sky_model.specs.Consumers.{consumers, Subscription, subscription, last_subscription, last_batch, of_another, active_batch}

-- a queue, as a statement reads it
pub record Queue : Type 0 where
  pub config : Config
  pub seq : ℕ
  pub event_tables : Tables
  pub tick_list : List Tick
  pub members : List (List ℕ)
  pub sub : List ℕ → Option Subscription

-- the transactions, sessions, tables and locks of a database, as a statement reads them
pub record RowPart : Type 0 where
  pub next : ℕ
  pub running_ids : List ℕ
  pub workers : List ℕ
  pub session : ℕ → Session
  pub tables : List (List ℕ)
  pub columns : ℕ → List Column
  pub versions : ℕ → Entries (List Version)
  pub wrote_in : (table t : ℕ) → Bool
  pub is_read_only : ℕ → Bool
  pub holder : Holders
  pub waiting : List Waiting
  pub attempt : ℕ → Attempt

-- a database, as a statement reads it
pub record Database : Type 0 where
  pub part : RowPart
  pub last_batch_id : ℕ
  pub last_sub_id : ℕ
  pub queues_made : ℕ
  pub queues : List NamedQueue
  pub queue : ℕ → Queue
  pub batch : ℕ → Option Batch
  pub triggers : List TableTrigger
  pub retries : List Retry
  pub node : Option Node
  pub copies : List Copy
  pub holds : List Hold

abbrev pub queue_of : History → ℕ → Queue
queue_of h q = record {
  config = config q h;
  seq = sequence q h;
  event_tables = event_tables q h;
  tick_list = kept_ticks q h;
  members = consumers q h;
  sub = λ name. subscription q name h;
}

abbrev pub part_of : History → RowPart
part_of h = record {
  next = next_txid h;
  running_ids = running h;
  workers = workers h;
  session = session h;
  tables = table_names h;
  columns = λ n. columns_of n h;
  versions = λ n. versions n h;
  wrote_in = λ n t. wrote_in n t h;
  is_read_only = λ n. is_read_only n h;
  holder = λ n key. holder n key h;
  waiting = waiting h;
  attempt = λ who. attempt who h;
}

abbrev pub database_of : History → Database
database_of h = record {
  part = part_of h;
  last_batch_id = last_batch h;
  last_sub_id = last_subscription h;
  queues_made = queues_made h;
  queues = queues h;
  queue = queue_of h;
  batch = λ id. active_batch id h;
  triggers = triggers h;
  retries = retries h;
  node = node h;
  copies = copies h;
  holds = holds h;
}

-- the same function except at a number
abbrev pub changed_at : {A : Type 0} → ℕ → (A → A) → (ℕ → A) → ℕ → A
changed_at k f g n = if k == n then f (g n) else g n

-- the same function except at a name
abbrev pub changed_for : {A : Type 0} → List ℕ → (A → A) → (List ℕ → A) → List ℕ → A
changed_for name f g n = if bytes_eq n name then f (g n) else g n

-- a subscription that has this batch
abbrev pub with_batch : ℕ → Subscription → Subscription
with_batch batch s = record s { active = Some batch }

-- a subscription that has finished its batch or given it up, with this tick as its position
abbrev pub at_position : ℕ → Subscription → Subscription
at_position tick s = record s { position = tick; active = None }

-- a queue of which nothing is kept but who has registered
abbrev pub emptied : Queue → Queue
emptied q = record q { config = default_config; seq = 0; event_tables = no_tables; tick_list = [] }

-- a queue with its event tables changed
abbrev pub with_tables : (Tables → Tables) → Queue → Queue
with_tables change q = record q { event_tables = change q.event_tables }

-- a queue after the switch of its event tables
abbrev pub after_switch : ℤ → Queue → Queue
after_switch time q = record q { event_tables = tables_of.with_switch time q.event_tables; tick_list = ticks_above (second_step_of q.event_tables) q.tick_list }

-- a database after something happened to its queues
abbrev pub after_queue_mark : Database → QueueMark → Database
after_queue_mark d (made name t time) = record d {
  queues_made = d.queues_made + 1;
  queues = d.queues ++ record { number = d.queues_made; name = name } ∷ [];
  queue = changed_at d.queues_made (λ x. record x {
    event_tables = new_tables t time;
    tick_list = x.tick_list ++ record { id = 1; time = time; snapshot = snapshot_of d.part.next d.part.running_ids; seq = 0 } ∷ [];
  }) d.queue;
}
after_queue_mark d (raised q value) = record d { queue = changed_at q (λ x. record x { seq = value }) d.queue }
after_queue_mark d (put q event) = record d { queue = changed_at q (with_tables (with_stored event)) d.queue }
after_queue_mark d (ticked q id time seq) = record d {
  queue = changed_at q (λ x. record x {
    tick_list = x.tick_list ++ record { id = id; time = time; snapshot = snapshot_of d.part.next d.part.running_ids; seq = seq } ∷ [];
  }) d.queue;
}
after_queue_mark d (registered q name id tick) = record d {
  last_sub_id = id;
  queue = changed_at q (λ x. record x {
    members = x.members ++ name ∷ [];
    sub = changed_for name (λ _. Some (record { id = id; position = tick; active = None })) x.sub;
  }) d.queue;
}
after_queue_mark d (moved q name tick) = record d {
  batch = λ id. of_another q name (d.batch id);
  queue = changed_at q (λ x. record x {
    sub = changed_for name (option_map (at_position tick)) x.sub;
  }) d.queue;
}
after_queue_mark d (unregistered q name sub) = record d {
  retries = without_sub sub d.retries;
  batch = λ id. of_another q name (d.batch id);
  queue = changed_at q (λ x. record x {
    members = all_but name x.members;
    sub = changed_for name (λ _. None) x.sub;
  }) d.queue;
}
after_queue_mark d (opened b) = record d {
  last_batch_id = b.id;
  batch = changed_at b.id (λ _. Some b) d.batch;
  queue = changed_at b.queue (λ x. record x {
    sub = changed_for b.consumer (option_map (with_batch b.id)) x.sub;
  }) d.queue;
}
after_queue_mark d (closed b) = record d {
  batch = changed_at b.id (λ _. None) d.batch;
  queue = changed_at b.queue (λ x. record x {
    sub = changed_for b.consumer (option_map (at_position b.cur)) x.sub;
  }) d.queue;
}
after_queue_mark d (asked retry) = record d { retries = d.retries ++ retry ∷ [] }
after_queue_mark d (returned retry moment) = record d { retries = without_retry retry.sub retry.event.ev_id d.retries }
after_queue_mark d (switching q t) = record d { queue = changed_at q (with_tables (with_pending t)) d.queue }
after_queue_mark d (switched q time) = record d { queue = changed_at q (after_switch time) d.queue }
after_queue_mark d (second_step q t) = record d { queue = changed_at q (with_tables (with_second_step t)) d.queue }
after_queue_mark d (configured q config) = record d { queue = changed_at q (λ x. record x { config = config }) d.queue }
after_queue_mark d (dropped q) = record d { queues = others_than q d.queues; queue = changed_at q emptied d.queue }
after_queue_mark d (traced table name trigger) = record d {
  triggers = d.triggers ++ record { table = table; name = name; trigger = trigger } ∷ [];
}
after_queue_mark d (untraced table) = record d { triggers = but_sets table d.triggers }

-- a session after a mark of its own
abbrev pub with_txid : Option ℕ → Session → Session
with_txid own s = record s { txid = own }

abbrev pub with_sight : Sight SnapshotView → Session → Session
with_sight sight s = record s { sight = sight }

abbrev pub with_block : Block → Session → Session
with_block block s = record s { block = block }

abbrev pub with_open : Bool → Session → Session
with_open is_open s = record s { is_open = is_open }

-- a session whose block is over, or aborted
abbrev pub without_sight : Block → Session → Session
without_sight block s = record s { block = block; sight = at_each }

-- what a mark of a session's transaction does; one of a worker's does nothing
abbrev pub by_session : {A : Type 0} → Whose → (ℕ → A → A) → A → A
by_session (of_session who) f a = f who a
by_session of_worker f a = a
by_session (of_copy table) f a = a

-- what one of a worker's does, a copy's among them
abbrev pub by_worker : {A : Type 0} → Whose → (A → A) → A → A
by_worker (of_session who) f a = a
by_worker of_worker f a = f a
by_worker (of_copy table) f a = f a

-- and what one of a copy's does
abbrev pub by_copy : {A : Type 0} → Whose → (ℕ → A → A) → A → A
by_copy (of_session who) f a = a
by_copy of_worker f a = a
by_copy (of_copy table) f a = f table a

-- tables after something happened to them
abbrev pub after_table_mark : RowPart → TableMark → RowPart
after_table_mark d (table_made name columns) = record d {
  tables = d.tables ++ name ∷ [];
  columns = changed_at (length d.tables) (λ _. columns) d.columns;
}
after_table_mark d (wrote whose t table key old new) = record d {
  versions = changed_at table (written t key new) d.versions;
  wrote_in = λ n u. (table == n && t == u) || d.wrote_in n u;
  holder = by_session whose (λ who. taken who table key) d.holder;
}
after_table_mark d (waits who table key attempted) = record d {
  waiting = d.waiting ++ record { who = who; table = table; key = key } ∷ [];
  attempt = changed_at who (λ _. attempted) d.attempt;
}
after_table_mark d (waited who) = record d { waiting = without who d.waiting; attempt = changed_at who (λ _. Deletion) d.attempt }
after_table_mark d (read_only table on) = record d { is_read_only = changed_at table (λ _. on) d.is_read_only }

-- transactions, sessions and tables after a mark
abbrev pub after_part : RowPart → Mark → RowPart
after_part d (began whose t) = record d {
  next = d.next + 1;
  running_ids = d.running_ids ++ t ∷ [];
  workers = by_worker whose (λ ts. ts ++ t ∷ []) d.workers;
  session = by_session whose (λ who. changed_at who (with_txid (Some t))) d.session;
}
after_part d (ended whose t true) = record d {
  running_ids = filter (λ u. not (u == t)) d.running_ids;
  workers = by_worker whose (λ ts. filter (λ u. not (u == t)) ts) d.workers;
  session = by_session whose (λ who. changed_at who (with_txid None)) d.session;
  wrote_in = λ n u. not (t == u) && d.wrote_in n u;
  holder = by_session whose released d.holder;
}
after_part d (ended whose t false) = record d {
  running_ids = filter (λ u. not (u == t)) d.running_ids;
  workers = by_worker whose (λ ts. filter (λ u. not (u == t)) ts) d.workers;
  session = by_session whose (λ who. changed_at who (with_txid None)) d.session;
  versions = λ n. forgotten t (d.versions n);
  wrote_in = λ n u. not (t == u) && d.wrote_in n u;
  holder = by_session whose released d.holder;
}
after_part d (block_begun who) = record d { session = changed_at who (with_block inside) d.session }
after_part d (repeats who) = record d { session = changed_at who (with_sight at_first) d.session }
after_part d (sight_taken who) = record d { session = changed_at who (with_sight (at_place (snapshot_of d.next d.running_ids))) d.session }
after_part d (block_failed who) = record d { session = changed_at who (without_sight failed) d.session }
after_part d (block_ended who) = record d { session = changed_at who (without_sight outside) d.session }
after_part d (connected who) = record d { session = changed_at who (with_open true) d.session }
after_part d (disconnected who) = record d { session = changed_at who (with_open false) d.session }
after_part d (tabled mark) = after_table_mark d mark
after_part d (queued mark) = d
after_part d (noded mark) = d

-- the same after marks, the first one first
abbrev pub after_part_marks : RowPart → List Mark → RowPart
after_part_marks d [] = d
after_part_marks d (mark ∷ marks) = after_part_marks (after_part d mark) marks

-- a database after something happened to its node
abbrev pub after_node_mark : Database → NodeMark → Database
after_node_mark d (hold_begun number) = record d { holds = d.holds ++ record { number = number; snapshot = snapshot_of d.part.next d.part.running_ids } ∷ [] }
after_node_mark d (hold_ended number) = record d { holds = without_hold number d.holds }
after_node_mark d mark = record d { node = after_node mark d.node }

-- a database after a mark
abbrev pub after_mark : Database → Mark → Database
after_mark d (queued mark) = after_queue_mark d mark
after_mark d (ended whose t false) = record d {
  part = after_part d.part (ended whose t false);
  queue = λ n. with_tables (without_transaction t) (d.queue n);
  copies = by_copy whose (λ table. without_copy t) d.copies;
}
after_mark d (ended whose t true) = record d { part = after_part d.part (ended whose t true); copies = by_copy whose (λ table. without_copy t) d.copies }
after_mark d (began whose t) = record d {
  part = after_part d.part (began whose t);
  copies = by_copy whose (λ table cs. cs ++ record { table = table; txid = t } ∷ []) d.copies;
}
after_mark d (block_begun who) = record d { part = after_part d.part (block_begun who) }
after_mark d (repeats who) = record d { part = after_part d.part (repeats who) }
after_mark d (sight_taken who) = record d { part = after_part d.part (sight_taken who) }
after_mark d (block_failed who) = record d { part = after_part d.part (block_failed who) }
after_mark d (block_ended who) = record d { part = after_part d.part (block_ended who) }
after_mark d (connected who) = record d { part = after_part d.part (connected who) }
after_mark d (disconnected who) = record d { part = after_part d.part (disconnected who) }
after_mark d (tabled mark) = record d { part = after_part d.part (tabled mark) }
after_mark d (noded mark) = after_node_mark d mark

-- a database after marks, the first one first
abbrev pub after_marks : Database → List Mark → Database
after_marks d [] = d
after_marks d (mark ∷ marks) = after_marks (after_mark d mark) marks
