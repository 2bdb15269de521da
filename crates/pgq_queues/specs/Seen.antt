-- The readings of the definitions, in what the code keeps of a database's queues.
use Rattle.std.specs.Prelude.{ℕ, pos, ◌<◌, List, [], ◌∷◌, length, Option, option_map, option_and_then, slice_index_or}
use Rattle.std.specs.Ordering.{nat_cmp}
use Rattle.std.specs.BTreeMap.{is_at}
use Rattle.std.specs.Map.{lookup}
use Rattle.londiste_state.specs.Nodes.{Node}
use Rattle.sky_model.specs.History as model
use Rattle.sky_model.specs.Queues.{NamedQueue}
use Rattle.sky_model.specs.Copies.{Copy, Hold}
use Rattle.sky_model.specs.State.{Queue, RowPart, Database}
use Rattle.pgq_sub.specs.declared.sub.OpenBatch.{OpenBatch}
use Rattle.pgq_sub.specs.Views.{SubView}
use Rattle.pgq_sub.specs.Seen.{seen_subs}
use Rattle.pgq_queues.specs.declared.batch.Batch.{Batch}
use Rattle.pgq_queues.specs.declared.batch.Place.{Place}
use Rattle.pgq_queue.specs.Views.{QueueView}
use Rattle.pgq_queues.specs.Views.{QueuesView}
use Rattle.pgq_queue.specs.Seen.{seen_queue, no_queue}

-- the queue of a number exists: it has a tick
abbrev pub Stands : List QueueView → ℕ → Type 0
Stands queues n = 0 < length (slice_index_or queues n no_queue).ticks

-- the subscription of the queue of a number under a consumer
abbrev pub sub_at : List QueueView → ℕ → List ℕ → Option SubView
sub_at queues n consumer = (seen_subs (slice_index_or queues n no_queue).subs).kept consumer

-- a batch that is read
abbrev pub seen_batch : Batch → model.Batch
seen_batch b = record { id = b.id; queue = b.queue; consumer = b.consumer.now; sub = b.sub; prev = b.prev; cur = b.cur }

-- how many stored events of the queue of a number were ever looked at
abbrev pub reads_at : List QueueView → ℕ → ℕ
reads_at queues n = (slice_index_or queues n no_queue).event_tables.reads

-- the active batch of a subscription at a place, under an id
abbrev pub batch_of : ℕ → Place → SubView → Option model.Batch
batch_of id p s = option_map (λ (batch : OpenBatch). record { id = id; queue = p.queue; consumer = p.consumer; sub = s.id; prev = s.position; cur = batch.cur }) s.active

-- of the subscription that is there, if anything is kept under the id
abbrev pub batch_by : (ℕ → List ℕ → Option SubView) → ℕ → Option Place → Option model.Batch
batch_by subs id place = option_and_then (λ (p : Place). option_and_then (batch_of id p) (subs p.queue p.consumer)) place

-- what is kept under a number
abbrev pub kept : {A : Type 0} → List (ℕ × A) → ℕ → Option A
kept entries n = lookup (is_at (nat_cmp n)) entries

-- the queues of names and numbers
abbrev pub numbered : List (List ℕ) → List ℕ → List NamedQueue
numbered [] numbers = []
numbered (name ∷ names) [] = []
numbered (name ∷ names) (n ∷ numbers) = record { number = n; name = name } ∷ numbered names numbers

-- a queue that isn't there
abbrev pub unnamed : NamedQueue
unnamed = record { number = 0; name = [] }

-- the queues that exist
abbrev pub queues_of : QueuesView → List NamedQueue
queues_of q = numbered q.names.names q.names.values

-- the queue of a number
abbrev pub queue_at : QueuesView → ℕ → Queue
queue_at q n = seen_queue (slice_index_or q.queues n no_queue)

-- the active batch of an id
abbrev pub batch_at : QueuesView → ℕ → Option model.Batch
batch_at q id = batch_by (sub_at q.queues) id (kept q.batches id)

-- what a database has beside its queues: its row part; its node, if it has one; the copies that run in it, and the snapshots that it holds
pub record Beside : Type 0 where
  pub part : RowPart
  pub node : Option Node
  pub copies : List Copy
  pub holds : List Hold

-- the database that these are the queues of
abbrev pub seen_with : Beside → QueuesView → Database
seen_with beside q = record {
  part = beside.part;
  last_batch_id = q.last_batch_id;
  last_sub_id = q.last_sub_id;
  queues_made = length q.queues;
  queues = queues_of q;
  queue = queue_at q;
  batch = batch_at q;
  triggers = q.triggers;
  retries = q.retries;
  node = beside.node;
  copies = beside.copies;
  holds = beside.holds;
}

-- the queues of a database in which nothing has happened
abbrev pub no_queues : QueuesView
no_queues = record {
  time = pos 0;
  last_batch_id = 0;
  last_sub_id = 0;
  names = record { names = []; values = [] };
  queues = [];
  batches = [];
  triggers = [];
  traced_tables = [];
  retries = [];
  rounds = 0;
}
