-- What a database does for a node, its own or another's.
use Rattle.std.specs.Prelude.{◌≡◌, ℕ, ℤ, false, true, List, [], Option, Some, None, is_ok}
use Rattle.londiste_state.specs.Nodes.{Node, of_root, is_among}
use Rattle.sky_model.specs.declared.reply.Limit.TheVariants.{Consumers, Queues, Triggers}
use Rattle.sky_model.specs.declared.reply.Refusal.TheVariants as refusal
use Rattle.sky_model.specs.declared.reply.Reply.TheVariants.{Number, Null}
use Rattle.sky_model.specs.Consumers.{Subscription}
use Rattle.sky_model.specs.State.{Database, after_marks}
use Rattle.sky_model.specs.Outcome.{reply_of, marks_of}
use Rattle.sky_model.specs.StepNode.{set_queue, NodeCall, joining, fetching, making_root, listing, beginning_copy, node_does}
use Rattle.sky_model.specs.Stops.{Refuses}
use Rattle.sky_store.specs.declared.batch.NodeBatch.{NodeBatch}
use Rattle.londiste_calls.specs.declared.faults.JoinFault.{JoinFault}
use Rattle.londiste_calls.specs.declared.faults.JoinFault.TheVariants as join
use Rattle.londiste_calls.specs.declared.faults.MakeRootFault.{MakeRootFault}
use Rattle.londiste_calls.specs.declared.faults.MakeRootFault.TheVariants as make
use Rattle.londiste_calls.specs.declared.faults.RootFault.{RootFault}
use Rattle.londiste_calls.specs.declared.faults.RootFault.TheVariants as root
use Rattle.londiste_calls.specs.declared.faults.FetchFault.{FetchFault}
use Rattle.londiste_calls.specs.declared.faults.FetchFault.TheVariants as fetch
use Rattle.londiste_calls.specs.declared.faults.CopyFault.{CopyFault}
use Rattle.londiste_calls.specs.declared.faults.CopyFault.TheVariants as copy

-- it did what the call's definition says, which isn't refused
pub record Serves (old new : Database) (call : NodeCall) : Type 0 where
  pub accepted : is_ok (node_does old call) ≡ true
  pub changed : new ≡ after_marks old (marks_of (node_does old call))

-- the consumers of a root's leaves
abbrev pub set_consumers : Option Node → List (List ℕ)
set_consumers (Some (of_root r)) = r.consumers
set_consumers _ = []

-- a consumer didn't join, as its call's definition says, or memory ran out; either way nothing has changed. If memory ran out this is said of a consumer
-- that was no leaf's before: a leaf's consumer is registered at the set's queue, so it is refused as one that exists
abbrev pub JoinRefused : JoinFault → (old new : Database) → (consumer : List ℕ) → Type 0
JoinRefused join.ConsumerExists old new consumer = Refuses old new (refusal.ConsumerExists consumer) (node_does old (joining consumer))
JoinRefused join.TooManyConsumers old new consumer = Refuses old new (refusal.TooMany Consumers) (node_does old (joining consumer))
JoinRefused join.IdsSpent old new consumer = Refuses old new refusal.IdsSpent (node_does old (joining consumer))
JoinRefused join.NoMemory old new consumer = is_among consumer (set_consumers old.node) ≡ false → new ≡ old

-- a root isn't made, as its call's definition says, and nothing has changed; or memory ran out
abbrev pub MakeRootRefused : MakeRootFault → (old new : Database) → (name queue : List ℕ) → (now : ℤ) → Type 0
MakeRootRefused make.QueueExists old new name queue now = Refuses old new (refusal.QueueExists queue) (node_does old (making_root name queue now))
MakeRootRefused make.TooManyQueues old new name queue now = Refuses old new (refusal.TooMany Queues) (node_does old (making_root name queue now))
MakeRootRefused make.TxidsSpent old new name queue now = Refuses old new refusal.TxidsSpent (node_does old (making_root name queue now))
MakeRootRefused make.NoMemory old new name queue now = Unit {0}

-- a table didn't join a set, as its call's definition says, or memory ran out; either way nothing has changed
abbrev pub RootRefused : RootFault → (old new : Database) → (table : List ℕ) → Type 0
RootRefused root.TooManyTriggers old new table = Refuses old new (refusal.TooMany Triggers) (node_does old (listing table))
RootRefused root.NoMemory old new table = new ≡ old

-- a consumer gets no batch, as its call's definition says, or memory ran out; either way nothing has changed
abbrev pub FetchRefused : FetchFault → (old new : Database) → (consumer : List ℕ) → Type 0
FetchRefused fetch.IdsSpent old new consumer = Refuses old new refusal.IdsSpent (node_does old (fetching consumer))
FetchRefused fetch.NoMemory old new consumer = new ≡ old

-- a batch that a consumer takes is the one that its call's definition answers. It is active from then on, in the set's queue, from the position of
-- the consumer's subscription
pub record Takes (batch : NodeBatch) (old new : Database) (consumer : List ℕ) : Type 0 where
  pub queue : ℕ
  pub sub : Subscription
  pub of_set : set_queue old ≡ Some queue
  pub registered : (old.queue queue).sub consumer ≡ Some sub
  pub answered : reply_of (node_does old (fetching consumer)) ≡ Number batch.id
  pub from : batch.prev ≡ sub.position
  pub active : new.batch batch.id ≡ Some (record { id = batch.id; queue = queue; consumer = consumer; sub = sub.id; prev = batch.prev; cur = batch.cur })

-- or there is none
abbrev pub Fetched : Option NodeBatch → (old new : Database) → (consumer : List ℕ) → Type 0
Fetched None old new consumer = reply_of (node_does old (fetching consumer)) ≡ Null
Fetched (Some batch) old new consumer = Takes batch old new consumer

-- a table joined, or a running transaction has written it, and nothing has changed
abbrev pub ServesUnlessBusy : Option ℕ → (old new : Database) → NodeCall → Type 0
ServesUnlessBusy None old new call = Serves old new call
ServesUnlessBusy (Some txid) old new call = Refuses old new (refusal.TableBusy txid) (node_does old call)

-- the copy of a table doesn't begin, as its call's definition says, and nothing has changed; or memory ran out
abbrev pub CopyRefused : CopyFault → (old new : Database) → (table : List ℕ) → Type 0
CopyRefused copy.TxidsSpent old new table = Refuses old new refusal.TxidsSpent (node_does old (beginning_copy table))
CopyRefused copy.NoMemory old new table = Unit {0}
