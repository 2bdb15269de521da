-- Marks with marks of events among them: what they leave of a database besides its queues.
use Rattle.std.proofs.Common.{ℕ, ◌+◌, List, [], ◌∷◌, ◌++◌, Option}
use Rattle.sky_val.specs.declared.event.Event.{Event}
use Rattle.pgq_retry.specs.declared.retry.Retry.{Retry}
use Rattle.sky_model.specs.History.{Batch, Mark, queued, raised, put}
use Rattle.sky_model.specs.Triggers.{TableTrigger}
use Rattle.londiste_state.specs.Nodes.{Node}
use Rattle.sky_model.specs.Queues.{NamedQueue}
use Rattle.sky_model.specs.State.{RowPart, Database}
use Rattle.sky_model.specs.Copies.{Copy, Hold}

-- the second marks are the first ones with ids taken and events stored in between
pub data Inserted : List Mark → List Mark → Type 0 where
  none : Inserted [] []
  kept : {xs ys : List Mark} (mark : Mark) → Inserted xs ys → Inserted (mark ∷ xs) (mark ∷ ys)
  with_raised : {xs ys : List Mark} (queue value : ℕ) → Inserted xs ys → Inserted xs (queued (raised queue value) ∷ ys)
  with_put : {xs ys : List Mark} (queue : ℕ) (event : Event) → Inserted xs ys → Inserted xs (queued (put queue event) ∷ ys)

-- or nothing is put in between
pub inserted-same : (marks : List Mark) → Inserted marks marks
inserted-same [] = none
inserted-same (mark ∷ marks) = kept mark (inserted-same marks)

pub inserted-append : {xs ys zs ws : List Mark} → Inserted xs ys → Inserted zs ws → Inserted (xs ++ zs) (ys ++ ws)
inserted-append none also = also
inserted-append (kept mark more) also = kept mark (inserted-append more also)
inserted-append (with_raised queue value more) also = with_raised queue value (inserted-append more also)
inserted-append (with_put queue event more) also = with_put queue event (inserted-append more also)

-- what a database keeps besides its queues
pub record BesideQueues : Type 0 where
  pub part : RowPart
  pub last_batch_id : ℕ
  pub last_sub_id : ℕ
  pub queues_made : ℕ
  pub queues : List NamedQueue
  pub batch : ℕ → Option Batch
  pub triggers : List TableTrigger
  pub retries : List Retry
  pub node : Option Node
  pub copies : List Copy
  pub holds : List Hold

abbrev pub beside : Database → BesideQueues
beside d = record { part = d.part; last_batch_id = d.last_batch_id; last_sub_id = d.last_sub_id; queues_made = d.queues_made; queues = d.queues; batch = d.batch; triggers = d.triggers; retries = d.retries; node = d.node; copies = d.copies; holds = d.holds }
