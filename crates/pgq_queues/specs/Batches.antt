-- What a database keeps of its batches.
use Rattle.std.specs.Prelude.{◌≡◌, ℕ, ◌≤◌, ◌==◌, List, Option, Some, None, option_map, if◌then◌else◌, slice_index_or}
use Rattle.pgq_sub.specs.declared.sub.OpenBatch.{OpenBatch}
use Rattle.pgq_sub.specs.Views.{SubView}
use Rattle.pgq_sub.specs.Seen.{open_in}
use Rattle.pgq_queues.specs.declared.batch.Place.{Place}
use Rattle.pgq_queue.specs.Views.{QueueView}
use Rattle.pgq_queue.specs.Seen.{no_queue}
use Rattle.pgq_queues.specs.Seen.{Stands, kept, sub_at}

-- the queues that existed exist, no other does, and the subscriptions are what they were
pub record StillStand (old new : List QueueView) : Type 0 where
  pub stands : (n : ℕ) → Stands old n → Stands new n
  pub gone : (n : ℕ) → slice_index_or old n no_queue ≡ no_queue → slice_index_or new n no_queue ≡ no_queue
  pub subs : (n : ℕ) (consumer : List ℕ) → sub_at new n consumer ≡ sub_at old n consumer

-- the id of a subscription's active batch
abbrev pub open_id : Option SubView → Option ℕ
open_id s = option_map OpenBatch.id (open_in s)

-- what is kept under a number, unless that is gone
abbrev pub but_of : {A : Type 0} → Option ℕ → ℕ → Option A → Option A
but_of None id o = o
but_of (Some gone) id o = if gone == id then None else o

-- what is kept under an id is where the active batch of this id is; each active batch is kept under its id; no id is above the last
pub record AreIndexed (last : ℕ) (subs : ℕ → List ℕ → Option SubView) (places : ℕ → Option Place) : Type 0 where
  pub there : (id : ℕ) (p : Place) → places id ≡ Some p → open_id (subs p.queue p.consumer) ≡ Some id
  pub each : (n : ℕ) (consumer : List ℕ) (id : ℕ) → open_id (subs n consumer) ≡ Some id → places id ≡ Some (record { queue = n; consumer = consumer })
  pub past : (id : ℕ) (p : Place) → places id ≡ Some p → id ≤ last

-- the batches are so indexed, and their queues exist
pub record BatchesWithin (last : ℕ) (queues : List QueueView) (batches : List (ℕ × Place)) : Type 0 where
  pub indexed : AreIndexed last (sub_at queues) (kept batches)
  pub stand : (id : ℕ) (p : Place) → kept batches id ≡ Some p → Stands queues p.queue
