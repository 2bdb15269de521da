-- One move of a worker that goes through the batches of a set's queue: what it does with the batch that it has in hand, and how it takes the next one. Each
-- definition reads the databases `p` of the provider and `r` of the leaf as they are before the move.
use Rattle.std.specs.Prelude.{ℕ, List, [], ◌∷◌, true, false, Option, Some, None, nat_lt, length, unwrap_or, Ok, if◌then◌else◌}
use Rattle.sky_val.specs.declared.event.Event.{Event}
use Rattle.sky_model.specs.declared.reply.Reply.{Reply}
use Rattle.sky_model.specs.declared.reply.Reply.TheVariants.{Number, BatchTaken, BatchApplied, BatchSkipped, BatchFinished, Idle}
use Rattle.sky_model.specs.Hands.{BatchHand}
use Rattle.sky_model.specs.History.{Batch, Pick}
use Rattle.sky_model.specs.State.{Database, after_marks}
use Rattle.sky_model.specs.OwnTransaction.{next_id}
use Rattle.sky_model.specs.Outcome.{Checked, ◌>>=◌}
use Rattle.sky_model.specs.Reader.{shown_by}
use Rattle.sky_model.specs.StepApply.{picked, bad_event}
use Rattle.sky_model.specs.StepNode.{NodeCall, applying, fetching, finishing, node_does}
use Rattle.sky_model.specs.WorkerMoves.{Move, only_prints}

-- such a worker: the consumer whose batches it takes, the tick up to which it has applied them, and which events it picks
pub record Follower : Type 0 where
  pub consumer : List ℕ
  pub tick : ℕ
  pub pick : Pick

-- the events of an active batch
abbrev pub events_of_batch : Database → ℕ → List Event
events_of_batch p id = unwrap_or ((shown_by p).events id) []

-- a batch that is done
abbrev pub done : BatchHand → Option BatchHand
done batch = Some (record batch { is_done = true })

-- its events were applied; or one of them can't be, and the worker stays where it is
abbrev pub has_applied : NodeCall → BatchHand → (many : ℕ) → (bad : Option ℕ) → Move BatchHand
has_applied call batch many None = record { provider = []; replica = call ∷ []; replies = BatchApplied batch.cur many ∷ []; hand = done batch }
has_applied call batch many (Some id) = record { provider = []; replica = call ∷ []; replies = Idle ∷ []; hand = Some batch }

-- those that the worker picks are applied, in a transaction
abbrev pub applies_in_hand : (p r : Database) → Follower → BatchHand → Checked (Move BatchHand)
applies_in_hand p r f batch = do
  t ← next_id r.part
  Ok (has_applied (applying (events_of_batch p batch.id) f.pick batch.cur) batch (length (picked r.node f.pick (events_of_batch p batch.id))) (bad_event r f.pick (events_of_batch p batch.id)))

-- it was applied before
abbrev pub skips_in_hand : BatchHand → Checked (Move BatchHand)
skips_in_hand batch = only_prints (BatchSkipped batch.cur) (done batch)

-- it is finished
abbrev pub finishes_in_hand : BatchHand → Checked (Move BatchHand)
finishes_in_hand batch = Ok (record { provider = finishing batch.id ∷ []; replica = []; replies = BatchFinished batch.id ∷ []; hand = None })

-- the batch that a consumer has after it asked for one, if it has one
abbrev pub taken : Database → Reply → Option Batch
taken p (Number id) = p.batch id
taken p reply = None

-- it is taken in hand; without one there is nothing to do
abbrev pub takes : Follower → Option Batch → Checked (Move BatchHand)
takes f None = only_prints Idle None
takes f (Some batch) = Ok (record {
  provider = fetching f.consumer ∷ [];
  replica = [];
  replies = BatchTaken batch.id batch.prev batch.cur ∷ [];
  hand = Some (record { id = batch.id; prev = batch.prev; cur = batch.cur; is_done = false });
})

-- the next batch, if there is one
abbrev pub takes_next : Database → Follower → Checked (Move BatchHand)
takes_next p f = do
  asked ← node_does p (fetching f.consumer)
  takes f (taken (after_marks p asked.marks) asked.reply)

-- what is done with a batch in hand: it is applied if the worker hasn't come to its closing tick yet, or skipped; and then it is finished
abbrev pub goes_through : (p r : Database) → Follower → BatchHand → Checked (Move BatchHand)
goes_through p r f batch =
    if batch.is_done then finishes_in_hand batch else (if nat_lt f.tick batch.cur then applies_in_hand p r f batch else skips_in_hand batch)
