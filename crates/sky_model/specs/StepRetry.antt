-- What the statements on retries do: a subscription asks for an event once more, and those that are due come back.
use Rattle.std.specs.Prelude.{ℕ, ◌*◌, ℤ, pos, ◌+ℤ◌, List, [], ◌∷◌, ◌++◌, Option, true, ◌==◌, find, length, if◌then◌else◌}
use Rattle.sky_val.specs.declared.event.Event.{Event}
use Rattle.pgq_retry.specs.declared.retry.Retry.{Retry}
use Rattle.pgq_retry.specs.Retries.{is_asked, due_now}
use Rattle.sky_model.specs.declared.stmt.RetriedEvent.{RetriedEvent}
use Rattle.sky_model.specs.declared.reply.Reply.TheVariants.{Number}
use Rattle.sky_model.specs.declared.reply.Refusal.TheVariants.{NoBatch, NodeConsumer, NoEvent}
use Rattle.sky_model.specs.History.{Batch, Mark, of_worker, began, ended, queued, put, asked, returned}
use Rattle.sky_model.specs.Retries.{retried, brought_by}
use Rattle.sky_model.specs.State.{Database}
use Rattle.sky_model.specs.OwnTransaction.{next_id}
use Rattle.sky_model.specs.Outcome.{Outcome, Checked, ◌>>=◌, ◌>>◌, refused_if, found_or, answers, does_marks}
use Rattle.sky_model.specs.StepConsumer.{is_nodes_batch}

-- an event of a batch, as its subscription is to get it once more, so many seconds from now
abbrev pub retry_of : ℤ → ℕ → Batch → Event → Retry
retry_of now seconds b e = record { queue = b.queue; sub = b.sub; due = now +ℤ pos (1_000_000 * seconds); event = retried b.sub e }

-- a subscription asks for an event, unless one with its id waits for it
abbrev pub asks_for : Database → Retry → Checked Outcome
asks_for d retry =
    if is_asked retry.sub retry.event.ev_id d.retries then answers (Number 0) else does_marks (Number 1) (queued (asked retry) ∷ [])

-- `event_retry N N N`, by the events of each active batch: of those with the id the first one in the batch. An id without an active batch
-- has no events either: both are none together, so both look-ups answer NoBatch in the same case
abbrev pub event_retry : Database → (ℕ → Option (List Event)) → ℤ → RetriedEvent → Checked Outcome
event_retry d events_of now again = do
  events ← found_or (events_of again.batch) NoBatch
  batch ← found_or (d.batch again.batch) NoBatch
  refused_if (is_nodes_batch d batch) NodeConsumer
  e ← found_or (find (λ e. e.ev_id == again.event) events) NoEvent
  asks_for d (retry_of now again.seconds batch e)

-- the marks of retries that come back in a transaction, one after another
abbrev pub back : ℤ → ℕ → List Retry → List Mark
back now t [] = []
back now t (r ∷ rs) = queued (put r.queue (brought_by t r.event)) ∷ queued (returned r now) ∷ back now t rs

-- they come back in one of their own, if there are any
abbrev pub brings : Database → ℤ → List Retry → Checked Outcome
brings d now [] = answers (Number 0)
brings d now (r ∷ rs) = do
  t ← next_id d.part
  does_marks (Number (length (r ∷ rs))) (began of_worker t ∷ back now t (r ∷ rs) ++ ended of_worker t true ∷ [])

-- how many come back at a time
abbrev pub most_back : ℕ
most_back = 10

-- `maint_retry_events`: those that are due come back, at most so many, those that were due first before others
abbrev pub maint_retry_events : Database → ℤ → Checked Outcome
maint_retry_events d now = brings d now (due_now now most_back d.retries)
