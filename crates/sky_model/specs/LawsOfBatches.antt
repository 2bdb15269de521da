-- The laws on the batches that a consumer finishes in one life of its subscription: from its registering, or from a move to a tick, to the next move
-- or its unregistering. They hold at each place of each history that calls make, or of any list of marks or of events, as each says.
use Rattle.std.specs.Prelude.{◌≡◌, ℕ, ◌+◌, ◌<◌, ◌≤◌, List, [], ◌∷◌, ◌++◌, Bool, true, not, ◌&&◌, Some, is_some, ◌==◌, bytes_eq, length, filter, All, if◌then◌else◌}
use Rattle.sky_val.specs.declared.event.Event.{Event}
use Rattle.pgq_tables.specs.ById.{by_id, InOrder, with_id}
use Rattle.pgq_tables.specs.Listed.{is_for}
use Rattle.sky_model.specs.History.{Batch, Mark, queued, registered, moved, unregistered, closed, History}
use Rattle.sky_model.specs.Transactions.{has_committed}
use Rattle.sky_model.specs.Queues.{events, ticks, tick, at_tick}
use Rattle.sky_model.specs.Consumers.{subscription_id, position, last_subscription, active_batch}
use Rattle.sky_model.specs.Batches.{batch_events}
use Rattle.sky_model.specs.HistoryPlaces.{IsPlace}

-- the tick at which the life of a consumer of a queue began: where it registered, or was moved to since; 0 if it isn't registered
abbrev pub first_tick : ℕ → List ℕ → History → ℕ
first_tick queue consumer [] = 0
first_tick queue consumer (queued (registered q name sub tick) ∷ h) =
    if q == queue && bytes_eq consumer name then tick else first_tick queue consumer h
first_tick queue consumer (queued (moved q name tick) ∷ h) =
    if q == queue && bytes_eq consumer name then tick else first_tick queue consumer h
first_tick queue consumer (queued (unregistered q name sub) ∷ h) =
    if q == queue && bytes_eq consumer name then 0 else first_tick queue consumer h
first_tick queue consumer (_ ∷ h) = first_tick queue consumer h

-- the batches that it has finished since its life began, in the order of finishing
abbrev pub finished : ℕ → List ℕ → History → List Batch
finished queue consumer [] = []
finished queue consumer (queued (registered q name sub tick) ∷ h) =
    if q == queue && bytes_eq consumer name then [] else finished queue consumer h
finished queue consumer (queued (moved q name tick) ∷ h) =
    if q == queue && bytes_eq consumer name then [] else finished queue consumer h
finished queue consumer (queued (unregistered q name sub) ∷ h) =
    if q == queue && bytes_eq consumer name then [] else finished queue consumer h
finished queue consumer (queued (closed batch) ∷ h) =
    if batch.queue == queue && bytes_eq consumer batch.consumer then finished queue consumer h ++ batch ∷ [] else finished queue consumer h
finished queue consumer (_ ∷ h) = finished queue consumer h

-- a batch of a queue's consumer, for its subscription, from a tick to the next one, which is made
pub record IsNextBatch (p : History) (queue : ℕ) (consumer : List ℕ) (from : ℕ) (b : Batch) : Type 0 where
  pub of_queue : b.queue ≡ queue
  pub of_consumer : b.consumer ≡ consumer
  pub of_subscription : subscription_id queue consumer p ≡ Some b.sub
  pub begins : b.prev ≡ from
  pub closes : b.cur ≡ b.prev + 1
  pub closing_is_made : is_some (tick b.cur (ticks queue p)) ≡ true

-- a consumer's batches lead from a tick to a tick: each begins where the one before closed
abbrev pub Lead : History → ℕ → List ℕ → ℕ → List Batch → ℕ → Type 0
Lead p queue consumer from [] to = from ≡ to
Lead p queue consumer from (b ∷ bs) to = IsNextBatch p queue consumer from b × Lead p queue consumer b.cur bs to

-- the batches that a consumer has finished since its life began lead from the tick where it began to its position
abbrev pub BatchesAreConsecutive : Type 0
BatchesAreConsecutive = (p : History) → IsPlace p → (queue : ℕ) (consumer : List ℕ)
    → Lead p queue consumer (first_tick queue consumer p) (finished queue consumer p) (position queue consumer p)

-- an event is between two ticks of a queue for a subscription: its transaction had committed when the later tick was made, and hadn't when the
-- earlier one was
abbrev pub stands_between : History → ℕ → ℕ → ℕ → ℕ → Event → Bool
stands_between h queue sub from to e =
    has_committed (at_tick queue to h) e.ev_txid && not (has_committed (at_tick queue from h) e.ev_txid) && is_for sub e.ev_owner

-- an event is in a batch
abbrev pub stands_in : History → Batch → Event → Bool
stands_in h b e = stands_between h b.queue b.sub b.prev b.cur e

-- a batch lists the events of its queue that are in it
abbrev pub BatchesListWhatStands : Type 0
BatchesListWhatStands = (h : History) (b : Batch) → batch_events h b ≡ by_id (filter (stands_in h b) (events b.queue h))

-- by id, the ids of events don't fall
abbrev pub IdsDontFall : Type 0
IdsDontFall = (es : List Event) → InOrder (by_id es)

-- and those with each id are the same ones, in the same order
abbrev pub EqualIdsStay : Type 0
EqualIdsStay = (es : List Event) (id : ℕ) → with_id id (by_id es) ≡ with_id id es

-- an event is in one of the batches that a registered consumer has finished since its life began, and in one alone, if it is between the tick where
-- that began and the consumer's position, else in none
abbrev pub EventsAreListedOnce : Type 0
EventsAreListedOnce = (p : History) → IsPlace p → (queue : ℕ) (consumer : List ℕ) (sub : ℕ) → subscription_id queue consumer p ≡ Some sub
    → (e : Event) → length (filter (λ b. stands_in p b e) (finished queue consumer p))
    ≡ (if stands_between p queue sub (first_tick queue consumer p) (position queue consumer p) e then 1 else 0)

-- what a batch lists while it is active is what it lists at every later place
abbrev pub ListingsStay : Type 0
ListingsStay = (later : List Mark) (p : History) → IsPlace (later ++ p) → (id : ℕ) (b : Batch) → active_batch id p ≡ Some b
    → batch_events (later ++ p) b ≡ batch_events p b

-- a batch was active at a place below
pub record WasActive (p : History) (b : Batch) : Type 0 where
  pub later : List Mark
  pub place : History
  pub below : p ≡ later ++ place
  pub active : active_batch b.id place ≡ Some b

-- each batch that a consumer has finished since its life began was active before
abbrev pub FinishedBatchesWereActive : Type 0
FinishedBatchesWereActive = (p : History) → IsPlace p → (queue : ℕ) (consumer : List ℕ) → All (WasActive p) (finished queue consumer p)

-- no two consumers have a subscription of one id, whether of one queue or of two
abbrev pub SubscriptionsAreDistinct : Type 0
SubscriptionsAreDistinct = (p : History) → IsPlace p → (q r : ℕ) (c d : List ℕ) (sub : ℕ)
    → subscription_id q c p ≡ Some sub → subscription_id r d p ≡ Some sub → (q ≡ r) × (c ≡ d)

-- no id in use exceeds the last that was given
abbrev pub SubscriptionsAreGiven : Type 0
SubscriptionsAreGiven = (p : History) → IsPlace p → (queue : ℕ) (consumer : List ℕ) (sub : ℕ) → subscription_id queue consumer p ≡ Some sub → sub ≤ last_subscription p

-- and a new consumer's does; so it is none that anyone has, or had
abbrev pub SubscriptionsAreNew : Type 0
SubscriptionsAreNew = (p : History) (queue : ℕ) (consumer : List ℕ) (sub tick : ℕ) → IsPlace (queued (registered queue consumer sub tick) ∷ p) → last_subscription p < sub
