-- The laws on events that are retried, at each place of each history that calls make.
use Rattle.std.specs.Prelude.{◌≡◌, ℕ, ◌+◌, ◌≤◌, ℤ, ◌≤ℤ◌, List, [], ◌∷◌, ◌++◌, ◌==◌, is_some, true, false, ⊤, Option, Some, None, unwrap_or, All, Contains, length, filter}
use Rattle.sky_val.specs.declared.event.Event.{Event}
use Rattle.pgq_retry.specs.declared.retry.Retry.{Retry}
use Rattle.pgq_retry.specs.Retries.{is_event, is_asked}
use Rattle.pgq_tables.specs.ById.{with_id}
use Rattle.sky_model.specs.History.{Batch, Mark, queued, put, asked, returned, History}
use Rattle.sky_model.specs.Transactions.{has_ended}
use Rattle.sky_model.specs.Queues.{events, ticks, tick}
use Rattle.sky_model.specs.Consumers.{subscription_id, active_batch}
use Rattle.sky_model.specs.Batches.{batch_events}
use Rattle.sky_model.specs.Retries.{retries, retried}
use Rattle.sky_model.specs.LawsOfBatches.{stands_in}
use Rattle.sky_model.specs.Reader.{database_by_history}
use Rattle.sky_model.specs.StepNode.{making_root}
use Rattle.sky_model.specs.DatabaseCalls.{DatabaseCall, stepped, entered, failed, worked, served, database_does, database_part}
use Rattle.sky_model.specs.Promises.{after_all}
use Rattle.sky_model.specs.HistoryPlaces.{IsPlace}

-- an event is a copy of another one: all fields are the same except transaction, owner and number of retries
pub record IsCopyOf (copy source : Event) : Type 0 where
  pub same_id : copy.ev_id ≡ source.ev_id
  pub same_time : copy.ev_time ≡ source.ev_time
  pub same_type : copy.ev_type ≡ source.ev_type
  pub same_data : copy.ev_data ≡ source.ev_data
  pub same_extra1 : copy.ev_extra1 ≡ source.ev_extra1
  pub same_extra2 : copy.ev_extra2 ≡ source.ev_extra2
  pub same_extra3 : copy.ev_extra3 ≡ source.ev_extra3
  pub same_extra4 : copy.ev_extra4 ≡ source.ev_extra4

-- a retry is of a subscription of its queue, which is its event's owner; and its event is a copy of one that was put there,
-- with one retry more
pub record IsRetry (p : History) (retry : Retry) : Type 0 where
  pub consumer : List ℕ
  pub subscribed : subscription_id retry.queue consumer p ≡ Some retry.sub
  pub source : Event
  pub stored : Contains (events retry.queue p) source
  pub copied : IsCopyOf retry.event source
  pub owned : retry.event.ev_owner ≡ Some retry.sub
  pub counted : retry.event.ev_retry ≡ Some (unwrap_or source.ev_retry 0 + 1)

-- this holds of each that waits
abbrev pub RetriesAreCopies : Type 0
RetriesAreCopies = (p : History) → IsPlace p → All (IsRetry p) (retries p)

-- an active batch of a retry's queue and subscription lists an event
pub record ListsEvent (p : History) (retry : Retry) (source : Event) : Type 0 where
  pub batch : Batch
  pub active : active_batch batch.id p ≡ Some batch
  pub of_queue : batch.queue ≡ retry.queue
  pub of_subscription : batch.sub ≡ retry.sub
  pub listed : Contains (batch_events p batch) source

-- a retry that is asked for is of an event that an active batch lists: this event as its subscription is to get it
pub record IsAskedOfBatch (p : History) (retry : Retry) : Type 0 where
  pub source : Event
  pub lists : ListsEvent p retry source
  pub copied : retry.event ≡ retried retry.sub source

-- this holds of each that is asked for
abbrev pub RetriesAreOfActiveBatches : Type 0
RetriesAreOfActiveBatches = (p : History) (retry : Retry) → IsPlace (queued (asked retry) ∷ p) → IsAskedOfBatch p retry

-- for each event id of a subscription at most one waits
abbrev pub RetriesWaitOnce : Type 0
RetriesWaitOnce = (p : History) → IsPlace p → (sub id : ℕ) → length (filter (is_event sub id) (retries p)) ≤ 1

-- a retry that comes back waited, and is due; its event was put just before, the same except that it is of another transaction, which hadn't ended;
-- and it waits no more
pub record ComesBack (p : History) (retry : Retry) (moment : ℤ) : Type 0 where
  pub below : History
  pub event : Event
  pub after_put : p ≡ queued (put retry.queue event) ∷ below
  pub copied : IsCopyOf event retry.event
  pub same_owner : event.ev_owner ≡ retry.event.ev_owner
  pub same_count : event.ev_retry ≡ retry.event.ev_retry
  pub waited : Contains (retries below) retry
  pub due : retry.due ≤ℤ moment
  pub runs : has_ended below event.ev_txid ≡ false
  pub gone : is_asked retry.sub retry.event.ev_id (retries (queued (returned retry moment) ∷ p)) ≡ false

-- this holds of each that comes back
abbrev pub RetriesComeBackDue : Type 0
RetriesComeBackDue = (p : History) (retry : Retry) (moment : ℤ) → IsPlace (queued (returned retry moment) ∷ p) → ComesBack p retry moment

-- some marks begin with that of a retry that comes back
pub record BeginsBack (later : List Mark) : Type 0 where
  pub rest : List Mark
  pub retry : Retry
  pub moment : ℤ
  pub first : later ≡ rest ++ queued (returned retry moment) ∷ []

-- an event with an owner is put by a retry that comes back, and by nothing else: the next mark is that of the retry
abbrev pub OwnedEventsComeBack : Type 0
OwnedEventsComeBack = (calls : List DatabaseCall) (later : List Mark) (p : History) (queue : ℕ) (event : Event) (sub : ℕ)
    → after_all database_part calls ≡ later ++ queued (put queue event) ∷ p → event.ev_owner ≡ Some sub → BeginsBack later

-- the opening tick of a batch was made at a place, and its closing tick later, up to another place
pub record IsAcross (later place : History) (b : Batch) : Type 0 where
  pub opened : is_some (tick b.prev (ticks b.queue place)) ≡ true
  pub unclosed : is_some (tick b.cur (ticks b.queue place)) ≡ false
  pub closed : is_some (tick b.cur (ticks b.queue later)) ≡ true

-- the event by which a retry came back is in each batch of its subscription across the place where it did, and in no other batch of its queue across
-- it
abbrev pub RetriesAreListed : Type 0
RetriesAreListed = (later : List Mark) (below : History) (retry : Retry) (event : Event) (moment : ℤ) →
    let place : History = queued (returned retry moment) ∷ queued (put retry.queue event) ∷ below in
    IsPlace (later ++ place) → (b : Batch) → b.queue ≡ retry.queue → IsAcross (later ++ place) place b → stands_in (later ++ place) b event ≡ (retry.sub == b.sub)

-- a batch lists at most one event of an id and a transaction; so the event by which a retry came back comes once
abbrev pub EventsComeOnce : Type 0
EventsComeOnce = (p : History) → IsPlace p → (b : Batch) (id t : ℕ) → length (filter (λ e. e.ev_txid == t) (with_id id (batch_events p b))) ≤ 1

-- an event that is a subscription's own is in no batch of another one
abbrev pub RetriesAreForTheirSubscription : Type 0
RetriesAreForTheirSubscription = (h : History) (b : Batch) (e : Event) (sub : ℕ) → e.ev_owner ≡ Some sub → stands_in h b e ≡ true → b.sub ≡ sub

-- the moment of a call, if it has one
abbrev pub moment_of : DatabaseCall → Option ℤ
moment_of (stepped who stmt now) = Some now
moment_of (entered who outside) = None
moment_of (failed who now) = Some now
moment_of (worked part now) = Some now
moment_of (served (making_root name queue now)) = Some now
moment_of (served call) = None

-- the mark of a retry that comes back at that moment, or a mark of something else
abbrev pub IsBackAt : Option ℤ → Mark → Type 0
IsBackAt at (queued (returned retry moment)) = at ≡ Some moment
IsBackAt at _ = ⊤

-- a retry comes back at the moment of the call that brings it
abbrev pub RetriesComeBackAtCalls : Type 0
RetriesComeBackAtCalls = (h : History) (call : DatabaseCall) → All (IsBackAt (moment_of call)) (database_does database_by_history h call).marks
