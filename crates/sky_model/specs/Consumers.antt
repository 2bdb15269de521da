-- Consumers of queues: the position of each, and which batch it has.
use Rattle.std.specs.Prelude.{ℕ, List, [], ◌∷◌, ◌++◌, Option, Some, None, ◌==◌, ◌&&◌, bytes_eq, option_map, if◌then◌else◌}
use Rattle.londiste_state.specs.Nodes.{all_but}
use Rattle.sky_model.specs.History.{Batch, queued, registered, moved, unregistered, opened, closed, History}

-- the consumers of a queue, in the order of registering
abbrev pub consumers : ℕ → History → List (List ℕ)
consumers queue [] = []
consumers queue (queued (registered q name sub tick) ∷ h) = if q == queue then consumers queue h ++ name ∷ [] else consumers queue h
consumers queue (queued (unregistered q name sub) ∷ h) = if q == queue then all_but name (consumers queue h) else consumers queue h
consumers queue (_ ∷ h) = consumers queue h

-- the id of a consumer's subscription, if it is registered
abbrev pub subscription_id : ℕ → List ℕ → History → Option ℕ
subscription_id queue consumer [] = None
subscription_id queue consumer (queued (registered q name sub tick) ∷ h) =
    if q == queue && bytes_eq consumer name then Some sub else subscription_id queue consumer h
subscription_id queue consumer (queued (unregistered q name sub) ∷ h) =
    if q == queue && bytes_eq consumer name then None else subscription_id queue consumer h
subscription_id queue consumer (_ ∷ h) = subscription_id queue consumer h

-- a consumer's last tick: where it registered or was moved to, or the closing tick of the last batch that it finished since; 0 if it isn't registered
abbrev pub position : ℕ → List ℕ → History → ℕ
position queue consumer [] = 0
position queue consumer (queued (registered q name sub tick) ∷ h) =
    if q == queue && bytes_eq consumer name then tick else position queue consumer h
position queue consumer (queued (moved q name tick) ∷ h) =
    if q == queue && bytes_eq consumer name then tick else position queue consumer h
position queue consumer (queued (unregistered q name sub) ∷ h) =
    if q == queue && bytes_eq consumer name then 0 else position queue consumer h
position queue consumer (queued (closed batch) ∷ h) =
    if batch.queue == queue && bytes_eq consumer batch.consumer then batch.cur else position queue consumer h
position queue consumer (_ ∷ h) = position queue consumer h

-- a consumer's active batch: the last that was made for it, and is neither finished nor given up
abbrev pub active : ℕ → List ℕ → History → Option ℕ
active queue consumer [] = None
active queue consumer (queued (registered q name sub tick) ∷ h) =
    if q == queue && bytes_eq consumer name then None else active queue consumer h
active queue consumer (queued (moved q name tick) ∷ h) =
    if q == queue && bytes_eq consumer name then None else active queue consumer h
active queue consumer (queued (unregistered q name sub) ∷ h) =
    if q == queue && bytes_eq consumer name then None else active queue consumer h
active queue consumer (queued (opened batch) ∷ h) =
    if batch.queue == queue && bytes_eq consumer batch.consumer then Some batch.id else active queue consumer h
active queue consumer (queued (closed batch) ∷ h) =
    if batch.queue == queue && bytes_eq consumer batch.consumer then None else active queue consumer h
active queue consumer (_ ∷ h) = active queue consumer h

-- a subscription
pub record Subscription : Type 0 where
  pub id : ℕ
  pub position : ℕ
  pub active : Option ℕ

-- a consumer's subscription, if it is registered
abbrev pub subscription : ℕ → List ℕ → History → Option Subscription
subscription queue consumer h =
    option_map (λ id. record { id = id; position = position queue consumer h; active = active queue consumer h })
    (subscription_id queue consumer h)

-- the last subscription id that was given
abbrev pub last_subscription : History → ℕ
last_subscription [] = 0
last_subscription (queued (registered q name sub tick) ∷ h) = sub
last_subscription (_ ∷ h) = last_subscription h

-- the last batch id that was given
abbrev pub last_batch : History → ℕ
last_batch [] = 0
last_batch (queued (opened batch) ∷ h) = batch.id
last_batch (_ ∷ h) = last_batch h

-- a batch, unless it is this consumer's of this queue
abbrev pub of_another : ℕ → List ℕ → Option Batch → Option Batch
of_another queue consumer None = None
of_another queue consumer (Some batch) = if queue == batch.queue && bytes_eq batch.consumer consumer then None else Some batch

-- an active batch, by its id
abbrev pub active_batch : ℕ → History → Option Batch
active_batch id [] = None
active_batch id (queued (opened batch) ∷ h) = if batch.id == id then Some batch else active_batch id h
active_batch id (queued (closed batch) ∷ h) = if batch.id == id then None else active_batch id h
active_batch id (queued (moved q name tick) ∷ h) = of_another q name (active_batch id h)
active_batch id (queued (unregistered q name sub) ∷ h) = of_another q name (active_batch id h)
active_batch id (_ ∷ h) = active_batch id h
