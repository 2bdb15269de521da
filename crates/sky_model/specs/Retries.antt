-- Events that subscriptions are to get once more: which wait for it, and what comes back.
use Rattle.std.specs.Prelude.{ℕ, ◌+◌, List, [], ◌∷◌, ◌++◌, Some, unwrap_or}
use Rattle.sky_val.specs.declared.event.Event.{Event}
use Rattle.pgq_retry.specs.declared.retry.Retry.{Retry}
use Rattle.pgq_retry.specs.Retries.{without, without_sub}
use Rattle.sky_model.specs.History.{queued, unregistered, asked, returned, History}

-- the retries that wait, in the order of asking: those of a consumer that leaves wait no more
abbrev pub retries : History → List Retry
retries [] = []
retries (queued (asked retry) ∷ h) = retries h ++ retry ∷ []
retries (queued (returned retry moment) ∷ h) = without retry.sub retry.event.ev_id (retries h)
retries (queued (unregistered q name sub) ∷ h) = without_sub sub (retries h)
retries (_ ∷ h) = retries h

-- an event as it is to be retried for a subscription: for that alone, and with one retry more, where null counts as 0
abbrev pub retried : ℕ → Event → Event
retried sub e = record e { ev_owner = Some sub; ev_retry = Some (unwrap_or e.ev_retry 0 + 1) }

-- as it comes back: of the transaction that brings it
abbrev pub brought_by : ℕ → Event → Event
brought_by t e = record e { ev_txid = t }
