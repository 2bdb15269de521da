-- The ids of a queue's events rise in the order in which they are put, but for those that are retried.
use Rattle.std.proofs.Common.{◌≡◌, ℕ, ◌<◌, All, ◌∷◌, None, sym, ◌∙◌}
use Rattle.sky_val.specs.declared.event.Event.{Event}
use Rattle.sky_model.specs.History.{queued, put, History}
use Rattle.sky_model.specs.Queues.{events}
use Rattle.sky_model.specs.LawsOfWrites.{EventIdsRise}
use Rattle.sky_histories.proofs.Legal.{Fine, puts, puts_back, Legal, legal-below_mark, fine_mark}
use Rattle.sky_histories.proofs.SnapshotLaws.{legal_place}
use Rattle.sky_histories.proofs.RetryCopies.{owned}

put-newest : {h : History} {queue : ℕ} {event : Event} → Legal h → Fine h (queued (put queue event)) → event.ev_owner ≡ None → All (λ e. e.ev_id < event.ev_id) (events queue h)
put-newest l (puts who queue event is at mine newest) none = newest
put-newest {h = h} l (puts_back retry t back) none = absurd (cc (sym (owned h l retry back.waits) ∙ none))

pub event_ids_rise : EventIdsRise
event_ids_rise p queue event is none =
    let l : Legal (queued (put queue event) ∷ p) = legal_place (queued (put queue event) ∷ p) is in put-newest (legal-below_mark l) (fine_mark l) none
