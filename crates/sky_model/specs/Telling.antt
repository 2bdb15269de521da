-- What records writes of rows: after each write come the events of its table's triggers.
use Rattle.std.specs.Prelude.{ℕ, ℤ, List, [], ◌∷◌, ◌++◌, Option, Some, None, Ok, map, slice_get, unwrap_or}
use Rattle.sky_val.specs.declared.val.Val.{Val}
use Rattle.sky_val.specs.declared.event.Event.{Event}
use Rattle.sky_urlenc.specs.RowEvents.{TracedWrite, RowEvent, events_of}
use Rattle.sky_model.specs.History.{Mark, of_session, tabled, wrote, queued, raised, put}
use Rattle.sky_model.specs.Triggers.{TableTrigger, triggers_of}
use Rattle.sky_model.specs.State.{Database, after_mark, after_marks}
use Rattle.sky_model.specs.Outcome.{Outcome, Checked, ◌>>=◌, does_marks}
use Rattle.sky_model.specs.StepQueue.{next_event_id}

-- a write to a table of the database
abbrev pub write_in : Database → ℕ → (old new : Option (List Val)) → TracedWrite
write_in d table old new = record { table = unwrap_or (slice_get d.part.tables table) []; columns = d.part.columns table; old = old; new = new }

-- the events that record it
abbrev pub events_of_write : Database → ℕ → (old new : Option (List Val)) → List RowEvent
events_of_write d table old new = events_of (write_in d table old new) (map TableTrigger.trigger (triggers_of table d.triggers))

-- such an event with its id, at this time, of this transaction
abbrev pub told_event : ℕ → ℤ → ℕ → RowEvent → Event
told_event id now t e = record {
  ev_id = id;
  ev_time = now;
  ev_txid = t;
  ev_owner = None;
  ev_retry = None;
  ev_type = Some e.ev_type;
  ev_data = e.ev_data;
  ev_extra1 = Some e.ev_extra1;
  ev_extra2 = e.ev_extra2;
  ev_extra3 = None;
  ev_extra4 = None;
}

-- the marks of an event: it takes an id of its queue's sequence, and is stored
abbrev pub event_marks : ℕ → Event → List Mark
event_marks queue e = queued (raised queue e.ev_id) ∷ queued (put queue e) ∷ []

-- the marks of events, each with the next id of its queue, or the refusal if one of them has none
abbrev pub told_by : Database → ℤ → ℕ → List RowEvent → Checked (List Mark)
told_by d now t [] = Ok []
told_by d now t (e ∷ es) = do
  id ← next_event_id (d.queue e.queue)
  rest ← told_by (after_marks d (event_marks e.queue (told_event id now t e))) now t es
  Ok (event_marks e.queue (told_event id now t e) ++ rest)

-- what records a mark: for a session's write, its events
abbrev pub told_of : Database → ℤ → Mark → Checked (List Mark)
told_of d now (tabled (wrote (of_session who) t table key old new)) = told_by d now t (events_of_write d table old new)
told_of d now _ = Ok []

-- marks, each followed by what records it
abbrev pub with_told : Database → ℤ → List Mark → Checked (List Mark)
with_told d now [] = Ok []
with_told d now (mark ∷ marks) = do
  told ← told_of (after_mark d mark) now mark
  rest ← with_told (after_marks d (mark ∷ told)) now marks
  Ok (mark ∷ told ++ rest)

-- what a statement on rows does in a whole database: its writes are recorded, or it is refused if there aren't ids for all events
abbrev pub tells : Database → ℤ → Checked Outcome → Checked Outcome
tells d now checked = do
  outcome ← checked
  marks ← with_told d now outcome.marks
  does_marks outcome.reply marks
