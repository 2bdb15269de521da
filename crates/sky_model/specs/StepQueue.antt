-- What the statements on queues do. Each reads the database `d` as it is.
use Rattle.std.specs.Prelude.{ℕ, ◌+◌, ◌-◌, ◌*◌, ◌^◌, ℤ, pos, ◌-ℤ◌, ◌*ℤ◌, List, [], ◌∷◌, ◌++◌, Bool, true, false, not, ◌&&◌, ◌||◌, Option, Some, None, option_map, unwrap_or, nat_lt, nat_le, ◌==◌, is_some, option_and_then, length, map, find, int_lt, Ok, if◌then◌else◌}
use Rattle.std.specs.List.{list_any}
use Rattle.sky_val.specs.declared.event.Event.{Event}
use Rattle.sky_urlenc.specs.Changes.{op_named}
use Rattle.sky_model.specs.declared.stmt.Extra.{Extra}
use Rattle.sky_model.specs.declared.stmt.QueueSetting.{QueueSetting}
use Rattle.sky_model.specs.declared.stmt.InsertedEvent.{InsertedEvent}
use Rattle.sky_model.specs.declared.reply.QueueInfo as reply
use Rattle.sky_model.specs.declared.reply.Reply.TheVariants.{Number, Null, QueueInfo}
use Rattle.sky_model.specs.declared.reply.Limit.TheVariants.{Queues}
use Rattle.sky_model.specs.declared.reply.Refusal.TheVariants.{NoQueue, TooMany, HasConsumers, HasTriggers, QueueBusy, EventIdsSpent, IdsSpent, NoParam, BadValue, ReservedType, SetQueue}
use Rattle.sky_model.specs.Limits.{most_of}
use Rattle.sky_model.specs.History.{queued, made, raised, put, ticked, configured, dropped}
use Rattle.pgq_tables.specs.Tables.{Tables, by_age}
use Rattle.sky_model.specs.Queues.{queue_number, is_pending, Tick, newest_tick, id_of}
use Rattle.sky_model.specs.Config.{Config, param_of, configured_by}
use Rattle.sky_model.specs.Triggers.{TableTrigger}
use Rattle.sky_model.specs.Nodes.{is_set_queue}
use Rattle.sky_model.specs.State.{Queue, Database}
use Rattle.sky_model.specs.OwnTransaction.{txid_for, in_own}
use Rattle.sky_model.specs.Outcome.{Outcome, Checked, ◌>>=◌, ◌>>◌, refused_if, refused_by, found_or, answers, does_marks}

-- the queue of a name
abbrev pub queue_called : List ℕ → Database → Checked ℕ
queue_called name d = found_or (queue_number name d.queues) (NoQueue name)

-- `create_queue NAME`: a queue with its first tick, made when the transaction has ended
abbrev pub create_queue : Database → ℤ → ℕ → List ℕ → Checked Outcome
create_queue d now who name =
    if is_some (queue_number name d.queues) then answers (Number 0) else do
      refused_if (nat_le (most_of Queues) (length d.queues)) (TooMany Queues)
      t ← txid_for d.part who
      does_marks (Number 1) (in_own who t (d.part.session who) [] ++ queued (made name t now) ∷ [])

-- whether a transaction has put an event into event tables, or makes their pending switch
abbrev pub has_part_in : Tables → ℕ → Bool
has_part_in ts t = list_any (λ s. s.event.ev_txid == t) (by_age ts) || is_pending t ts

-- the least running transaction that has put an event into a queue, or makes its pending switch
abbrev pub least_producer : Database → ℕ → Option ℕ
least_producer d queue = find (has_part_in (d.queue queue).event_tables) d.part.running_ids

-- the first trigger that puts events into a queue
abbrev pub first_trigger_into : ℕ → List TableTrigger → Option TableTrigger
first_trigger_into queue triggers = find (λ t. t.trigger.queue == queue) triggers

-- a trigger's name, as a refusal shows it: empty if it has none
abbrev pub shown_name : TableTrigger → List ℕ
shown_name t = unwrap_or t.name []

-- `drop_queue NAME`: a queue that nobody needs is dropped; one that is made again under the name is another
abbrev pub drop_queue : Database → List ℕ → Checked Outcome
drop_queue d name = do
  queue ← queue_called name d
  refused_if (is_set_queue name d.node) SetQueue
  refused_if (not (length (d.queue queue).members == 0)) (HasConsumers (length (d.queue queue).members))
  refused_by (option_map (λ t. HasTriggers (shown_name t)) (first_trigger_into queue d.triggers))
  refused_by (option_map QueueBusy (least_producer d queue))
  does_marks (Number 1) (queued (dropped queue) ∷ [])

-- the further texts of an event
abbrev pub extra_of : (Extra → Option (List ℕ)) → Option Extra → Option (List ℕ)
extra_of text None = None
extra_of text (Some extra) = text extra

-- the event that a statement makes
abbrev pub made_event : ℕ → ℤ → ℕ → Option (List ℕ) → Option (List ℕ) → Option Extra → Event
made_event id now t ev_type ev_data extra = record {
  ev_id = id;
  ev_time = now;
  ev_txid = t;
  ev_owner = None;
  ev_retry = None;
  ev_type = ev_type;
  ev_data = ev_data;
  ev_extra1 = extra_of (λ x. x.ev_extra1) extra;
  ev_extra2 = extra_of (λ x. x.ev_extra2) extra;
  ev_extra3 = extra_of (λ x. x.ev_extra3) extra;
  ev_extra4 = extra_of (λ x. x.ev_extra4) extra;
}

-- the queue's next event id, if there is one
abbrev pub next_event_id : Queue → Checked ℕ
next_event_id q = do
  refused_if (nat_le (2 ^ 62) (q.seq + 1)) EventIdsSpent
  Ok (q.seq + 1)

-- whether events of a type record changes of rows: it begins with `I:`, `U:` or `D:`
abbrev pub tells_of_rows : Option (List ℕ) → Bool
tells_of_rows ev_type = is_some (option_and_then op_named ev_type)

-- `insert_event NAME TVAL TVAL`, or with four more TVAL: an event with the next id of the queue's sequence
abbrev pub insert_event : Database → ℤ → ℕ → InsertedEvent → Checked Outcome
insert_event d now who event = do
  queue ← queue_called event.queue d
  refused_if (is_set_queue event.queue d.node && tells_of_rows event.ev_type) ReservedType
  t ← txid_for d.part who
  id ← next_event_id (d.queue queue)
  does_marks (Number id)
      (in_own who t (d.part.session who) (queued (raised queue id) ∷ queued (put queue (made_event id now t event.ev_type event.ev_data event.extra)) ∷ []))

-- without new events a tick is due if no other tick is kept, or the queue has been idle long enough: twice the lag reaches the limit, and the lag
-- reaches twice the time between the last two ticks, or the idle period
abbrev pub is_idle_due : Config → ℤ → Tick → Option Tick → Bool
is_idle_due config lag last None = true
is_idle_due config lag last (Some before) =
    not (int_lt (pos 2 *ℤ lag) config.max_lag
    || (int_lt lag (pos 2 *ℤ (last.time -ℤ before.time)) && int_lt lag config.idle_period))

-- with new events a tick is due unless they are few and the last tick is recent
abbrev pub is_due_after : Config → ℤ → ℕ → Tick → Option Tick → Bool
is_due_after config now seq last before =
    if nat_lt last.seq seq
    then not (nat_lt (seq - last.seq) config.max_count && int_lt (now -ℤ last.time) config.max_lag)
    else is_idle_due config (now -ℤ last.time) last before

-- the last two ticks, the last first
abbrev pub last_two : Option Tick → List Tick → Option (Tick × Option Tick)
last_two before [] = None
last_two before (t ∷ []) = Some (t, before)
last_two before (t ∷ u ∷ ts) = last_two (Some t) (u ∷ ts)

-- a tick is due at this time and value of the sequence
abbrev pub due_of : Config → ℤ → ℕ → Option (Tick × Option Tick) → Bool
due_of config now seq None = false
due_of config now seq (Some (last, before)) = not config.paused && is_due_after config now seq last before

-- a tick of a queue is due
abbrev pub is_due : ℤ → Queue → Bool
is_due now q = due_of q.config now q.seq (last_two None q.tick_list)

-- the id of a queue's newest tick
abbrev pub newest_id : Queue → ℕ
newest_id q = id_of (newest_tick q.tick_list)

-- a tick of a queue, if one is due
abbrev pub next_tick : Database → ℤ → ℕ → Checked Outcome
next_tick d now queue =
    if is_due now (d.queue queue)
    then (do
      refused_if (nat_le (2 ^ 64) (newest_id (d.queue queue) + 1)) IdsSpent
      does_marks (Number (newest_id (d.queue queue) + 1))
          (queued (ticked queue (newest_id (d.queue queue) + 1) now (d.queue queue).seq) ∷ []))
    else answers Null

-- `ticker NAME`
abbrev pub ticker : Database → ℤ → List ℕ → Checked Outcome
ticker d now name = queue_called name d >>= next_tick d now

-- how far `force_tick` raises the sequence, so that a tick is due, unless the queue is paused
abbrev pub forced : Config → ℕ
forced c = 2 * c.max_count + 1000

-- `force_tick NAME`
abbrev pub force_tick : Database → List ℕ → Checked Outcome
force_tick d name = do
  queue ← queue_called name d
  refused_if (nat_le (2 ^ 62) ((d.queue queue).seq + forced (d.queue queue).config)) EventIdsSpent
  does_marks (Number (newest_id (d.queue queue))) (queued (raised queue ((d.queue queue).seq + forced (d.queue queue).config)) ∷ [])

-- `set_queue_config NAME RAW RAW`: a parameter of the queue gets a value
abbrev pub set_queue_config : Database → QueueSetting → Checked Outcome
set_queue_config d setting = do
  queue ← queue_called setting.queue d
  p ← found_or (param_of setting.param) (NoParam setting.param)
  config ← found_or (configured_by (d.queue queue).config p setting.value) (BadValue setting.param)
  does_marks (Number 1) (queued (configured queue config) ∷ [])

-- what is shown of a queue: of its event tables the number of the current one, and how many events each has, dead ones among them
abbrev pub info_of : Queue → reply.QueueInfo
info_of q = record { current = q.event_tables.current; last_tick = newest_id q; seq = q.seq; stored = map length q.event_tables.lists }

-- `queue_info NAME`
abbrev pub queue_info : Database → List ℕ → Checked Outcome
queue_info d name = do
  queue ← queue_called name d
  answers (QueueInfo (info_of (d.queue queue)))
