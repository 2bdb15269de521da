-- How a queue changes, as the code keeps it.
use Rattle.std.specs.Prelude.{◌+◌, ℕ, ℤ, is_none, if◌then◌else◌}
use Rattle.sky_urlenc.specs.RowEvents.{RowEvent}
use Rattle.pgq_tables.specs.Tables.{Tables, with_stored, with_second_step}
use Rattle.pgq_tables.specs.Tables as tables_of
use Rattle.sky_model.specs.Queues.{is_pending, without_transaction, ticks_above, second_step_of}
use Rattle.sky_model.specs.Telling.{told_event}
use Rattle.pgq_queue.specs.Views.{QueueView}

-- a queue with its event tables changed; how often events were looked at stays
abbrev pub retabled : (Tables → Tables) → QueueView → QueueView
retabled change q = record q { event_tables = record q.event_tables { tables = change q.event_tables.tables } }

-- a queue once a transaction was rolled back
abbrev pub undone_in : ℕ → QueueView → QueueView
undone_in t q = retabled (without_transaction t) q

-- a queue whose pending switch was made at a time
abbrev pub switched_in : ℤ → QueueView → QueueView
switched_in now q = record (retabled (tables_of.with_switch now) q) { ticks = ticks_above (second_step_of q.event_tables.tables) q.ticks }

-- one whose pending switch was made if it is this transaction's
abbrev pub settled_in : ℕ → ℤ → QueueView → QueueView
settled_in t now q = if is_pending t q.event_tables.tables then switched_in now q else q

-- one whose second step was made by this transaction if it was missing
abbrev pub ended_in : ℕ → QueueView → QueueView
ended_in t q = if is_none q.event_tables.tables.second_step then retabled (with_second_step t) q else q

-- a queue with one more event of a trigger, at a time, of a transaction: it takes the next id
abbrev pub telling : ℤ → ℕ → RowEvent → QueueView → QueueView
telling now t e q = record q { seq = q.seq + 1; event_tables = record q.event_tables { tables = with_stored (told_event (q.seq + 1) now t e) q.event_tables.tables } }
