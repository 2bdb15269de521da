-- The event tables of a queue: which events are stored, in which table, and how far their rotation is.
use Rattle.std.specs.Prelude.{ℕ, ◌+◌, ◌%◌, ◌==◌, ◌||◌, ℤ, pos, Bool, false, List, [], ◌∷◌, ◌++◌, map, flat_map, length, drop, take, slice_index_or, slice_set, Option, Some, None, unwrap_or}
use Rattle.sky_val.specs.declared.event.Event.{Event}
use Rattle.pgq_tables.specs.declared.stored.PlainEvent.{PlainEvent}

-- a plain event as an event of all parts: it has no owner and no further texts
abbrev pub full_event : PlainEvent → Event
full_event e = record {
  ev_id = e.ev_id;
  ev_time = e.ev_time;
  ev_txid = e.ev_txid;
  ev_owner = None;
  ev_retry = None;
  ev_type = e.ev_type;
  ev_data = e.ev_data;
  ev_extra1 = None;
  ev_extra2 = None;
  ev_extra3 = None;
  ev_extra4 = None;
}

-- the parts of an event that record a change of a row; its time is 0, and the rest is missing
abbrev pub recorded_part : Event → Event
recorded_part e = record {
  ev_id = e.ev_id;
  ev_time = pos 0;
  ev_txid = e.ev_txid;
  ev_owner = None;
  ev_retry = None;
  ev_type = e.ev_type;
  ev_data = e.ev_data;
  ev_extra1 = e.ev_extra1;
  ev_extra2 = None;
  ev_extra3 = None;
  ev_extra4 = None;
}

-- an event as it is stored: it is dead once its transaction was rolled back
pub record Stored : Type 0 where
  pub event : Event
  pub dead : Bool

-- tables by their numbers, each with its events in the order of storing; the number of the current one, to which events are added; the transactions
-- of both steps of the last switch, of which the second may be missing; when that was; and the transaction whose commit makes the next one, if one is
-- pending
pub record Tables : Type 0 where
  pub lists : List (List Stored)
  pub current : ℕ
  pub first_step : ℕ
  pub second_step : Option ℕ
  pub switched_at : ℤ
  pub pending : Option ℕ

-- those of a queue that isn't made
abbrev pub no_tables : Tables
no_tables = record { lists = []; current = 0; first_step = 0; second_step = None; switched_at = pos 0; pending = None }

-- those of a new queue, three empty ones: the transaction that made it counts for both steps
abbrev pub new_tables : ℕ → ℤ → Tables
new_tables t time = record { lists = [] ∷ [] ∷ [] ∷ []; current = 0; first_step = t; second_step = Some t; switched_at = time; pending = None }

-- with one more event in the current table
abbrev pub with_stored : Event → Tables → Tables
with_stored e ts = record ts {
  lists = slice_set ts.lists ts.current (slice_index_or ts.lists ts.current [] ++ record { event = e; dead = false } ∷ []);
}

-- a stored event once a transaction was rolled back
abbrev pub marked_dead : ℕ → Stored → Stored
marked_dead t s = record s { dead = s.event.ev_txid == t || s.dead }

-- with the events of a transaction dead
abbrev pub with_dead : ℕ → Tables → Tables
with_dead t ts = record ts { lists = map (map (marked_dead t)) ts.lists }

-- with a switch pending, which the commit of a transaction makes
abbrev pub with_pending : ℕ → Tables → Tables
with_pending t ts = record ts { pending = Some t }

-- with none pending
abbrev pub without_pending : Tables → Tables
without_pending ts = record ts { pending = None }

-- the number of the table that is current after the next switch
abbrev pub next_table : Tables → ℕ
next_table ts = (ts.current + 1) % length ts.lists

-- with the pending switch made at a time: the next table is emptied, and is the current one
abbrev pub with_switch : ℤ → Tables → Tables
with_switch time ts = record {
  lists = slice_set ts.lists (next_table ts) [];
  current = next_table ts;
  first_step = unwrap_or ts.pending ts.first_step;
  second_step = None;
  switched_at = time;
  pending = None;
}

-- with the second step made by a transaction
abbrev pub with_second_step : ℕ → Tables → Tables
with_second_step t ts = record ts { second_step = Some t }

-- all stored events, those of the oldest table first and those of the current one last
abbrev pub by_age : Tables → List Stored
by_age ts = flat_map (λ list. list) (drop (ts.current + 1) ts.lists ++ take (ts.current + 1) ts.lists)
