-- Which of the events of a set's queue are a table's, and which of those aren't in a copy of it yet.
use Rattle.std.specs.Prelude.{ℕ, Bool, false, not, ◌&&◌, List, Option, Some, None, is_none, bytes_eq, filter}
use Rattle.sky_val.specs.declared.event.Event.{Event}
use Rattle.sky_txid.specs.Snapshot.{SnapshotView, sees}
use Rattle.sky_model.specs.StepApply.{is_change}

-- whether a text is a name
abbrev pub is_name : List ℕ → Option (List ℕ) → Bool
is_name name None = false
is_name name (Some text) = bytes_eq name text

-- whether an event says what was done to a row of the table of a name
abbrev pub changes_table : List ℕ → Event → Bool
changes_table name e = is_change e && is_name name e.ev_extra1

-- the events of a table: those that aren't for one subscription alone
abbrev pub table_events : List ℕ → List Event → List Event
table_events name events = filter (λ e. is_none e.ev_owner && changes_table name e) events

-- events without those of transactions that a snapshot sees
abbrev pub unseen_events : SnapshotView → List Event → List Event
unseen_events snapshot events = filter (λ e. not (sees snapshot e.ev_txid)) events
