-- The events that record a write to a table: one for each of the table's triggers, in their order, but for triggers that ignore the write.
use Rattle.std.specs.Prelude.{ℕ, Bool, false, not, ◌&&◌, if◌then◌else◌, List, Option, None, Some, option_map, map, filter, zip, length, nat_lt, bytes_eq}
use Rattle.std.specs.List.{list_any, list_all}
use Rattle.std.specs.Option.{option_or}
use Rattle.std.specs.Ordering.{eq_by_cmp}
use Rattle.sky_val.specs.declared.val.Val.{Val}
use Rattle.sky_val.specs.declared.column.Column.{Column}
use Rattle.sky_val.specs.declared.op.Op.{Op}
use Rattle.sky_val.specs.declared.op.Op.TheVariants.{Insert, Update, Delete}
use Rattle.sky_val.specs.Order.{val_cmp}
use Rattle.sky_urlenc.specs.EventType.{event_type}
use Rattle.sky_urlenc.specs.RowText.{row_text}

-- a trigger of a table: the number of the queue that its events go to; whether the event of an update also has the old row; and the columns that an
-- update may change without an event
pub record Trigger : Type 0 where
  pub queue : ℕ
  pub backup : Bool
  pub ignored : List (List ℕ)

-- a write to a table of this name: the row that the key had, and the row that it has
pub record TracedWrite : Type 0 where
  pub table : List ℕ
  pub columns : List Column
  pub old : Option (List Val)
  pub new : Option (List Val)

-- what was done to the row
abbrev pub op_of : (old new : Option (List Val)) → Op
op_of None new = Insert
op_of (Some row) None = Delete
op_of (Some row) (Some next) = Update

-- the names of the columns that an update changed
abbrev pub changed_columns : List Column → (old new : List Val) → List (List ℕ)
changed_columns columns old new =
    map (λ c. c.0.name) (filter (λ c. not (eq_by_cmp val_cmp c.1.0 c.1.1)) (zip columns (zip old new)))

-- whether columns were changed, all of them ignored by a trigger
abbrev pub are_ignored : Trigger → List (List ℕ) → Bool
are_ignored trigger changed = nat_lt 0 (length changed) && list_all (λ name. list_any (bytes_eq name) trigger.ignored) changed

-- whether a trigger ignores a write: an update that changed columns that it ignores, and no others
abbrev pub leaves_out : Trigger → List Column → (old new : Option (List Val)) → Bool
leaves_out trigger columns (Some old) (Some new) = are_ignored trigger (changed_columns columns old new)
leaves_out trigger columns old new = false

-- the old row of an update
abbrev pub updated : (old new : Option (List Val)) → Option (List Val)
updated old None = None
updated old (Some new) = old

-- an event of a queue, but for its id, time and transaction; its owner, its retry count and the last two texts are null
pub record RowEvent : Type 0 where
  pub queue : ℕ
  pub ev_type : List ℕ
  pub ev_data : Option (List ℕ)
  pub ev_extra1 : List ℕ
  pub ev_extra2 : Option (List ℕ)

-- the event of a trigger: its data are the new row, or the deleted one
abbrev pub event_of : TracedWrite → Trigger → RowEvent
event_of write trigger = record {
  queue = trigger.queue;
  ev_type = event_type (op_of write.old write.new) write.columns;
  ev_data = option_map (row_text write.columns) (option_or write.new write.old);
  ev_extra1 = write.table;
  ev_extra2 = if trigger.backup then option_map (row_text write.columns) (updated write.old write.new) else None;
}

-- the events of all triggers of the table
abbrev pub events_of : TracedWrite → List Trigger → List RowEvent
events_of write triggers = map (event_of write) (filter (λ trigger. not (leaves_out trigger write.columns write.old write.new)) triggers)
