-- What the events of a traced table do to the rows of a copy of it.
use Rattle.std.specs.Prelude.{ℕ, Bool, true, false, not, ◌&&◌, if◌then◌else◌, List, [], ◌∷◌, Option, None, Some, is_some, is_none, filter, nat_eq, codes}
use Rattle.std.specs.List.{starts_with}
use Rattle.std.specs.Ordering.{eq_by_cmp}
use Rattle.std.specs.Option.{option_and_then}
use Rattle.std.specs.Result.{result_ok}
use Rattle.sky_val.specs.declared.val.Val.{Val}
use Rattle.sky_val.specs.declared.column.Column.{Column}
use Rattle.sky_val.specs.declared.event.Event.{Event}
use Rattle.sky_val.specs.declared.op.Op.{Op}
use Rattle.sky_val.specs.declared.op.Op.TheVariants.{Insert, Update, Delete}
use Rattle.sky_val.specs.Order.{key_cmp}
use Rattle.sky_val.specs.Schemas.{key_of}
use Rattle.sky_val.specs.Entries as entries
use Rattle.sky_val.specs.Entries.{Entries}
use Rattle.sky_urlenc.specs.ReadRow.{read_row}

infixl 10 ◌>>=◌
abbrev ◌>>=◌ : {A B : Type 0} → Option A → (A → Option B) → Option B
o >>= f = option_and_then f o

-- what was done to a row
pub record Change : Type 0 where
  pub op : Op
  pub row : List Val

-- what was done, by how the type of an event begins
abbrev pub op_named : List ℕ → Option Op
op_named name =
    if starts_with nat_eq name (codes "I:") then Some Insert
    else if starts_with nat_eq name (codes "U:") then Some Update
    else if starts_with nat_eq name (codes "D:") then Some Delete
    else None

-- the change that an event records, if it has such a type and its data are a row
abbrev pub change_of : List Column → Event → Option Change
change_of columns event = do
  name ← event.ev_type
  op ← op_named name
  text ← event.ev_data
  row ← result_ok (read_row columns text)
  Some (record { op = op; row = row })

-- the rows without the row of a key
abbrev pub removed : List Val → Entries (List Val) → Entries (List Val)
removed key rows = filter (λ entry. not (eq_by_cmp key_cmp key entry.0)) rows

-- the rows after a row was written under its key, or deleted
abbrev pub after_op : Op → List Val → List Val → Entries (List Val) → Entries (List Val)
after_op Insert key row rows = entries.put key row rows
after_op Update key row rows = entries.put key row rows
after_op Delete key row rows = removed key rows

-- the rows after a change, if there is one
abbrev pub changed : List Column → Option Change → Entries (List Val) → Entries (List Val)
changed columns None rows = rows
changed columns (Some change) rows = after_op change.op (key_of columns change.row) change.row rows

-- the rows after events, the first one first
abbrev pub put : List Column → Entries (List Val) → List Event → Entries (List Val)
put columns rows [] = rows
put columns rows (event ∷ events) = put columns (changed columns (change_of columns event) rows) events

-- whether an operation is allowed at a key: an insert if it is absent, any other if it is present
abbrev pub may_do : Op → List Val → Entries (List Val) → Bool
may_do Insert key rows = is_none (entries.at key rows)
may_do Update key rows = is_some (entries.at key rows)
may_do Delete key rows = is_some (entries.at key rows)

-- whether there is a change, and the rows allow it
abbrev pub allows : List Column → Option Change → Entries (List Val) → Bool
allows columns None rows = false
allows columns (Some change) rows = may_do change.op (key_of columns change.row) rows

-- whether each event records a change that the rows allow after those before it
abbrev pub applies : List Column → Entries (List Val) → List Event → Bool
applies columns rows [] = true
applies columns rows (event ∷ events) =
    allows columns (change_of columns event) rows && applies columns (changed columns (change_of columns event) rows) events
