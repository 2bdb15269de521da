-- What the statements on tables and rows do. Each reads the part `d` of its database as it is, and its rows as they are shown.
use Rattle.std.specs.Prelude.{ℕ, ℤ, pos, ◌+ℤ◌, ◌-ℤ◌, ◌^◌, int_lt, int_le, List, [], ◌∷◌, Bool, true, false, ◌&&◌, Option, Some, None, option_map, Ok, Err, nat_le, is_some, length, map, find, bytes_eq, unwrap_or, slice_get, if◌then◌else◌}
use Rattle.std.specs.List.{list_any}
use Rattle.std.specs.Option.{option_or}
use Rattle.sky_val.specs.declared.val.Val.{Val}
use Rattle.sky_val.specs.declared.val.Val.TheVariants as value
use Rattle.sky_val.specs.declared.column.ColKind.{ColKind}
use Rattle.sky_val.specs.declared.column.ColKind.TheVariants as kind
use Rattle.sky_val.specs.declared.column.Column.{Column}
use Rattle.sky_val.specs.declared.schema.SchemaFault.{SchemaFault}
use Rattle.sky_val.specs.declared.schema.SchemaFault.TheVariants as schema
use Rattle.sky_val.specs.declared.schema.RowFault.{RowFault}
use Rattle.sky_val.specs.declared.schema.RowFault.TheVariants as fault
use Rattle.sky_val.specs.Schemas.{schema_fault, row_fault, key_columns, key_of, is_of_kind}
use Rattle.sky_keys.specs.Waits.{other_holder}
use Rattle.sky_names.specs.Places.{place_of}
use Rattle.sky_model.specs.declared.stmt.Change.{Change}
use Rattle.sky_model.specs.declared.stmt.Change.TheVariants.{To, Add}
use Rattle.sky_model.specs.declared.stmt.Set.{Set}
use Rattle.sky_model.specs.declared.reply.Reply.TheVariants.{Done, Number, Row, NoRow, Rows}
use Rattle.sky_model.specs.declared.reply.Limit.TheVariants.{Tables, Columns}
use Rattle.sky_model.specs.declared.reply.BadRow as bad
use Rattle.sky_model.specs.declared.reply.BadRow.TheVariants as badly
use Rattle.sky_model.specs.declared.reply.Refusal.{Refusal}
use Rattle.sky_model.specs.declared.reply.Refusal.TheVariants.{BadRow, Duplicate, KeyChange, NoKey, NoTable, OutOfRange, ReadOnly, ReservedColumn, Serialize, TableExists, TooMany, TwiceNamed}
use Rattle.sky_model.specs.declared.stmt.Attempt.{Attempt}
use Rattle.sky_model.specs.declared.stmt.Attempt.TheVariants.{Insertion, Changes, Deletion}
use Rattle.sky_model.specs.Limits.{most_of}
use Rattle.sky_model.specs.History.{of_session, tabled, table_made, wrote}
use Rattle.sky_model.specs.State.{RowPart}
use Rattle.sky_model.specs.ShownRows.{KeyShown, RowsShown}
use Rattle.sky_model.specs.Outcome.{Outcome, Checked, ◌>>=◌, ◌>>◌, refused_if, refused_by, found_or, answers, does_marks}
use Rattle.sky_model.specs.OwnTransaction.{txid_for, in_own}
use Rattle.sky_model.specs.StepLocks.{once_free}

-- the table of a name
abbrev pub table_called : List ℕ → RowPart → Checked ℕ
table_called name d = found_or (place_of name d.tables) (NoTable name)

-- the name of the column at a place
abbrev pub column_name : List Column → ℕ → List ℕ
column_name columns place = unwrap_or (option_map Column.name (slice_get columns place)) []

-- why columns make no table
abbrev pub schema_refusal : List Column → SchemaFault → Refusal
schema_refusal columns schema.TooManyColumns = TooMany Columns
schema_refusal columns (schema.TwiceNamed place) = TwiceNamed (column_name columns place)
schema_refusal columns (schema.ReservedColumn place) = ReservedColumn (column_name columns place)
schema_refusal columns schema.NoKey = NoKey

-- `create table TABLE COL..`
abbrev pub create_table : RowPart → List ℕ → List Column → Checked Outcome
create_table d name columns = do
  refused_if (is_some (place_of name d.tables)) (TableExists name)
  refused_if (nat_le (most_of Tables) (length d.tables)) (TooMany Tables)
  refused_by (option_map (schema_refusal columns) (schema_fault columns))
  does_marks Done (tabled (table_made name columns) ∷ [])

-- why values don't fit columns
abbrev pub bad_values : List Column → RowFault → Refusal
bad_values columns fault.Count = BadRow badly.Count
bad_values columns (fault.Kind place) = BadRow (badly.Type (column_name columns place))
bad_values columns (fault.NullKey place) = BadRow (badly.NullKey (column_name columns place))

-- values fit columns
abbrev pub fits : List Column → List Val → Checked (Unit {0})
fits columns values = refused_by (option_map (bad_values columns) (row_fault columns values))

-- the column of a name
abbrev pub column_called : List ℕ → List Column → Option Column
column_called name columns = find (λ column. bytes_eq column.name name) columns

-- whether a column of a kind takes such a change
abbrev pub is_change_of : ColKind → Change → Bool
is_change_of k (To v) = is_of_kind k v
is_change_of kind.Int (Add n) = true
is_change_of kind.Text (Add n) = false

-- why one change is bad, after changes of the columns `before`
abbrev pub bad_set : List (List ℕ) → Set → Option Column → Option bad.BadRow
bad_set before set None = Some (badly.NoColumn set.column)
bad_set before set (Some column) =
    if list_any (bytes_eq set.column) before then Some (badly.Twice set.column)
    else if is_change_of column.kind set.change then None
    else Some (badly.Type set.column)

-- why changes are bad, by the first bad one
abbrev pub bad_sets : List Column → List (List ℕ) → List Set → Option bad.BadRow
bad_sets columns before [] = None
bad_sets columns before (set ∷ sets) = option_or (bad_set before set (column_called set.column columns)) (bad_sets columns (set.column ∷ before) sets)

-- whether a change is of a key column
abbrev pub is_key_change : List Column → Set → Bool
is_key_change columns set = list_any (λ column. bytes_eq column.name set.column) (key_columns columns)

-- a number, if it fits 64 bits with its sign
abbrev pub in_range : ℤ → Option Val
in_range n = if int_le (pos 0 -ℤ pos (2 ^ 63)) n && int_lt n (pos (2 ^ 63)) then Some (value.Int n) else None

-- a value after a change, unless a sum is out of range; Null plus a number is Null
abbrev pub changed : Change → Val → Option Val
changed (To v) old = Some v
changed (Add n) (value.Int m) = in_range (m +ℤ n)
changed (Add n) old = Some old

-- a row after the change of a column
abbrev pub with_set : List Column → Set → List Val → Option (List Val)
with_set [] set row = Some row
with_set (column ∷ columns) set [] = Some []
with_set (column ∷ columns) set (v ∷ row) =
    if bytes_eq column.name set.column then option_map (λ w. w ∷ row) (changed set.change v)
    else option_map (λ rest. v ∷ rest) (with_set columns set row)

-- a row after changes, one after another
abbrev pub with_sets : List Column → List Set → List Val → Checked (List Val)
with_sets columns [] row = Ok row
with_sets columns (set ∷ sets) row = do
  next ← found_or (with_set columns set row) (OutOfRange set.column)
  with_sets columns sets next

-- refused if a write of the key was committed that the session's sight doesn't have, and the own transaction hasn't written the key
abbrev pub is_seen : KeyShown → Checked (Unit {0})
is_seen shown = refused_by (option_map Serialize shown.unseen)

-- a write of a key, in the session's transaction
abbrev pub writes_key : RowPart → ℕ → ℕ → List Val → (old new : Option (List Val)) → Checked Outcome
writes_key d who table key old new = do
  t ← txid_for d who
  does_marks (Number 1) (in_own who t (d.session who) (tabled (wrote (of_session who) t table key old new) ∷ []))

-- a row is inserted at the key
abbrev pub inserts : RowPart → KeyShown → ℕ → ℕ → List Val → List Val → Checked Outcome
inserts d shown who table key row = once_free d who table key (Insertion row) (other_holder d.holder who table key) (do
  refused_if (is_some shown.standing) Duplicate
  writes_key d who table key None (Some row))

-- the row at the key is changed, which leaves `new_of` it; if none is shown, none is changed
abbrev pub changes : RowPart → KeyShown → ℕ → ℕ → List Val → Attempt → (List Val → Checked (Option (List Val))) → Option (List Val) → Checked Outcome
changes d shown who table key attempt new_of None = answers (Number 0)
changes d shown who table key attempt new_of (Some row) = once_free d who table key attempt (other_holder d.holder who table key) (do
  is_seen shown
  new ← new_of row
  writes_key d who table key (Some row) new)

-- a row as an option
abbrev pub some_row : Checked (List Val) → Checked (Option (List Val))
some_row (Ok row) = Ok (Some row)
some_row (Err refusal) = Err refusal

-- what a statement attempts with a key, now or after a wait
abbrev pub attempts : RowPart → KeyShown → ℕ → ℕ → List Val → Attempt → Checked Outcome
attempts d shown who table key (Insertion row) = inserts d shown who table key row
attempts d shown who table key (Changes sets) = changes d shown who table key (Changes sets) (λ row. some_row (with_sets (d.columns table) sets row)) shown.row
attempts d shown who table key Deletion = changes d shown who table key Deletion (λ row. Ok None) shown.row

-- `insert TABLE VAL..`
abbrev pub insert : RowPart → RowsShown → ℕ → List ℕ → List Val → Checked Outcome
insert d shown who name row = do
  table ← table_called name d
  refused_if (d.is_read_only table) ReadOnly
  fits (d.columns table) row
  attempts d (shown.key who table (key_of (d.columns table) row)) who table (key_of (d.columns table) row) (Insertion row)

-- the first change of a key column is refused
abbrev pub key_stays : List Column → List Set → Checked (Unit {0})
key_stays columns sets = refused_by (option_map (λ (set : Set). KeyChange set.column) (find (is_key_change columns) sets))

-- `update TABLE VAL.. set SET..`
abbrev pub update : RowPart → RowsShown → ℕ → List ℕ → List Val → List Set → Checked Outcome
update d shown who name key sets = do
  table ← table_called name d
  refused_if (d.is_read_only table) ReadOnly
  fits (key_columns (d.columns table)) key
  refused_by (option_map BadRow (bad_sets (d.columns table) [] sets))
  key_stays (d.columns table) sets
  attempts d (shown.key who table key) who table key (Changes sets)

-- `delete TABLE VAL..`
abbrev pub delete : RowPart → RowsShown → ℕ → List ℕ → List Val → Checked Outcome
delete d shown who name key = do
  table ← table_called name d
  refused_if (d.is_read_only table) ReadOnly
  fits (key_columns (d.columns table)) key
  attempts d (shown.key who table key) who table key Deletion

-- a row, or the answer that there is none
abbrev pub row_or_none : Option (List Val) → Checked Outcome
row_or_none None = answers NoRow
row_or_none (Some row) = answers (Row row)

-- `get TABLE VAL..`
abbrev pub get : RowPart → RowsShown → ℕ → List ℕ → List Val → Checked Outcome
get d shown who name key = do
  table ← table_called name d
  fits (key_columns (d.columns table)) key
  row_or_none (shown.key who table key).row

-- `scan TABLE`: the rows by key
abbrev pub scan : RowPart → RowsShown → ℕ → List ℕ → Checked Outcome
scan d shown who name = do
  table ← table_called name d
  answers (Rows (map (λ e. e.1) (shown.rows who table)))
