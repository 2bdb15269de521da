-- Which columns make a schema, which rows a schema takes, and what their keys are.
use Rattle.std.specs.Prelude.{◌≡◌, ◌≢◌, ◌≤◌, ℕ, ◌+◌, ◌==◌, Bool, true, false, not, ◌&&◌, if◌then◌else◌, List, [], ◌∷◌, ◌++◌, length, Option, None, Some, nat_lt, nat_eq, bytes_eq, codes, position, filter, option_map}
use Rattle.std.specs.List.{list_any, starts_with, All, AllPairs, Any}
use Rattle.std.specs.Option.{option_or}
use Rattle.sky_val.specs.declared.val.Val.{Val}
use Rattle.sky_val.specs.declared.val.Val.TheVariants as value
use Rattle.sky_val.specs.declared.column.ColKind.{ColKind}
use Rattle.sky_val.specs.declared.column.ColKind.TheVariants as kind
use Rattle.sky_val.specs.declared.column.Column.{Column}
use Rattle.sky_val.specs.declared.schema.SchemaFault.{SchemaFault}
use Rattle.sky_val.specs.declared.schema.SchemaFault.TheVariants.{TooManyColumns, TwiceNamed, ReservedColumn, NoKey}
use Rattle.sky_val.specs.declared.schema.RowFault.{RowFault}
use Rattle.sky_val.specs.declared.schema.RowFault.TheVariants.{Count, Kind, NullKey}

-- ---- the columns

-- whether a column has this name
abbrev pub has_name : List ℕ → List Column → Bool
has_name name columns = list_any (λ column. bytes_eq column.name name) columns

-- the place of the first column that has the name of an earlier one, after these earlier ones
abbrev pub twice_named : List Column → List Column → Option ℕ
twice_named before [] = None
twice_named before (column ∷ columns) =
    if has_name column.name before then Some (length before) else twice_named (before ++ column ∷ []) columns

-- whether a name begins as those of an event's fields do, which no column's may
abbrev pub is_reserved : List ℕ → Bool
is_reserved name = starts_with nat_eq name (codes "_pgq_ev_")

-- the place of the first column with such a name
abbrev pub reserved_column : List Column → Option ℕ
reserved_column columns = position (λ column. is_reserved column.name) columns

-- the columns whose values are the key
abbrev pub key_columns : List Column → List Column
key_columns columns = filter (λ column. column.key) columns

-- whether there is such a column
abbrev pub has_key : List Column → Bool
has_key columns = list_any (λ column. column.key) columns

-- why columns are no schema, in the order of the tests
abbrev pub schema_fault : List Column → Option SchemaFault
schema_fault columns =
    if nat_lt 32 (length columns) then Some TooManyColumns else
    option_or (option_map TwiceNamed (twice_named [] columns)) (
    option_or (option_map ReservedColumn (reserved_column columns)) (
    if has_key columns then None else Some NoKey))

-- each column has a name of one byte or more
abbrev pub AreNamed : List Column → Type 0
AreNamed columns = All (λ column. column.name ≢ []) columns

-- the columns of a schema: few, with names that aren't empty, differ from each other and aren't reserved, and with one key column or more
pub record IsSchema (columns : List Column) : Type 0 where
  pub named : AreNamed columns
  pub few : length columns ≤ 32
  pub apart : AllPairs (λ one other. one.name ≢ other.name) columns
  pub free : All (λ column. is_reserved column.name ≡ false) columns
  pub keyed : Any (λ column. column.key ≡ true) columns

-- ---- the rows

abbrev pub is_null : Val → Bool
is_null value.Null = true
is_null (value.Int n) = false
is_null (value.Text t) = false

-- whether a value is of a kind: Null is of every kind
abbrev pub is_of_kind : ColKind → Val → Bool
is_of_kind k value.Null = true
is_of_kind kind.Int (value.Int n) = true
is_of_kind kind.Int (value.Text t) = false
is_of_kind kind.Text (value.Int n) = false
is_of_kind kind.Text (value.Text t) = true

-- why a column doesn't take the value at a place
abbrev pub value_fault : ℕ → Column → Val → Option RowFault
value_fault place column value =
    if not (is_of_kind column.kind value) then Some (Kind place) else
    if column.key && is_null value then Some (NullKey place) else None

-- the first fault of values, the first of which is at a place
abbrev pub values_fault : ℕ → List Column → List Val → Option RowFault
values_fault place [] values = None
values_fault place (column ∷ columns) [] = None
values_fault place (column ∷ columns) (value ∷ values) = option_or (value_fault place column value) (values_fault (place + 1) columns values)

-- why a schema of these columns doesn't take a row
abbrev pub row_fault : List Column → List Val → Option RowFault
row_fault columns row = if length row == length columns then values_fault 0 columns row else Some Count

-- the key of a row: the values of the key columns, in order
abbrev pub key_of : List Column → List Val → List Val
key_of [] values = []
key_of (column ∷ columns) [] = []
key_of (column ∷ columns) (value ∷ values) = if column.key then value ∷ key_of columns values else key_of columns values
