-- How a row is written: `name=value` for each column, joined by `&`.
use Rattle.std.specs.Prelude.{ℕ, List, ◌∷◌, ◌++◌, map, zip}
use Rattle.std.specs.Fmt.{signed_decimal}
use Rattle.std.specs.List.{join_with_byte}
use Rattle.form_urlencoded.specs.Form.{ampersand, equals_sign, byte_serialize}
use Rattle.sky_val.specs.declared.val.Val.{Val}
use Rattle.sky_val.specs.declared.val.Val.TheVariants.{Null, Int, Text}
use Rattle.sky_val.specs.declared.column.Column.{Column}

-- a column with its value: the name alone for Null, a number in decimal, a text escaped as the name is
abbrev pub column_text : Column → Val → List ℕ
column_text column Null = byte_serialize column.name
column_text column (Int n) = byte_serialize column.name ++ equals_sign ∷ signed_decimal n
column_text column (Text text) = byte_serialize column.name ++ equals_sign ∷ byte_serialize text

-- each column with its value, in the order of the columns
abbrev pub column_texts : List Column → List Val → List (List ℕ)
column_texts columns row = map (λ pair. column_text pair.0 pair.1) (zip columns row)

-- the text of a row
abbrev pub row_text : List Column → List Val → List ℕ
row_text columns row = join_with_byte ampersand (column_texts columns row)
