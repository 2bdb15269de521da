-- The bytes of a text and the values of a key or a row, wherever they are.
use Rattle.std.specs.Prelude.{ℕ, List, [], ◌∷◌, string_bytes}
use Rattle.sky_val.specs.declared.text.Kept.{Kept}
use Rattle.sky_val.specs.declared.text.Kept.TheVariants.{InPlace, Apart}
use Rattle.sky_val.specs.declared.val.Val.{Val}
use Rattle.sky_val.specs.declared.key.KeyValues.{KeyValues}
use Rattle.sky_val.specs.declared.key.KeyValues.TheVariants.{One, Listed}
use Rattle.sky_val.specs.declared.row.RowValues.{RowValues}
use Rattle.sky_val.specs.declared.row.RowValues.TheVariants as row

-- the bytes of a text, in either form
abbrev pub kept_bytes : Kept → List ℕ
kept_bytes (InPlace short) = short
kept_bytes (Apart long) = string_bytes long

-- the values of a key, in either form
abbrev pub key_values : KeyValues → List Val
key_values (One value) = value ∷ []
key_values (Listed values) = values.items

-- the values of a row, in either form
abbrev pub row_values : RowValues → List Val
row_values (row.Pair pair) = pair
row_values (row.Listed values) = values.items
