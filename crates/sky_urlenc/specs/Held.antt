-- What the type of a name and of a value says of their bytes.
use Rattle.std.specs.Prelude.{ℕ, ◌<◌, List, [], ◌∷◌, IsUtf8, All, FitsSigned, ⊤}
use Rattle.std.specs.Int.{w64}
use Rattle.sky_val.specs.declared.val.Val.{Val}
use Rattle.sky_val.specs.declared.val.Val.TheVariants.{Null, Int, Text}
use Rattle.sky_val.specs.declared.column.Column.{Column}

-- bytes that are UTF-8
pub record IsWord (bytes : List ℕ) : Type 0 where
  pub small : All (λ b. b < 256) bytes
  pub characters : IsUtf8 bytes

-- a number fits 64 bits with its sign; a text is UTF-8
abbrev pub IsHeld : Val → Type 0
IsHeld Null = ⊤
IsHeld (Int n) = FitsSigned w64 n
IsHeld (Text text) = IsWord text

-- a column's name, and its value
pub record HoldsOne (column : Column) (v : Val) : Type 0 where
  pub name : IsWord column.name
  pub value : IsHeld v

-- each column's name, with its value
abbrev pub HoldsAll : List Column → List Val → Type 0
HoldsAll [] values = ⊤
HoldsAll (column ∷ columns) [] = ⊤
HoldsAll (column ∷ columns) (value ∷ values) = HoldsOne column value × HoldsAll columns values
