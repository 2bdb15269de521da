-- The type of the event that records the write of a row.
use Rattle.std.specs.Prelude.{ℕ, List, ◌∷◌, map}
use Rattle.std.specs.List.{join_with_byte}
use Rattle.sky_val.specs.declared.column.Column.{Column}
use Rattle.sky_val.specs.declared.op.Op.{Op}
use Rattle.sky_val.specs.declared.op.Op.TheVariants.{Insert, Update, Delete}
use Rattle.sky_val.specs.Schemas.{key_columns}

-- `b':'`
abbrev pub colon : ℕ
colon = 58

-- `b','`
abbrev pub comma : ℕ
comma = 44

-- `I`, `U` or `D`
abbrev pub op_letter : Op → ℕ
op_letter Insert = 73
op_letter Update = 85
op_letter Delete = 68

-- the letter, a colon, and the names of the key columns, in order, separated by commas
abbrev pub event_type : Op → List Column → List ℕ
event_type op columns = op_letter op ∷ colon ∷ join_with_byte comma (map (λ column. column.name) (key_columns columns))
