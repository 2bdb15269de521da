-- What a statement in form says of the columns of a new table.
use Rattle.std.proofs.Common.{◌≡◌, ◌≢◌, ℕ, true, List, [], ◌∷◌}
use Rattle.std.specs.List.{All}
use Rattle.std.proofs.lemmas.List.Elements.{All-weaker}
use Rattle.sky_val.specs.declared.column.Column as column
use Rattle.sky_val.specs.Schemas.{AreNamed}
use Rattle.sky_model.specs.Kinds.{Column, is_name}
use Rattle.sky_model.specs.InForm.{IsOf}

named : (name : List ℕ) → is_name name ≡ true → name ≢ []
named [] is same = cc
named (b ∷ bs) is same = cc

pub columns_named : (columns : List column.Column) → All (IsOf Column) columns → AreNamed columns
columns_named columns are = All-weaker (IsOf Column) (λ column. column.name ≢ []) (λ column is. named column.name is) columns are
