-- The columns of a schema and the values of a row, one by one.
use Rattle.std.specs.Prelude.{◌⊎◌}
use Rattle.std.proofs.Common.{arith, inl, inr, ◌≡◌, ℕ, ◌+◌, ◌<◌, false, List, [], ◌∷◌, length, take, drop, get_or, None, refl}
use Rattle.std.proofs.lemmas.List.{take_more, drop_more}
use Rattle.sky_val.specs.declared.val.Val.{Val}
use Rattle.sky_val.specs.declared.column.Column.{Column}
use Rattle.sky_val.specs.Schemas.{has_name, twice_named, values_fault, key_of}

-- a column whose name no earlier one has may be passed
pub twice_named-pass : (columns : List Column) (place : ℕ) (column : Column) → place < length columns → get_or columns place column ≡ column → has_name column.name (take place columns) ≡ false
    → twice_named (take (place + 1) columns) (drop (place + 1) columns) ≡ twice_named (take place columns) (drop place columns)
twice_named-pass columns place column within is fresh = grind (arith, is, fresh, take_more columns place column within, drop_more columns place column within)

-- no fault if no column or no value is left
pub values_fault-end : (place : ℕ) (columns : List Column) (values : List Val) → (length columns ≡ 0) ⊎ (length values ≡ 0) → values_fault place columns values ≡ None
values_fault-end place [] values ends = refl
values_fault-end place (column ∷ columns) [] ends = refl
values_fault-end place (column ∷ columns) (v ∷ values) ends = absurd (elim ends [ inl none ↦ omega arith | inr none ↦ omega arith ])

pub key_of-end : (columns : List Column) (values : List Val) → (length columns ≡ 0) ⊎ (length values ≡ 0) → key_of columns values ≡ []
key_of-end [] values ends = refl
key_of-end (column ∷ columns) [] ends = refl
key_of-end (column ∷ columns) (v ∷ values) ends = absurd (elim ends [ inl none ↦ omega arith | inr none ↦ omega arith ])
