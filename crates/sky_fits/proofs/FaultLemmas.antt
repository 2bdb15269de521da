-- The column that a schema's fault names is one of its columns.
use Rattle.std.specs.Prelude.{option_map, position, nat_lt}
use Rattle.std.proofs.Common.{◌≡◌, ℕ, ◌+◌, ◌<◌, arith, Bool, true, false, cond, List, [], ◌∷◌, ◌++◌, length, Option, None, Some, length-append}
use Rattle.std.specs.Option.{option_or}
use Rattle.std.proofs.lemmas.Option.{none-some, same_Some}
use Rattle.std.proofs.lemmas.List.Quantifiers.{position-Some}
use Rattle.sky_val.specs.declared.column.Column.{Column}
use Rattle.sky_val.specs.declared.schema.SchemaFault.TheVariants.{TooManyColumns, TwiceNamed, ReservedColumn, NoKey}
use Rattle.sky_val.specs.Schemas.{has_name, twice_named, reserved_column, has_key, schema_fault}

twice_told : (many : Bool) (twice reserved : Option ℕ) (keyed : Bool) (place : ℕ)
    → cond many (Some TooManyColumns) (option_or (option_map TwiceNamed twice) (option_or (option_map ReservedColumn reserved) (cond keyed None (Some NoKey)))) ≡ Some (TwiceNamed place) → twice ≡ Some place
twice_told true twice reserved keyed place e = absurd (cc)
twice_told false (Some p) reserved keyed place e = cc
twice_told false None (Some p) keyed place e = absurd (cc)
twice_told false None None true place e = absurd (cc)
twice_told false None None false place e = absurd (cc)

twice_named-within : (before columns : List Column) (place : ℕ) → twice_named before columns ≡ Some place → place < length before + length columns
twice_named-within before [] place e = absurd (none-some place e)
twice_named-within before (column ∷ columns) place e =
    elim (has_name column.name before) as (λ b. cond b (Some (length before)) (twice_named (before ++ column ∷ []) columns) ≡ Some place → place < length before + length (column ∷ columns)) [
      | true ↦ (λ here. let equal : length before ≡ place = same_Some (length before) place here in omega arith)
      | false ↦ (λ later. let within = twice_named-within (before ++ column ∷ []) columns place later in omega (arith, length-append before (column ∷ [])))
    ] e

placed : (columns : List Column) (test : Column → Bool) (place : ℕ) → position test columns ≡ Some place → place < length columns
placed [] test place e = absurd (none-some place e)
placed (column ∷ columns) test place e = (position-Some test (column ∷ columns) place column e).0

pub twice_named-place : (columns : List Column) (place : ℕ) → schema_fault columns ≡ Some (TwiceNamed place) → place < length columns
twice_named-place columns place e =
    let told = twice_told (nat_lt 32 (length columns)) (twice_named [] columns) (reserved_column columns) (has_key columns) place e in
    let within = twice_named-within [] columns place told in
    omega arith
