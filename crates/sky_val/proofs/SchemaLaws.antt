-- Columns without a fault are a schema's, in plain facts.
use Rattle.std.proofs.Common.{◌≡◌, ◌≢◌, ℕ, ◌+◌, arith, Bool, false, List, [], ◌∷◌, ◌++◌, get_or, None, sym, ◌∙◌}
use Rattle.std.specs.Prelude.{bytes_eq}
use Rattle.std.specs.List.{position_from, All, AllPairs}
use Rattle.std.proofs.lemmas.Bool.{or_parts}
use Rattle.std.proofs.lemmas.List.Elements.{All-nil, All-cons}
use Rattle.std.proofs.lemmas.List.Folds.{Any-from_list_any, list_any-append}
use Rattle.std.proofs.lemmas.List.Kept.{AllPairs-cons}
use Rattle.std.proofs.lemmas.Iterator.Adapters.{position_from-zero}
use Rattle.std.proofs.lemmas.Slice.Eq.{bytes_eq-Decides}
use Rattle.sky_val.specs.declared.column.Column.{Column}
use Rattle.sky_val.specs.Schemas.{has_name, twice_named, is_reserved, schema_fault, AreNamed, IsSchema}
use Rattle.std.proofs.lemmas.Bool.Decides.{nat_tests}

nowhere : {X : Type 0} (test : X → Bool) (place : ℕ) (xs : List X) → position_from test place xs ≡ None → All (λ x. test x ≡ false) xs
nowhere test place [] e = All-nil (λ x. test x ≡ false)
nowhere test place (x ∷ xs) e =
    All-cons (λ x. test x ≡ false) x xs (grind (arith, e)) (nowhere test (place + 1) xs (grind (arith, e)))

-- names that no earlier column has
record New (before columns : List Column) : Type 0 where
  fresh : All (λ column. has_name column.name before ≡ false) columns
  apart : AllPairs (λ one other. one.name ≢ other.name) columns

other_name : (column later : Column) → has_name later.name (column ∷ []) ≡ false → column.name ≢ later.name
other_name column later none same =
    grind (arith, none, (bytes_eq-Decides column.name later.name).1 same)

new_names : (before columns : List Column) → twice_named before columns ≡ None → New before columns
new_names before [] e = record { fresh = All-nil (λ column. has_name column.name before ≡ false); apart = λ i j d below within. absurd (omega arith) }
new_names before (column ∷ columns) e =
    let new : has_name column.name before ≡ false = grind (arith, e) in
    let rest = new_names (before ++ column ∷ []) columns (grind (arith, e)) in
    let each : All (λ later. (has_name later.name before ≡ false) × (has_name later.name (column ∷ []) ≡ false)) columns
    = λ k d within. or_parts _ _ (sym (list_any-append (λ c. bytes_eq c.name (get_or columns k d).name) before (column ∷ [])) ∙ rest.fresh k d within) in
    record {
      fresh = All-cons (λ later. has_name later.name before ≡ false) column columns new (λ k d within. (each k d within).0);
      apart = AllPairs-cons (λ one other. one.name ≢ other.name) column columns (λ k d within. other_name column (get_or columns k d) (each k d within).1) rest.apart;
    }

pub is_schema : (columns : List Column) → schema_fault columns ≡ None → AreNamed columns → IsSchema columns
is_schema columns none named =
    record {
      named = named;
      few = grind (arith, nat_tests, none);
      apart = (new_names [] columns (grind (arith, none))).apart;
      free = nowhere (λ column. is_reserved column.name) 0 columns (sym (position_from-zero (λ column. is_reserved column.name) columns) ∙ grind (arith, none));
      keyed = Any-from_list_any (λ column. column.key) columns (grind (arith, none));
    }
