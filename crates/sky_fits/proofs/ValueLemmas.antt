-- The columns of a table and the values of a row or of a key, one by one.
use Rattle.std.proofs.Common.{◌≡◌, ℕ, ◌+◌, ◌<◌, arith, Bool, true, false, cond, List, [], ◌∷◌, length, drop, get_or, Option, None, Some, Result, Ok, Err, suc, add-one, refl, sym, subst, ◌∙◌, ap, eq-eqb}
use Rattle.std.specs.Prelude.{◌⊎◌, not, ◌&&◌, option_map}
use Rattle.std.specs.Option.{option_or}
use Rattle.std.specs.Result.{IfErr, IsErrAnd}
use Rattle.std.proofs.Math.Seq.{drop-cons}
use Rattle.sky_val.specs.declared.val.Val.{Val}
use Rattle.sky_val.specs.declared.column.Column.{Column}
use Rattle.sky_val.specs.declared.schema.RowFault.{RowFault}
use Rattle.sky_val.specs.declared.schema.RowFault.TheVariants.{Count, Kind, NullKey}
use Rattle.sky_val.specs.Schemas.{is_null, is_of_kind, values_fault, key_columns}
use Rattle.sky_val.proofs.SchemaLemmas.{values_fault-end}
use Rattle.sky_model.specs.declared.reply.BadRow.TheVariants as badly
use Rattle.sky_model.specs.declared.reply.Refusal.TheVariants.{BadRow}
use Rattle.sky_model.specs.declared.stop.Stop.{Stop}
use Rattle.sky_model.specs.declared.stop.Stop.TheVariants.{Refused, NoMemory}
use Rattle.sky_model.specs.Stops.{StopsAs}
use Rattle.sky_model.specs.Outcome.{Checked, ◌>>◌}
use Rattle.sky_model.specs.Outcome.{refused_by}
use Rattle.sky_model.specs.StepRows.{column_name, bad_values, fits}

-- the first value that its column doesn't take, however many there are
abbrev pub takes : List Column → List Val → Checked (Unit {0})
takes columns values = refused_by (option_map (bad_values columns) (values_fault 0 columns values))

column_name-behind : (column : Column) (columns : List Column) (place : ℕ) → column_name (column ∷ columns) (place + 1) ≡ column_name columns place
column_name-behind column columns place = ap (column_name (column ∷ columns)) (add-one place)

-- one column further on
moved : (column : Column) (columns : List Column) (place : ℕ) (alike null : Bool) (rest later : Option RowFault)
    → option_map (bad_values (column ∷ columns)) later ≡ option_map (bad_values columns) rest
    → option_map (bad_values (column ∷ columns)) (option_or (cond (not alike) (Some (Kind (place + 1))) (cond null (Some (NullKey (place + 1))) None)) later)
    ≡ option_map (bad_values columns) (option_or (cond (not alike) (Some (Kind place)) (cond null (Some (NullKey place)) None)) rest)
moved column columns place false null rest later e = ap (λ name. Some (BadRow (badly.Type name))) (column_name-behind column columns place)
moved column columns place true true rest later e = ap (λ name. Some (BadRow (badly.NullKey name))) (column_name-behind column columns place)
moved column columns place true false rest later e = e

-- after one more column, each fault is one place further on, and of the same column
fault-behind : (column : Column) (columns left : List Column) (values : List Val) (place : ℕ)
    → option_map (bad_values (column ∷ columns)) (values_fault (place + 1) left values) ≡ option_map (bad_values columns) (values_fault place left values)
fault-behind column columns [] values place = refl
fault-behind column columns (other ∷ left) [] place = refl
fault-behind column columns (other ∷ left) (value ∷ values) place =
    moved column columns place (is_of_kind other.kind value) (other.key && is_null value) (values_fault (place + 1) left values) (values_fault (place + 1 + 1) left values)
    (fault-behind column columns left values (place + 1))

taken : (column : Column) (columns : List Column) (alike null : Bool) (rest : Option RowFault) (value : Val) (values : List Val)
    → option_map (bad_values (column ∷ columns)) rest ≡ option_map (bad_values columns) (values_fault 0 columns values)
    → refused_by (option_map (bad_values (column ∷ columns)) (option_or (cond (not alike) (Some (Kind 0)) (cond null (Some (NullKey 0)) None)) rest))
    ≡ refused_by (option_map (bad_values (column ∷ [])) (option_or (cond (not alike) (Some (Kind 0)) (cond null (Some (NullKey 0)) None)) None)) >> takes columns values
taken column columns false null rest value values e = refl
taken column columns true true rest value values e = refl
taken column columns true false rest value values e = ap refused_by e

pub takes-cons : (column : Column) (columns : List Column) (value : Val) (values : List Val)
    → takes (column ∷ columns) (value ∷ values) ≡ fits (column ∷ []) (value ∷ []) >> takes columns values
takes-cons column columns value values =
    taken column columns (is_of_kind column.kind value) (column.key && is_null value) (values_fault (0 + 1) columns values) value values
    (fault-behind column columns columns values 0)

-- if there are as many values as columns
pub fits-alike : (columns : List Column) (values : List Val) → length values ≡ length columns → fits columns values ≡ takes columns values
fits-alike columns values alike =
    ap (λ b. refused_by (option_map (bad_values columns) (cond b (values_fault 0 columns values) (Some Count)))) (eq-eqb (length values) (length columns) alike)

pub takes-end : (columns : List Column) (values : List Val) → (length columns ≡ 0) ⊎ (length values ≡ 0) → takes columns values ≡ Ok tt
takes-end columns values none = ap (λ fault. refused_by (option_map (bad_values columns) fault)) (values_fault-end 0 columns values none)

-- a list from a place on, with this item at that place
drop-from : {X : Type 0} (xs : List X) (place : ℕ) (x : X) → place < length xs → get_or xs place x ≡ x → drop place xs ≡ x ∷ drop (place + 1) xs
drop-from xs place x within is = drop-cons xs place x within ∙ ap (λ y. y ∷ drop (suc place) xs) is ∙ ap (λ n. x ∷ drop n xs) (sym (add-one place))

-- the key columns from a place on
key_columns-from : (columns : List Column) (index : ℕ) (column : Column) → index < length columns → get_or columns index column ≡ column
    → key_columns (drop index columns) ≡ cond column.key (column ∷ key_columns (drop (index + 1) columns)) (key_columns (drop (index + 1) columns))
key_columns-from columns index column within is = ap key_columns (drop-from columns index column within is)

pub key_columns-here : (columns : List Column) (index : ℕ) (column : Column) → index < length columns → get_or columns index column ≡ column → column.key ≡ true
    → key_columns (drop index columns) ≡ column ∷ key_columns (drop (index + 1) columns)
key_columns-here columns index column within is key = key_columns-from columns index column within is ∙ ap (λ b. cond b (column ∷ key_columns (drop (index + 1) columns)) (key_columns (drop (index + 1) columns))) key

pub key_columns-later : (columns : List Column) (index : ℕ) (column : Column) → index < length columns → get_or columns index column ≡ column → column.key ≡ false
    → key_columns (drop index columns) ≡ key_columns (drop (index + 1) columns)
key_columns-later columns index column within is other = key_columns-from columns index column within is ∙ ap (λ b. cond b (column ∷ key_columns (drop (index + 1) columns)) (key_columns (drop (index + 1) columns))) other

-- if there is a value for the first key column that is left, there are as many values as columns after it
pub one_left : (columns : List Column) (key : List Val) (index place : ℕ) (column : Column) → key_columns (drop index columns) ≡ column ∷ key_columns (drop (index + 1) columns)
    → place + length (key_columns (drop index columns)) ≡ length key → (place < length key) × (place + 1 + length (key_columns (drop (index + 1) columns)) ≡ length key)
one_left columns key index place column here alike =
    let counted : length (key_columns (drop index columns)) ≡ suc (length (key_columns (drop (index + 1) columns))) = ap length here in
    (omega arith, omega arith)

-- a value that its column takes is passed
pub takes-pass : (column : Column) (columns : List Column) (value : Val) (values : List Val) → fits (column ∷ []) (value ∷ []) ≡ Ok tt → takes (column ∷ columns) (value ∷ values) ≡ takes columns values
takes-pass column columns value values taken_here = takes-cons column columns value values ∙ ap (λ first. first >> takes columns values) taken_here

-- at a value that its column doesn't take, all stops as it does alone
pub takes-stop : (column : Column) (columns : List Column) (value : Val) (values : List Val) (stop : Stop)
    → StopsAs stop (fits (column ∷ []) (value ∷ [])) → StopsAs stop (takes (column ∷ columns) (value ∷ values))
takes-stop column columns value values (Refused refusal) refused = takes-cons column columns value values ∙ ap (λ first. first >> takes columns values) refused
takes-stop column columns value values NoMemory short = tt

-- what is handed on stops as what it was
pub handed : {A B : Type 0} (r : Result A Stop) (was : Stop) (checked : Checked B) → IsErrAnd r (λ stop. stop ≡ was) → StopsAs was checked → IfErr r (λ stop. StopsAs stop checked)
handed (Ok v) was checked is stops = absurd is
handed (Err stop) was checked is stops = subst (λ s. StopsAs s checked) (sym is) stops

pub key-pass : (columns : List Column) (key : List Val) (index place : ℕ) (column : Column) (value : Val) → key_columns (drop index columns) ≡ column ∷ key_columns (drop (index + 1) columns)
    → place < length key → get_or key place value ≡ value → fits (column ∷ []) (value ∷ []) ≡ Ok tt
    → takes (key_columns (drop (index + 1) columns)) (drop (place + 1) key) ≡ takes (key_columns (drop index columns)) (drop place key)
key-pass columns key index place column value here within is taken_here =
    sym (ap (λ cs. takes cs (drop place key)) here ∙ ap (takes (column ∷ key_columns (drop (index + 1) columns))) (drop-from key place value within is)
    ∙ takes-pass column (key_columns (drop (index + 1) columns)) value (drop (place + 1) key) taken_here)

-- and at one that its column doesn't take, the key is refused
pub key-stop : (columns : List Column) (key : List Val) (index place : ℕ) (column : Column) (value : Val) (stop : Stop)
    → key_columns (drop index columns) ≡ column ∷ key_columns (drop (index + 1) columns) → place < length key → get_or key place value ≡ value
    → StopsAs stop (fits (column ∷ []) (value ∷ [])) → StopsAs stop (takes (key_columns (drop index columns)) (drop place key))
key-stop columns key index place column value stop here within is refused =
    subst (StopsAs stop) (sym (ap (λ cs. takes cs (drop place key)) here ∙ ap (takes (column ∷ key_columns (drop (index + 1) columns))) (drop-from key place value within is)))
    (takes-stop column (key_columns (drop (index + 1) columns)) value (drop (place + 1) key) stop refused)
