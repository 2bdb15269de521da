-- A row that fitting changes have changed is one of the table under the same key, if it was one before.
use Rattle.std.proofs.Common.{◌≡◌, ℕ, suc, ℤ, ◌+◌, Bool, true, false, List, [], ◌∷◌, Option, Some, None, Ok, Err, IfSome, length, bytes_eq, option_map, refl, sym, ◌∙◌, ap, subst, if◌then◌else◌, arith, find, ◌||◌, ◌==◌, ◌+ℤ◌}
use Rattle.std.specs.List.{list_any}
use Rattle.std.specs.Option.{option_or}
use Rattle.sky_val.specs.declared.val.Val.{Val}
use Rattle.sky_val.specs.declared.val.Val.TheVariants as value
use Rattle.sky_val.specs.declared.column.ColKind.{ColKind}
use Rattle.sky_val.specs.declared.column.ColKind.TheVariants as kind
use Rattle.sky_val.specs.declared.column.Column.{Column}
use Rattle.sky_val.specs.declared.schema.RowFault.TheVariants as fault
use Rattle.sky_val.specs.Schemas.{is_of_kind, value_fault, values_fault, row_fault, key_columns, key_of}
use Rattle.sky_model.specs.declared.stmt.Change.{Change}
use Rattle.sky_model.specs.declared.stmt.Change.TheVariants.{To, Add}
use Rattle.sky_model.specs.declared.stmt.Set.{Set}
use Rattle.sky_model.specs.declared.reply.BadRow.TheVariants as badly
use Rattle.sky_model.specs.declared.reply.Refusal.TheVariants.{OutOfRange}
use Rattle.sky_model.specs.Outcome.{Checked, ◌>>=◌, found_or}
use Rattle.sky_model.specs.StepRows.{column_called, is_change_of, bad_set, bad_sets, is_key_change, in_range, changed, with_set, with_sets, some_row}
use Rattle.sky_model.specs.LawsOfWrites.{IsRowOf}
use Rattle.sky_histories.proofs.Legal.{ChangesFit}
use Rattle.sky_model.proofs.Cases.{by_test}

-- ---- one value

in_range-kind : (n : ℤ) (w : Val) → in_range n ≡ Some w → is_of_kind kind.Int w ≡ true
in_range-kind n value.Null e = refl
in_range-kind n (value.Int m) e = refl
in_range-kind n (value.Text t) e = grind arith

-- a value after a change of its kind is of the kind, if it was before
changed-kind : (k : ColKind) (change : Change) (v w : Val) → is_of_kind k v ≡ true → is_change_of k change ≡ true → changed change v ≡ Some w → is_of_kind k w ≡ true
changed-kind k (To x) v w was may e = (let one : x ≡ w = cc in ap (is_of_kind k) (sym one) ∙ may)
changed-kind kind.Int (Add n) (value.Int m) w was may e = in_range-kind (m +ℤ n) w e
changed-kind kind.Int (Add n) value.Null w was may e = (let one : value.Null ≡ w = cc in ap (is_of_kind kind.Int) (sym one))
changed-kind kind.Int (Add n) (value.Text t) w was may e = absurd (cc)
changed-kind kind.Text (Add n) v w was may e = absurd (cc)

value-kind : (place : ℕ) (column : Column) (v : Val) → value_fault place column v ≡ None → is_of_kind column.kind v ≡ true
value-kind place column v e = grind arith

value-fits : (place : ℕ) (column : Column) (w : Val) → is_of_kind column.kind w ≡ true → column.key ≡ false → value_fault place column w ≡ None
value-fits place column w kind_is plain = grind arith

first-none : {A : Type 0} (a b : Option A) → option_or a b ≡ None → (a ≡ None) × (b ≡ None)
first-none None b e = (refl, e)
first-none (Some x) b e = absurd (cc)

-- ---- one change

record Kept (place : ℕ) (columns : List Column) (row next : List Val) : Type 0 where
  fits : values_fault place columns next ≡ None
  long : length next ≡ length row
  key : key_of columns next ≡ key_of columns row

with_set-keeps : (place : ℕ) (columns : List Column) (set : Set) (row next : List Val) → bad_set [] set (column_called set.column columns) ≡ None → is_key_change columns set ≡ false
    → values_fault place columns row ≡ None → with_set columns set row ≡ Some next → Kept place columns row next
with_set-keeps place [] set row next may plain fits e = (let one : row ≡ next = cc in record { fits = refl; long = ap length (sym one); key = refl })
with_set-keeps place (column ∷ columns) set [] next may plain fits e =
    (let one : [] ≡ next = cc in record { fits = ap (values_fault place (column ∷ columns)) (sym one); long = ap length (sym one); key = ap (key_of (column ∷ columns)) (sym one) })
with_set-keeps place (column ∷ columns) set (v ∷ row) next may plain fits e =
    of (bytes_eq column.name set.column) column.key refl refl may plain e (with_set-keeps (place + 1) columns set row)
  where
    both : (value_fault place column v ≡ None) × (values_fault (place + 1) columns row ≡ None)
    both = first-none (value_fault place column v) (values_fault (place + 1) columns row) fits

    here : column.key ≡ false → (is_change_of column.kind set.change ≡ true) → (o : Option Val) → changed set.change v ≡ o → option_map (λ w. w ∷ row) o ≡ Some next → Kept place (column ∷ columns) (v ∷ row) next
    here unkeyed may None is e = absurd (cc)
    here unkeyed may (Some w) is e =
        let one : (w ∷ row) ≡ next = cc in
        let kind_is : is_of_kind column.kind w ≡ true = changed-kind column.kind set.change v w (value-kind place column v both.0) may is in
        record {
          fits = ap (values_fault place (column ∷ columns)) (sym one)
              ∙ ap (λ o. option_or o (values_fault (place + 1) columns row)) (value-fits place column w kind_is unkeyed) ∙ both.1;
          long = ap length (sym one);
          key = ap (key_of (column ∷ columns)) (sym one)
              ∙ ap (λ b. if b then w ∷ key_of columns row else key_of columns row) unkeyed
              ∙ sym (ap (λ b. if b then v ∷ key_of columns row else key_of columns row) unkeyed);
        }

    change_may : (if is_change_of column.kind set.change then None else Some (badly.Type set.column)) ≡ None → is_change_of column.kind set.change ≡ true
    change_may e = grind arith

    there : (o : Option (List Val)) → ((rest : List Val) → o ≡ Some rest → Kept (place + 1) columns row rest) → option_map (λ rest. v ∷ rest) o ≡ Some next → Kept place (column ∷ columns) (v ∷ row) next
    there None kept e = absurd (cc)
    there (Some rest) kept e =
        let one : (v ∷ rest) ≡ next = cc in
        let k : Kept (place + 1) columns row rest = kept rest refl in
        record {
          fits = ap (values_fault place (column ∷ columns)) (sym one) ∙ ap (λ o. option_or o (values_fault (place + 1) columns rest)) both.0 ∙ k.fits;
          long = ap length (sym one) ∙ ap suc k.long;
          key = ap (key_of (column ∷ columns)) (sym one) ∙ (λ i. if column.key then v ∷ k.key i else k.key i);
        }

    of : (b keyed : Bool) → bytes_eq column.name set.column ≡ b → column.key ≡ keyed
        → bad_set [] set (if b then Some column else find (λ c. bytes_eq c.name set.column) columns) ≡ None
        → list_any (λ c. bytes_eq c.name set.column) (if keyed then column ∷ key_columns columns else key_columns columns) ≡ false
        → (if b then option_map (λ w. w ∷ row) (changed set.change v) else option_map (λ rest. v ∷ rest) (with_set columns set row)) ≡ Some next
        → ((rest : List Val) → bad_set [] set (column_called set.column columns) ≡ None → is_key_change columns set ≡ false
        → values_fault (place + 1) columns row ≡ None → with_set columns set row ≡ Some rest → Kept (place + 1) columns row rest)
        → Kept place (column ∷ columns) (v ∷ row) next
    of true true is_it is may plain e ih = absurd (cc (sym (ap (λ b. b || is_key_change columns set) is_it) ∙ plain))
    of true false is_it is may plain e ih = here is (change_may may) (changed set.change v) refl e
    of false true is_it is may plain e ih =
        there (with_set columns set row) (λ rest same. ih rest may (sym (ap (λ b. b || is_key_change columns set) is_it) ∙ plain) both.1 same) e
    of false false is_it is may plain e ih = there (with_set columns set row) (λ rest same. ih rest may plain both.1 same) e

-- ---- all of them

record Fits (columns : List Column) (row : List Val) : Type 0 where
  long : (length row == length columns) ≡ true
  values : values_fault 0 columns row ≡ None

row-fits : (columns : List Column) (row : List Val) → row_fault columns row ≡ None → Fits columns row
row-fits columns row e =
    by_test (λ b. (if b then values_fault 0 columns row else Some fault.Count) ≡ None → Fits columns row) (length row == length columns) (λ is e. record { long = is; values = e }) (λ _ e. absurd (cc)) e

still-fits : (columns : List Column) (row next : List Val) → Fits columns row → Kept 0 columns row next → row_fault columns next ≡ None
still-fits columns row next fits k =
    ap (λ n. if n == length columns then values_fault 0 columns next else Some fault.Count) k.long
    ∙ ap (λ b. if b then values_fault 0 columns next else Some fault.Count) fits.long ∙ k.fits

with_sets-keeps : (columns : List Column) (sets : List Set) (row next : List Val) → ChangesFit columns sets → row_fault columns row ≡ None → with_sets columns sets row ≡ Ok next
    → (row_fault columns next ≡ None) × (key_of columns next ≡ key_of columns row)
with_sets-keeps columns [] row next may fits e = (let one : row ≡ next = cc in (ap (row_fault columns) (sym one) ∙ fits, ap (key_of columns) (sym one)))
with_sets-keeps columns (set ∷ sets) row next may fits e =
    of (with_set columns set row) e (λ between same. with_set-keeps 0 columns set row between may.0.0 may.0.1 (row-fits columns row fits).values same)
    (λ between still same. with_sets-keeps columns sets between next may.1 still same)
  where
    of : (o : Option (List Val)) → (found_or o (OutOfRange set.column) >>= (λ between. with_sets columns sets between)) ≡ Ok next
        → ((between : List Val) → o ≡ Some between → Kept 0 columns row between)
        → ((between : List Val) → row_fault columns between ≡ None → with_sets columns sets between ≡ Ok next → (row_fault columns next ≡ None) × (key_of columns next ≡ key_of columns between))
        → (row_fault columns next ≡ None) × (key_of columns next ≡ key_of columns row)
    of None e kept ih = absurd (cc)
    of (Some between) e kept ih =
        let k : Kept 0 columns row between = kept between refl in
        let rest : (row_fault columns next ≡ None) × (key_of columns next ≡ key_of columns between) = ih between (still-fits columns row between (row-fits columns row fits) k) e in
        (rest.0, rest.1 ∙ k.key)

-- so the changed row, if there is one, is one of the table under the key, if the row before was
pub sets-fit : (columns : List Column) (key : List Val) (sets : List Set) → ChangesFit columns sets → (row : List Val) (new : Option (List Val))
    → some_row (with_sets columns sets row) ≡ Ok new → IsRowOf columns key row → IfSome new (IsRowOf columns key)
sets-fit columns key sets may row new e fits = of (with_sets columns sets row) refl e
  where
    of : (c : Checked (List Val)) → with_sets columns sets row ≡ c → some_row c ≡ Ok new → IfSome new (IsRowOf columns key)
    of (Err refusal) same e = absurd (cc)
    of (Ok next) same e =
        let one : Some next ≡ new = cc in
        let kept : (row_fault columns next ≡ None) × (key_of columns next ≡ key_of columns row) = with_sets-keeps columns sets row next may fits.0 same in
        subst (λ o. IfSome o (IsRowOf columns key)) one (kept.0, kept.1 ∙ fits.1)

-- and after a deletion there is none
abbrev no_row : Checked (Option (List Val))
no_row = Ok None

pub none-fits : (columns : List Column) (key : List Val) (new : Option (List Val)) → no_row ≡ Ok new → IfSome new (IsRowOf columns key)
none-fits columns key None e = tt
none-fits columns key (Some row) e = absurd (cc)

-- ---- which changes fit

apart : (before : List (List ℕ)) (set : Set) (o : Option Column) → bad_set before set o ≡ None → bad_set [] set o ≡ None
apart before set None e = absurd (cc)
apart before set (Some column) e = grind arith

-- those of which none is bad, and none is of the key
pub changes-fit : (columns : List Column) (before : List (List ℕ)) (sets : List Set) → bad_sets columns before sets ≡ None → find (is_key_change columns) sets ≡ None → ChangesFit columns sets
changes-fit columns before [] e none = tt
changes-fit columns before (set ∷ sets) e none =
    let both = first-none (bad_set before set (column_called set.column columns)) (bad_sets columns (set.column ∷ before) sets) e in
    ((apart before set (column_called set.column columns) both.0, grind arith), changes-fit columns (set.column ∷ before) sets both.1 (grind arith))
