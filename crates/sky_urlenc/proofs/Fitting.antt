-- A row that is read fits its columns.
use Rattle.std.proofs.Common.{◌≡◌, ℕ, zero, suc, ◌+◌, ◌<◌, Bool, true, false, List, [], ◌∷◌, length, get_or, set, map, Option, Some, None, Ok, Err, refl, sym, ◌∙◌, ap, subst, arith, inl, inr}
use Rattle.std.specs.Prelude.{find, is_none, bytes_eq}
use Rattle.std.specs.List.{enumerate_from}
use Rattle.std.specs.Option.{option_or}
use Rattle.std.proofs.lemmas.Bool.{cases_Bool, cond-true, cond-false}
use Rattle.std.proofs.lemmas.List.{get_or-set_same, get_or-set_other, length-set, length-map}
use Rattle.sky_val.specs.declared.val.Val.{Val}
use Rattle.sky_val.specs.declared.column.Column.{Column}
use Rattle.sky_val.specs.Schemas.{value_fault, values_fault, row_fault}
use Rattle.sky_urlenc.specs.declared.fault.DecodeFault.{DecodeFault}
use Rattle.sky_urlenc.specs.declared.fault.DecodeFault.TheVariants as fault
use Rattle.sky_urlenc.specs.ReadRow.{Checked, ◌>>=◌, ◌>>◌, holds_or, found_or, Piece, name_in, text_in, is_text, pieces_from, column_named, value_for, given_by, all_given, values_from, read_row}
use Rattle.std.proofs.lemmas.Bool.Decides.{nat_tests}

-- ---- steps that gave something

record Gave {A B : Type 0} (checked : Checked A) (next : A → Checked B) (b : B) : Type 0 where
  a : A
  first : checked ≡ Ok a
  then : next a ≡ Ok b

gave : {A B : Type 0} (checked : Checked A) (next : A → Checked B) (b : B) → (checked >>= next) ≡ Ok b → Gave checked next b
gave (Err f) next b e = absurd (cc)
gave (Ok a) next b e = record { a = a; first = refl; then = e }

-- a test that held
held : {B : Type 0} (test : Bool) (f : DecodeFault) (next : Checked B) (b : B) → (holds_or test f >> next) ≡ Ok b → (test ≡ true) × (next ≡ Ok b)
held true f next b e = (refl, e)
held false f next b e = absurd (cc)

was_found : {A : Type 0} (o : Option A) (f : DecodeFault) (a : A) → found_or o f ≡ Ok a → o ≡ Some a
was_found None f a e = absurd (cc)
was_found (Some x) f a e = cc

-- ---- the column of a name

record NamedAt (columns : List Column) (n place : ℕ) (column : Column) : Type 0 where
  k : ℕ
  within : k < length columns
  at : place ≡ n + k
  is : (d : Column) → get_or columns k d ≡ column

named_from : (name : List ℕ) (n : ℕ) (columns : List Column) (found : ℕ × Column) → find (λ c. bytes_eq c.1.name name) (enumerate_from n columns) ≡ Some found → NamedAt columns n found.0 found.1
named_from name n [] found e = absurd (cc)
named_from name n (column ∷ columns) found e =
    let later = find (λ c. bytes_eq c.1.name name) (enumerate_from (n + 1) columns) in
    elim (cases_Bool (bytes_eq column.name name)) [
      | inl is ↦
          let here : (n, column) ≡ found = cc (sym (cond-true (bytes_eq column.name name) (Some (n, column)) later is) ∙ e) in
          record { k = 0; within = omega arith; at = ap (λ p. p.0) (sym here) ∙ omega arith; is = λ d. ap (λ p. p.1) here }
      | inr isnt ↦
          let rest = named_from name (n + 1) columns found (sym (cond-false (bytes_eq column.name name) (Some (n, column)) later isnt) ∙ e) in
          record { k = suc rest.k; within = omega (arith, rest.within); at = omega (arith, rest.at); is = rest.is }
    ]

-- ---- the values that a column takes

-- a value that is given to a column is one that it takes
fits : (start place : ℕ) (column : Column) (text : Option (List ℕ)) (v : Val) → value_for start column text ≡ Ok v → value_fault place column v ≡ None
fits start place column text v e = grind (arith, e)

-- each value that a column has is one that it takes
abbrev AllFit : List Column → List (Option Val) → Type 0
AllFit columns given = (k place : ℕ) (d : Column) (v : Val) → k < length columns → get_or given k None ≡ Some v → value_fault place (get_or columns k d) v ≡ None

-- a column gets a value that it takes
set_fits : (columns : List Column) (given : List (Option Val)) (place : ℕ) (column : Column) (x : Val) → place < length given → ((d : Column) → get_or columns place d ≡ column) → ((at : ℕ) → value_fault at column x ≡ None)
    → AllFit columns given → AllFit columns (set given place (Some x))
set_fits columns given place column x within is fit all k at d v inside has =
    grind (arith, has, is d, fit at, all k at d v inside, get_or-set_same given place (Some x) None within, get_or-set_other given place k (Some x) None)

-- what the columns have after one more piece
record FitsMore (columns : List Column) (given more : List (Option Val)) : Type 0 where
  count : length more ≡ length given
  all : AllFit columns more

given_fits : (columns : List Column) (given more : List (Option Val)) (piece : Piece) → length given ≡ length columns → AllFit columns given → given_by columns given piece ≡ Ok more → FitsMore columns given more
given_fits columns given more piece alike all e =
    let text = held (is_text piece) (fault.BadText piece.start) _ more e in
    let column = gave (found_or (column_named (name_in piece) columns) (fault.UnknownColumn piece.start)) _ more text.1 in
    let place = column.a.0 in
    let once = held (is_none (get_or given place None)) (fault.TwiceColumn piece.start) _ more column.then in
    let value = gave (value_for piece.start column.a.1 (text_in piece)) (λ value. Ok (set given place (Some value))) more once.1 in
    let named = named_from (name_in piece) 0 columns column.a (was_found (column_named (name_in piece) columns) (fault.UnknownColumn piece.start) column.a column.first) in
    let here : named.k ≡ place = omega (arith, named.at) in
    let is : (d : Column) → get_or columns place d ≡ column.a.1 = λ d. ap (λ n. get_or columns n d) (sym here) ∙ named.is d in
    let set_is : set given place (Some value.a) ≡ more = cc (value.then) in
    subst (FitsMore columns given) set_is (record {
      count = length-set given place (Some value.a);
      all = set_fits columns given place column.a.1 value.a (omega (arith, named.within)) is (λ at. fits piece.start at column.a.1 (text_in piece) value.a value.first) all;
    })

all_fit : (columns : List Column) (given more : List (Option Val)) (pieces : List Piece) → length given ≡ length columns → AllFit columns given → all_given columns given pieces ≡ Ok more → FitsMore columns given more
all_fit columns given more [] alike all e =
    let same : given ≡ more = cc in
    subst (FitsMore columns given) same (record { count = refl; all = all })
all_fit columns given more (piece ∷ pieces) alike all e =
    let step = gave (given_by columns given piece) (λ next. all_given columns next pieces) more e in
    let one = given_fits columns given step.a piece alike all step.first in
    let rest = all_fit columns step.a more pieces (one.count ∙ alike) one.all step.then in
    record { count = rest.count ∙ one.count; all = rest.all }

-- ---- the row

record RowFits (place : ℕ) (columns : List Column) (row : List Val) : Type 0 where
  count : length row ≡ length columns
  all : values_fault place columns row ≡ None

values_fit : (place : ℕ) (columns : List Column) (given : List (Option Val)) (row : List Val) → length given ≡ length columns → AllFit columns given → values_from place given ≡ Ok row → RowFits place columns row
values_fit place [] [] row alike all e = let none : [] ≡ row = cc in subst (RowFits place []) none (record { count = refl; all = refl })
values_fit place [] (o ∷ given) row alike all e = absurd (omega arith)
values_fit place (column ∷ columns) [] row alike all e = absurd (omega arith)
values_fit place (column ∷ columns) (None ∷ given) row alike all e = absurd (cc)
values_fit place (column ∷ columns) (Some v ∷ given) row alike all e =
    let rest = gave (values_from (place + 1) given) (λ values. Ok (v ∷ values)) row e in
    let later = values_fit (place + 1) columns given rest.a (omega (arith, alike)) (λ k at d x within has. all (suc k) at d x (omega (arith, within)) has) rest.first in
    let row_is : v ∷ rest.a ≡ row = cc (rest.then) in
    let first = all 0 place column v (omega arith) refl in
    subst (RowFits place (column ∷ columns)) row_is (record {
      count = omega (arith, later.count);
      all = ap (λ o. option_or o (values_fault (place + 1) columns rest.a)) first ∙ later.all;
    })

nothing_given : (columns : List Column) (k : ℕ) → get_or {A = Option Val} (map (λ _. None) columns) k None ≡ None
nothing_given [] k = refl
nothing_given (column ∷ columns) zero = refl
nothing_given (column ∷ columns) (suc k) = nothing_given columns k

pub row_fits : (columns : List Column) (text : List ℕ) (row : List Val) → read_row columns text ≡ Ok row → row_fault columns row ≡ None
row_fits columns text row e =
    let start : List (Option Val) = map (λ _. None) columns in
    let step = gave (all_given columns start (pieces_from 0 text)) (λ given. values_from 0 given) row e in
    let alike : length start ≡ length columns = length-map columns (λ _. None) in
    let fit = all_fit columns start step.a (pieces_from 0 text) alike (λ k at d v within has. absurd (cc (sym (nothing_given columns k) ∙ has))) step.first in
    let is = values_fit 0 columns step.a row (fit.count ∙ alike) fit.all step.then in
    grind (arith, nat_tests, is.count, is.all)
