-- Pieces that give the columns their values in order.
use Rattle.std.proofs.Common.{◌≡◌, ◌≢◌, ℕ, ◌+◌, ◌<◌, true, false, List, [], ◌∷◌, ◌++◌, length, get_or, take, drop, set, map, Option, Some, None, Ok, refl, sym, ◌∙◌, ap, subst, arith, append_assoc, append-nil, length-append, take-append-drop}
use Rattle.std.specs.Prelude.{find, bytes_eq, All, AllPairs}
use Rattle.std.specs.List.{enumerate_from}
use Rattle.std.proofs.Math.ListN.{get_or-append}
use Rattle.std.proofs.Math.Seq.{get_or-append_seam, set-append_seam}
use Rattle.std.proofs.lemmas.Bool.{cond-true, cond-false}
use Rattle.std.proofs.lemmas.List.{map-append, length-map, length-take, drop_more}
use Rattle.std.proofs.lemmas.List.Elements.{All-head, All-tail}
use Rattle.std.proofs.lemmas.Slice.Eq.{bytes_eq-Decides}
use Rattle.sky_val.specs.declared.val.Val.{Val}
use Rattle.sky_val.specs.declared.column.Column.{Column}
use Rattle.sky_urlenc.specs.ReadRow.{◌>>=◌, Piece, pieces_from, name_in, text_in, is_text, column_named, value_for, given_by, all_given, values_from, read_row}

-- the column of a name that no earlier one has
named_behind : (n : ℕ) (front columns : List Column) (column : Column) → All (λ c. bytes_eq c.name column.name ≡ false) front
    → find (λ c. bytes_eq c.1.name column.name) (enumerate_from n (front ++ column ∷ columns)) ≡ Some (n + length front, column)
named_behind n [] columns column fresh = cond-true _ _ _ ((bytes_eq-Decides column.name column.name).1 refl) ∙ ap (λ k. Some (k, column)) (omega arith)
named_behind n (other ∷ front) columns column fresh =
    cond-false _ _ _ (All-head (λ c. bytes_eq c.name column.name ≡ false) other front fresh)
    ∙ named_behind (n + 1) front columns column (All-tail (λ c. bytes_eq c.name column.name ≡ false) other front fresh) ∙ ap (λ k. Some (k, column)) (omega arith)

pub apart_here : (front columns : List Column) (column : Column) → AllPairs (λ one other. one.name ≢ other.name) (front ++ column ∷ columns) → All (λ c. bytes_eq c.name column.name ≡ false) front
apart_here front columns column apart k d within =
    let earlier = get_or-append front (column ∷ columns) d k within in
    let here = get_or-append_seam front column columns d in
    let longer : length front < length (front ++ column ∷ columns) = omega (arith, length-append front (column ∷ columns)) in
    let other : (get_or front k d).name ≢ column.name = λ same. apart k (length front) d within longer (ap (λ c. c.name) earlier ∙ same ∙ sym (ap (λ c. c.name) here)) in
    grind (arith, other, (bytes_eq-Decides (get_or front k d).name column.name).0)

-- the steps of a piece that gives a value
given_is : (columns : List Column) (given : List (Option Val)) (piece : Piece) (place : ℕ) (column : Column) (v : Val) → is_text piece ≡ true → column_named (name_in piece) columns ≡ Some (place, column) → get_or given place None ≡ None
    → value_for piece.start column (text_in piece) ≡ Ok v → given_by columns given piece ≡ Ok (set given place (Some v))
given_is columns given piece place column v text named free value = rw (text, named, free, value)

-- the values of some columns, with nothing yet for the others
abbrev pub filled : List Val → List Column → List (Option Val)
filled before columns = map (λ v. Some v) before ++ map (λ _. None) columns

filled_more : (before : List Val) (v : Val) (columns : List Column) → map (λ v. Some v) before ++ Some v ∷ map (λ _. None) columns ≡ filled (before ++ v ∷ []) columns
filled_more before v columns =
    sym (append_assoc (map (λ v. Some v) before) (Some v ∷ []) (map (λ _. None) columns)) ∙ ap (λ given. given ++ map (λ _. None) columns) (sym (map-append (λ v. Some v) before (v ∷ [])))

-- a piece with the name of the next column gives it a value
pub next_given : (front columns : List Column) (before : List Val) (column : Column) (v : Val) (piece : Piece) → length before ≡ length front → All (λ c. bytes_eq c.name column.name ≡ false) front
    → name_in piece ≡ column.name → is_text piece ≡ true → value_for piece.start column (text_in piece) ≡ Ok v
    → given_by (front ++ column ∷ columns) (filled before (column ∷ columns)) piece ≡ Ok (filled (before ++ v ∷ []) columns)
next_given front columns before column v piece alike fresh name text value =
    let count : length (map (λ v. Some v) before) ≡ length front = length-map before (λ v. Some v) ∙ alike in
    let nones : List (Option Val) = map (λ _. None) columns in
    let start : 0 + length front ≡ length front = omega arith in
    let named = ap (λ name. column_named name (front ++ column ∷ columns)) name ∙ named_behind 0 front columns column fresh ∙ ap (λ n. Some (n, column)) start in
    let free : get_or (filled before (column ∷ columns)) (length front) None ≡ None = ap (λ n. get_or (filled before (column ∷ columns)) n None) (sym count) ∙ get_or-append_seam (map (λ v. Some v) before) None nones None in
    given_is (front ++ column ∷ columns) (filled before (column ∷ columns)) piece (length front) column v text named free value
    ∙ ap (λ n. Ok (set (filled before (column ∷ columns)) n (Some v))) (sym count) ∙ ap (λ given. Ok given) (set-append_seam (map (λ v. Some v) before) None nones (Some v) ∙ filled_more before v columns)

-- one more piece, and the column at a place gets its value
pub piece_given : (columns : List Column) (place : ℕ) (before : List Val) (column : Column) (v : Val) (piece : Piece) (pieces : List Piece) → place < length columns → column ≡ get_or columns place column → length before ≡ place
    → AllPairs (λ one other. one.name ≢ other.name) columns → name_in piece ≡ column.name → is_text piece ≡ true → value_for piece.start column (text_in piece) ≡ Ok v
    → all_given columns (filled before (drop place columns)) (piece ∷ pieces) ≡ all_given columns (filled (before ++ v ∷ []) (drop (place + 1) columns)) pieces
piece_given columns place before column v piece pieces within is alike apart name text value =
    let front = take place columns in
    let behind = drop (place + 1) columns in
    let left : drop place columns ≡ column ∷ behind = drop_more columns place column within ∙ ap (λ c. c ∷ behind) (sym is) in
    let whole : columns ≡ front ++ column ∷ behind = sym (take-append-drop place columns) ∙ ap (λ cs. front ++ cs) left in
    let count : length before ≡ length front = alike ∙ omega (arith, length-take place columns) in
    let fresh = apart_here front behind column (subst (AllPairs (λ one other. one.name ≢ other.name)) whole apart) in
    let step = (λ i. given_by (whole i) (filled before (left i)) piece) ∙ next_given front behind before column v piece count fresh name text value in
    ap (λ checked. checked >>= (λ more. all_given columns more pieces)) step

pub values_given : (place : ℕ) (row : List Val) → values_from place (map (λ v. Some v) row) ≡ Ok row
values_given place [] = refl
values_given place (v ∷ row) = ap (λ checked. checked >>= (λ values. Ok (v ∷ values))) (values_given (place + 1) row)

-- all columns have their values
pub all_have : (columns : List Column) (text : List ℕ) (row : List Val) → Ok (filled row []) ≡ all_given columns (map (λ _. None) columns) (pieces_from 0 text) → read_row columns text ≡ Ok row
all_have columns text row same =
    ap (λ checked. checked >>= (λ given. values_from 0 given)) (sym same) ∙ ap (values_from 0) (append-nil (map (λ v. Some v) row)) ∙ values_given 0 row
