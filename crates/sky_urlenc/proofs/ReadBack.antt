-- A row's text is read as that row.
use Rattle.std.proofs.Common.{◌≡◌, ◌≢◌, ℕ, ◌+◌, ◌<◌, false, List, [], ◌∷◌, ◌++◌, length, map, Option, Some, None, Ok, refl, sym, ◌∙◌, ap, subst, arith, append_assoc, append-nil, length-append}
use Rattle.std.specs.Prelude.{◌==◌, filter, bytes_eq, All, AllPairs}
use Rattle.std.specs.List.{slice_split, join_with_byte}
use Rattle.std.specs.Option.{option_or}
use Rattle.std.proofs.lemmas.List.Elements.{All-nil, All-cons, All-head, All-tail, All-weaker}
use Rattle.std.proofs.lemmas.List.Splits.{slice_split_at, slice_split_none}
use Rattle.form_urlencoded.specs.Form.{ampersand, is_nonempty}
use Rattle.sky_val.specs.declared.val.Val.{Val}
use Rattle.sky_val.specs.declared.column.Column.{Column}
use Rattle.sky_val.specs.declared.schema.RowFault.{RowFault}
use Rattle.sky_val.specs.Schemas.{value_fault, values_fault, row_fault, AreNamed}
use Rattle.sky_urlenc.specs.Held.{HoldsOne, HoldsAll}
use Rattle.sky_urlenc.specs.RowText.{column_text, column_texts, row_text}
use Rattle.sky_urlenc.specs.ReadRow.{◌>>=◌, Piece, in_places, pieces_from, value_for, given_by, all_given, values_from, read_row}
use Rattle.sky_urlenc.proofs.InOrder.{apart_here, filled, next_given, values_given}
use Rattle.sky_urlenc.proofs.PieceBack.{text_of, column_text-written, written_no_ampersand, written_some, text_of-IsWord, piece_written, name_back, text_back, is_text_back, value_back}
use Rattle.std.proofs.lemmas.Bool.Decides.{nat_tests}

piece_back : (front columns : List Column) (before : List Val) (column : Column) (v : Val) (start place : ℕ) → length before ≡ length front → All (λ c. bytes_eq c.name column.name ≡ false) front → HoldsOne column v → value_fault place column v ≡ None
    → given_by (front ++ column ∷ columns) (filled before (column ∷ columns)) (record { start = start; bytes = column_text column v }) ≡ Ok (filled (before ++ v ∷ []) columns)
piece_back front columns before column v start place alike fresh holds e =
    let text = text_of-IsWord v holds.value in
    let value = ap (value_for start column) (text_back start column.name (text_of v) text) ∙ value_back start place column v holds.value e in
    ap (λ bytes. given_by (front ++ column ∷ columns) (filled before (column ∷ columns)) (record { start = start; bytes = bytes })) (column_text-written column v holds.value)
    ∙ next_given front columns before column v (piece_written start column.name (text_of v)) alike fresh (name_back start column.name (text_of v) holds.name) (is_text_back start column.name (text_of v) holds.name text) value

no_fault : (one other : Option RowFault) → option_or one other ≡ None → (one ≡ None) × (other ≡ None)
no_fault None other e = (refl, e)
no_fault (Some x) other e = absurd (cc)

-- all the pieces of a row
all_back : (whole front columns : List Column) (before row : List Val) (given : List (Option Val)) (start place : ℕ) → whole ≡ front ++ columns → given ≡ filled before columns → length before ≡ length front → length row ≡ length columns
    → AllPairs (λ one other. one.name ≢ other.name) whole → HoldsAll columns row → values_fault place columns row ≡ None → all_given whole given (in_places start (column_texts columns row)) ≡ Ok (map (λ v. Some v) (before ++ row))
all_back whole front [] before [] given start place whole_is given_is alike same apart holds e =
    ap (λ given. Ok given) (given_is ∙ append-nil (map (λ v. Some v) before) ∙ ap (map (λ v. Some v)) (sym (append-nil before)))
all_back whole front [] before (v ∷ row) given start place whole_is given_is alike same apart holds e = absurd (omega arith)
all_back whole front (column ∷ columns) before [] given start place whole_is given_is alike same apart holds e = absurd (omega arith)
all_back whole front (column ∷ columns) before (v ∷ row) given start place whole_is given_is alike same apart holds e =
    let faults = no_fault (value_fault place column v) (values_fault (place + 1) columns row) e in
    let fresh = apart_here front columns column (subst (AllPairs (λ one other. one.name ≢ other.name)) whole_is apart) in
    let more = filled (before ++ v ∷ []) columns in
    let piece : Piece = record { start = start; bytes = column_text column v } in
    let step : given_by whole given piece ≡ Ok more = (λ i. given_by (whole_is i) (given_is i) piece) ∙ piece_back front columns before column v start place alike fresh holds.0 faults.0 in
    let later = start + length (column_text column v) + 1 in
    ap (λ checked. checked >>= (λ more. all_given whole more (in_places later (column_texts columns row)))) step
    ∙ all_back whole (front ++ column ∷ []) columns (before ++ v ∷ []) row more later (place + 1) (whole_is ∙ sym (append_assoc front (column ∷ []) columns)) refl
    (omega (arith, alike, length-append before (v ∷ []), length-append front (column ∷ []))) (omega (arith, same)) apart holds.1 faults.1
    ∙ ap (λ values. Ok (map (λ v. Some v) values)) (append_assoc before (v ∷ []) row)

-- ---- the pieces of a row's text

split_back : (text : List ℕ) (texts : List (List ℕ)) → All (λ t. All (λ b. (b == ampersand) ≡ false) t) (text ∷ texts) → slice_split (λ b. b == ampersand) (join_with_byte ampersand (text ∷ texts)) ≡ text ∷ texts
split_back text [] none = slice_split_none (λ b. b == ampersand) text (All-head (λ t. All (λ b. (b == ampersand) ≡ false) t) text [] none)
split_back text (next ∷ texts) none =
    slice_split_at (λ b. b == ampersand) text ampersand (join_with_byte ampersand (next ∷ texts)) (All-head (λ t. All (λ b. (b == ampersand) ≡ false) t) text (next ∷ texts) none) refl
    ∙ ap (λ parts. text ∷ parts) (split_back next texts (All-tail (λ t. All (λ b. (b == ampersand) ≡ false) t) text (next ∷ texts) none))

none_skipped : (start : ℕ) (texts : List (List ℕ)) → All (λ t. 0 < length t) texts → filter (λ piece. is_nonempty piece.bytes) (in_places start texts) ≡ in_places start texts
none_skipped start [] some = refl
none_skipped start (text ∷ texts) some =
    grind (arith, nat_tests, All-head (λ t. 0 < length t) text texts some, none_skipped (start + length text + 1) texts (All-tail (λ t. 0 < length t) text texts some))

pieces_back : (start : ℕ) (texts : List (List ℕ)) → All (λ t. All (λ b. (b == ampersand) ≡ false) t) texts → All (λ t. 0 < length t) texts → pieces_from start (join_with_byte ampersand texts) ≡ in_places start texts
pieces_back start [] none some = refl
pieces_back start (text ∷ texts) none some =
    ap (λ parts. filter (λ piece. is_nonempty piece.bytes) (in_places start parts)) (split_back text texts none) ∙ none_skipped start (text ∷ texts) some

-- what is known of the text of each column
record IsApart (text : List ℕ) : Type 0 where
  none : All (λ b. (b == ampersand) ≡ false) text
  some : 0 < length text

text_apart : (column : Column) (v : Val) → HoldsOne column v → column.name ≢ [] → IsApart (column_text column v)
text_apart column v holds named = subst IsApart (sym (column_text-written column v holds.value))
    (record { none = written_no_ampersand column.name (text_of v); some = written_some column.name (text_of v) holds.name named })

texts_apart : (columns : List Column) (row : List Val) → HoldsAll columns row → AreNamed columns → All IsApart (column_texts columns row)
texts_apart [] row holds named = All-nil IsApart
texts_apart (column ∷ columns) [] holds named = All-nil IsApart
texts_apart (column ∷ columns) (v ∷ row) holds named =
    All-cons IsApart (column_text column v) (column_texts columns row) (text_apart column v holds.0 (All-head (λ c. c.name ≢ []) column columns named))
    (texts_apart columns row holds.1 (All-tail (λ c. c.name ≢ []) column columns named))

-- ---- the row

pub read_back : (columns : List Column) (row : List Val) → AllPairs (λ one other. one.name ≢ other.name) columns → row_fault columns row ≡ None → HoldsAll columns row → AreNamed columns → read_row columns (row_text columns row) ≡ Ok row
read_back columns row apart e holds named =
    let texts = texts_apart columns row holds named in
    let pieces = pieces_back 0 (column_texts columns row) (All-weaker IsApart (λ t. All (λ b. (b == ampersand) ≡ false) t) (λ t a. a.none) (column_texts columns row) texts) (All-weaker IsApart (λ t. 0 < length t) (λ t a. a.some) (column_texts columns row) texts) in
    let alike : length row ≡ length columns = grind (arith, nat_tests, e) in
    let fits : values_fault 0 columns row ≡ None = grind (arith, e) in
    ap (λ pieces. all_given columns (map (λ _. None) columns) pieces >>= (λ given. values_from 0 given)) pieces
    ∙ ap (λ checked. checked >>= (λ given. values_from 0 given)) (all_back columns [] columns [] row (map (λ _. None) columns) 0 0 refl refl refl alike apart holds fits)
    ∙ values_given 0 row
