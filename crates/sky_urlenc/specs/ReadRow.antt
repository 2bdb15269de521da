-- How a row is read from a text: pieces between `&`, each a column's name, `=` and its value, or a name alone for Null.
use Rattle.std.specs.Prelude.{ℕ, ◌+◌, ◌==◌, Bool, true, not, ◌&&◌, if◌then◌else◌, List, [], ◌∷◌, length, filter, find, Option, None, Some, is_none, option_map, Result, Ok, Err, bytes_eq, slice_index_or, slice_set, map, take, drop}
use Rattle.std.specs.List.{slice_split, enumerate_from, position}
use Rattle.std.specs.Str.{is_utf8}
use Rattle.form_urlencoded.specs.Form.{ampersand, equals_sign, is_nonempty, decode}
use Rattle.sky_val.specs.declared.val.Val.{Val}
use Rattle.sky_val.specs.declared.val.Val.TheVariants.{Null, Int, Text}
use Rattle.sky_val.specs.declared.column.Column.{Column}
use Rattle.sky_val.specs.declared.column.ColKind.{ColKind}
use Rattle.sky_val.specs.declared.column.ColKind.TheVariants as kind
use Rattle.sky_val.specs.Numbers.{int_of}
use Rattle.sky_urlenc.specs.declared.fault.DecodeFault.{DecodeFault}
use Rattle.sky_urlenc.specs.declared.fault.DecodeFault.TheVariants.{BadText, UnknownColumn, TwiceColumn, NullKey, BadInt, MissingColumn}

-- something, or the first fault
abbrev pub Checked : Type 0 → Type 0
Checked A = Result A DecodeFault

-- what comes next, unless there was a fault
infixl 20 ◌>>=◌
abbrev pub ◌>>=◌ : {A B : Type 0} → Checked A → (A → Checked B) → Checked B
Err fault >>= next = Err fault
Ok a >>= next = next a

infixl 20 ◌>>◌
abbrev pub ◌>>◌ : {A B : Type 0} → Checked A → Checked B → Checked B
Err fault >> next = Err fault
Ok a >> next = next

-- no fault if the test holds, else this one
abbrev pub holds_or : Bool → DecodeFault → Checked (Unit {0})
holds_or holds fault = if holds then Ok tt else Err fault

-- the value, if there is one, else this fault
abbrev pub found_or : {A : Type 0} → Option A → DecodeFault → Checked A
found_or None fault = Err fault
found_or (Some a) fault = Ok a

-- ---- the pieces

-- what is between two `&`, and the byte place where it starts
pub record Piece : Type 0 where
  pub start : ℕ
  pub bytes : List ℕ

-- parts with a byte between each two, the first of them at a place
abbrev pub in_places : ℕ → List (List ℕ) → List Piece
in_places start [] = []
in_places start (part ∷ parts) = record { start = start; bytes = part } ∷ in_places (start + length part + 1) parts

-- the pieces of a text that starts at a place; an empty one is skipped
abbrev pub pieces_from : ℕ → List ℕ → List Piece
pieces_from start text = filter (λ piece. is_nonempty piece.bytes) (in_places start (slice_split (λ b. b == ampersand) text))

-- what comes before the first `=` of a piece, which is at this place, and what comes after it; if there is none, only the piece
abbrev pub sides_at : Option ℕ → List ℕ → List ℕ × Option (List ℕ)
sides_at None bytes = (bytes, None)
sides_at (Some place) bytes = (take place bytes, Some (drop (place + 1) bytes))

-- the two sides of a piece
abbrev pub sides_of : Piece → List ℕ × Option (List ℕ)
sides_of piece = sides_at (position (λ b. b == equals_sign) piece.bytes) piece.bytes

-- the name that a piece gives
abbrev pub name_in : Piece → List ℕ
name_in piece = decode (sides_of piece).0

-- the text that it gives, if it gives one
abbrev pub text_in : Piece → Option (List ℕ)
text_in piece = option_map decode (sides_of piece).1

-- whether the bytes of a text are UTF-8, if there is a text
abbrev pub is_utf8_or_none : Option (List ℕ) → Bool
is_utf8_or_none None = true
is_utf8_or_none (Some text) = is_utf8 text

-- whether the texts of a piece are UTF-8
abbrev pub is_text : Piece → Bool
is_text piece = is_utf8 (name_in piece) && is_utf8_or_none (text_in piece)

-- ---- what they give

-- the column of a name, with its place
abbrev pub column_named : List ℕ → List Column → Option (ℕ × Column)
column_named name columns = find (λ c. bytes_eq c.1.name name) (enumerate_from 0 columns)

-- the value that a text writes for a column of a kind, if it writes one; no text means Null
abbrev pub value_of : ColKind → Option (List ℕ) → Option Val
value_of k None = Some Null
value_of kind.Int (Some text) = option_map (λ n. Int n) (int_of text)
value_of kind.Text (Some text) = Some (Text text)

-- the value that a column takes from a piece that starts at a place and gives this text
abbrev pub value_for : ℕ → Column → Option (List ℕ) → Checked Val
value_for start column text = do
  holds_or (not (column.key && is_none text)) (NullKey start)
  found_or (value_of column.kind text) (BadInt start)

-- what the columns have, each a value or nothing yet, after a piece gave one of them its value
abbrev pub given_by : List Column → List (Option Val) → Piece → Checked (List (Option Val))
given_by columns given piece = do
  holds_or (is_text piece) (BadText piece.start)
  (place, column) ← found_or (column_named (name_in piece) columns) (UnknownColumn piece.start)
  holds_or (is_none (slice_index_or given place None)) (TwiceColumn piece.start)
  value ← value_for piece.start column (text_in piece)
  Ok (slice_set given place (Some value))

-- the same after each piece did, one after another
abbrev pub all_given : List Column → List (Option Val) → List Piece → Checked (List (Option Val))
all_given columns given [] = Ok given
all_given columns given (piece ∷ pieces) = given_by columns given piece >>= λ more. all_given columns more pieces

-- the values that columns have, the first of which is at a place
abbrev pub values_from : ℕ → List (Option Val) → Checked (List Val)
values_from place [] = Ok []
values_from place (None ∷ given) = Err (MissingColumn place)
values_from place (Some value ∷ given) = values_from (place + 1) given >>= λ values. Ok (value ∷ values)

-- the row that a text writes, or the first fault
abbrev pub read_row : List Column → List ℕ → Checked (List Val)
read_row columns text = do
  given ← all_given columns (map (λ _. None) columns) (pieces_from 0 text)
  values_from 0 given
