-- The kinds of words, and the value of a word of a kind.
use Rattle.std.specs.Prelude.{ℕ, ◌+◌, ◌-◌, ◌==◌, nat_le, ℤ, pos, Bool, true, false, not, ◌&&◌, ◌||◌, if◌then◌else◌, List, [], ◌∷◌, length, take, drop, Option, Some, None, option_map, bytes_eq, codes, position}
use Rattle.std.specs.Char.{is_ascii_digit, is_ascii_lowercase}
use Rattle.std.specs.List.{list_all, slice_split}
use Rattle.std.specs.Option.{option_or, option_and_then}
use Rattle.std.specs.Str.{is_utf8}
use Rattle.sky_val.specs.Numbers.{number_of, int_of}
use Rattle.sky_val.specs.Intervals.{interval_of}
use Rattle.sky_val.specs.declared.val.Val.{Val}
use Rattle.sky_val.specs.declared.val.Val.TheVariants.{Null, Int, Text}
use Rattle.sky_val.specs.declared.column.ColKind.{ColKind}
use Rattle.sky_val.specs.declared.column.ColKind.TheVariants as kind
use Rattle.sky_val.specs.declared.column.Column as column
use Rattle.sky_model.specs.declared.stmt.Change.{Change}
use Rattle.sky_model.specs.declared.stmt.Change.TheVariants.{To, Add}
use Rattle.sky_model.specs.declared.stmt.Set as set

-- a name; one, or two with a dot between; a number, with the most that it may be; `null` or a text; a word without quotes or a text; a value of a
-- row; a column of a new table; the change of a column; the columns that a trigger ignores; how far the clock moves
pub data Kind : Type 0 where
  Name : Kind
  Dotted : Kind
  Number : ℕ → Kind
  OptText : Kind
  Raw : Kind
  Value : Kind
  Column : Kind
  Set : Kind
  Ignore : Kind
  Advance : Kind

-- the type of the value of a word of a kind
abbrev pub Of : Kind → Type 0
Of Name = List ℕ
Of Dotted = List ℕ
Of (Number most) = ℕ
Of OptText = Option (List ℕ)
Of Raw = List ℕ
Of Value = Val
Of Column = column.Column
Of Set = set.Set
Of Ignore = List (List ℕ)
Of Advance = ℤ

-- a lower-case letter or `_`
abbrev pub begins_name : ℕ → Bool
begins_name b = is_ascii_lowercase b || b == 95

-- a lower-case letter, a digit or `_`
abbrev pub continues_name : ℕ → Bool
continues_name b = begins_name b || is_ascii_digit b

-- a name of any length
abbrev pub is_identifier : List ℕ → Bool
is_identifier [] = false
is_identifier (b ∷ bs) = begins_name b && list_all continues_name bs

-- a name
abbrev pub is_name : List ℕ → Bool
is_name w = nat_le (length w) 63 && is_identifier w

-- one name of any length, or two around a dot at this place
abbrev pub names_around : Option ℕ → List ℕ → Bool
names_around None w = is_identifier w
names_around (Some dot) w = is_identifier (take dot w) && is_identifier (drop (dot + 1) w)

-- the place of the first byte of this kind
abbrev pub first_place : ℕ → List ℕ → Option ℕ
first_place byte w = position (λ b. b == byte) w

-- a name, or two with a dot between, of at most 63 bytes together
abbrev pub is_dotted : List ℕ → Bool
is_dotted w = nat_le (length w) 63 && names_around (first_place 46 w) w

-- a byte that is allowed inside quotes: neither a line feed nor the zero byte
abbrev pub is_text_byte : ℕ → Bool
is_text_byte b = not (b == 10) && not (b == 0)

-- the text from a place inside quotes on, two quotes being one, if the word ends with its closing quote; `quote` says that the byte before is a
-- quote, the closing one or the first of two
abbrev pub text_from : (quote : Bool) → List ℕ → Option (List ℕ)
text_from true [] = Some []
text_from true (b ∷ bs) = if b == 39 then option_map (λ text. 39 ∷ text) (text_from false bs) else None
text_from false [] = None
text_from false (b ∷ bs) = if b == 39 then text_from true bs else if is_text_byte b then option_map (λ text. b ∷ text) (text_from false bs) else None

-- the text, if its bytes are UTF-8
abbrev pub in_characters : Option (List ℕ) → Option (List ℕ)
in_characters None = None
in_characters (Some text) = if is_utf8 text then Some text else None

-- the text of a quoted word
abbrev pub quoted_text : List ℕ → Option (List ℕ)
quoted_text [] = None
quoted_text (b ∷ bs) = if b == 39 then in_characters (text_from false bs) else None

-- `null`, or the text of a quoted word
abbrev pub opt_text : List ℕ → Option (Option (List ℕ))
opt_text w = if bytes_eq w (codes "null") then Some None else option_map (λ text. Some text) (quoted_text w)

-- a byte that is allowed outside quotes: printable, and neither the space nor the quote
abbrev pub is_bare : ℕ → Bool
is_bare b = nat_le 33 b && nat_le b 126 && not (b == 39)

-- a word without quotes
abbrev pub is_bare_word : List ℕ → Bool
is_bare_word [] = false
is_bare_word (b ∷ bs) = list_all is_bare (b ∷ bs)

-- a word without quotes, or the text of a quoted word
abbrev pub raw : List ℕ → Option (List ℕ)
raw w = if is_bare_word w then Some w else quoted_text w

-- `null`, a number or the text of a quoted word
abbrev pub value_of : List ℕ → Option Val
value_of w =
    if bytes_eq w (codes "null") then Some Null
    else option_or (option_map (λ n. Int n) (int_of w)) (option_map (λ text. Text text) (quoted_text w))

-- a column's kind and whether it is part of the key, by what comes after its name's colon
abbrev pub column_kind : List ℕ → Option (ColKind × Bool)
column_kind w =
    if bytes_eq w (codes "int") then Some (kind.Int, false)
    else if bytes_eq w (codes "int:key") then Some (kind.Int, true)
    else if bytes_eq w (codes "text") then Some (kind.Text, false)
    else if bytes_eq w (codes "text:key") then Some (kind.Text, true)
    else None

-- the column of this name, if it is a name
abbrev pub column_as : List ℕ → Option (ColKind × Bool) → Option column.Column
column_as name kind = if is_name name then option_map (λ k. record { name = name; kind = k.0; key = k.1 }) kind else None

-- the column that a word with a colon at this place describes
abbrev pub column_around : Option ℕ → List ℕ → Option column.Column
column_around None w = None
column_around (Some colon) w = column_as (take colon w) (column_kind (drop (colon + 1) w))

-- the column that a word describes: a name, its kind, and whether it is part of the key
abbrev pub column_of : List ℕ → Option column.Column
column_of w = column_around (first_place 58 w) w

-- the change of the column of this name, if it is a name
abbrev pub set_as : List ℕ → Option Change → Option set.Set
set_as name change = if is_name name then option_map (λ c. record { column = name; change = c }) change else None

-- the change, by what comes before the first `=` and after it: a number is added if there is a `+` before it
abbrev pub set_by : List ℕ → List ℕ → Option set.Set
set_by front back =
    if bytes_eq (drop (length front - 1) front) (codes "+") then set_as (take (length front - 1) front) (option_map (λ n. Add n) (int_of back))
    else set_as front (option_map (λ v. To v) (value_of back))

-- the change that a word with an `=` at this place describes
abbrev pub set_around : Option ℕ → List ℕ → Option set.Set
set_around None w = None
set_around (Some at) w = set_by (take at w) (drop (at + 1) w)

-- the change of a column that a word describes
abbrev pub set_of : List ℕ → Option set.Set
set_of w = set_around (first_place 61 w) w

-- what is between commas
abbrev pub between_commas : List ℕ → List (List ℕ)
between_commas w = slice_split (λ b. b == 44) w

-- names separated by commas
abbrev pub names_of : List ℕ → Option (List (List ℕ))
names_of w = if list_all is_name (between_commas w) then Some (between_commas w) else None

-- `ignore=` and names separated by commas
abbrev pub ignore_of : List ℕ → Option (List (List ℕ))
ignore_of w = if bytes_eq (take 7 w) (codes "ignore=") then names_of (drop 7 w) else None

-- the longest time by which the clock moves at once: a day, in microseconds
abbrev pub longest_advance : ℕ
longest_advance = 86_400_000_000

-- an interval that isn't empty and at most a day
abbrev pub advance_by : Option ℕ → Option ℤ
advance_by None = None
advance_by (Some time) = if nat_le 1 time && nat_le time longest_advance then Some (pos time) else None

-- what a `+` and an interval say
abbrev pub advance_in : List ℕ → Option ℤ
advance_in [] = None
advance_in (b ∷ bs) = if b == 43 then advance_by (interval_of bs) else None

-- `+` and an interval, in quotes or not
abbrev pub advance_of : List ℕ → Option ℤ
advance_of w = option_and_then advance_in (raw w)

-- the value of a word of a kind; no value if the word is of another
abbrev pub value : (k : Kind) → List ℕ → Option (Of k)
value Name w = if is_name w then Some w else None
value Dotted w = if is_dotted w then Some w else None
value (Number most) w = number_of most w
value OptText w = opt_text w
value Raw w = raw w
value Value w = value_of w
value Column w = column_of w
value Set w = set_of w
value Ignore w = ignore_of w
value Advance w = advance_of w
