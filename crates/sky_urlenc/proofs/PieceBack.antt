-- A column that is written with its value gives a piece that is read as that value.
use Rattle.std.proofs.Common.{◌≡◌, ◌≢◌, inl, inr, ℕ, ◌+◌, ◌<◌, true, false, List, [], ◌∷◌, ◌++◌, length, Option, Some, None, Ok, refl, sym, ◌∙◌, ap, arith, length-append}
use Rattle.std.specs.Prelude.{◌==◌, option_map, All, ⊤}
use Rattle.std.specs.Fmt.{signed_decimal}
use Rattle.std.specs.List.{position, position_from}
use Rattle.std.specs.Str.{is_utf8}
use Rattle.std.proofs.Math.Seq.{take-append_seam, drop-append-add}
use Rattle.std.proofs.lemmas.Bool.{and_from}
use Rattle.std.proofs.lemmas.Bool.Decides.{nat_tests}
use Rattle.std.proofs.lemmas.Iterator.Adapters.{position_from-zero}
use Rattle.std.proofs.lemmas.List.Elements.{All-from_get_or, All-cons, All-head, All-tail, All-append, All-weaker}
use Rattle.std.proofs.lemmas.Str.{is_utf8-from_IsUtf8, IsUtf8-from_ascii}
use Rattle.itoa.proofs.Decimal.{IsAscii-signed_decimal}
use Rattle.percent_encoding.proofs.PercentLemmas.{percent_decode-nil}
use Rattle.form_urlencoded.specs.Form.{ampersand, equals_sign, byte_serialize, decode}
use Rattle.form_urlencoded.proofs.FormLemmas.{IsSerializedByte, All-byte_serialize, decode-byte_serialize}
use Rattle.sky_val.specs.declared.val.Val.{Val}
use Rattle.sky_val.specs.declared.val.Val.TheVariants as value
use Rattle.sky_val.specs.declared.column.Column.{Column}
use Rattle.sky_val.specs.Schemas.{value_fault}
use Rattle.sky_urlenc.specs.Held.{IsWord, IsHeld}
use Rattle.sky_urlenc.specs.RowText.{column_text}
use Rattle.sky_urlenc.specs.ReadRow.{Piece, sides_at, name_in, text_in, is_text, is_utf8_or_none, value_for}
use Rattle.sky_urlenc.proofs.NumberBack.{int_back, number_unescaped}

-- ---- a name and a text, as a piece writes them

-- the text of a value
abbrev pub text_of : Val → Option (List ℕ)
text_of value.Null = None
text_of (value.Int n) = Some (signed_decimal n)
text_of (value.Text text) = Some text

-- a piece with this name and text
abbrev pub written : List ℕ → Option (List ℕ) → List ℕ
written name None = byte_serialize name
written name (Some text) = byte_serialize name ++ equals_sign ∷ byte_serialize text

pub column_text-written : (column : Column) (v : Val) → IsHeld v → column_text column v ≡ written column.name (text_of v)
column_text-written column value.Null held = refl
column_text-written column (value.Int n) held = ap (λ text. byte_serialize column.name ++ equals_sign ∷ text) (sym (number_unescaped n held))
column_text-written column (value.Text text) held = refl

no_ampersand : (b : ℕ) → IsSerializedByte b → (b == ampersand) ≡ false
no_ampersand b h = elim h.allowed [ inl kept ↦ grind (arith, nat_tests) | inr other ↦ grind (arith, nat_tests) ]

no_equals : (b : ℕ) → IsSerializedByte b → (b == equals_sign) ≡ false
no_equals b h = elim h.allowed [ inl kept ↦ grind (arith, nat_tests) | inr other ↦ grind (arith, nat_tests) ]

serialized_no_ampersand : (bytes : List ℕ) → All (λ b. (b == ampersand) ≡ false) (byte_serialize bytes)
serialized_no_ampersand bytes = All-weaker IsSerializedByte (λ b. (b == ampersand) ≡ false) no_ampersand (byte_serialize bytes) (All-byte_serialize bytes)

serialized_no_equals : (bytes : List ℕ) → All (λ b. (b == equals_sign) ≡ false) (byte_serialize bytes)
serialized_no_equals bytes = All-weaker IsSerializedByte (λ b. (b == equals_sign) ≡ false) no_equals (byte_serialize bytes) (All-byte_serialize bytes)

pub written_no_ampersand : (name : List ℕ) (text : Option (List ℕ)) → All (λ b. (b == ampersand) ≡ false) (written name text)
written_no_ampersand name None = serialized_no_ampersand name
written_no_ampersand name (Some text) =
    All-append (λ b. (b == ampersand) ≡ false) (byte_serialize name) (equals_sign ∷ byte_serialize text) (serialized_no_ampersand name)
    (All-cons (λ b. (b == ampersand) ≡ false) equals_sign (byte_serialize text) refl (serialized_no_ampersand text))

serialized_some : (name : List ℕ) → IsWord name → name ≢ [] → 0 < length (byte_serialize name)
serialized_some name word named = by (byte_serialize name) (decode-byte_serialize name word.small)
  where
    by : (bytes : List ℕ) → decode bytes ≡ name → 0 < length bytes
    by [] e = absurd (named (sym e ∙ percent_decode-nil))
    by (b ∷ bytes) e = omega arith

pub written_some : (name : List ℕ) (text : Option (List ℕ)) → IsWord name → name ≢ [] → 0 < length (written name text)
written_some name None word named = serialized_some name word named
written_some name (Some text) word named = omega (arith, length-append (byte_serialize name) (equals_sign ∷ byte_serialize text))

-- ---- its sides

zero-add : (n : ℕ) → 0 + n ≡ n
zero-add n = omega arith

first_from : (n : ℕ) (front behind : List ℕ) → All (λ b. (b == equals_sign) ≡ false) front → position_from (λ b. b == equals_sign) n (front ++ equals_sign ∷ behind) ≡ Some (n + length front)
first_from n [] behind none = ap (λ k. Some k) (omega arith)
first_from n (b ∷ front) behind none =
    grind (arith, All-head (λ b. (b == equals_sign) ≡ false) b front none, first_from (n + 1) front behind (All-tail (λ b. (b == equals_sign) ≡ false) b front none))

none_from : (n : ℕ) (bytes : List ℕ) → All (λ b. (b == equals_sign) ≡ false) bytes → position_from (λ b. b == equals_sign) n bytes ≡ None
none_from n [] none = refl
none_from n (b ∷ bytes) none = grind (arith, All-head (λ b. (b == equals_sign) ≡ false) b bytes none, none_from (n + 1) bytes (All-tail (λ b. (b == equals_sign) ≡ false) b bytes none))

-- the sides of a piece with a name and a text
abbrev sides_written : List ℕ → Option (List ℕ) → List ℕ × Option (List ℕ)
sides_written name text = (byte_serialize name, option_map byte_serialize text)

sides_back : (name : List ℕ) (text : Option (List ℕ)) → sides_at (position (λ b. b == equals_sign) (written name text)) (written name text) ≡ sides_written name text
sides_back name None =
    ap (λ found. sides_at found (byte_serialize name)) (position_from-zero (λ b. b == equals_sign) (byte_serialize name) ∙ none_from 0 (byte_serialize name) (serialized_no_equals name))
sides_back name (Some text) =
    let front = byte_serialize name in
    let behind = byte_serialize text in
    let whole = front ++ equals_sign ∷ behind in
    ap (λ found. sides_at found whole) (position_from-zero (λ b. b == equals_sign) whole ∙ first_from 0 front behind (serialized_no_equals name) ∙ ap (λ k. Some k) (zero-add (length front)))
    ∙ (λ i. (take-append_seam front (equals_sign ∷ behind) i, Some (drop-append-add front (equals_sign ∷ behind) 1 i)))

-- ---- what it gives

-- a text that is UTF-8, if there is one
abbrev IsWordOrNone : Option (List ℕ) → Type 0
IsWordOrNone None = ⊤
IsWordOrNone (Some text) = IsWord text

pub text_of-IsWord : (v : Val) → IsHeld v → IsWordOrNone (text_of v)
text_of-IsWord value.Null held = tt
text_of-IsWord (value.Int n) held =
    let ascii = IsAscii-signed_decimal n held in
    record { small = All-from_get_or (λ b. b < 256) (signed_decimal n) 0 (λ k within. omega (arith, ascii k)); characters = IsUtf8-from_ascii (signed_decimal n) ascii }
text_of-IsWord (value.Text text) held = held

-- a piece that is written with a name and a text gives both
abbrev pub piece_written : ℕ → List ℕ → Option (List ℕ) → Piece
piece_written start name text = record { start = start; bytes = written name text }

pub name_back : (start : ℕ) (name : List ℕ) (text : Option (List ℕ)) → IsWord name → name_in (piece_written start name text) ≡ name
name_back start name text word = ap (λ sides. decode sides.0) (sides_back name text) ∙ decode-byte_serialize name word.small

decoded_back : (text : Option (List ℕ)) → IsWordOrNone text → option_map decode (option_map byte_serialize text) ≡ text
decoded_back None word = refl
decoded_back (Some text) word = ap (λ t. Some t) (decode-byte_serialize text word.small)

pub text_back : (start : ℕ) (name : List ℕ) (text : Option (List ℕ)) → IsWordOrNone text → text_in (piece_written start name text) ≡ text
text_back start name text word = ap (λ sides. option_map decode sides.1) (sides_back name text) ∙ decoded_back text word

characters : (text : Option (List ℕ)) → IsWordOrNone text → is_utf8_or_none text ≡ true
characters None word = refl
characters (Some text) word = is_utf8-from_IsUtf8 text word.characters

pub is_text_back : (start : ℕ) (name : List ℕ) (text : Option (List ℕ)) → IsWord name → IsWordOrNone text → is_text (piece_written start name text) ≡ true
is_text_back start name text word other =
    and_from _ _ (ap is_utf8 (name_back start name text word) ∙ is_utf8-from_IsUtf8 name word.characters) (ap is_utf8_or_none (text_back start name text other) ∙ characters text other)

-- the value is read from its text
pub value_back : (start place : ℕ) (column : Column) (v : Val) → IsHeld v → value_fault place column v ≡ None → value_for start column (text_of v) ≡ Ok v
value_back start place column value.Null held e = grind (arith, e)
value_back start place column (value.Int n) held e = grind (arith, e, int_back n held)
value_back start place column (value.Text text) held e = grind (arith, e)
