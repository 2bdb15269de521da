-- Worked rows, by computation.
use Rattle.std.proofs.Common.{◌≡◌, ℕ, pos, negsuc, true, false, List, [], ◌∷◌, Ok, Err, refl}
use Rattle.std.specs.Fmt.{digits}
use Rattle.std.specs.Str.{is_utf8, chars}
use lib.Utf8.{encode}
use Rattle.percent_encoding.specs.Percent.{percent_encode_byte, percent_decode}
use Rattle.form_urlencoded.specs.Form.{byte_serialize}
use lib.Chars.{codes}
use Rattle.sky_val.specs.declared.val.Val.{Val}
use Rattle.sky_val.specs.declared.val.Val.TheVariants.{Null, Int, Text}
use Rattle.sky_val.specs.declared.column.Column.{Column}
use Rattle.sky_val.specs.declared.column.ColKind.TheVariants as kind
use Rattle.sky_val.specs.declared.op.Op.TheVariants.{Update, Delete}
use Rattle.sky_urlenc.specs.declared.fault.DecodeFault.TheVariants.{BadText, UnknownColumn, TwiceColumn, NullKey, BadInt, MissingColumn}
use Rattle.sky_urlenc.specs.RowText.{row_text}
use Rattle.sky_urlenc.specs.ReadRow.{read_row}
use Rattle.sky_urlenc.specs.EventType.{event_type}

text_column : List ℕ → Column
text_column name = record { name = name; kind = kind.Text; key = false }

id : Column
id = record { name = codes "id"; kind = kind.Int; key = true }

columns : List Column
columns = id ∷ text_column (codes "n") ∷ text_column (codes "e") ∷ text_column (codes "s") ∷ text_column (codes "p") ∷ text_column (codes "u") ∷ []

row : List Val
row = Int (pos 1) ∷ Null ∷ Text [] ∷ Text (codes "a b") ∷ Text (codes "&=%") ∷ Text (195 ∷ 169 ∷ []) ∷ []

written : List ℕ
written = codes "id=1&n&e=&s=a+b&p=%26%3D%25&u=%C3%A9"

writes : row_text columns row ≡ written
unfolding text_column id columns row written digits byte_serialize percent_encode_byte
writes = refl

reads : read_row columns written ≡ Ok row
unfolding text_column id columns row written percent_decode is_utf8 chars encode
reads = refl

two : List Column
two = id ∷ text_column (codes "n") ∷ []

missing : read_row two (codes "id=1") ≡ Err (MissingColumn 1)
unfolding text_column id two percent_decode is_utf8 chars encode
missing = refl

leading_zero : read_row two (codes "id=01&n") ≡ Err (BadInt 0)
unfolding text_column id two percent_decode is_utf8 chars encode
leading_zero = refl

twice : read_row two (codes "id=1&n&n=") ≡ Err (TwiceColumn 7)
unfolding text_column id two percent_decode is_utf8 chars encode
twice = refl

null_key : read_row two (codes "id&n") ≡ Err (NullKey 0)
unfolding text_column id two percent_decode is_utf8 chars encode
null_key = refl

any_order : read_row two (codes "&&n=%3d%&id=-7&") ≡ Ok (Int (negsuc 6) ∷ Text (codes "=%") ∷ [])
unfolding text_column id two percent_decode is_utf8 chars encode
any_order = refl

not_utf8 : read_row two (codes "n=a&id=%FF") ≡ Err (BadText 4)
unfolding text_column id two percent_decode is_utf8 chars encode
not_utf8 = refl

unknown : read_row two (codes "&id=1&ID=1") ≡ Err (UnknownColumn 6)
unfolding text_column id two percent_decode is_utf8 chars encode
unknown = refl

first_missing : read_row two [] ≡ Err (MissingColumn 0)
unfolding text_column id two
first_missing = refl

updates : event_type Update two ≡ codes "U:id"
unfolding text_column id two
updates = refl

two_keys : event_type Delete (record { name = codes "b"; kind = kind.Text; key = true } ∷ text_column (codes "n") ∷ id ∷ []) ≡ codes "D:b,id"
unfolding text_column id
two_keys = refl
