-- A side without `+` and `%` is its own text.
use Rattle.std.proofs.Common.{◌≡◌, ◌≢◌, ℕ, Bool, true, false, IsUtf8, List, [], ◌∷◌, All, sym, ap, ◌∙◌, arith}
use Rattle.std.specs.Bool.{OnTrue}
use Rattle.std.specs.Str.{is_utf8}
use Rattle.std.proofs.lemmas.Bool.Decides.{nat_tests}
use Rattle.std.proofs.lemmas.List.Elements.{All-nil, All-cons}
use Rattle.std.proofs.lemmas.Str.{is_utf8-from_IsUtf8}
use Rattle.form_urlencoded.specs.Form.{decode, IsPlain}
use Rattle.form_urlencoded.proofs.FormLemmas.{decode_plain}
use Rattle.sky_urlenc.specs.Plain.{is_plain}

plain_all : (bytes : List ℕ) → is_plain bytes ≡ true → All IsPlain bytes
plain_all [] plain = All-nil IsPlain
plain_all (b ∷ bytes) plain =
    let plus : b ≢ 43 = λ is. grind (arith, nat_tests, plain, is) in
    let percent : b ≢ 37 = λ is. grind (arith, nat_tests, plain, is) in
    let rest : is_plain bytes ≡ true = grind (arith, nat_tests, plain) in
    All-cons IsPlain b bytes (plus, percent) (plain_all bytes rest)

pub plain_stands : (bytes : List ℕ) → is_plain bytes ≡ true → decode bytes ≡ bytes
plain_stands bytes plain = decode_plain bytes (plain_all bytes plain)

-- a side that stands for itself, and is this name
pub plain_name : (side name : List ℕ) (plain : Bool) → plain ≡ is_plain side → side ≡ name → OnTrue plain (decode side ≡ name)
plain_name side name true is same = plain_stands side (sym is) ∙ same
plain_name side name false is same = tt

pub plain_characters : (side name : List ℕ) (plain : Bool) → plain ≡ is_plain side → side ≡ name → IsUtf8 name → OnTrue plain (is_utf8 (decode side) ≡ true)
plain_characters side name true is same characters = ap is_utf8 (plain_stands side (sym is) ∙ same) ∙ is_utf8-from_IsUtf8 name characters
plain_characters side name false is same characters = tt
