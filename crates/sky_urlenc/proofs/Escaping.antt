-- A text of which a form changes no byte.
use Rattle.std.proofs.Common.{◌≡◌, ℕ, ◌==◌, true, List, [], ◌∷◌, ◌++◌, ap, ◌∙◌, arith, if◌then◌else◌}
use Rattle.std.specs.List.{list_all}
use Rattle.std.proofs.lemmas.Bool.Decides.{nat_tests}
use Rattle.percent_encoding.specs.Percent.{percent_encode_byte}
use Rattle.form_urlencoded.specs.Form.{space, plus_sign, is_unchanged, serialize_byte, byte_serialize}
use Rattle.form_urlencoded.proofs.FormLemmas.{byte_serialize-nil, byte_serialize-cons}

pub unchanged_as : (bytes : List ℕ) → list_all is_unchanged bytes ≡ true → byte_serialize bytes ≡ bytes
unchanged_as [] unchanged = byte_serialize-nil
unchanged_as (b ∷ bytes) unchanged =
    let first : is_unchanged b ≡ true = grind (arith, nat_tests, unchanged) in
    let rest : list_all is_unchanged bytes ≡ true = grind (arith, nat_tests, unchanged) in
    byte_serialize-cons b bytes ∙ ap (λ front. front ++ byte_serialize bytes) (stands b first) ∙ ap (λ left. b ∷ left) (unchanged_as bytes rest)
  where
    stands : (c : ℕ) → is_unchanged c ≡ true → serialize_byte c ≡ c ∷ []
    stands c is = ap (λ x. if x then c ∷ [] else (if c == space then plus_sign ∷ [] else percent_encode_byte c)) is
