-- A number that is written in decimal is read as that number.
use Rattle.std.proofs.Common.{◌≡◌, ◌⊎◌, inl, inr, ℕ, zero, suc, ◌-◌, ◌^◌, ◌<◌, ◌≤◌, ℤ, pos, negsuc, true, List, [], ◌∷◌, ◌++◌, length, get_or, Option, Some, None, refl, sym, ◌∙◌, ap, arith, w64}
use Rattle.std.specs.Prelude.{All, FitsSigned, option_map}
use Rattle.std.specs.Option.{option_and_then}
use Rattle.std.specs.Char.{is_ascii_digit}
use Rattle.std.specs.Fmt.{decimal, signed_decimal}
use Rattle.std.specs.List.{list_all}
use Rattle.std.specs.Str.{is_utf8}
use Rattle.std.proofs.lemmas.Bool.{cond-true, cond-false, cases_eq, eq-eqb, ne_eqb}
use Rattle.std.proofs.lemmas.Fmt.{decimal_nonempty, digits_decimal, digits_value-decimal, first_decimal, decimal_digit}
use Rattle.std.proofs.lemmas.List.Elements.{All-nil, All-cons, All-head, All-tail, All-weaker}
use Rattle.std.proofs.lemmas.Str.{is_utf8-from_IsUtf8, IsUtf8-from_ascii}
use Rattle.std.proofs.lemmas.Str.Parse.{IsNumeralModel, IsDigitsTest, numerals_by_fold}
use Rattle.form_urlencoded.specs.Form.{IsUnchanged, byte_serialize, decode}
use Rattle.form_urlencoded.proofs.FormLemmas.{byte_serialize-nil, byte_serialize-cons, decode-byte_serialize, IsAscii_from_unchanged}
use Rattle.std.proofs.lemmas.Bool.Decides.{nat_tests}
use Rattle.sky_val.specs.Numbers.{is_number, number_from, number_of, below_zero, int_of}

-- ---- the definition's digits are std's

tells : IsDigitsTest (λ ds. list_all is_ascii_digit ds ≡ true)
tells = record {
  empty = refl;
  parts = λ c cs e. ((grind (arith, nat_tests, e), grind (arith, nat_tests, e)), grind (arith, e));
  more = λ c cs k e. grind (arith, nat_tests, k.0, k.1, e);
}

own : IsNumeralModel (λ ds. list_all is_ascii_digit ds ≡ true) (number_from 0)
own = numerals_by_fold (λ ds. list_all is_ascii_digit ds ≡ true) tells number_from (record { empty = λ n. refl; more = λ n c cs k. refl })

-- digits are a number if a zero is their first only when alone
number_from_digits : (ds : List ℕ) → 0 < length ds → list_all is_ascii_digit ds ≡ true → (48 < get_or ds 0 0) ⊎ (length ds ≡ 1) → is_number ds ≡ true
number_from_digits [] some digits first = absurd (omega arith)
number_from_digits (b ∷ bs) some digits (inl more) = grind (arith, nat_tests, digits, more)
number_from_digits (b ∷ bs) some digits (inr one) = grind (arith, nat_tests, digits, one)

first_or_one : (n : ℕ) → n < 2 ^ 64 → (48 < get_or (decimal n) 0 0) ⊎ (length (decimal n) ≡ 1)
first_or_one zero small = inr (ap length (decimal_digit 0 (omega arith)))
first_or_one (suc n) small = inl (first_decimal (suc n) (omega arith) small)

number_back : (most n : ℕ) → n ≤ most → n < 2 ^ 64 → number_of most (decimal n) ≡ Some n
number_back most n le small =
    let value : number_from 0 (decimal n) ≡ n = digits_value-decimal own n small in
    let number = number_from_digits (decimal n) (decimal_nonempty n small) (digits_decimal own n small) (first_or_one n small) in
    grind (arith, nat_tests, value, number)

-- a text that begins with a digit has no sign
int_from_digits : (ds : List ℕ) → 0 < length ds → list_all is_ascii_digit ds ≡ true → int_of ds ≡ option_map (λ n. pos n) (number_of (2 ^ 63 - 1) ds)
int_from_digits [] some digits = absurd (omega arith)
int_from_digits (b ∷ bs) some digits =
    grind (arith, nat_tests, (tells.parts b bs digits).0)

pub int_back : (z : ℤ) → FitsSigned w64 z → int_of (signed_decimal z) ≡ Some z
int_back (pos n) fits =
    let small : n < 2 ^ 63 = omega (arith, fits.sfits) in
    int_from_digits (decimal n) (decimal_nonempty n (omega arith)) (digits_decimal own n (omega arith)) ∙ ap (option_map (λ n. pos n)) (number_back (2 ^ 63 - 1) n (omega arith) (omega arith))
int_back (negsuc n) fits =
    let small : n < 2 ^ 63 = omega (arith, fits.sfits) in
    ap (option_and_then below_zero) (number_back (2 ^ 63) (suc n) (omega arith) (omega arith))

-- ---- no byte of it is escaped

unchanged_digit : (b : ℕ) → (48 ≤ b) × (b ≤ 57) → IsUnchanged b
unchanged_digit b digit = grind (arith, nat_tests)

unchanged_digits : (ds : List ℕ) → list_all is_ascii_digit ds ≡ true → All IsUnchanged ds
unchanged_digits [] digits = All-nil IsUnchanged
unchanged_digits (b ∷ bs) digits = let parts = tells.parts b bs digits in All-cons IsUnchanged b bs (unchanged_digit b parts.0) (unchanged_digits bs parts.1)

unchanged_number : (z : ℤ) → FitsSigned w64 z → All IsUnchanged (signed_decimal z)
unchanged_number (pos n) fits = let small : n < 2 ^ 63 = omega (arith, fits.sfits) in unchanged_digits (decimal n) (digits_decimal own n (omega arith))
unchanged_number (negsuc n) fits =
    let small : n < 2 ^ 63 = omega (arith, fits.sfits) in
    All-cons IsUnchanged 45 (decimal (suc n)) refl (unchanged_digits (decimal (suc n)) (digits_decimal own (suc n) (omega arith)))

unchanged_whole : (bs : List ℕ) → All IsUnchanged bs → byte_serialize bs ≡ bs
unchanged_whole [] kept = byte_serialize-nil
unchanged_whole (b ∷ bs) kept =
    byte_serialize-cons b bs ∙ ap (λ x. x ++ byte_serialize bs) (cond-true _ _ _ (All-head IsUnchanged b bs kept)) ∙ ap (λ l. b ∷ l) (unchanged_whole bs (All-tail IsUnchanged b bs kept))

pub number_unescaped : (z : ℤ) → FitsSigned w64 z → byte_serialize (signed_decimal z) ≡ signed_decimal z
number_unescaped z fits = unchanged_whole (signed_decimal z) (unchanged_number z fits)

-- ---- a number that is read has no byte that stands for another

unchanged_digits_of : (most : ℕ) (bs : List ℕ) (n : ℕ) → number_of most bs ≡ Some n → All IsUnchanged bs
unchanged_digits_of most [] n e = absurd (cc)
unchanged_digits_of most (b ∷ bs) n e = let digits : list_all is_ascii_digit (b ∷ bs) ≡ true = grind (arith, nat_tests, e) in unchanged_digits (b ∷ bs) digits

unchanged_below : (bs : List ℕ) (z : ℤ) → option_and_then below_zero (number_of (2 ^ 63) bs) ≡ Some z → All IsUnchanged bs
unchanged_below bs z e = by (number_of (2 ^ 63) bs) refl e
  where
    by : (o : Option ℕ) → number_of (2 ^ 63) bs ≡ o → option_and_then below_zero o ≡ Some z → All IsUnchanged bs
    by None same e = absurd (cc)
    by (Some n) same e = unchanged_digits_of (2 ^ 63) bs n same

unchanged_from_zero : (bs : List ℕ) (z : ℤ) → option_map (λ n. pos n) (number_of (2 ^ 63 - 1) bs) ≡ Some z → All IsUnchanged bs
unchanged_from_zero bs z e = by (number_of (2 ^ 63 - 1) bs) refl e
  where
    by : (o : Option ℕ) → number_of (2 ^ 63 - 1) bs ≡ o → option_map (λ n. pos n) o ≡ Some z → All IsUnchanged bs
    by None same e = absurd (cc)
    by (Some n) same e = unchanged_digits_of (2 ^ 63 - 1) bs n same

unchanged_int : (text : List ℕ) (z : ℤ) → int_of text ≡ Some z → All IsUnchanged text
unchanged_int [] z e = absurd (cc)
unchanged_int (b ∷ bs) z e = elim (cases_eq b 45) [
  | inl minus ↦
      let below : option_and_then below_zero (number_of (2 ^ 63) bs) ≡ Some z = sym (cond-true _ _ _ (eq-eqb b 45 minus)) ∙ e in
      All-cons IsUnchanged b bs (rw minus refl) (unchanged_below bs z below)
  | inr other ↦ unchanged_from_zero (b ∷ bs) z (sym (cond-false _ _ _ (ne_eqb b 45 other)) ∙ e)
]

-- it stands for itself
pub int_stands : (text : List ℕ) (z : ℤ) → int_of text ≡ Some z → decode text ≡ text
int_stands text z e =
    let kept = unchanged_int text z e in
    let small = All-weaker IsUnchanged (λ b. b < 256) (λ b unchanged. grind (arith, nat_tests, unchanged)) text kept in
    ap decode (sym (unchanged_whole text kept)) ∙ decode-byte_serialize text small

pub int_is_utf8 : (text : List ℕ) (z : ℤ) → int_of text ≡ Some z → is_utf8 (decode text) ≡ true
int_is_utf8 text z e = ap is_utf8 (int_stands text z e) ∙ is_utf8-from_IsUtf8 text (IsUtf8-from_ascii text (IsAscii_from_unchanged text (unchanged_int text z e)))
