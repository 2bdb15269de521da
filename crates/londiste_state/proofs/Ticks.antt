-- A tick is read as the number that is written so in decimal, if there is one.
use Rattle.std.proofs.Common.{◌≡◌, inl, inr, ℕ, zero, suc, ◌-◌, ◌^◌, ◌<◌, true, List, [], ◌∷◌, ◌++◌, length, get_or, Option, Some, None, MatchOption, refl, sym, ◌∙◌, ap, arith}
use Rattle.std.specs.Prelude.{nat_le}
use Rattle.std.specs.Char.{is_ascii_digit}
use Rattle.std.specs.Fmt.{decimal}
use Rattle.std.specs.List.{list_all}
use Rattle.std.proofs.lemmas.Bool.{cases_Bool}
use Rattle.std.proofs.lemmas.Bool.Decides.{nat_tests}
use Rattle.std.proofs.lemmas.List.{append_cancel_left}
use Rattle.std.proofs.lemmas.Fmt.{decimal_nonempty, decimal_digit, digits_decimal, digits_value-decimal, first_decimal, decimal-digits_value}
use Rattle.std.proofs.lemmas.Str.Parse.{IsNumeralModel, IsDigitsTest, numerals_by_fold}
use Rattle.sky_val.specs.Numbers.{is_number, number_from, number_of}

tells : IsDigitsTest (λ ds. list_all is_ascii_digit ds ≡ true)
tells = record {
  empty = refl;
  parts = λ c cs e. ((grind (arith, nat_tests, e), grind (arith, nat_tests, e)), grind (arith, e));
  more = λ c cs k e. grind (arith, nat_tests, k.0, k.1, e);
}

own : IsNumeralModel (λ ds. list_all is_ascii_digit ds ≡ true) (number_from 0)
own = numerals_by_fold (λ ds. list_all is_ascii_digit ds ≡ true) tells number_from (record { empty = λ n. refl; more = λ n c cs k. refl })

-- what is said of a number's digits, part by part
record Number (ds : List ℕ) : Type 0 where
  nonempty : 0 < length ds
  digits : list_all is_ascii_digit ds ≡ true
  alone : get_or ds 0 0 ≡ 48 → length ds ≡ 1

number_parts : (ds : List ℕ) → is_number ds ≡ true → Number ds
number_parts [] h = absurd (cc)
number_parts (d ∷ ds) h = record {
  nonempty = omega arith;
  digits = grind (arith, nat_tests, h);
  alone = λ zero. grind (arith, nat_tests, h, zero);
}

number_from_parts : (ds : List ℕ) → Number ds → is_number ds ≡ true
number_from_parts [] parts = absurd (omega (arith, parts.nonempty))
number_from_parts (d ∷ ds) parts = grind (arith, nat_tests, parts.digits, parts.alone)

parts_of : (n : ℕ) → n < 2 ^ 64 → Number (decimal n)
parts_of n small = record {
  nonempty = decimal_nonempty n small;
  digits = digits_decimal own n small;
  alone = alone n small;
}
  where
    alone : (n : ℕ) → n < 2 ^ 64 → get_or (decimal n) 0 0 ≡ 48 → length (decimal n) ≡ 1
    alone zero small is = ap length (decimal_digit 0 (omega arith))
    alone (suc n) small is = absurd (omega (arith, first_decimal (suc n) (omega arith) small, is))

-- a number that is written in decimal is read as that number
pub number_back : (n : ℕ) → n < 2 ^ 64 → number_of (2 ^ 64 - 1) (decimal n) ≡ Some n
number_back n small =
    let value : number_from 0 (decimal n) ≡ n = digits_value-decimal own n small in
    let number = number_from_parts (decimal n) (parts_of n small) in
    grind (arith, nat_tests, value, number)

-- and what is read is written so
number_written : (ds : List ℕ) (n : ℕ) → number_of (2 ^ 64 - 1) ds ≡ Some n → decimal n ≡ ds
number_written ds n h = elim (cases_Bool (is_number ds)) [
  | inl is ↦ elim (cases_Bool (nat_le (number_from 0 ds) (2 ^ 64 - 1))) [
    | inl le ↦
        let parts = number_parts ds is in
        let value : n ≡ number_from 0 ds = grind (arith, nat_tests, h, is, le) in
        ap decimal value ∙ decimal-digits_value own ds parts.digits parts.nonempty parts.alone (grind (arith, nat_tests, le))
    | inr over ↦ absurd (grind (arith, nat_tests, h, is, over))
  ]
  | inr isnt ↦ absurd (grind (arith, nat_tests, h, isnt))
]

-- no number isn't a number
pub none-isnt-some : (n : ℕ) → ◌≡◌ {A = Option ℕ} None (Some n) → ⊥
none-isnt-some n h = absurd (cc)

-- the tick after a word
pub tick_read : (word text rest : List ℕ) (o : Option ℕ) → text ≡ word ++ rest → o ≡ number_of (2 ^ 64 - 1) rest
    → MatchOption o ((tick : ℕ) → tick < 2 ^ 64 → ¬ (word ++ decimal tick ≡ text)) (λ tick. word ++ decimal tick ≡ text)
tick_read word text rest None is e = λ tick small written.
    let same = append_cancel_left word (decimal tick) rest (written ∙ is) in
    none-isnt-some tick (e ∙ ap (number_of (2 ^ 64 - 1)) (sym same) ∙ number_back tick small)
tick_read word text rest (Some tick) is e = ap (λ digits. word ++ digits) (number_written rest tick (sym e)) ∙ sym is
