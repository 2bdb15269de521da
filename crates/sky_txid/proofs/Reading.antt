-- How the parts of a text are found and read.
use Rattle.std.proofs.Common.{◌≡◌, ℕ, zero, suc, ◌+◌, ◌-◌, ◌*◌, ◌^◌, ◌<◌, ◌≤◌, Bool, true, false, List, [], ◌∷◌, length, get_or, take, drop, Some, None, refl, ◌∙◌, ap, arith, add-one, inl, inr, length-drop}
use Rattle.std.specs.Prelude.{◌==◌, ◌&&◌, nat_lt}
use Rattle.std.specs.List.{slice_split, onto_first}
use Rattle.std.specs.Char.{is_ascii_digit, digit_value}
use Rattle.std.specs.Str.{all_ascii_digits}
use Rattle.std.specs.Str.Parse.{digits_value}
use Rattle.std.proofs.lemmas.Str.Parse.{IsNumeralModel, numerals_by_value, tells_all_ascii_digits, digits_value-take-le}
use Rattle.std.proofs.lemmas.Int.Digits.{digits_value_more}
use Rattle.std.proofs.lemmas.Bool.{cases_Bool, eq-eqb}
use Rattle.std.proofs.lemmas.Bool.Decides.{nat_tests}
use Rattle.std.proofs.lemmas.List.{take_all}
use Rattle.std.proofs.lemmas.List.Splits.{slice_split-cons_yes, slice_split-cons_no}
use Rattle.sky_txid.specs.SnapshotText.{colon, comma, parse_number, parse_numbers, parse_list, parse_parts, parse_snapshot, checked}

-- the parts of a text before and after the first such byte
pub split_found : (byte : ℕ) (text : List ℕ) (place : ℕ) → place < length text → ((k : ℕ) → k < place → (get_or text k 0 == byte) ≡ false) → get_or text place 0 ≡ byte
    → slice_split (λ b. b == byte) text ≡ take place text ∷ slice_split (λ b. b == byte) (drop (suc place) text)
split_found byte [] place lt others here = absurd (omega arith)
split_found byte (b ∷ text) zero lt others here = slice_split-cons_yes (λ b. b == byte) b text (eq-eqb b byte here)
split_found byte (b ∷ text) (suc place) lt others here =
    slice_split-cons_no (λ b. b == byte) b text (others 0 (omega arith))
    ∙ ap (onto_first b) (split_found byte text place (omega arith) (λ k below. others (suc k) (omega arith)) here)

pub split_none : (byte : ℕ) (text : List ℕ) → ((k : ℕ) → k < length text → (get_or text k 0 == byte) ≡ false) → slice_split (λ b. b == byte) text ≡ text ∷ []
split_none byte [] others = refl
split_none byte (b ∷ text) others =
    slice_split-cons_no (λ b. b == byte) b text (others 0 (omega arith))
    ∙ ap (onto_first b) (split_none byte text (λ k below. others (suc k) (omega arith)))

-- the range after a place
pub range_behind : (text : List ℕ) (place : ℕ) → take (length text - (place + 1)) (drop (place + 1) text) ≡ drop (suc place) text
range_behind text place = rw add-one (take_all (length text - suc place) (drop (suc place) text) (omega (arith, length-drop (suc place) text)))

-- there is one part or more
pub split_parts : (p : ℕ → Bool) (text : List ℕ) → (first : List ℕ) × (rest : List (List ℕ)) × (slice_split p text ≡ first ∷ rest)
split_parts p [] = ([], [], refl)
split_parts p (b ∷ text) = elim (cases_Bool (p b)) [
  | inl passes ↦ ([], slice_split p text, slice_split-cons_yes p b text passes)
  | inr fails ↦ let tail = split_parts p text in (b ∷ tail.0, tail.1, slice_split-cons_no p b text fails ∙ ap (onto_first b) tail.2)
]

-- with four parts or more a text is no snapshot
pub four_parts : (p : ℕ → Bool) (a b c text : List ℕ) → parse_parts (a ∷ b ∷ c ∷ slice_split p text) ≡ None
four_parts p a b c text = let parts = split_parts p text in rw parts.2 refl

-- std's words for digits and their value
pub own : IsNumeralModel (λ ds. all_ascii_digits ds ≡ true) (digits_value 10)
own = numerals_by_value (λ ds. all_ascii_digits ds ≡ true) tells_all_ascii_digits

-- a number is read if each byte is a digit and the value fits
pub number_read : (ds : List ℕ) → 0 < length ds → all_ascii_digits ds ≡ true → digits_value 10 ds < 2 ^ 64 → parse_number ds ≡ Some (digits_value 10 ds)
number_read ds nonempty digits fits = grind (arith, nat_tests)

-- otherwise it is refused
number_refused : (ds : List ℕ) → (all_ascii_digits ds && nat_lt (digits_value 10 ds) (2 ^ 64)) ≡ false → parse_number ds ≡ None
number_refused ds h = grind (arith, h)

not_all_digits : (ds : List ℕ) (k : ℕ) → k < length ds → is_ascii_digit (get_or ds k 0) ≡ false → all_ascii_digits ds ≡ false
not_all_digits [] k lt h = absurd (omega arith)
not_all_digits (d ∷ ds) zero lt h = grind (arith, h)
not_all_digits (d ∷ ds) (suc k) lt h = grind (arith, not_all_digits ds k, h)

pub number_no_digit : (ds : List ℕ) (k : ℕ) → k < length ds → is_ascii_digit (get_or ds k 0) ≡ false → parse_number ds ≡ None
number_no_digit ds k lt h = number_refused ds (grind (arith, not_all_digits ds k lt h))

pub number_large : (ds : List ℕ) (k : ℕ) → 2 ^ 64 ≤ digits_value 10 (take k ds) → parse_number ds ≡ None
number_large ds k large = number_refused ds (grind (arith, nat_tests, digits_value-take-le 10 ds k))

-- a digit's value
digit : (c : ℕ) → is_ascii_digit c ≡ true → digit_value c ≡ c - 48
digit c h = grind (arith, nat_tests, h)

-- one digit more
pub value_more : (ds : List ℕ) (k value : ℕ) → k < length ds → is_ascii_digit (get_or ds k 0) ≡ true → digits_value 10 (take k ds) ≡ value → digits_value 10 (take (k + 1) ds) ≡ value * 10 + (get_or ds k 0 - 48)
value_more ds k value lt h is = grind (arith, digits_value_more 10 ds k lt, digit (get_or ds k 0) h)

pub digits_more : (ds : List ℕ) (k : ℕ) → k < length ds → is_ascii_digit (get_or ds k 0) ≡ true → all_ascii_digits (take k ds) ≡ true → all_ascii_digits (take (k + 1) ds) ≡ true
digits_more ds k lt h front = rw add-one (more ds k lt h front)
  where
    more : (ds : List ℕ) (k : ℕ) → k < length ds → is_ascii_digit (get_or ds k 0) ≡ true → all_ascii_digits (take k ds) ≡ true → all_ascii_digits (take (suc k) ds) ≡ true
    more [] k lt h front = absurd (omega arith)
    more (d ∷ ds) zero lt h front = grind (arith, h)
    more (d ∷ ds) (suc k) lt h front = grind (arith, more ds k, h, front)

-- a value so far that is too large with the next digit, or even without
pub number_too_large : (ds : List ℕ) (k value : ℕ) → k < length ds → is_ascii_digit (get_or ds k 0) ≡ true → digits_value 10 (take k ds) ≡ value → 2 ^ 64 ≤ value * 10 + (get_or ds k 0 - 48) → parse_number ds ≡ None
number_too_large ds k value lt h is large = let more = value_more ds k value lt h is in number_large ds (k + 1) (omega arith)

-- a list's text that isn't empty
pub list_read : (text : List ℕ) → 0 < length text → parse_list text ≡ parse_numbers (slice_split (λ b. b == comma) text)
list_read [] h = absurd (omega arith)
list_read (b ∷ text) h = refl

-- a text of three parts that are read
pub snapshot_read : (text a b list : List ℕ) (xmin xmax : ℕ) (items : List ℕ) → slice_split (λ b. b == colon) text ≡ a ∷ b ∷ list ∷ [] → parse_number a ≡ Some xmin → parse_number b ≡ Some xmax → parse_list list ≡ Some items
    → parse_snapshot text ≡ checked xmin xmax items
snapshot_read text a b list xmin xmax items split least next ids = rw (split, least, next, ids) refl
