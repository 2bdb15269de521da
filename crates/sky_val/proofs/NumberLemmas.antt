-- The digits of a number, one by one.
use Rattle.std.proofs.Common.{◌≡◌, ℕ, ◌+◌, ◌-◌, ◌*◌, ◌<◌, ◌≤◌, true, List, [], ◌∷◌, length, drop, get_or, arith}
use Rattle.std.proofs.lemmas.List.{drop_more}
use Rattle.std.specs.Char.{is_ascii_digit}
use Rattle.std.specs.List.{list_all}
use Rattle.sky_val.specs.Numbers.{number_from}

-- further digits make no number less
pub number_from-le : (n : ℕ) (bs : List ℕ) → n ≤ number_from n bs
number_from-le n [] = omega arith
number_from-le n (b ∷ bs) = omega (arith, number_from-le (n * 10 + (b - 48)) bs)

-- the digits before this place write n, and only digits follow
pub record Counts (word : List ℕ) (n i : ℕ) : Type 0 where
  pub so_far : number_from 0 word ≡ number_from n (drop i word)
  pub digits : list_all is_ascii_digit (drop i word) ≡ true

pub counts_more : (word : List ℕ) (n i : ℕ) → i < length word → Counts word n i → Counts word (n * 10 + (get_or word i 0 - 48)) (i + 1)
counts_more word n i inside so = record {
  so_far = grind (arith, so.so_far, drop_more word i 0 inside);
  digits = grind (arith, so.digits, drop_more word i 0 inside);
}

-- the number with the digit of a place is at most the whole
pub counts-le : (word : List ℕ) (n i : ℕ) → i < length word → Counts word n i → n * 10 + (get_or word i 0 - 48) ≤ number_from 0 word
counts-le word n i inside so =
    let more = counts_more word n i inside so in
    omega (arith, more.so_far, number_from-le (n * 10 + (get_or word i 0 - 48)) (drop (i + 1) word))
