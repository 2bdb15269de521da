-- Numbers as they are written.
use Rattle.std.specs.Prelude.{ℕ, zero, suc, ◌+◌, ◌-◌, ◌*◌, ◌^◌, ◌==◌, nat_le, ℤ, pos, negsuc, Bool, false, not, ◌&&◌, ◌||◌, if◌then◌else◌, List, [], ◌∷◌, length, Option, Some, None, option_map}
use Rattle.std.specs.Char.{is_ascii_digit}
use Rattle.std.specs.List.{list_all}
use Rattle.std.specs.Option.{option_and_then}

-- whether these are digits, the first of them a zero only if it is alone
abbrev pub is_number : List ℕ → Bool
is_number [] = false
is_number (b ∷ bs) = list_all is_ascii_digit (b ∷ bs) && (length bs == 0 || not (b == 48))

-- the number that digits write after those that write n
abbrev pub number_from : ℕ → List ℕ → ℕ
number_from n [] = n
number_from n (b ∷ bs) = number_from (n * 10 + (b - 48)) bs

-- the number that digits write, if they write one and it is at most so large
abbrev pub number_of : ℕ → List ℕ → Option ℕ
number_of most w = if is_number w && nat_le (number_from 0 w) most then Some (number_from 0 w) else None

-- the number at this distance below zero; none for 0
abbrev pub below_zero : ℕ → Option ℤ
below_zero zero = None
below_zero (suc n) = Some (negsuc n)

-- the number that bytes write, with `-` before one below zero, if it fits 64 bits with its sign
abbrev pub int_of : List ℕ → Option ℤ
int_of [] = None
int_of (b ∷ bs) =
    if b == 45 then option_and_then below_zero (number_of (2 ^ 63) bs)
    else option_map (λ n. pos n) (number_of (2 ^ 63 - 1) (b ∷ bs))
