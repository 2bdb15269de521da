-- Worked intervals, by computation.
use Rattle.std.proofs.Common.{◌≡◌, Some, None, refl}
use lib.Chars.{codes}
use Rattle.sky_val.specs.Intervals.{interval_of}

seconds : interval_of (codes "3s") ≡ Some 3_000_000
seconds = refl

after_a_space : interval_of (codes "1 min") ≡ Some 60_000_000
after_a_space = refl

shortest : interval_of (codes "0us") ≡ Some 0
shortest = refl

longest : interval_of (codes "10000000000000us") ≡ Some 10_000_000_000_000
longest = refl

too_long : interval_of (codes "10000000000001us") ≡ None
too_long = refl

longest_in_days : interval_of (codes "115 days") ≡ Some 9_936_000_000_000
longest_in_days = refl

too_many_days : interval_of (codes "116 days") ≡ None
too_many_days = refl

after_two_spaces : interval_of (codes "3  s") ≡ None
after_two_spaces = refl

before_a_space : interval_of (codes "3s ") ≡ None
before_a_space = refl

no_number : interval_of (codes "s") ≡ None
no_number = refl

no_unit : interval_of (codes "3") ≡ None
no_unit = refl

no_unit_after_a_space : interval_of (codes "3 ") ≡ None
no_unit_after_a_space = refl

zero_in_front : interval_of (codes "03s") ≡ None
zero_in_front = refl

unknown_unit : interval_of (codes "1 parsec") ≡ None
unknown_unit = refl
