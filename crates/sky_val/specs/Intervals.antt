-- Intervals as they are written: a number and a unit of time, with a space between or none.
use Rattle.std.specs.Prelude.{ℕ, ◌*◌, ◌==◌, nat_le, not, if◌then◌else◌, List, [], ◌∷◌, take, drop, Option, Some, None, option_map, find, position, bytes_eq, codes}
use Rattle.std.specs.Char.{is_ascii_digit}
use Rattle.sky_val.specs.Numbers.{number_of}

-- the longest interval, in microseconds
abbrev pub longest_interval : ℕ
longest_interval = 10_000_000_000_000

-- the units, each with its microseconds
abbrev pub units : List (List ℕ × ℕ)
units =
    (codes "us", 1) ∷ (codes "microsecond", 1) ∷ (codes "microseconds", 1)
    ∷ (codes "ms", 1_000) ∷ (codes "millisecond", 1_000) ∷ (codes "milliseconds", 1_000)
    ∷ (codes "s", 1_000_000) ∷ (codes "second", 1_000_000) ∷ (codes "seconds", 1_000_000)
    ∷ (codes "min", 60_000_000) ∷ (codes "minute", 60_000_000) ∷ (codes "minutes", 60_000_000)
    ∷ (codes "h", 3_600_000_000) ∷ (codes "hour", 3_600_000_000) ∷ (codes "hours", 3_600_000_000)
    ∷ (codes "d", 86_400_000_000) ∷ (codes "day", 86_400_000_000) ∷ (codes "days", 86_400_000_000)
    ∷ []

-- the microseconds of the unit of this name
abbrev pub unit_of : List ℕ → Option ℕ
unit_of name = option_map (λ unit. unit.1) (find (λ unit. bytes_eq name unit.0) units)

-- the rest after the number, without one space before it
abbrev pub after_space : List ℕ → List ℕ
after_space [] = []
after_space (b ∷ bs) = if b == 32 then bs else b ∷ bs

-- so many of a unit, in microseconds, if that is at most the longest interval
abbrev pub interval_with : Option ℕ → Option ℕ → Option ℕ
interval_with (Some count) (Some unit) = if nat_le (count * unit) longest_interval then Some (count * unit) else None
interval_with _ _ = None

-- the interval that a text writes whose number ends at this place
abbrev pub interval_at : Option ℕ → List ℕ → Option ℕ
interval_at None w = None
interval_at (Some end) w = interval_with (number_of longest_interval (take end w)) (unit_of (after_space (drop end w)))

-- the interval that a text writes, in microseconds
abbrev pub interval_of : List ℕ → Option ℕ
interval_of w = interval_at (position (λ b. not (is_ascii_digit b)) w) w
