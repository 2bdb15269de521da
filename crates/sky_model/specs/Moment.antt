-- A moment in its printed form, as a calendar and a clock show it.
use Rattle.std.specs.Prelude.{ℕ, zero, suc, ◌+◌, ◌/◌, ◌%◌, ◌==◌, ◌&&◌, ◌||◌, not, nat_lt, if◌then◌else◌, Bool, List, [], ◌∷◌, ◌++◌, ℤ, pos, ◌≤ℤ◌, unsigned_abs}

-- every fourth year is a leap year, but of the centuries only every fourth
abbrev pub is_leap_year : ℕ → Bool
is_leap_year year = (year % 4 == 0) && (not (year % 100 == 0) || (year % 400 == 0))

-- the days of a month: thirty have September, April, June and November
abbrev pub month_length : ℕ → ℕ → ℕ
month_length year month =
    if month == 2 then (if is_leap_year year then 29 else 28)
    else (if (month == 4) || (month == 6) || (month == 9) || (month == 11) then 30 else 31)

-- a day of the calendar
pub record Day : Type 0 where
  pub year : ℕ
  pub month : ℕ
  pub day : ℕ

-- the day after
abbrev pub next_day : Day → Day
next_day d =
    if nat_lt d.day (month_length d.year d.month) then record { year = d.year; month = d.month; day = d.day + 1 }
    else (if nat_lt d.month 12 then record { year = d.year; month = d.month + 1; day = 1 }
    else record { year = d.year + 1; month = 1; day = 1 })

-- the day so many days after 1 January 2012
unfoldable pub day_after : ℕ → Day
day_after zero = record { year = 2012; month = 1; day = 1 }
day_after (suc days) = next_day (day_after days)

-- the last so many decimal digits of a number
unfoldable pub last_digits : ℕ → ℕ → List ℕ
last_digits zero n = []
last_digits (suc count) n = last_digits count (n / 10) ++ (48 + n % 10) ∷ []

-- `2012-01-01`
abbrev pub day_text : Day → List ℕ
day_text d = last_digits 4 d.year ++ 45 ∷ last_digits 2 d.month ++ 45 ∷ last_digits 2 d.day

-- `00:00:00.000000`, so many microseconds after midnight
abbrev pub clock_text : ℕ → List ℕ
clock_text micros =
    last_digits 2 (micros / 3_600_000_000) ++ 58 ∷ last_digits 2 (micros / 60_000_000 % 60) ++ 58 ∷ last_digits 2 (micros / 1_000_000 % 60)
    ++ 46 ∷ last_digits 6 (micros % 1_000_000)

-- `2012-01-01 00:00:00.000000`, so many microseconds after this
unfoldable pub moment : ℤ → List ℕ
moment now =
    let micros = unsigned_abs now in
    day_text (day_after (micros / 86_400_000_000)) ++ 32 ∷ clock_text (micros % 86_400_000_000)

-- the times that are printed, the last in the year 2075
abbrev pub HasMoment : ℤ → Type 0
HasMoment now = (pos 0 ≤ℤ now) × (now ≤ℤ pos 2_000_000_000_000_000)

-- the last moment of the clock
abbrev pub last_moment : ℤ
last_moment = pos 1_000_000_000_000_000

-- a moment that the clock may have
abbrev pub IsTime : ℤ → Type 0
IsTime now = (pos 0 ≤ℤ now) × (now ≤ℤ last_moment)
