-- The days after 1 January 2012 are those of jiff's calendar, one after another.
use Rattle.std.proofs.Common.{◌≡◌, ℕ, zero, suc, ◌+◌, ◌<◌, ◌≤◌, Bool, true, false, nat_lt, if◌then◌else◌, pos, refl, ap, ap₂, ◌∙◌, inl, inr, rules, arith}
use Rattle.std.specs.Int.{IsInRange}
use Rattle.std.proofs.lemmas.Bool.{cases_lt}
use Rattle.std.proofs.lemmas.Bool.Decides.{nat_tests}
use Rattle.jiff_core.specs.Calendar.{days_in_month, day_count}
use Rattle.jiff_core.proofs.CalendarLemmas.{days_in_month_bounds, day_count-day, day_count-next_month, day_count-next_year, day_count-last_of_year, day_count-later_year, day_count-day_of_year, day_count-end}
use Rattle.jiff_core.proofs.MarchLemmas.{day_count-early}
use Rattle.jiff_core.proofs.SignedLemmas.{signed_arith}
use Rattle.sky_model.specs.Moment.{month_length, Day, next_day, day_after}

-- the calendar has this day, whatever its year is
pub record IsDay (d : Day) : Type 0 where
  pub month_in : IsInRange 1 12 d.month
  pub day_in : IsInRange 1 (month_length d.year d.month) d.day

-- the days from the calendar's start to this one
abbrev pub count_to : Day → ℕ
count_to d = day_count (pos d.year) d.month d.day

-- the day after is a day of the calendar, and the next one
pub next_day-count : (d : Day) → IsDay d → IsDay (next_day d) × (count_to (next_day d) ≡ count_to d + 1)
next_day-count d is = by (nat_lt d.day (month_length d.year d.month)) (nat_lt d.month 12) refl refl
  where
    next : Bool → Bool → Day
    next within early =
        if within then record { year = d.year; month = d.month; day = d.day + 1 }
        else (if early then record { year = d.year; month = d.month + 1; day = 1 }
        else record { year = d.year + 1; month = 1; day = 1 })

    by : (within early : Bool) → nat_lt d.day (month_length d.year d.month) ≡ within → nat_lt d.month 12 ≡ early
        → IsDay (next within early) × (count_to (next within early) ≡ count_to d + 1)
    by true early w e =
        let shorter : d.day < month_length d.year d.month = grind (arith, nat_tests) in (
          record { month_in = is.month_in; day_in = (omega arith, omega arith) },
          omega (arith, day_count-day (pos d.year) d.month d.day (d.day + 1) is.day_in.0 (omega arith)),
        )
    by false true w e =
        let last : d.day ≡ month_length d.year d.month = grind (arith, nat_tests, is.day_in.1) in
        let earlier : d.month < 12 = grind (arith, nat_tests) in
        let long = days_in_month_bounds (pos d.year) (d.month + 1) in (
          record { month_in = (omega arith, omega arith); day_in = (omega arith, omega (arith, long.1)) },
          omega (arith, day_count-next_month (pos d.year) d.month is.month_in.0, day_count-day (pos d.year) d.month d.day 1 is.day_in.0 (omega arith)),
        )
    by false false w e =
        let december : d.month ≡ 12 = grind (arith, nat_tests, is.month_in.1) in
        let last : d.day ≡ month_length d.year d.month = grind (arith, nat_tests, is.day_in.1) in
        let thirty_first : d.day ≡ 31 = last ∙ ap (days_in_month (pos d.year)) december in
        let here : count_to d ≡ day_count (pos d.year) 12 31 = ap₂ (day_count (pos d.year)) december thirty_first in (
          record { month_in = (omega arith, omega arith); day_in = (omega arith, omega arith) },
          omega (arith, here, day_count-last_of_year (pos d.year), day_count-next_year (pos d.year) (pos (d.year + 1)) (search rules) refl),
        )

-- so the day that many days after 1 January 2012 is that day of the calendar
pub day_after-count : (days : ℕ) → IsDay (day_after days) × (count_to (day_after days) ≡ 4_387_293 + days)
unfolding day_after
day_after-count zero = (record { month_in = (omega arith, omega arith); day_in = (omega arith, omega arith) }, day_count-early (pos 2012) 12_011 1 1 refl (omega arith) (omega arith) (omega arith))
day_after-count (suc days) =
    let before = day_after-count days in
    let after = next_day-count (day_after days) before.0 in
    (after.0, omega (arith, after.1, before.1))

-- a day before the year 10000 has a year of four digits
pub year_small : (d : Day) → IsDay d → count_to d < 7_304_850 → d.year ≤ 9999
year_small d is small =
    elim (cases_lt 9999 d.year) [
      | inl far ↦ absurd (omega (
        arith,
        signed_arith,
        day_count-later_year (pos 9999) (pos d.year) (search rules) (omega (arith, signed_arith)),
        day_count-next_year (pos 9999) (pos 10000) (search rules) refl,
        day_count-end,
        day_count-day_of_year (pos d.year) d.month d.day is.day_in.0,
      ))
      | inr near ↦ near
    ]
