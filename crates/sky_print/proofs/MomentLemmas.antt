-- The printed form of a moment is the text of jiff's date and time, and no other.
use Rattle.std.proofs.Common.{◌≡◌, ℕ, ◌+◌, ◌*◌, ◌/◌, ◌%◌, ◌<◌, ◌≤◌, false, List, [], ◌∷◌, Some, ℤ, pos, negsuc, ◌+ℤ◌, ◌*ℤ◌, sym, ap, ◌∙◌, arith}
use Rattle.jiff_core.specs.declared.civil.date.Date.{Date}
use Rattle.jiff_core.specs.declared.civil.time.Time.{Time}
use Rattle.jiff_core.specs.declared.civil.datetime.DateTime.{DateTime}
use Rattle.jiff_core.specs.DateTime.{civil_nanos}
use Rattle.jiff_core.proofs.CalendarLemmas.{days_from_civil-day_count, days_in_month_bounds}
use Rattle.jiff_core.proofs.DateLemmas.{epoch_day_injective}
use Rattle.jiff_core.proofs.DateTimeLemmas.{civil_nanos-parts, civil_nanos_injective, time_nanos_injective}
use Rattle.jiff_core.proofs.SignedLemmas.{signed_arith}
use Rattle.jiff_fmt.specs.Text.{pad2, pad4, places, datetime_text}
use Rattle.sky_model.specs.Moment.{day_after, last_digits, moment, HasMoment}
use Rattle.sky_print.specs.Calendar.{IsMoment}
use Rattle.sky_print.proofs.DayLemmas.{day_after-count, year_small}

-- two, four and six digits are those that jiff writes
last_digits-two : (n : ℕ) → n < 100 → last_digits 2 n ≡ pad2 n
unfolding last_digits
last_digits-two n small = let tens : n / 10 % 10 ≡ n / 10 = omega arith in ap (λ t. (48 + t) ∷ (48 + n % 10) ∷ []) tens

last_digits-four : (n : ℕ) → n < 10_000 → last_digits 4 n ≡ pad4 n
unfolding last_digits
last_digits-four n small =
    let thousands : n / 10 / 10 / 10 % 10 ≡ n / 100 / 10 = omega arith in
    let hundreds : n / 10 / 10 % 10 ≡ n / 100 % 10 = omega arith in
    let tens : n / 10 % 10 ≡ n % 100 / 10 = omega arith in
    let ones : n % 10 ≡ n % 100 % 10 = omega arith in
    cc

last_digits-six : (n : ℕ) → n < 1_000_000 → last_digits 6 n ≡ places 6 1_000_000_000 (n * 1000)
unfolding last_digits places
last_digits-six n small =
    let first : n / 10 / 10 / 10 / 10 / 10 % 10 ≡ n * 1000 / 100_000_000 = omega arith in
    let second : n / 10 / 10 / 10 / 10 % 10 ≡ n * 1000 % 100_000_000 / 10_000_000 = omega arith in
    let third : n / 10 / 10 / 10 % 10 ≡ n * 1000 % 100_000_000 % 10_000_000 / 1_000_000 = omega arith in
    let fourth : n / 10 / 10 % 10 ≡ n * 1000 % 100_000_000 % 10_000_000 % 1_000_000 / 100_000 = omega arith in
    let fifth : n / 10 % 10 ≡ n * 1000 % 100_000_000 % 10_000_000 % 1_000_000 % 100_000 / 10_000 = omega arith in
    let sixth : n % 10 ≡ n * 1000 % 100_000_000 % 10_000_000 % 1_000_000 % 100_000 % 10_000 / 1000 = omega arith in
    cc

-- the day's date
date_on : (days : ℕ) → days ≤ 24_000 → Date
date_on days near =
    let day = day_after days in
    let is = day_after-count days in
    let short = year_small day is.0 (omega (arith, is.1)) in
    record { year = pos day.year; month = day.month; day = day.day; year_in = (search signed_arith, omega (arith, signed_arith)); month_in = is.0.month_in; day_in = is.0.day_in }

-- the time of day
time_at : (micros : ℕ) → micros < 86_400_000_000 → Time
time_at micros within =
    record {
      hour = micros / 3_600_000_000;
      minute = micros / 60_000_000 % 60;
      second = micros / 1_000_000 % 60;
      subsec_nanosecond = micros % 1_000_000 * 1000;
      hour_in = omega arith;
      minute_in = omega arith;
      second_in = omega arith;
      subsec_in = omega arith;
    }

-- the date and time so many microseconds after 2012-01-01
date_time_at : (micros : ℕ) → micros ≤ 2_000_000_000_000_000 → DateTime
date_time_at micros near =
    record { date = date_on (micros / 86_400_000_000) (omega arith); time = time_at (micros % 86_400_000_000) (omega arith) }

-- are so many nanoseconds after 1970-01-01
civil_nanos-date_time_at : (micros : ℕ) (near : micros ≤ 2_000_000_000_000_000)
    → civil_nanos (date_time_at micros near) ≡ (pos micros +ℤ pos 1_325_376_000_000_000) *ℤ pos 1000
unfolding date_time_at date_on time_at
civil_nanos-date_time_at micros near =
    let day = day_after (micros / 86_400_000_000) in
    omega (arith, signed_arith, civil_nanos-parts (date_time_at micros near), days_from_civil-day_count (pos day.year) day.month day.day, (day_after-count (micros / 86_400_000_000)).1)

-- and have this text
datetime_text-date_time_at : (micros : ℕ) (near : micros ≤ 2_000_000_000_000_000) → datetime_text false 32 (Some 6) (date_time_at micros near) ≡ moment (pos micros)
unfolding moment date_time_at date_on time_at
datetime_text-date_time_at micros near =
    let days = micros / 86_400_000_000 in
    let clock = micros % 86_400_000_000 in
    let day = day_after days in
    let is = day_after-count days in
    let short = year_small day is.0 (omega (arith, is.1)) in
    let long = days_in_month_bounds (pos day.year) day.month in
    let year : last_digits 4 day.year ≡ pad4 day.year = last_digits-four day.year (omega (arith, short)) in
    let month : last_digits 2 day.month ≡ pad2 day.month = last_digits-two day.month (omega (arith, is.0.month_in.1)) in
    let date : last_digits 2 day.day ≡ pad2 day.day = last_digits-two day.day (omega (arith, is.0.day_in.1, long.0)) in
    let hour = last_digits-two (clock / 3_600_000_000) (omega arith) in
    let minute = last_digits-two (clock / 60_000_000 % 60) (omega arith) in
    let second = last_digits-two (clock / 1_000_000 % 60) (omega arith) in
    let fraction = last_digits-six (clock % 1_000_000) (omega arith) in
    rw (year, month, date, hour, minute, second, fraction)

-- the text of a moment is that of jiff's date and time
pub IsMoment-moment : (now : ℤ) → HasMoment now → IsMoment now (moment now)
IsMoment-moment (pos micros) printed =
    let near : micros ≤ 2_000_000_000_000_000 = omega (arith, signed_arith) in
    (date_time_at micros near, civil_nanos-date_time_at micros near, sym (datetime_text-date_time_at micros near))
IsMoment-moment (negsuc n) printed = absurd (omega (arith, signed_arith))

-- and there is no other
pub moment_unique : (now : ℤ) (one other : List ℕ) → IsMoment now one → IsMoment now other → one ≡ other
moment_unique now one other (d, at, is) (e, at_e, is_e) =
    let parts = civil_nanos_injective d e (at ∙ sym at_e) in
    let date = epoch_day_injective d.date e.date parts.0 in
    let time = time_nanos_injective d.time e.time parts.1 in
    let same : datetime_text false 32 (Some 6) d ≡ datetime_text false 32 (Some 6) e = rw (date.0, date.1, date.2, time.0, time.1, time.2, time.3) in
    is ∙ same ∙ sym is_e
