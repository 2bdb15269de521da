-- Moments by jiff's calendar, which adds up the lengths of years and months.
use Rattle.std.specs.Prelude.{◌≡◌, ℕ, false, List, Some, ℤ, pos, ◌+ℤ◌, ◌*ℤ◌}
use Rattle.jiff_core.specs.DateTime.{civil_nanos}
use Rattle.jiff_core.specs.declared.civil.datetime.DateTime.{DateTime}
use Rattle.jiff_fmt.specs.Text.{datetime_text}

-- the text is that of the date and time which jiff's calendar has so many microseconds after 2012-01-01 00:00:00
abbrev pub IsMoment : ℤ → List ℕ → Type 0
IsMoment now text =
    (d : DateTime) × (civil_nanos d ≡ (now +ℤ pos 1_325_376_000_000_000) *ℤ pos 1000) × (text ≡ datetime_text false 32 (Some 6) d)
