-- Dates and their days.
use Rattle.std.specs.Prelude.{Bool, ◌&&◌, cond, List, [], ◌∷◌, ◌≡◌, ℕ, zero, suc, pred, ◌+◌, ◌≤◌, ◌<◌, ltb, eqb, get_or}
use Rattle.calendar.specs.Range.{between}
use Rattle.calendar.specs.Refusal.{Test, ◌unless◌, checked}
use Rattle.calendar.specs.Span.{in_span, span_tests}
use Rattle.calendar.specs.Style.{dates_by, style_of, in_style}
use Rattle.calendar.specs.Year.{named, leap, new_year, served}
use Rattle.calendar.specs.declared.refusal.Refusal.TheVariants.{Year, Date, Span}
use Rattle.calendar.specs.declared.style.Calendar.{Calendar}
use Rattle.calendar.specs.declared.style.Style.{Style}
use Rattle.calendar.specs.declared.year.NamedYear.{NamedYear}
use Rattle.std.specs.Prelude.{Result, Ok, Err}
use Rattle.calendar.specs.declared.refusal.Refusal.{Refusal}
use Rattle.calendar.specs.declared.date.CalendarDate.{CalendarDate}

-- the record that holds a year, a month and a day
abbrev pub date : ℕ → ℕ → ℕ → CalendarDate
date y m d = record { year = y; month = m; day = d }

-- the lengths of a common year's months
abbrev pub month_lengths : List ℕ
month_lengths = 31 ∷ 28 ∷ 31 ∷ 30 ∷ 31 ∷ 30 ∷ 31 ∷ 31 ∷ 30 ∷ 31 ∷ 30 ∷ 31 ∷ []

-- the days of a month from 1 to 12, of a leap or a common year: "The leap day is 29 February."
abbrev pub month_length : Bool → ℕ → ℕ
month_length b m = cond (eqb m 2 && b) 29 (get_or month_lengths (pred m) 0)

-- the days of the months 1 to n
unfoldable pub days_of_months : Bool → ℕ → ℕ
days_of_months b zero = 0
days_of_months b (suc n) = days_of_months b n + month_length b (suc n)

-- the month m holds the day i of a year, counted from 0
pub record MonthOf (b : Bool) (i m : ℕ) : Type 0 where
  pub low : 1 ≤ m
  pub high : m ≤ 12
  pub from : days_of_months b (pred m) ≤ i
  pub to : i < days_of_months b m

-- the dates that there are; else refusal 5: "no such month, or no such day in that month of that year"
unfoldable pub is_date : Calendar → ℕ → ℕ → ℕ → Bool
is_date c y m d = between 1 m 12 && between 1 d (month_length (leap c y) m)

-- the day of a date: 1 January, and the months and the days of the month before it
unfoldable pub day_number : Calendar → ℕ → ℕ → ℕ → ℕ
day_number c y m d = new_year c y + days_of_months (leap c y) (pred m) + pred d

-- the tests of a date
abbrev pub date_tests : Calendar → ℕ → ℕ → ℕ → List Test
date_tests c y m d =
    Year unless served c y
    ∷ Date unless is_date c y m d
    ∷ Span unless in_span c (day_number c y m d)
    ∷ []

-- the day of a date, refused by 4, 5 or 6
unfoldable pub day_in_calendar : Calendar → ℕ → ℕ → ℕ → Result ℕ Refusal
day_in_calendar c y m d = checked Err (Ok (day_number c y m d)) (date_tests c y m d)

-- the day of a date of the named year t
abbrev pub day_in_year : NamedYear → ℕ → ℕ → Result ℕ Refusal
day_in_year t m d = day_in_calendar (dates_by t.style) t.year m d

-- date to day in the style with the number k: refused by 1, and else as in the style
abbrev pub day_of_date : ℕ → ℕ → ℕ → ℕ → Result ℕ Refusal
day_of_date k y m d = in_style Err (λ s. day_in_year (named s y) m d) (style_of k)

-- a date whose day is n
abbrev pub IsDateOf : Calendar → ℕ → Result CalendarDate Refusal → Type 0
IsDateOf c n (Ok t) = day_in_calendar c t.year t.month t.day ≡ Ok n
IsDateOf c n (Err x) = ⊥

-- what the date of a day may be: refused by 6, and else the date whose day it is
abbrev pub IsDateInCalendar : Calendar → ℕ → Result CalendarDate Refusal → Type 0
IsDateInCalendar c n r = checked (λ x. r ≡ Err x) (IsDateOf c n r) (span_tests c n)

abbrev pub IsDateInStyle : Style → ℕ → Result CalendarDate Refusal → Type 0
IsDateInStyle s n r = IsDateInCalendar (dates_by s) n r

-- year, month and day; none where they are refused
abbrev pub date_numbers : Result CalendarDate Refusal → List ℕ
date_numbers (Ok t) = t.year ∷ t.month ∷ t.day ∷ []
date_numbers (Err x) = []

-- day to date in the style with the number k: refused by 1, and else as in the style
abbrev pub IsDateOfDay : ℕ → ℕ → Result CalendarDate Refusal → Type 0
IsDateOfDay k n r = in_style (λ x. r ≡ Err x) (λ s. IsDateInStyle s n r) (style_of k)

-- the next date of the calendar: the next day of the month, or the first of the next month, or of the next year
abbrev pub next_date : Calendar → ℕ → ℕ → ℕ → Result CalendarDate Refusal
next_date c y m d =
    cond (ltb d (month_length (leap c y) m)) (Ok (date y m (d + 1)))
    (cond (ltb m 12) (Ok (date y (m + 1) 1))
    (Ok (date (y + 1) 1 1)))
