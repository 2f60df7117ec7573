-- The years of the two calendars, for all years from 1 on; which of them are served is a test of its own.
use Rattle.std.specs.Prelude.{Bool, ◌&&◌, ◌||◌, not, cond, ℕ, zero, suc, pred, ◌+◌, ◌%◌, ◌≤◌, ◌<◌, eqb}
use Rattle.calendar.specs.Range.{between}
use Rattle.calendar.specs.declared.style.Calendar.TheVariants.{Julian, Gregorian}
use Rattle.calendar.specs.declared.style.Calendar.{Calendar}
use Rattle.calendar.specs.declared.style.Style.{Style}
use Rattle.calendar.specs.declared.year.NamedYear.{NamedYear}

-- the record that holds a style and a year
abbrev pub named : Style → ℕ → NamedYear
named s y = record { style = s; year = y }

-- d divides y
abbrev pub divides : ℕ → ℕ → Bool
divides d y = eqb (y % d) 0

-- "A J year is leap when 4 divides it. A G year is leap when 4 divides it and 100 doesn't, or 400 does."
abbrev pub leap : Calendar → ℕ → Bool
leap Julian y = divides 4 y
leap Gregorian y = divides 4 y && not (divides 100 y) || divides 400 y

-- a leap year has one day more, "29 February"
abbrev pub year_length : Calendar → ℕ → ℕ
year_length c y = cond (leap c y) 366 365

-- the days of the years 1 to n
unfoldable pub days_of_years : Calendar → ℕ → ℕ
days_of_years c zero = 0
days_of_years c (suc n) = days_of_years c n + year_length c (suc n)

-- the day number of 1 January 1: "1 January 1 J is 1721424"; in G the rule run backwards from 15 October 1582
abbrev pub first_new_year : Calendar → ℕ
first_new_year Julian = 1721424
first_new_year Gregorian = 1721426

-- the day number of 1 January of a year from 1 on
unfoldable pub new_year : Calendar → ℕ → ℕ
new_year c y = first_new_year c + days_of_years c (pred y)

-- the year y holds the day n
pub record YearOf (c : Calendar) (n y : ℕ) : Type 0 where
  pub one : 1 ≤ y
  pub from : new_year c y ≤ n
  pub to : n < new_year c (suc y)

-- the first year that is served
abbrev pub first_year : Calendar → ℕ
first_year Julian = 1
first_year Gregorian = 1582

-- the years that are served; else refusal 4: "J outside 1 to 9999; G outside 1582 to 9999"; O "takes G's years and span"
unfoldable pub served : Calendar → ℕ → Bool
served c y = between (first_year c) y 9999
