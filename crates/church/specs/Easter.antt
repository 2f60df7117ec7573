-- The limit, Easter and its key, for all years from 1 on; which years are answered is a test of its own.
use Rattle.std.specs.Prelude.{Bool, false, ◌&&◌, not, List, [], ◌∷◌, ℕ, ◌+◌, ◌-◌, eqb, Result, Ok, Err}
use Rattle.calendar.specs.Date.{day_number}
use Rattle.calendar.specs.Refusal.{Test, ◌unless◌, checked}
use Rattle.calendar.specs.Style.{dates_by, easter_by}
use Rattle.calendar.specs.Weekday.{sunday, first_weekday}
use Rattle.calendar.specs.Year.{served}
use Rattle.church.specs.Column.{luna}
use Rattle.calendar.specs.declared.refusal.Refusal.TheVariants.{Year}
use Rattle.calendar.specs.declared.refusal.Refusal.{Refusal}
use Rattle.calendar.specs.declared.style.Calendar.TheVariants.{Julian, Gregorian}
use Rattle.calendar.specs.declared.style.Calendar.{Calendar}
use Rattle.calendar.specs.declared.style.Style.{Style}
use Rattle.calendar.specs.declared.weekday.Side.TheVariants.{After}
use Rattle.calendar.specs.declared.weekday.Start.TheVariants.{Uncounted}
use Rattle.calendar.specs.declared.year.NamedYear.{NamedYear}

-- "The limit is thirteen days after Luna I.", a day of March run on past 31; of O: "Its limit is the J one, counted in J's March."
unfoldable pub limit : Calendar → ℕ → ℕ
limit c y = luna c y + 13

-- the day number of a day of March, run on past 31
unfoldable pub march : Calendar → ℕ → ℕ → ℕ
march c y d = day_number c y 3 d

-- "Easter is the first Sunday strictly after the limit.": the limit does not count
unfoldable pub easter : Calendar → ℕ → ℕ
easter c y = first_weekday Uncounted After sunday (march c y (limit c y))

-- "The key is Easter's distance from 21 March", of the calendar that dates go by; of O: "Easter's key then counts from 21 March G"
unfoldable pub key : Style → ℕ → ℕ
key s y = easter (easter_by s) y - march (dates_by s) y 21

-- the year in which G begins
abbrev pub reform_year : Calendar → ℕ → Bool
reform_year Julian y = false
reform_year Gregorian y = eqb y 1582

-- the years whose sheet and Easter are answered, by the calendar that dates go by: those that are served, but for "G 1582 for the year sheet or a feast hung
-- on Easter"
unfoldable pub has_easter : Calendar → ℕ → Bool
has_easter c y = served c y && not (reform_year c y)

-- refusal 4 for the sheet and Easter
abbrev pub easter_tests : Calendar → ℕ → List Test
easter_tests c y = Year unless has_easter c y ∷ []

-- Easter in the named year t, refused by 4
abbrev pub easter_of_year : NamedYear → Result ℕ Refusal
easter_of_year t = checked Err (Ok (easter (easter_by t.style) t.year)) (easter_tests (dates_by t.style) t.year)
