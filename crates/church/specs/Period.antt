-- How far the tables repeat, for all years from 1 on.
use Rattle.std.specs.Prelude.{true, List, [], ◌∷◌, ◌↔◌, ◌≡◌, ℕ, ◌+◌, ◌-◌, ◌/◌, ◌%◌, ◌≤◌}
use Rattle.calendar.specs.Range.{between}
use Rattle.calendar.specs.Return.{ReturnsAfter}
use Rattle.calendar.specs.Style.{dates_by, wholly}
use Rattle.calendar.specs.Year.{leap, new_year}
use Rattle.church.specs.Arithmetic.{z_of}
use Rattle.church.specs.Easter.{limit, key}
use Rattle.church.specs.Epact.{golden, hundreds, by30, epact, arabic}
use Rattle.church.specs.Feast.{rule, rule_number}
use Rattle.church.specs.Letter.{Part, SundayLetter}
use Rattle.calendar.specs.declared.style.Calendar.TheVariants.{Julian, Gregorian}
use Rattle.calendar.specs.declared.style.Calendar.{Calendar}
use Rattle.calendar.specs.declared.style.Style.{Style}

-- "J keys return after 532 years and G keys after 5,700,000 (source document 000)"
abbrev pub period : Calendar → ℕ
period Julian = 532
period Gregorian = 5700000

-- the period divided by each of its primes: by 2, 7 and 19 in J, by 2, 3, 5 and 19 in G
abbrev pub shorter : Calendar → List ℕ
shorter Julian = 266 ∷ 76 ∷ 28 ∷ []
shorter Gregorian = 2850000 ∷ 1900000 ∷ 1140000 ∷ 300000 ∷ []

-- what is taken for the hundreds from 11 times the golden number, by 30: Z in G, and nothing in J
abbrev pub correction : Calendar → ℕ → ℕ
correction Julian y = 0
correction Gregorian y = by30 (z_of (hundreds y))

-- the weekday of 21 March in closed form
abbrev pub equinox_weekday : Calendar → ℕ → ℕ
equinox_weekday Julian y = (y + y / 4 + 6) % 7 + 1
equinox_weekday Gregorian y = (y + y / 4 + y / 400 - y / 100 + 1) % 7 + 1

-- the key that a limit and the weekday of 21 March make
abbrev pub key_by : ℕ → ℕ → ℕ
key_by l w = l - 14 - (w + l) % 7

-- the day of the year on which the feast with the number f is kept, 1 January being the first
abbrev pub feast_day_of_year : ℕ → Style → ℕ → ℕ
feast_day_of_year f s y = rule_number (rule f) s y - new_year (dates_by s) y + 1

-- the year y of the calendar c and the year y' of the calendar c' have the same Sunday letters
abbrev pub SameLetters : Calendar → Calendar → ℕ → ℕ → Type 0
SameLetters c c' y y' = (p : Part) (l : ℕ) → SundayLetter c y p l ↔ SundayLetter c' y' p l

-- the year y of the style s and the year y' of the style s' keep every feast on the same day of the year
abbrev pub SameFeasts : Style → Style → ℕ → ℕ → Type 0
SameFeasts s s' y y' = (f : ℕ) → between 1 f 48 ≡ true → feast_day_of_year f s y ≡ feast_day_of_year f s' y'

-- what a sheet holds, but for Easter's day number, and every feast's day of the year return after k years, in the style that goes wholly by the calendar c
pub record TablesReturn (c : Calendar) (k : ℕ) : Type 0 where
  pub leap_years : ReturnsAfter k (leap c)
  pub golden_numbers : ReturnsAfter k golden
  pub epacts : ReturnsAfter k (epact c)
  pub arabics : ReturnsAfter k (arabic c)
  pub letters : (y : ℕ) → 1 ≤ y → SameLetters c c (y + k) y
  pub limits : ReturnsAfter k (limit c)
  pub keys : ReturnsAfter k (key (wholly c))
  pub feasts : (y : ℕ) → 1 ≤ y → SameFeasts (wholly c) (wholly c) (y + k) y
