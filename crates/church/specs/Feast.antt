-- Feasts, in the order of their numbers.
use Rattle.std.specs.Prelude.{Bool, true, cond, List, [], ◌∷◌, ℕ, suc, pred, ◌+◌, ◌-◌, ℤ, pos, negsuc, neg_ℤ, get_or}
use Prim.Native.String.{String}
use Rattle.calendar.specs.Date.{is_date, day_number}
use Rattle.calendar.specs.Range.{between}
use Rattle.calendar.specs.Refusal.{Test, ◌unless◌, checked}
use Rattle.calendar.specs.Span.{in_span}
use Rattle.calendar.specs.Style.{dates_by, easter_by, style_of, in_style}
use Rattle.calendar.specs.Weekday.{sunday, first_weekday}
use Rattle.calendar.specs.Year.{named, leap, served}
use Rattle.church.specs.Easter.{easter, has_easter}
use Rattle.calendar.specs.declared.refusal.Refusal.TheVariants.{Name, Year, Date, Span}
use Rattle.calendar.specs.declared.style.Calendar.{Calendar}
use Rattle.calendar.specs.declared.style.Style.{Style}
use Rattle.calendar.specs.declared.weekday.Side.TheVariants.{After}
use Rattle.calendar.specs.declared.weekday.Start.TheVariants.{Counted}
use Rattle.calendar.specs.declared.year.NamedYear.{NamedYear}
use Rattle.std.specs.Prelude.{Result, Ok, Err}
use Rattle.calendar.specs.declared.refusal.Refusal.{Refusal}

-- a number of days with its sign
infix 69 -◌
infix 69 +◌
abbrev pub -◌ : ℕ → ℤ
- n = neg_ℤ (pos n)

abbrev pub +◌ : ℕ → ℤ
+ n = pos n

-- when a feast is kept: so many "Days from Easter", on a day of a month, on one in common years and on another in leap years of the style, or as advent
pub data Rule : Type 0 where
  hung : ℤ → Rule
  on : (day month : ℕ) → Rule
  on_or_in_leap_years : (day month leap_day leap_month : ℕ) → Rule
  advent : Rule

-- a feast's word and its rule
infix 68 ◌is◌
pub data Feast : Type 0 where
  ◌is◌ : String → Rule → Feast

abbrev pub rule_of : Feast → Rule
rule_of (word is r) = r

-- "Feast numbers 1 to 48 follow this order."; of Matthias: "The old leap day was put in at 24 February (source documents 002 and 003), so in a leap year the
-- feast is kept on 25 February."
abbrev pub feasts : List Feast
feasts =
    "septuagesima" is hung (- 63)
    ∷ "sexagesima" is hung (- 56)
    ∷ "estomihi" is hung (- 49)
    ∷ "ashes" is hung (- 46)
    ∷ "invocavit" is hung (- 42)
    ∷ "reminiscere" is hung (- 35)
    ∷ "oculi" is hung (- 28)
    ∷ "laetare" is hung (- 21)
    ∷ "judica" is hung (- 14)
    ∷ "palms" is hung (- 7)
    ∷ "cena" is hung (- 3)
    ∷ "parasceve" is hung (- 2)
    ∷ "easter" is hung (+ 0)
    ∷ "quasimodo" is hung (+ 7)
    ∷ "misericordia" is hung (+ 14)
    ∷ "jubilate" is hung (+ 21)
    ∷ "cantate" is hung (+ 28)
    ∷ "rogate" is hung (+ 35)
    ∷ "ascension" is hung (+ 39)
    ∷ "exaudi" is hung (+ 42)
    ∷ "pentecost" is hung (+ 49)
    ∷ "trinity" is hung (+ 56)
    ∷ "corpus" is hung (+ 60)
    ∷ "circumcision" is on 1 1
    ∷ "epiphany" is on 6 1
    ∷ "candlemas" is on 2 2
    ∷ "matthias" is on_or_in_leap_years 24 2 25 2
    ∷ "annunciation" is on 25 3
    ∷ "mark" is on 25 4
    ∷ "philip" is on 1 5
    ∷ "baptist" is on 24 6
    ∷ "peter" is on 29 6
    ∷ "magdalene" is on 22 7
    ∷ "james" is on 25 7
    ∷ "laurence" is on 10 8
    ∷ "assumption" is on 15 8
    ∷ "bartholomew" is on 24 8
    ∷ "matthew" is on 21 9
    ∷ "michael" is on 29 9
    ∷ "luke" is on 18 10
    ∷ "simon" is on 28 10
    ∷ "saints" is on 1 11
    ∷ "martin" is on 11 11
    ∷ "andrew" is on 30 11
    ∷ "nicholas" is on 6 12
    ∷ "thomas" is on 21 12
    ∷ "christmas" is on 25 12
    ∷ "advent" is advent
    ∷ []

-- the feast with the number f from 1 to 48
abbrev pub feast_of : ℕ → Feast
feast_of f = get_or feasts (pred f) ("" is on 0 0)

abbrev pub rule : ℕ → Rule
rule f = rule_of (feast_of f)

-- "advent is the Sunday from 27 November to 3 December": the first Sunday on or after 27 November
unfoldable pub advent_sunday : Calendar → ℕ → ℕ
advent_sunday c y = first_weekday Counted After sunday (day_number c y 11 27)

-- the day that lies so many days from the day n
abbrev pub days_from : ℤ → ℕ → ℕ
days_from (pos k) n = n + k
days_from (negsuc k) n = n - suc k

-- the years that are served for a rule, by the calendar of the dates: all that it serves, but for "G 1582 for .. a feast hung on Easter"
abbrev pub served_for : Rule → Calendar → ℕ → Bool
served_for (hung z) c y = has_easter c y
served_for (on d m) c y = served c y
served_for (on_or_in_leap_years d m d' m') c y = served c y
served_for advent c y = served c y

-- whether a rule's date is one of the year: a day of a month may be none
abbrev pub date_exists : Rule → Calendar → ℕ → Bool
date_exists (hung z) c y = true
date_exists (on d m) c y = is_date c y m d
date_exists (on_or_in_leap_years d m d' m') c y = cond (leap c y) (is_date c y m' d') (is_date c y m d)
date_exists advent c y = true

-- the day number of a rule: what hangs on Easter goes by the calendar of the style's Easter, and all else by that of its dates
abbrev pub rule_number : Rule → Style → ℕ → ℕ
rule_number (hung z) s y = days_from z (easter (easter_by s) y)
rule_number (on d m) s y = day_number (dates_by s) y m d
rule_number (on_or_in_leap_years d m d' m') s y = cond (leap (dates_by s) y) (day_number (dates_by s) y m' d') (day_number (dates_by s) y m d)
rule_number advent s y = advent_sunday (dates_by s) y

-- the tests of a rule in the named year t
abbrev pub rule_tests : NamedYear → Rule → List Test
rule_tests t r =
    Year unless served_for r (dates_by t.style) t.year
    ∷ Date unless date_exists r (dates_by t.style) t.year
    ∷ Span unless in_span (dates_by t.style) (rule_number r t.style t.year)
    ∷ []

-- the day of a rule in the named year t, refused by 4, 5 or 6
abbrev pub rule_day : NamedYear → Rule → Result ℕ Refusal
rule_day t r = checked Err (Ok (rule_number r t.style t.year)) (rule_tests t r)

-- the tests of the feast with the number f: refusal 1, "a .. feast number given to a public call is not in its list", and those of its rule
abbrev pub feast_tests : NamedYear → ℕ → List Test
feast_tests t f = Name unless between 1 f 48 ∷ rule_tests t (rule f)

-- the day of the feast with the number f in the named year t, refused by 1, 4, 5 or 6
unfoldable pub feast_in_year : NamedYear → ℕ → Result ℕ Refusal
feast_in_year t f = checked Err (Ok (rule_number (rule f) t.style t.year)) (feast_tests t f)

-- feast in the style with the number k: refused by 1, and else as in the style
abbrev pub feast_of_year : ℕ → ℕ → ℕ → Result ℕ Refusal
feast_of_year k f y = in_style Err (λ s. feast_in_year (named s y) f) (style_of k)
