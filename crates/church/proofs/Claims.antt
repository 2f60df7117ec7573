-- What holds of the year sheet and the feasts beyond the contracts, for all years from 1 on of both calendars.
use mathlib.Core.Bool.{true, false}
use mathlib.Core.List.{List, [], ◌∷◌}
use mathlib.Core.Logic.{◌↔◌}
use mathlib.Core.Path.{◌≡◌, refl, sym, ◌∙◌, ap}
use Prim.Native.Nat.{ℕ, ◌+◌, ◌≤◌, ◌<◌, ◌∣◌}
use native.Mathlib.Omega.{arith}
use lib.IntN.{ℤ, pos, ◌+ℤ◌, ◌*ℤ◌}
use lib.ListN.{length}
use Rattle.calendar.proofs.Table.{All}
use Rattle.calendar.proofs.span.Laws.{span_small}
use Rattle.calendar.proofs.style.Laws.{by_number_lem, both_in, given_by_number, given_of_any}
use Rattle.church.proofs.arithmetic.Laws as arithmetic_laws
pub use Rattle.church.proofs.arithmetic.Laws.{brought_by_thirties}
use Rattle.church.proofs.column.Laws.{walked}
use Rattle.church.proofs.easter.Laws as easter_laws
pub use Rattle.church.proofs.easter.Laws.{first_easter, easter_years, limit_range, equinox_weekday_lem, key_range, key_closed, old_key_range, easter_in_span}
use Rattle.church.proofs.easter.Order as order_laws
use Rattle.church.proofs.epact.Laws as epact_laws
pub use Rattle.church.proofs.epact.Laws.{epact_small}
use Rattle.church.proofs.feast.Laws as feast_laws
pub use Rattle.church.proofs.feast.Laws.{feast_date_exists, feast_in_year_lem, same_easter, same_others, matthias_before_march, only_matthias}
use Rattle.church.proofs.letter.Laws as letter_laws
use Rattle.church.proofs.period.Laws as period_laws
pub use Rattle.church.proofs.period.Laws.{epact_closed, same_limit, same_key, same_letters, same_feasts}
pub use Rattle.church.proofs.sheet.Laws.{one_answer_in_year}
use Rattle.calendar.specs.Date.{is_date, day_number}
use Rattle.calendar.specs.Range.{between}
use Rattle.calendar.specs.Refusal.{Holds, Lowest, refusal_or_zero, number_or_refusal}
use Rattle.calendar.specs.Return.{ReturnsAfter, DiffersAfter, weekday_period}
use Rattle.calendar.specs.Span.{earliest}
use Rattle.calendar.specs.Style.{style_number, dates_by, easter_by, wholly, style_of, by_number}
use Rattle.calendar.specs.Weekday.{weekday, sunday}
use Rattle.calendar.specs.Year.{named, leap}
use Rattle.church.specs.Arithmetic.{arithmetic_limit}
use Rattle.church.specs.Column.{stands, luna}
use Rattle.church.specs.Easter.{limit, march, easter, key, has_easter, easter_tests}
use Rattle.church.specs.Epact.{golden, hundreds, gregorian_sum, epact, arabic}
use Rattle.church.specs.Feast.{◌is◌, on_or_in_leap_years, feasts, feast_of, rule, advent_sunday, rule_number, feast_tests, feast_in_year, feast_of_year}
use Rattle.church.specs.Letter.{letter_of, Part, first, second, in_part, SundayLetter}
use Rattle.church.specs.Period.{period, shorter, SameLetters, TablesReturn}
use Rattle.church.specs.Sheet.{IsSheetOf, IsSheetOfYear, yes, sheet_numbers}
use Rattle.calendar.specs.declared.style.Calendar.TheVariants.{Gregorian}
use Rattle.calendar.specs.declared.style.Calendar.{Calendar}
use Rattle.calendar.specs.declared.style.Style.TheVariants.{J, G, O}
use Rattle.calendar.specs.declared.style.Style.{Style}
use Rattle.calendar.specs.declared.year.NamedYear.{NamedYear}
use Rattle.std.specs.Prelude.{Result, Ok, Err}
use Rattle.calendar.specs.declared.refusal.Refusal.{Refusal}
use Rattle.church.specs.declared.sheet.YearSheet.{YearSheet}

-- Any two answers that the year sheet may give are equal, in a style (`one_answer_in_year`) and by its number.
pub one_answer : (k y : ℕ) (r r' : Result YearSheet Refusal) → IsSheetOfYear k y r → IsSheetOfYear k y r' → r ≡ r'
one_answer k y r r' h h' = both_in (style_of k) (λ s. one_answer_in_year (named s y) r r') (λ x p q. p ∙ sym q) h h'

-- "The lowest number that holds is given, and none otherwise": the sheet and a feast are refused by n exactly when it is that.
pub sheet_refused : (k y n : ℕ) (r : Result YearSheet Refusal) → 1 ≤ n → IsSheetOfYear k y r
    → (refusal_or_zero r ≡ n) ↔ Lowest (Holds (by_number (λ s. easter_tests (dates_by s) y) k)) n
sheet_refused k y n r some h =
    given_of_any (λ x. r ≡ Err x) (λ s. IsSheetOf (named s y) r) (refusal_or_zero r) (λ x. ap refusal_or_zero) n (λ s. easter_tests (dates_by s) y) (λ s. tt)
    (λ s. is_sheet (named s y) r) k h
  where
    is_sheet : (t : NamedYear) (r : Result YearSheet Refusal) → IsSheetOf t r → refusal_or_zero r ≡ n → ⊥
    is_sheet t (Ok q) h e = omega arith
    is_sheet t (Err x) h e = h

pub feast_refused : (k f y n : ℕ) → n < earliest
    → (number_or_refusal (feast_of_year k f y) ≡ n) ↔ Lowest (Holds (by_number (λ s. feast_tests (named s y) f) k)) n
unfolding feast_in_year
feast_refused k f y n low =
    given_by_number number_or_refusal Err (λ x. refl) n (λ s. Ok (rule_number (rule f) s y)) (λ s. feast_tests (named s y) f) (λ s. tt)
    (λ s all e. omega (arith, span_small (dates_by s) (rule_number (rule f) s y) all.1.1.1.0)) k

-- A G epact is the remainder by 30 of its sum, also where that is negative.
pub epact_remainder : (y : ℕ)
    → (epact Gregorian y ≤ 29) × ((q : ℤ) × (pos 30 *ℤ q +ℤ pos (epact Gregorian y) ≡ gregorian_sum (golden y) (hundreds y)))
unfolding epact
epact_remainder y = (epact_laws.epact_small Gregorian y, epact_laws.by30_rest (gregorian_sum (golden y) (hundreds y)))

-- The walk finds a day of the column at which the year's epact stands.
pub luna_found : (c : Calendar) (y : ℕ) → (8 ≤ luna c y) × (luna c y ≤ 36) × (stands c (epact c y) (arabic c y) (luna c y) ≡ true)
unfolding luna
luna_found c y = ((walked c y).low, (walked c y).high, (walked c y).there)

-- The year's epact stands at one day only.
pub one_luna : (c : Calendar) (y d : ℕ) → stands c (epact c y) (arabic c y) d ≡ true → d ≡ luna c y
unfolding luna
one_luna c y d h = (walked c y).once d h

-- The arithmetic and the month column give one limit; what the arithmetic brings into 21 to 50 differs by thirties (`brought_by_thirties`).
pub one_limit : (c : Calendar) (y : ℕ) → arithmetic_limit c y ≡ limit c y
one_limit = arithmetic_laws.one_limit

-- Easter is a Sunday, later than the limit by at most seven days.
pub easter_sunday : (c : Calendar) (y : ℕ)
    → (weekday (easter c y) ≡ sunday) × (march c y (limit c y) < easter c y) × (easter c y ≤ march c y (limit c y) + 7)
easter_sunday c y =
    let f = easter_laws.easter_facts c y in
    (f.falls, f.later, f.week)

-- In every style, in a year that has a sheet, Easter is a Sunday, and the key is its distance from 21 March of the calendar that the dates go by.
pub key_counts : (s : Style) (y : ℕ) → has_easter (dates_by s) y ≡ true
    → (weekday (easter (easter_by s) y) ≡ sunday) × (march (dates_by s) y 21 + key s y ≡ easter (easter_by s) y)
key_counts s y h = ((easter_sunday (easter_by s) y).0, easter_laws.key_to_easter s y (easter_laws.key_fits s y h).0)

-- The Easter of O is never before that of G of the same year, from 500 on and so in every year that has a sheet in G and O.
pub easter_order : (y : ℕ) → 500 ≤ y → easter (easter_by G) y ≤ easter (easter_by O) y
easter_order = order_laws.easter_order

-- Each part of a year has one Sunday letter.
pub has_letter : (c : Calendar) (y : ℕ) (p : Part) → (l : ℕ) × SundayLetter c y p l
has_letter c y p = (letter_laws.closed p (leap c y) (march c y 21), letter_laws.sundays c y p)

pub one_letter : (c : Calendar) (y : ℕ) (p : Part) (l l' : ℕ) → SundayLetter c y p l → SundayLetter c y p l' → l ≡ l'
one_letter c y p l l' h h' = letter_laws.one_letter c y p l h ∙ sym (letter_laws.one_letter c y p l' h')

-- A sheet's numbers are those of its year, with l and l' for its Sunday letters.
abbrev pub numbers_of : Style → ℕ → ℕ → ℕ → List ℕ
numbers_of s y l l' =
    let c = easter_by s in
    yes (leap (dates_by s) y) ∷ golden y ∷ epact c y ∷ yes (arabic c y) ∷ l ∷ l' ∷ limit c y ∷ key s y ∷ easter c y ∷ []

pub sheet_numbers_lem : (s : Style) (y l l' : ℕ) (r : Result YearSheet Refusal) → has_easter (dates_by s) y ≡ true → IsSheetOfYear (style_number s) y r
    → SundayLetter (dates_by s) y first l → SundayLetter (dates_by s) y second l' → sheet_numbers r ≡ numbers_of s y l l'
sheet_numbers_lem s y l l' r has h f g = go r (rw (by_number_lem s, has) at h)
  where
    go : (r : Result YearSheet Refusal) → IsSheetOf (named s y) r
        → sheet_numbers r ≡ numbers_of s y l l'
    go (Err x) k = absurd k
    go (Ok q) k =
        rw (
          k.its_leap,
          k.its_golden,
          k.its_epact,
          k.its_arabic,
          k.its_limit,
          k.its_key,
          k.its_easter,
          one_letter (dates_by s) y first _ l k.its_first f,
          one_letter (dates_by s) y second _ l' k.its_second g,
        )

-- Every Sunday of a part of the year bears its Sunday letter, and no other day does.
pub letter_borne : (c : Calendar) (y : ℕ) (p : Part) (l m d : ℕ) → SundayLetter c y p l → is_date c y m d ≡ true → in_part p m d ≡ true
    → (weekday (day_number c y m d) ≡ sunday) ↔ (letter_of m d ≡ l)
letter_borne c y p l m d h is_date in_part =
    let b = letter_laws.borne c y p m d is_date in_part in
    let e = letter_laws.one_letter c y p l h in
    (λ w. b.0 w ∙ sym e, λ w. b.1 (w ∙ e))

-- "the same one twice in a common year"
pub common_letters : (c : Calendar) (y l l' : ℕ) → leap c y ≡ false → SundayLetter c y first l → SundayLetter c y second l' → l ≡ l'
common_letters c y l l' common h h' =
    letter_laws.one_letter c y first l h ∙ rw common refl ∙ sym (letter_laws.one_letter c y second l' h')

-- There are 48 feasts.
pub forty_eight : length feasts ≡ 48
forty_eight = refl

-- In a year that has an Easter every feast has its day.
pub feast_answered : (s : Style) (y f : ℕ) → has_easter (dates_by s) y ≡ true → between 1 f 48 ≡ true
    → feast_of_year (style_number s) f y ≡ Ok (rule_number (rule f) s y)
feast_answered s y f h e = rw by_number_lem (feast_laws.feast_answered s y f h e)

-- The Easter of O, and every feast that hangs on it, is that of J: styles whose Easter goes by one calendar keep what hangs on it on the same days
-- (`same_easter`).
pub old_easter : (y f : ℕ) → has_easter (dates_by O) y ≡ true → between 1 f 23 ≡ true → feast_of_year (style_number O) f y ≡ feast_of_year (style_number J) f y
old_easter y f h e = rw (by_number_lem O, by_number_lem J) (same_easter O J y f refl h (easter_laws.both_have O y h) e)

-- Every other feast of O is that of G: styles whose dates go by one calendar keep what does not hang on Easter on the same days (`same_others`).
pub new_dates : (y f : ℕ) → between 24 f 48 ≡ true → feast_of_year (style_number O) f y ≡ feast_of_year (style_number G) f y
new_dates y f e = rw (by_number_lem O, by_number_lem G) (same_others O G y f refl e)

-- Feast 27 is Matthias, with a date for common years and one for leap years; no other feast has such a rule (`only_matthias`). In every year he lies five days
-- before 1 March, on the sixth day where both ends are counted, as the Romans did (`matthias_before_march`).
pub matthias : feast_of 27 ≡ "matthias" is on_or_in_leap_years 24 2 25 2
matthias = refl

-- Advent is a Sunday from 27 November to 3 December, and the only one.
pub advent_sunday_lem : (c : Calendar) (y : ℕ)
    → (weekday (advent_sunday c y) ≡ sunday) × (day_number c y 11 27 ≤ advent_sunday c y) × (advent_sunday c y ≤ day_number c y 12 3)
advent_sunday_lem c y = feast_laws.advent_week c y

pub one_advent : (c : Calendar) (y n : ℕ) → day_number c y 11 27 ≤ n → n ≤ day_number c y 12 3 → weekday n ≡ sunday → n ≡ advent_sunday c y
one_advent c y n from to falls =
    let a = advent_sunday_lem c y in
    let w = feast_laws.week_long c y in
    omega arith

-- The Sunday letters return after 28 years in J and after 400 in G; they depend on whether the year is leap and on the weekday of 21 March alone
-- (`same_letters`), which is told by a closed form (`equinox_weekday_lem`).
pub letters_return : (c : Calendar) (y : ℕ) → 1 ≤ y → SameLetters c c (y + weekday_period c) y
letters_return = period_laws.letters_return

-- J keys return after 532 years, and G keys after 5,700,000; they depend on the limit and that weekday alone (`key_closed`, `same_key`), and the limit on the
-- golden number and, in G, on the hundreds by their correction (`epact_closed`, `same_limit`).
pub keys_return : (c : Calendar) → ReturnsAfter (period c) (key (wholly c))
keys_return = period_laws.keys_return

-- With them return whether the year is leap, golden number, epact and whether Arabic, Sunday letters, limit, and every feast's day of the year, which depends
-- on the key and on whether the year is leap alone (`same_feasts`); each feast lies in its year (`feast_in_year_lem`).
pub tables_return : (c : Calendar) → TablesReturn c (period c)
tables_return = period_laws.tables_return

-- J keys do not return after 266, 76 or 28 years throughout, nor do G keys after 2,850,000, 1,900,000, 1,140,000 or 300,000.
pub keys_differ : (c : Calendar) → All (λ k. DiffersAfter k (key (wholly c))) (shorter c)
keys_differ = period_laws.keys_differ

-- Of the numbers from 1 on the period is the least: the keys return after k years throughout exactly where it divides k.
pub key_period : (c : Calendar) (k : ℕ) → ReturnsAfter k (key (wholly c)) ↔ (period c ∣ k)
key_period = period_laws.key_period
