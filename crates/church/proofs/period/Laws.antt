-- What the limit, the key, the letters and the feasts' days of the year depend on, and so after how many years they return.
use mathlib.Core.Bool.{not, cond}
use mathlib.Core.List.{[], ◌∷◌}
use mathlib.Core.Logic.{◌↔◌}
use mathlib.Core.Path.{◌≡◌, refl, sym, ◌∙◌, ap}
use Prim.Native.Nat.{ℕ, ◌+◌, ◌-◌, ◌*◌, ◌/◌, ◌%◌, ◌≤◌, ◌∣◌}
use native.Mathlib.Nat.{dvd_of_mod-eq-zero, div-mul_cancel}
use native.Mathlib.Omega.{arith}
use lib.Dec.{T, eqb}
use borrow.Author.Tests.{eq-eqb}
use Rattle.calendar.proofs.Claims.{leap_years_return, weekdays_return}
use Rattle.calendar.proofs.Table.{All, none, ◌also◌}
use Rattle.calendar.proofs.style.Laws.{whole_dates}
use Rattle.church.proofs.Primes.{prime}
use Rattle.church.proofs.Returns.{multiple, least}
use Rattle.church.proofs.arithmetic.Laws.{z, z_closed, epact_sum}
use Rattle.church.proofs.easter.Laws.{equinox_weekday_lem, march_21, easter_facts, key_range, key_closed, key_to_easter}
use Rattle.church.proofs.epact.Laws.{golden_range}
use Rattle.church.proofs.feast.Laws.{from_63, of_date, good, rule_good, week_long, advent_week}
use Rattle.church.proofs.letter.Laws as letter_laws
use Rattle.calendar.specs.Date.{days_of_months, day_number}
use Rattle.calendar.specs.Range.{between}
use Rattle.calendar.specs.Return.{ReturnsAfter, DiffersAfter, weekday_period}
use Rattle.calendar.specs.Search.{first_of}
use Rattle.calendar.specs.Style.{dates_by, easter_by, wholly}
use Rattle.calendar.specs.Weekday.{weekday}
use Rattle.calendar.specs.Year.{leap, new_year}
use Rattle.church.specs.Column.{stands, luna}
use Rattle.church.specs.Easter.{limit, march, easter, key}
use Rattle.church.specs.Epact.{golden, hundreds, epact, arabic}
use Rattle.church.specs.Feast.{Rule, hung, on, on_or_in_leap_years, advent, rule, advent_sunday, rule_number}
use Rattle.church.specs.Letter.{Part, SundayLetter}
use Rattle.church.specs.Period.{period, shorter, correction, equinox_weekday, key_by, SameLetters, SameFeasts, TablesReturn}
use Rattle.calendar.specs.declared.style.Calendar.TheVariants.{Julian, Gregorian}
use Rattle.calendar.specs.declared.style.Calendar.{Calendar}
use Rattle.calendar.specs.declared.style.Style.{Style}

-- The epact, whether it is the Arabic 25 and the limit depend on the golden number and, in G, on the hundreds by their correction alone.
pub epact_closed : (c : Calendar) (y : ℕ) → epact c y ≡ (11 * golden y + 30 - correction c y) % 30
unfolding epact
epact_closed Julian y = omega arith
epact_closed Gregorian y = rw (z_closed (hundreds y)) (epact_sum (golden y) (hundreds y) (golden_range y).0)

same_arabic : (c : Calendar) (y y' : ℕ) → golden y ≡ golden y' → epact c y ≡ epact c y' → arabic c y ≡ arabic c y'
unfolding arabic
same_arabic Julian y y' g e = refl
same_arabic Gregorian y y' g e = rw (e, g)

pub same_limit : (c : Calendar) (y y' : ℕ) → golden y ≡ golden y' → correction c y ≡ correction c y'
    → (epact c y ≡ epact c y') × (arabic c y ≡ arabic c y') × (limit c y ≡ limit c y')
unfolding limit luna
same_limit c y y' g by =
    let e : epact c y ≡ epact c y' = rw (epact_closed c y, epact_closed c y', g, by) in
    let a = same_arabic c y y' g e in
    (e, a, rw (e, a))

-- In J and in G the key depends on the limit and on the weekday of 21 March alone; the years may be of two calendars, here and below.
pub same_key : (c c' : Calendar) (y y' : ℕ) → limit c y ≡ limit c' y' → weekday (march c y 21) ≡ weekday (march c' y' 21)
    → key (wholly c) y ≡ key (wholly c') y'
same_key c c' y y' l w = rw (key_closed c y, key_closed c' y', l, w)

-- The Sunday letters depend on whether the year is leap and on the weekday of 21 March alone.
letters_kept : (c c' : Calendar) (y y' : ℕ) → leap c y ≡ leap c' y' → weekday (march c y 21) ≡ weekday (march c' y' 21)
    → (p : Part) (l : ℕ) → SundayLetter c y p l → SundayLetter c' y' p l
letters_kept c c' y y' both w p l h =
    let rest : march c y 21 % 7 ≡ march c' y' 21 % 7 = omega (arith, w) in
    rw (letter_laws.one_letter c y p l h, both, rest) (letter_laws.sundays c' y' p)

pub same_letters : (c c' : Calendar) (y y' : ℕ) → leap c y ≡ leap c' y' → weekday (march c y 21) ≡ weekday (march c' y' 21) → SameLetters c c' y y'
same_letters c c' y y' both w p l = (letters_kept c c' y y' both w p l, letters_kept c' c y' y (sym both) (sym w) p l)

-- The feasts' days of the year depend on whether the year is leap and on the key alone, where that counts from 21 March to Easter.
module _ (s s' : Style) (y y' : ℕ) (both : leap (dates_by s) y ≡ leap (dates_by s') y') (one_key : key s y ≡ key s' y') (some : 1 ≤ key s y) where
  same_date : (m d : ℕ) → day_number (dates_by s) y m d - new_year (dates_by s) y ≡ day_number (dates_by s') y' m d - new_year (dates_by s') y'
  unfolding day_number
  same_date m d = rw both (omega arith)

  same_in_leap_years : (d m d' m' : ℕ)
      → let c = dates_by s in
      let c' = dates_by s' in
      cond (leap c y) (day_number c y m' d') (day_number c y m d) - new_year c y
      ≡ cond (leap c' y') (day_number c' y' m' d') (day_number c' y' m d) - new_year c' y'
  same_in_leap_years d m d' m' =
      let c = dates_by s in
      let c' = dates_by s' in
      rw (of_date (day_number c y) (leap c y) d m d' m', of_date (day_number c' y') (leap c' y') d m d' m', ← both)
      (same_date (cond (leap c y) m' m) (cond (leap c y) d' d))

  counts' : march (dates_by s') y' 21 + key s y ≡ easter (easter_by s') y'
  counts' = rw one_key (key_to_easter s' y' (rw one_key at some))

  same_advent : advent_sunday (dates_by s) y - new_year (dates_by s) y ≡ advent_sunday (dates_by s') y' - new_year (dates_by s') y'
  unfolding march day_number
  same_advent =
      let c = dates_by s in
      let c' = dates_by s' in
      let sunday = (easter_facts (easter_by s) y).falls in
      let sunday' = (easter_facts (easter_by s') y').falls in
      let rest : march c y 21 % 7 ≡ march c' y' 21 % 7 = omega (arith, sunday, sunday', key_to_easter s y some, counts') in
      let spring = ap (λ b. days_of_months b 2) both in
      let autumn = ap (λ b. days_of_months b 10) both in
      omega (arith, rest, advent_week c y, week_long c y, advent_week c' y', week_long c' y')

  same_rule : (r : Rule) → T (good (leap (dates_by s) y) r) → rule_number r s y - new_year (dates_by s) y ≡ rule_number r s' y' - new_year (dates_by s') y'
  unfolding good march day_number
  same_rule (hung k) g =
      let b = leap (dates_by s) y in
      let from_new_year : new_year (dates_by s) y + days_of_months b 2 + 20 + key s y ≡ easter (easter_by s) y = key_to_easter s y some in
      let from_new_year' : new_year (dates_by s') y' + days_of_months b 2 + 20 + key s y ≡ easter (easter_by s') y' = rw both counts' in
      rw (from_63 k (easter (easter_by s) y) g, from_63 k (easter (easter_by s') y') g, ← from_new_year, ← from_new_year') (omega (arith, march_21 b))
  same_rule (on d m) g = same_date m d
  same_rule (on_or_in_leap_years d m d' m') g = same_in_leap_years d m d' m'
  same_rule advent g = same_advent

  pub same_feasts : SameFeasts s s' y y'
  same_feasts f e = ap (λ (n : ℕ). n + 1) (same_rule (rule f) (rule_good (leap (dates_by s) y) f e))

golden_returns : (c : Calendar) → ReturnsAfter (period c) golden
unfolding golden
golden_returns Julian y h = omega arith
golden_returns Gregorian y h = omega arith

-- in 57,000 centuries Z grows by 817 times 30
z_grows : (c : ℕ) → z (c + 57000) ≡ z c + 30 * 817
z_grows c =
    let sun : (c + 57000) / 4 ≡ c / 4 + 14250 = omega arith in
    let moon : (8 * (c + 57000) + 13) / 25 ≡ (8 * c + 13) / 25 + 18240 = omega arith in
    rw (sun, moon) (omega arith)

correction_returns : (c : Calendar) → ReturnsAfter (period c) (correction c)
correction_returns Julian y h = refl
correction_returns Gregorian y h =
    let c = hundreds y in
    let later : (y + 5700000) / 100 ≡ c + 57000 = omega arith in
    rw (later, z_closed (c + 57000), z_closed c, z_grows c) (omega arith)

-- what returns after the weekdays' period returns after the period
whole_periods : (c : Calendar) → period c / weekday_period c * weekday_period c ≡ period c
whole_periods Julian = refl
whole_periods Gregorian = refl

in_period : {A : Type 0} (c : Calendar) (has : ℕ → A) → ReturnsAfter (weekday_period c) has → ReturnsAfter (period c) has
in_period c has r = rw (whole_periods c) at (multiple has (weekday_period c) (period c / weekday_period c) r)

leap_in_period : (c : Calendar) → ReturnsAfter (period c) (leap c)
leap_in_period c = in_period c (leap c) (leap_years_return c)

equinox_returns : (c : Calendar) → ReturnsAfter (weekday_period c) (λ y. weekday (march c y 21))
unfolding march
equinox_returns c = weekdays_return c 3 21

equinox_in_period : (c : Calendar) → ReturnsAfter (period c) (λ y. weekday (march c y 21))
equinox_in_period c = in_period c (λ y. weekday (march c y 21)) (equinox_returns c)

pub letters_return : (c : Calendar) (y : ℕ) → 1 ≤ y → SameLetters c c (y + weekday_period c) y
letters_return c y h = same_letters c c (y + weekday_period c) y (leap_years_return c y h) (equinox_returns c y h)

-- the limit returns, with the epact and whether it is the Arabic 25
limit_returns : (c : Calendar) (y : ℕ) → 1 ≤ y
    → let y' = y + period c in
    (epact c y' ≡ epact c y) × (arabic c y' ≡ arabic c y) × (limit c y' ≡ limit c y)
limit_returns c y h = same_limit c (y + period c) y (golden_returns c y h) (correction_returns c y h)

pub keys_return : (c : Calendar) → ReturnsAfter (period c) (key (wholly c))
keys_return c y h = same_key c c (y + period c) y (limit_returns c y h).2 (equinox_in_period c y h)

whole_feasts : (c : Calendar) (y y' : ℕ) → leap c y ≡ leap c y' → key (wholly c) y ≡ key (wholly c) y' → SameFeasts (wholly c) (wholly c) y y'
whole_feasts c y y' both one_key = same_feasts (wholly c) (wholly c) y y' (rw (whole_dates c) both) one_key (key_range c y).0

pub tables_return : (c : Calendar) → TablesReturn c (period c)
tables_return c =
    record {
      leap_years = leap_in_period c;
      golden_numbers = golden_returns c;
      epacts = λ y h. (limit_returns c y h).0;
      arabics = λ y h. (limit_returns c y h).1;
      letters = λ y h. same_letters c c (y + period c) y (leap_in_period c y h) (equinox_in_period c y h);
      limits = λ y h. (limit_returns c y h).2;
      keys = keys_return c;
      feasts = λ y h. whole_feasts c (y + period c) y (leap_in_period c y h) (keys_return c y h);
    }

-- the key of a year from 1 on with no year counted
key_number : Calendar → ℕ → ℕ
key_number c y = key_by (limit c y) (equinox_weekday c y)

key_number_lem : (c : Calendar) (y : ℕ) → 1 ≤ y → key (wholly c) y ≡ key_number c y
unfolding key_number
key_number_lem c y h = rw (key_closed c y, equinox_weekday_lem c y h)

-- the year 1 has another key than the year k years later
differs : (c : Calendar) (k : ℕ) → T (not (eqb (key_number c (1 + k)) (key_number c 1))) → DiffersAfter k (key (wholly c))
differs c k t =
    (1, omega arith, λ e. rw (eq-eqb _ _ (sym (key_number_lem c (1 + k) (omega arith)) ∙ e ∙ key_number_lem c 1 (omega arith))) at t)

pub keys_differ : (c : Calendar) → All (λ k. DiffersAfter k (key (wholly c))) (shorter c)
unfolding key_number limit luna epact arabic golden stands first_of between
keys_differ Julian = differs Julian _ tt also differs Julian _ tt also differs Julian _ tt also none
keys_differ Gregorian = differs Gregorian _ tt also differs Gregorian _ tt also differs Gregorian _ tt also differs Gregorian _ tt also none

least_period : (c : Calendar) (k : ℕ) → ReturnsAfter k (key (wholly c)) → period c ∣ k
unfolding prime
least_period Julian = least (key (wholly Julian)) (2 ∷ 7 ∷ 19 ∷ []) 5 _ tt (dvd_of_mod-eq-zero _ refl) (keys_return Julian) (keys_differ Julian)
least_period Gregorian = least (key (wholly Gregorian)) (2 ∷ 3 ∷ 5 ∷ 19 ∷ []) 5 _ tt (dvd_of_mod-eq-zero _ refl) (keys_return Gregorian) (keys_differ Gregorian)

pub key_period : (c : Calendar) (k : ℕ) → ReturnsAfter k (key (wholly c)) ↔ (period c ∣ k)
key_period c k = (least_period c k, λ d. rw (div-mul_cancel (period c) d) at (multiple (key (wholly c)) (period c) (k / period c) (keys_return c)))
