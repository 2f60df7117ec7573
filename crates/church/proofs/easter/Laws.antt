-- 21 March, the limit and Easter.
use mathlib.Core.Bool.{Bool, true, false, ◌&&◌, not, cond, and-true, and-false, and-eq-true_iff}
use mathlib.Core.Logic.{◌↔◌}
use mathlib.Core.Path.{◌≡◌, refl, sym, ◌∙◌, ap}
use Prim.Native.Nat.{ℕ, ◌+◌, ◌-◌, ◌*◌, ◌/◌, ◌%◌, ◌≤◌, ◌<◌}
use native.Mathlib.Nat.{add-zero}
use native.Mathlib.Numerals.{add-one}
use native.Mathlib.Omega.{arith}
use lib.Dec.{T, leb, eqb, leb→le}
use lib.IntN.{ℤ, pos, negsuc}
use borrow.Author.Tests.{leb-true, leb-false, le-leb, lt-leb, eqb-true, eqb-false, ne_eqb}
use Rattle.calendar.proofs.range.Laws.{range, in_range}
use Rattle.calendar.proofs.refusal.Laws.{no_day, passed}
use Rattle.calendar.proofs.span.Laws.{span_range, span_small, served_small, span_start, in_span_from}
use Rattle.calendar.proofs.weekday.Laws.{is_later}
use Rattle.calendar.proofs.year.Laws.{closed, fourth_hundreds, new_year_closed, year_up}
use Rattle.church.proofs.column.Laws.{luna_range}
use Rattle.calendar.specs.Date.{days_of_months, is_date, day_number, date_tests, day_in_calendar}
use Rattle.calendar.specs.Range.{between}
use Rattle.calendar.specs.Span.{first_day, earliest, latest, in_span}
use Rattle.calendar.specs.Style.{dates_by, easter_by, wholly}
use Rattle.calendar.specs.Weekday.{weekday, sunday, first_weekday}
use Rattle.calendar.specs.Year.{leap, first_new_year, new_year, YearOf, served}
use Rattle.church.specs.Easter.{limit, march, easter, key, reform_year, has_easter, easter_tests}
use Rattle.church.specs.Feast.{+◌, days_from}
use Rattle.church.specs.Period.{equinox_weekday, key_by}
use Rattle.calendar.specs.declared.refusal.Refusal.TheVariants.{Year}
use Rattle.calendar.specs.declared.refusal.Refusal.{Refusal}
use Rattle.calendar.specs.Refusal.{checked}
use Rattle.calendar.specs.declared.style.Calendar.TheVariants.{Julian, Gregorian}
use Rattle.calendar.specs.declared.style.Calendar.{Calendar}
use Rattle.calendar.specs.declared.style.Style.TheVariants.{J, G, O}
use Rattle.calendar.specs.declared.style.Style.{Style}
use Rattle.calendar.specs.declared.weekday.Side.TheVariants.{After}
use Rattle.calendar.specs.declared.weekday.Start.TheVariants.{Uncounted}
use Rattle.std.specs.Prelude.{Result, Ok, Err}
use Rattle.std.specs.Result.{result_or}

-- which years have an Easter
has_easter_lem : (c : Calendar) (y : ℕ) → served c y ≡ true → reform_year c y ≡ false → has_easter c y ≡ true
unfolding has_easter
has_easter_lem c y r n = rw (r, n)

pub easter_served : (c : Calendar) (y : ℕ) → has_easter c y ≡ true → served c y ≡ true
unfolding has_easter
easter_served c y h = ((and-eq-true_iff (served c y) (not (reform_year c y))).0 h).0

pub has_year : (c : Calendar) (y : ℕ) → has_easter c y ≡ true → 1 ≤ y
has_year c y h = (served_small c y (easter_served c y h)).0

abbrev pub first_easter : Calendar → ℕ
first_easter Julian = 1
first_easter Gregorian = 1583

-- the years that have a sheet and an Easter are a range
after_reform : (y : ℕ) (a b : Bool) → eqb y 1582 ≡ a → leb 1583 y ≡ b → leb 1582 y && not a ≡ b
after_reform y true true e f = absurd (omega (arith, eqb-true, leb-true))
after_reform y true false e f = and-false (leb 1582 y)
after_reform y false true e f = rw (le-leb 1582 y (omega (arith, leb-true)))
after_reform y false false e f = rw (lt-leb 1582 y (omega (arith, eqb-false, leb-false)))

pub easter_range : (c : Calendar) (y : ℕ) → has_easter c y ≡ between (first_easter c) y 9999
unfolding has_easter served between
easter_range Julian y = and-true (leb 1 y && leb y 9999)
easter_range Gregorian y = go (leb y 9999)
  where
    go : (b : Bool) → (leb 1582 y && b) && not (eqb y 1582) ≡ leb 1583 y && b
    go true = rw (and-true (leb 1582 y), and-true (leb 1583 y)) (after_reform y _ _ refl refl)
    go false = rw (and-false (leb 1582 y), and-false (leb 1583 y))

-- The years that have a sheet and an Easter are those up to 9999, from 1 on in J and from 1583 on in G.
pub easter_years : (c : Calendar) (y : ℕ) → (has_easter c y ≡ true) ↔ ((first_easter c ≤ y) × (y ≤ 9999))
easter_years c y = rw (easter_range c y) (range (first_easter c) y 9999, λ h. in_range (first_easter c) y 9999 h.0 h.1)

-- the first of them begins in the span
first_in_span : (c : Calendar) → first_day c ≤ new_year c (first_easter c) + 0
first_in_span Julian = omega (arith, span_start Julian)
first_in_span Gregorian = omega (arith, span_start Gregorian, year_up Gregorian 1582 (omega arith))

-- so every day of a year that has an Easter lies in the span
pub year_in_span : (c : Calendar) (y n : ℕ) → has_easter c y ≡ true → YearOf c n y → in_span c n ≡ true
year_in_span c y n h i =
    let e = (easter_years c y).0 h in
    in_span_from c (first_easter c) y 0 n e.0 e.1 (first_in_span c) (omega (arith, i)) i.to

-- 21 March is the day 79 of a common year, the first being 0
pub march_21 : (b : Bool) → days_of_months b 2 ≡ 59 + cond b 1 0
unfolding days_of_months
march_21 true = refl
march_21 false = refl

one_more : (b : Bool) → (cond b 366 365 ≡ 365 + cond b 1 0) × (cond b 1 0 ≤ 1)
one_more true = omega arith
one_more false = omega arith

-- every day on which a feast hung on Easter can fall lies in the year
near_in_year : (c : Calendar) (y n : ℕ) → 1 ≤ y → march c y 21 ≤ n + 62 → n ≤ march c y 21 + 168 → YearOf c n y
unfolding march day_number
near_in_year c y n one from to =
    let m = march_21 (leap c y) in
    let up = year_up c y one in
    let more = one_more (leap c y) in
    record { one = one; from = omega arith; to = omega arith }

equinox_in_span : (c : Calendar) (y : ℕ) → has_easter c y ≡ true → in_span c (march c y 21) ≡ true
equinox_in_span c y h = year_in_span c y (march c y 21) h (near_in_year c y (march c y 21) (has_year c y h) (omega arith) (omega arith))

-- 21 March lies so many days before the next new year, whether the year is leap or not
equinox_back : (c : Calendar) (y : ℕ) → 1 ≤ y → march c y 21 + 286 ≡ first_new_year c + closed c y
unfolding march day_number
equinox_back c y h =
    let next = rw add-one at (new_year_closed c y) in
    omega (arith, next, year_up c y h, march_21 (leap c y), one_more (leap c y))

by_sevens : (n a b c d : ℕ) → c ≤ b → n + 286 ≡ 1721426 + (365 * a + b + d - c) → n % 7 ≡ (a + b + d - c + 1) % 7
by_sevens n a b c d h e = omega arith

-- The weekday of 21 March depends on the year by its closed form.
pub equinox_weekday_lem : (c : Calendar) (y : ℕ) → 1 ≤ y → weekday (march c y 21) ≡ equinox_weekday c y
equinox_weekday_lem Julian y h = omega (arith, equinox_back Julian y h)
equinox_weekday_lem Gregorian y h =
    let back = rw (fourth_hundreds y) at (equinox_back Gregorian y h) in
    ap (λ (n : ℕ). n + 1) (by_sevens (march Gregorian y 21) y (y / 4) (y / 100) (y / 400) (omega arith) back)

-- 21 March is answered exactly where Easter is: in 1582 of G it lies before the span
not_reform : (c : Calendar) (y : ℕ) → in_span c (march c y 21) ≡ true → reform_year c y ≡ false
unfolding march day_number
not_reform Julian y i = refl
not_reform Gregorian y i =
    let m = march_21 (leap Gregorian y) in
    let more = one_more (leap Gregorian y) in
    let r = span_range Gregorian (march Gregorian y 21) i in
    ne_eqb y 1582 (λ e. omega (arith, span_start Gregorian, ap (new_year Gregorian) e))

equinox_day : (c : Calendar) (y n : ℕ) → day_in_calendar c y 3 21 ≡ Ok n → (has_easter c y ≡ true) × (march c y 21 ≡ n)
unfolding day_in_calendar march
equinox_day c y n e =
    let p = passed (date_tests c y 3 21) (march c y 21) n e in
    (has_easter_lem c y p.0.0 (not_reform c y p.0.1.1.0), p.1)

no_equinox : (c : Calendar) (y : ℕ) (x : Refusal) → day_in_calendar c y 3 21 ≡ Err x → has_easter c y ≡ false
unfolding day_in_calendar is_date between march
no_equinox c y x e = go _ refl
  where
    go : (t : Bool) → has_easter c y ≡ t → t ≡ false
    go true h = no_day x (march c y 21) (sym e ∙ rw (easter_served c y h, equinox_in_span c y h))
    go false h = refl

-- so 21 March is told there, and else refused by 4
pub equinox_closed : (c : Calendar) (y : ℕ) → result_or (day_in_calendar c y 3 21) (Err Year) ≡ checked Err (Ok (march c y 21)) (easter_tests c y)
equinox_closed c y = go (day_in_calendar c y 3 21) refl
  where
    go : (a : Result ℕ Refusal) → day_in_calendar c y 3 21 ≡ a → result_or a (Err Year) ≡ checked Err (Ok (march c y 21)) (easter_tests c y)
    go (Ok n) e = let d = equinox_day c y n e in rw (d.0, d.1)
    go (Err x) e = rw (no_equinox c y x e)

equinox_small : (c : Calendar) (y : ℕ) → has_easter c y ≡ true → (earliest ≤ march c y 21) × (march c y 21 ≤ latest)
equinox_small c y h = span_small c (march c y 21) (equinox_in_span c y h)

-- The limit lies from 21 to 49.
pub limit_range : (c : Calendar) (y : ℕ) → (21 ≤ limit c y) × (limit c y ≤ 49)
unfolding limit
limit_range c y = omega (arith, luna_range c y)

-- what the search for Easter asks of the day n of 21 March and of the limit
pub easter_asked : (c : Calendar) (y n : ℕ) → has_easter c y ≡ true → march c y 21 ≡ n
    → (earliest ≤ n) × (n ≤ latest) × (21 ≤ limit c y) × (limit c y ≤ 49)
easter_asked c y n h e =
    let m = equinox_small c y h in
    let l = limit_range c y in
    rw (← e) (m.0, m.1, l.0, l.1)

-- days of March counted from the 21st
pub march_from : (c : Calendar) (y d : ℕ) → 21 ≤ d → march c y d ≡ march c y 21 + d - 21
unfolding march day_number
march_from c y d h = omega arith

pub record EasterFacts (c : Calendar) (y : ℕ) : Type 0 where
  pub later : march c y (limit c y) < easter c y
  pub week : easter c y ≤ march c y (limit c y) + 7
  pub falls : weekday (easter c y) ≡ sunday
  pub key_low : march c y 21 + 1 ≤ easter c y
  pub key_high : easter c y ≤ march c y 21 + 35

pub easter_facts : (c : Calendar) (y : ℕ) → EasterFacts c y
unfolding easter
easter_facts c y =
    let l = march c y (limit c y) in
    let f = is_later Uncounted sunday l (omega arith) (omega arith) in
    let r = limit_range c y in
    let m = march_from c y (limit c y) r.0 in
    record { later = omega arith; week = omega arith; falls = f.2; key_low = omega arith; key_high = omega arith }

-- the key of a style that goes wholly by one calendar
whole_key : (c : Calendar) (y : ℕ) → key (wholly c) y ≡ easter c y - march c y 21
unfolding key
whole_key Julian y = refl
whole_key Gregorian y = refl

-- In J and in G the key lies from 1 to 35, and counts from 21 March to Easter.
pub key_range : (c : Calendar) (y : ℕ)
    → (1 ≤ key (wholly c) y) × (key (wholly c) y ≤ 35) × (march c y 21 + key (wholly c) y ≡ easter c y)
key_range c y =
    let f = easter_facts c y in
    rw (whole_key c y) (omega arith, omega arith, omega arith)

-- There the key depends on the limit and on the weekday of 21 March alone.
pub key_closed : (c : Calendar) (y : ℕ) → key (wholly c) y ≡ key_by (limit c y) (weekday (march c y 21))
key_closed c y =
    let f = easter_facts c y in
    let r = limit_range c y in
    let m = march_from c y (limit c y) r.0 in
    rw (whole_key c y) (omega arith)

-- keys with which a style has every feast in its year
abbrev pub KeyFits : Style → ℕ → Type 0
KeyFits s y = (1 ≤ key s y) × (key s y ≤ 108)

-- a key from 1 on counts from 21 March to Easter
pub key_to_easter : (s : Style) (y : ℕ) → 1 ≤ key s y → march (dates_by s) y 21 + key s y ≡ easter (easter_by s) y
unfolding key
key_to_easter s y h = omega arith

-- by how many days 21 March of J comes after that of G from the year 300 on
abbrev pub lag : ℕ → ℕ
lag y = y / 100 - y / 400 - 2

pub equinoxes_apart : (y : ℕ) → 300 ≤ y → march Gregorian y 21 + lag y ≡ march Julian y 21
equinoxes_apart y h =
    let one : 1 ≤ y = omega arith in
    let new = rw (fourth_hundreds y) at (equinox_back Gregorian y one) in
    omega (arith, equinox_back Julian y one, new)

-- In O the key lies from 11 to 108 in the years that have a sheet.
pub old_key_range : (y : ℕ) → has_easter (dates_by O) y ≡ true → (11 ≤ key O y) × (key O y ≤ 108)
unfolding key
old_key_range y h =
    let r = (easter_years Gregorian y).0 h in
    omega (arith, equinoxes_apart y (omega arith), easter_facts Julian y)

pub key_fits : (s : Style) (y : ℕ) → has_easter (dates_by s) y ≡ true → KeyFits s y
key_fits J y h = omega (arith, key_range Julian y)
key_fits G y h = omega (arith, key_range Gregorian y)
key_fits O y h = omega (arith, old_key_range y h)

-- where the calendar of the dates has an Easter, that of Easter has one too
pub both_have : (s : Style) (y : ℕ) → has_easter (dates_by s) y ≡ true → has_easter (easter_by s) y ≡ true
both_have J y h = h
both_have G y h = h
both_have O y h = let r = (easter_years Gregorian y).0 h in (easter_years Julian y).1 (omega arith)

-- days from 63 before Easter to 60 after it
abbrev pub near : ℤ → Bool
near (pos k) = leb k 60
near (negsuc k) = leb k 62

pub near_days : (z : ℤ) (n : ℕ) → T (near z) → (n ≤ days_from z n + 63) × (days_from z n ≤ n + 60)
near_days (pos k) n h = omega (arith, leb→le k 60 h)
near_days (negsuc k) n h = omega (arith, leb→le k 62 h)

-- lie in the year
pub hung_in_year : (s : Style) (y : ℕ) (z : ℤ) → 1 ≤ y → KeyFits s y → T (near z) → YearOf (dates_by s) (days_from z (easter (easter_by s) y)) y
hung_in_year s y z one fits small =
    let e = easter (easter_by s) y in
    let k = key_to_easter s y fits.0 in
    let d = near_days z e small in
    near_in_year (dates_by s) y (days_from z e) one (omega arith) (omega arith)

-- In a year that has a sheet Easter lies in the span.
pub easter_in_span : (s : Style) (y : ℕ) → has_easter (dates_by s) y ≡ true → in_span (dates_by s) (easter (easter_by s) y) ≡ true
easter_in_span s y h =
    year_in_span (dates_by s) y (easter (easter_by s) y) h (rw add-zero at (hung_in_year s y (+ 0) (has_year (dates_by s) y h) (key_fits s y h) tt))

pub easter_small : (s : Style) (y : ℕ) → has_easter (dates_by s) y ≡ true → (earliest ≤ easter (easter_by s) y) × (easter (easter_by s) y ≤ latest)
easter_small s y h = span_small (dates_by s) (easter (easter_by s) y) (easter_in_span s y h)

-- Easter as the code finds it
pub easter_closed : (c : Calendar) (y : ℕ) → first_weekday Uncounted After sunday (march c y 21 + limit c y - 21) ≡ easter c y
unfolding easter
easter_closed c y = rw (march_from c y (limit c y) (limit_range c y).0)
