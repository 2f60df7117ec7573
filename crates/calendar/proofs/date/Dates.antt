-- Dates as facts on numbers, for all years from 1 on: where a date's day lies, and which day comes next.
use mathlib.Core.Bool.{Bool, true, false, cond, and-eq-true_iff}
use mathlib.Core.Path.{◌≡◌, refl}
use Prim.Native.Nat.{ℕ, zero, suc, pred, ◌+◌, ◌-◌, ◌*◌, ◌/◌, ◌≤◌, ◌<◌}
use native.Mathlib.Nat.{add-zero}
use native.Mathlib.Numerals.{add-one}
use native.Mathlib.Omega.{arith}
use lib.Dec.{ltb}
use borrow.Author.Tests.{ltb-true, ltb-false}
use Rattle.calendar.proofs.date.Months.{month_offset, year_days, month_up, months_rise, one_month, month_has_days}
use Rattle.calendar.proofs.range.Laws.{range, in_range}
use Rattle.calendar.proofs.year.Laws.{year_up, one_year}
use Rattle.calendar.specs.Date.{month_length, days_of_months, MonthOf, is_date, day_number, next_date}
use Rattle.calendar.specs.Range.{between}
use Rattle.calendar.specs.Year.{leap, new_year, YearOf}
use Rattle.calendar.specs.declared.style.Calendar.{Calendar}
use Rattle.std.specs.Prelude.{Result, Ok, Err}
use Rattle.calendar.specs.declared.refusal.Refusal.{Refusal}
use Rattle.calendar.specs.declared.date.CalendarDate.{CalendarDate}
use Rattle.calendar.specs.Date.{date}

-- is_date, as facts and back
pub record DateBounds (b : Bool) (m d : ℕ) : Type 0 where
  pub month_low : 1 ≤ m
  pub month_high : m ≤ 12
  pub day_low : 1 ≤ d
  pub day_high : d ≤ month_length b m

pub date_bounds : (c : Calendar) (y m d : ℕ) → is_date c y m d ≡ true → DateBounds (leap c y) m d
unfolding is_date
date_bounds c y m d e =
    let p = (and-eq-true_iff (between 1 m 12) (between 1 d (month_length (leap c y) m))).0 e in
    let month = range 1 m 12 p.0 in
    let day = range 1 d (month_length (leap c y) m) p.1 in
    record { month_low = month.0; month_high = month.1; day_low = day.0; day_high = day.1 }

pub bounds_date : (c : Calendar) (y m d : ℕ) → DateBounds (leap c y) m d → is_date c y m d ≡ true
unfolding is_date
bounds_date c y m d b =
    rw (in_range 1 m 12 b.month_low b.month_high, in_range 1 d (month_length (leap c y) m) b.day_low b.day_high)

-- n is the day of a date
pub record Dated (c : Calendar) (n y m d : ℕ) : Type 0 where
  pub year : 1 ≤ y
  pub date : DateBounds (leap c y) m d
  pub number : day_number c y m d ≡ n

-- the date's month and year hold its day
month_of_lem : (c : Calendar) (n y m d : ℕ) → Dated c n y m d → MonthOf (leap c y) (n - new_year c y) m
unfolding day_number
month_of_lem c n y m d h =
    record {
      low = h.date.month_low;
      high = h.date.month_high;
      from = omega (arith, h.number);
      to = omega (arith, h.number, h.date, month_up (leap c y) m h.date.month_low);
    }

pub year_of : (c : Calendar) (n y m d : ℕ) → Dated c n y m d → YearOf c n y
unfolding day_number
year_of c n y m d h =
    record {
      one = h.year;
      from = omega (arith, h.number);
      to =
          omega (
            arith,
            (month_of_lem c n y m d h).to,
            months_rise (leap c y) m 12 h.date.month_high,
            year_days (leap c y),
            year_up c y h.year,
          );
    }

-- so the day of a date is counted from the new year, and behind February from the next
pub day_by_offset : (c : Calendar) (y m d : ℕ) (t : Bool) → 1 ≤ y → DateBounds (leap c y) m d → ltb 2 m ≡ t
    → new_year c (y + cond t 1 0) + (979 * m - 966) / 32 + (d - 1) ≡ day_number c y m d + 367 * cond t 1 0
unfolding day_number
day_by_offset c y m d true h b e = rw (add-one y) (omega (arith, year_up c y h, month_offset (leap c y) true m b.month_high e))
day_by_offset c y m d false h b e = rw (add-zero y) (omega (arith, month_offset (leap c y) false m b.month_high e))

-- a day has one date only
pub one_date : (c : Calendar) (n y m d y' m' d' : ℕ) → Dated c n y m d → Dated c n y' m' d' → date y m d ≡ date y' m' d'
unfolding day_number
one_date c n y m d y' m' d' h g =
    let same_year : y ≡ y' = one_year c n y y' (year_of c n y m d h) (year_of c n y' m' d' g) in
    let same_month : m ≡ m' = one_month (leap c y) (n - new_year c y) m m' (month_of_lem c n y m d h) (rw same_year (month_of_lem c n y' m' d' g)) in
    let same_new_year : new_year c y ≡ new_year c y' = rw same_year in
    let same_before : days_of_months (leap c y) (pred m) ≡ days_of_months (leap c y') (pred m') = rw (same_year, same_month) in
    let same_day : d ≡ d' = omega (arith, h.number, g.number, h.date, g.date) in
    rw (same_year, same_month, same_day)

-- a day of a year is one of its months' days
pub in_year : (c : Calendar) (n y : ℕ) → YearOf c n y → n - new_year c y < days_of_months (leap c y) 12
in_year c n y h = rw year_days (omega (arith, year_up c y h.one))

-- the date that a day's year and month give
pub found : (c : Calendar) (n y m : ℕ) → YearOf c n y → MonthOf (leap c y) (n - new_year c y) m
    → Dated c n y m (n - new_year c y - days_of_months (leap c y) (pred m) + 1)
unfolding day_number
found c n y m h g =
    let date : DateBounds (leap c y) m (n - new_year c y - days_of_months (leap c y) (pred m) + 1) =
    record {
      month_low = g.low;
      month_high = g.high;
      day_low = omega arith;
      day_high = omega (arith, month_up (leap c y) m g.low);
    } in
    record { year = h.one; date = date; number = omega arith }

-- n is the day of the date that an answer holds
abbrev pub DatedOn : Calendar → ℕ → Result CalendarDate Refusal → Type 0
DatedOn c n (Ok t) = Dated c n t.year t.month t.day
DatedOn c n (Err x) = ⊥

first_of : (b : Bool) (m : ℕ) → m < 12 → DateBounds b (m + 1) 1
first_of b m h =
    let some = month_has_days b (m + 1) (omega arith) (omega arith) in
    record { month_low = omega arith; month_high = omega arith; day_low = omega arith; day_high = omega arith }

new_years_day : (c : Calendar) (y : ℕ) → 1 ≤ y → Dated c (new_year c y) y 1 1
unfolding day_number days_of_months
new_years_day c y h = record { year = h; date = first_of (leap c y) 0 (omega arith); number = omega arith }

-- the cases of the next date: within a month, within a year, and over the year's end
next_of : (c : Calendar) (n y m d : ℕ) (a b : Bool) → Dated c n y m d → ltb d (month_length (leap c y) m) ≡ a → ltb m 12 ≡ b
    → DatedOn c (n + 1) (cond a (Ok (date y m (d + 1))) (cond b (Ok (date y (m + 1) 1)) (Ok (date (y + 1) 1 1))))
unfolding day_number
next_of c n y m d true b h p q =
    let date : DateBounds (leap c y) m (d + 1) =
    record { month_low = h.date.month_low; month_high = h.date.month_high; day_low = omega arith; day_high = omega (arith, ltb-true) } in
    record { year = h.year; date = date; number = omega (arith, h.number, h.date) }
next_of c n y m d false true h p q =
    let e : pred (m + 1) ≡ m = omega arith in
    let up = month_up (leap c y) m h.date.month_low in
    record { year = h.year; date = first_of (leap c y) m (ltb-true m 12 q); number = rw e (omega (arith, ltb-false, h.number, h.date)) }
next_of c n y m d false false h p q =
    let twelve : m ≡ 12 = omega (arith, ltb-false, h.date) in
    let last : days_of_months (leap c y) m ≡ days_of_months (leap c y) 12 = rw twelve in
    let up = month_up (leap c y) m h.date.month_low in
    let next : new_year c (y + 1) ≡ n + 1 = rw (add-one y) (omega (arith, ltb-false, h.number, h.date, year_days (leap c y), year_up c y h.year)) in
    rw next at (new_years_day c (y + 1) (omega arith))

pub next_dated : (c : Calendar) (n y m d : ℕ) → Dated c n y m d → DatedOn c (n + 1) (next_date c y m d)
next_dated c n y m d h = next_of c n y m d _ _ h refl refl

-- n is the day of some date
abbrev pub HasDate : Calendar → ℕ → Type 0
HasDate c n = (y : ℕ) × (m : ℕ) × (d : ℕ) × Dated c n y m d

holds_date : (c : Calendar) (n : ℕ) (a : Result CalendarDate Refusal) → DatedOn c n a → HasDate c n
holds_date c n (Ok t) h = (t.year, t.month, t.day, h)
holds_date c n (Err x) h = absurd h

counted_on : (c : Calendar) (k : ℕ) → HasDate c (new_year c 1 + k)
counted_on c zero = (1, 1, 1, rw add-zero (new_years_day c 1 (omega arith)))
counted_on c (suc k) =
    let n = new_year c 1 + k in
    let h = counted_on c k in
    let e : n + 1 ≡ new_year c 1 + suc k = omega arith in
    rw e at (holds_date c (n + 1) (next_date c h.0 h.1 h.2) (next_dated c n h.0 h.1 h.2 h.3))

-- every day from 1 January 1 on has a date, counted on by the next date
pub every_day : (c : Calendar) (n : ℕ) → new_year c 1 ≤ n → HasDate c n
every_day c n h =
    let e : new_year c 1 + (n - new_year c 1) ≡ n = omega arith in
    rw e at (counted_on c (n - new_year c 1))

-- what tells a date from its range of months and days
pub ruleset date_told = (range, bounds_date)
