-- Days of the span, and the years that hold them.
use mathlib.Core.Bool.{true}
use mathlib.Core.Path.{◌≡◌}
use Prim.Native.Nat.{ℕ, suc, ◌+◌, ◌≤◌, ◌<◌}
use native.Mathlib.Omega.{arith}
use Rattle.calendar.proofs.range.Laws.{range, in_range}
use Rattle.calendar.proofs.year.Laws.{new_year_closed, new_year_rises, year_not_after}
use Rattle.calendar.specs.Span.{first_day, last_day, earliest, latest, in_span}
use Rattle.calendar.specs.Year.{new_year, YearOf, first_year, served}
use Rattle.calendar.specs.declared.style.Calendar.TheVariants.{Julian, Gregorian}
use Rattle.calendar.specs.declared.style.Calendar.{Calendar}

-- in_span and served, as facts
pub span_range : (c : Calendar) (n : ℕ) → in_span c n ≡ true → (first_day c ≤ n) × (n ≤ last_day c)
unfolding in_span
span_range c n e = range (first_day c) n (last_day c) e

pub served_range : (c : Calendar) (y : ℕ) → served c y ≡ true → (first_year c ≤ y) × (y ≤ 9999)
unfolding served
served_range c y e = range (first_year c) y 9999 e

-- bounds that hold in both calendars
ends : (c : Calendar) → (1 ≤ first_year c) × (earliest ≤ first_day c) × (last_day c ≤ latest)
ends Julian = omega arith
ends Gregorian = omega arith

pub span_small : (c : Calendar) (n : ℕ) → in_span c n ≡ true → (earliest ≤ n) × (n ≤ latest)
span_small c n e = omega (arith, ends c, span_range c n e)

pub served_small : (c : Calendar) (y : ℕ) → served c y ≡ true → (1 ≤ y) × (y ≤ 9999)
served_small c y e = omega (arith, ends c, served_range c y e)

-- the span begins so many days into the first served year, and ends with the last
abbrev pub days_lost : Calendar → ℕ
days_lost Julian = 0
days_lost Gregorian = 287

pub span_start : (c : Calendar) → first_day c ≡ new_year c (first_year c) + days_lost c
span_start Julian = omega (arith, new_year_closed Julian 0)
span_start Gregorian = omega (arith, new_year_closed Gregorian 1581)

pub span_end : (c : Calendar) → new_year c 10000 ≡ suc (last_day c)
span_end Julian = new_year_closed Julian 9999
span_end Gregorian = new_year_closed Gregorian 9999

-- a day that lies as far in its year as a day of the span, or farther, lies in the span too, up to 9999
pub in_span_from : (c : Calendar) (first y k n : ℕ) → first ≤ y → y ≤ 9999 → first_day c ≤ new_year c first + k → new_year c y + k ≤ n
    → n < new_year c (suc y) → in_span c n ≡ true
unfolding in_span
in_span_from c first y k n from to start low high =
    in_range (first_day c) n (last_day c)
    (omega (arith, new_year_rises c first y from))
    (omega (arith, span_end c, new_year_rises c (suc y) 10000 (omega arith)))

pub after_start : (c : Calendar) (n : ℕ) → in_span c n ≡ true → new_year c 1 ≤ n
after_start c n e = omega (arith, span_start c, span_range c n e, new_year_rises c 1 (first_year c) (ends c).0)

pub new_year_small : (c : Calendar) (y : ℕ) → y ≤ 10000 → new_year c y ≤ suc latest
new_year_small c y h = omega (arith, ends c, span_end c, new_year_rises c y 10000 h)

-- the year of a day of the span is served
pub year_served_lem : (c : Calendar) (n y : ℕ) → in_span c n ≡ true → YearOf c n y → served c y ≡ true
unfolding served
year_served_lem c n y e h =
    let r = span_range c n e in
    in_range (first_year c) y 9999
    (year_not_after c n (first_year c) y (omega (arith, span_start c)) h.to)
    (year_not_after c n y 9999 h.from (omega (arith, span_end c)))

pub its_year : (c : Calendar) (n y : ℕ) → in_span c n ≡ true → YearOf c n y → (1 ≤ y) × (y ≤ 10000)
its_year c n y e h = omega (arith, served_small c y (year_served_lem c n y e h))
