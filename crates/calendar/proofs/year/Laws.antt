-- Counted years in closed form, and the one year that holds a day.
use mathlib.Core.Bool.{Bool, true, false, ◌&&◌, ◌||◌, not, cond}
use mathlib.Core.Path.{◌≡◌, refl, sym, ◌∙◌}
use Prim.Native.Nat.{ℕ, zero, suc, ◌+◌, ◌-◌, ◌*◌, ◌/◌, ◌%◌, ◌≤◌, ◌<◌}
use native.Mathlib.Nat.{le_refl, add-zero, zero-mul, suc-mul, add-mul, one-mul, div-add-mod', mod-lt, div-eq_of_lt-le, add-mod-mod}
use native.Mathlib.Numerals.{add-one}
use native.Mathlib.Omega.{arith}
use borrow.Author.Tests.{eqb-true, eqb-false}
use Rattle.calendar.proofs.Counting.{rises, not_after, one_place}
use Rattle.calendar.specs.Return.{ReturnsAfter, weekday_period}
use Rattle.calendar.specs.Year.{divides, leap, year_length, days_of_years, first_new_year, new_year, YearOf}
use Rattle.calendar.specs.declared.style.Calendar.TheVariants.{Julian, Gregorian}
use Rattle.calendar.specs.declared.style.Calendar.{Calendar}

-- 1 for yes
abbrev bit : Bool → ℕ
bit b = cond b 1 0

-- remainders, and so leap years, return after a multiple
remainder_returns : (y k d : ℕ) → k % d ≡ 0 → (y + k) % d ≡ y % d
remainder_returns y k d h = sym (add-mod-mod y k d) ∙ rw (h, add-zero)

pub leap_years_return : (c : Calendar) → ReturnsAfter (weekday_period c) (leap c)
leap_years_return Julian y h = simp remainder_returns
leap_years_return Gregorian y h = simp remainder_returns

-- the quotient of a number that lies from one multiple up to the next
quotient : (k n q : ℕ) → q * k ≤ n → n < q * k + k → n / k ≡ q
quotient k n q l h = div-eq_of_lt-le k l (rw (add-mul, one-mul) h)

before_multiple : (k n q : ℕ) → 1 ≤ k → q * k ≡ suc n → q ≡ n / k + 1
before_multiple k n zero h e = absurd (omega (arith, zero-mul k))
before_multiple k n (suc q) h e =
    omega (arith, quotient k n q (omega (arith, suc-mul q k)) (omega (arith, suc-mul q k)))

-- a quotient grows by one exactly at a multiple
up : (k n : ℕ) (b : Bool) → 1 ≤ k → divides k (suc n) ≡ b → suc n / k ≡ n / k + bit b
up k n true h e =
    before_multiple k n (suc n / k) h (omega (arith, div-add-mod' (suc n) k, eqb-true (suc n % k) 0 e))
up k n false h e =
    let more : suc n % k ≡ 0 → ⊥ = eqb-false (suc n % k) 0 e in
    let whole = div-add-mod' (suc n) k in
    omega (arith, quotient k n (suc n / k) (omega arith) (omega (arith, mod-lt (suc n) h)))

-- where every multiple of k is one of j, k divides no more than j
fewer : (j k y : ℕ) (a b : Bool) → (y % k ≡ 0 → y % j ≡ 0) → divides j y ≡ a → divides k y ≡ b → bit b ≤ bit a
fewer j k y true true h p q = omega arith
fewer j k y true false h p q = omega arith
fewer j k y false true h p q = absurd (eqb-false (y % j) 0 p (h (eqb-true (y % k) 0 q)))
fewer j k y false false h p q = omega arith

-- the years from 1 to n that end a century, of which the calendar leaves out the leap day, but for each fourth; J leaves out none
abbrev pub hundreds : Calendar → ℕ → ℕ
hundreds Julian n = 0
hundreds Gregorian n = n / 100

-- the days of the years 1 to n
abbrev pub closed : Calendar → ℕ → ℕ
closed c n = 365 * n + n / 4 + hundreds c n / 4 - hundreds c n

-- what is chosen by the calendar is small
pub choices_small : (c : Calendar) (n : ℕ) → (first_new_year c ≤ 1721426) × (hundreds c n ≤ n / 4)
choices_small Julian n = omega arith
choices_small Gregorian n = omega arith

pub fourth_hundreds : (n : ℕ) → n / 100 / 4 ≡ n / 400
fourth_hundreds n = omega arith

-- one common or leap year more, with q, c and d for the multiples of 4, 100 and 400
step_J : (n q : ℕ) (a : Bool) → 365 * n + q + cond a 366 365 ≡ 365 * suc n + (q + bit a)
step_J n q true = omega arith
step_J n q false = omega arith

step_G : (n q c d : ℕ) (a b e : Bool) → c ≤ q → bit b ≤ bit a → bit e ≤ bit b
    → 365 * n + q + d - c + cond (a && not b || e) 366 365 ≡ 365 * suc n + (q + bit a) + (d + bit e) - (c + bit b)
step_G n q c d true true true h i j = omega arith
step_G n q c d true true false h i j = omega arith
step_G n q c d true false true h i j = absurd (omega arith)
step_G n q c d true false false h i j = omega arith
step_G n q c d false true e h i j = absurd (omega arith)
step_G n q c d false false true h i j = absurd (omega arith)
step_G n q c d false false false h i j = omega arith

step : (c : Calendar) (n : ℕ) → closed c n + year_length c (suc n) ≡ closed c (suc n)
step Julian n = rw (up 4 n _ (omega arith) refl) (omega (arith, step_J n (n / 4) (divides 4 (suc n))))
step Gregorian n =
    let y = suc n in
    rw (fourth_hundreds n, fourth_hundreds y, up 4 n _ (omega arith) refl, up 100 n _ (omega arith) refl, up 400 n _ (omega arith) refl)
    (step_G n (n / 4) (n / 100) (n / 400) (divides 4 y) (divides 100 y) (divides 400 y) (choices_small Gregorian n).1
    (fewer 4 100 y _ _ (λ h. omega arith) refl refl) (fewer 100 400 y _ _ (λ h. omega arith) refl refl))

counted : (c : Calendar) (n : ℕ) → days_of_years c n ≡ closed c n
unfolding days_of_years
counted Julian zero = refl
counted Gregorian zero = refl
counted c (suc n) = rw (counted c n) (step c n)

-- the closed form of a year's first day
pub new_year_closed : (c : Calendar) (n : ℕ) → new_year c (n + 1) ≡ first_new_year c + closed c n
unfolding new_year
new_year_closed c n = rw (add-one, counted)

pub new_year_at : (c : Calendar) (y : ℕ) → 1 ≤ y → new_year c y ≡ first_new_year c + closed c (y - 1)
new_year_at c y h =
    let e : y - 1 + 1 ≡ y = omega arith in
    rw e at (new_year_closed c (y - 1))

-- one year later
pub year_up : (c : Calendar) (y : ℕ) → 1 ≤ y → new_year c (suc y) ≡ new_year c y + year_length c y
unfolding new_year days_of_years
year_up c zero h = absurd (omega arith)
year_up c (suc n) h = omega arith

grows : (c : Calendar) (y : ℕ) → new_year c y ≤ new_year c (suc y)
unfolding new_year
grows c zero = le_refl _
grows c (suc n) = omega (arith, year_up c (suc n) (omega arith))

pub new_year_rises : (c : Calendar) (y z : ℕ) → y ≤ z → new_year c y ≤ new_year c z
new_year_rises c = rises (new_year c) (grows c)

-- a year that begins by a day is not past one that ends after it
pub year_not_after : (c : Calendar) (n y z : ℕ) → new_year c y ≤ n → n < new_year c (suc z) → y ≤ z
year_not_after c n y z from to = not_after (new_year c) (grows c) y z n from to

-- a day lies in one year only
pub one_year : (c : Calendar) (n y z : ℕ) → YearOf c n y → YearOf c n z → y ≡ z
one_year c n y z h g = one_place (new_year c) (grows c) y z n h.from h.to g.from g.to

-- the estimate of a day's year by the mean length of a year is that year or the one before
pub record Estimate (c : Calendar) (n k : ℕ) : Type 0 where
  pub from : closed c k ≤ n
  pub to : n < closed c (k + 2)

pub estimate_J : (n k : ℕ) → k ≡ n * 4 / 1461 → Estimate Julian n k
estimate_J n k e = record { from = omega arith; to = omega arith }

pub estimate_G : (n k : ℕ) → k ≡ n * 400 / 146097 → Estimate Gregorian n k
estimate_G n k e = record { from = omega arith; to = omega arith }

pub estimated : (c : Calendar) (n k : ℕ) → first_new_year c ≤ n → Estimate c (n - first_new_year c) k
    → (new_year c (k + 1) ≤ n) × (n < new_year c (k + 1 + 2))
estimated c n k h g =
    let e : k + 1 + 2 ≡ k + 2 + 1 = omega arith in
    (omega (arith, new_year_closed c k), rw e (omega (arith, new_year_closed c (k + 2))))

-- the one correction of the estimate
pub estimate_right : (c : Calendar) (n y : ℕ) → 1 ≤ y → new_year c y ≤ n → n < new_year c (y + 1) → YearOf c n y
estimate_right c n y one from to = record { one = one; from = from; to = rw add-one at to }

pub estimate_low : (c : Calendar) (n y : ℕ) → new_year c (y + 1) ≤ n → n < new_year c (y + 2) → YearOf c n (y + 1)
estimate_low c n y from to =
    let e : y + 2 ≡ y + 1 + 1 = omega arith in
    estimate_right c n (y + 1) (omega arith) from (rw e at to)

-- the weekdays' period has whole weeks
abbrev pub period_weeks : Calendar → ℕ
period_weeks Julian = 1461
period_weeks Gregorian = 20871

closed_returns : (c : Calendar) (n : ℕ) → closed c (n + weekday_period c) ≡ closed c n + 7 * period_weeks c
closed_returns Julian n = omega arith
closed_returns Gregorian n =
    let fours : (n + 400) / 4 ≡ n / 4 + 100 = omega arith in
    let centuries : (n + 400) / 100 ≡ n / 100 + 4 = omega arith in
    rw (fours, centuries) (omega (arith, choices_small Gregorian n))

pub new_year_returns : (c : Calendar) (y : ℕ) → 1 ≤ y → new_year c (y + weekday_period c) ≡ new_year c y + 7 * period_weeks c
new_year_returns c y h =
    let e : y + weekday_period c - 1 ≡ y - 1 + weekday_period c = omega arith in
    rw (new_year_at c (y + weekday_period c) (omega arith), e, closed_returns c (y - 1), new_year_at c y h) (omega arith)
