-- Months: their lengths, and the one month that holds a day of a year.
use mathlib.Core.Bool.{Bool, true, false, ◌&&◌, cond}
use mathlib.Core.Path.{◌≡◌, refl}
use Prim.Native.Nat.{ℕ, zero, suc, pred, ◌+◌, ◌-◌, ◌*◌, ◌/◌, ◌≤◌, ◌<◌}
use native.Mathlib.Nat.{le-add_right}
use native.Mathlib.Omega.{arith}
use lib.Dec.{T, leb, ltb, eqb, leb→le, ltb→lt, eqb→eq}
use Rattle.calendar.proofs.Counting.{rises, one_place}
use Rattle.calendar.proofs.Each.{of_both, below, T-both}
use Rattle.calendar.specs.Date.{month_length, days_of_months, MonthOf}

leap_test : Bool → ℕ → Bool
leap_test b k = eqb (days_of_months b k) (days_of_months false k + cond (b && ltb 1 k) 1 0)

-- the leap day stands before the months from March on
pub leap_day : (b t : Bool) (k : ℕ) → k < 12 → ltb 1 k ≡ t → days_of_months b k ≡ days_of_months false k + cond (b && t) 1 0
unfolding leap_test days_of_months
leap_day b t k h e = rw (← e) (eqb→eq _ _ (of_both leap_test 12 tt b k h))

offset_test : Bool → ℕ → Bool
offset_test b m = eqb (days_of_months b (pred m) + cond (ltb 2 m) 367 0) ((979 * m - 966) / 32 + cond (ltb 2 m) (cond b 366 365) 0)

-- a month begins so many days after the new year, and behind February so many less 367 after the next
pub month_offset : (b t : Bool) (m : ℕ) → m ≤ 12 → ltb 2 m ≡ t
    → days_of_months b (pred m) + cond t 367 0 ≡ (979 * m - 966) / 32 + cond t (cond b 366 365) 0
unfolding offset_test days_of_months
month_offset b t m h e = rw (← e) (eqb→eq _ _ (of_both offset_test 13 tt b m (omega arith)))

some_test : Bool → ℕ → Bool
some_test b k = leb 28 (month_length b (suc k))

pub month_has_days : (b : Bool) (m : ℕ) → 1 ≤ m → m ≤ 12 → 28 ≤ month_length b m
unfolding some_test
month_has_days b zero l h = absurd (omega arith)
month_has_days b (suc m) l h = leb→le _ _ (of_both some_test 12 tt b m (omega arith))

small_test : Bool → ℕ → Bool
small_test b k = leb (month_length b (suc k)) 31

pub month_small : (b : Bool) (m : ℕ) → m < 12 → month_length b (suc m) ≤ 31
unfolding small_test
month_small b m h = leb→le _ _ (of_both small_test 12 tt b m h)

-- the days of a year are those of its months
pub year_days : (b : Bool) → days_of_months b 12 ≡ cond b 366 365
unfolding days_of_months
year_days true = refl
year_days false = refl

pub month_up : (b : Bool) (m : ℕ) → 1 ≤ m → days_of_months b m ≡ days_of_months b (pred m) + month_length b m
unfolding days_of_months
month_up b zero h = absurd (omega arith)
month_up b (suc m) h = refl

grows : (b : Bool) (m : ℕ) → days_of_months b m ≤ days_of_months b (suc m)
unfolding days_of_months
grows b m = le-add_right _ _

pub months_rise : (b : Bool) (m n : ℕ) → m ≤ n → days_of_months b m ≤ days_of_months b n
months_rise b = rises (days_of_months b) (grows b)

pub months_small : (b : Bool) (m : ℕ) → m ≤ 12 → days_of_months b m ≤ 366
months_small true m h = omega (arith, months_rise true m 12 h, year_days true)
months_small false m h = omega (arith, months_rise false m 12 h, year_days false)

-- a day lies in one month only
pub one_month : (b : Bool) (i m n : ℕ) → MonthOf b i m → MonthOf b i n → m ≡ n
one_month b i m n h g =
    let p : suc (pred m) ≡ m = omega arith in
    let q : suc (pred n) ≡ n = omega arith in
    omega (arith, one_place (days_of_months b) (grows b) (pred m) (pred n) i h.from (rw p h.to) g.from (rw q g.to))

-- the estimate of a day's month by months of 32 days is that month or the one before
estimate_test : Bool → ℕ → Bool
estimate_test b i = leb (days_of_months b (i / 32)) i && ltb i (days_of_months b (i / 32 + 2))

estimate_tested : (b : Bool) (i : ℕ) → i < days_of_months b 12 → T (estimate_test b i)
unfolding estimate_test days_of_months
estimate_tested true i h = below (estimate_test true) 366 tt i h
estimate_tested false i h = below (estimate_test false) 365 tt i h

pub month_estimated : (b : Bool) (i : ℕ) → i < days_of_months b 12 → (days_of_months b (i / 32) ≤ i) × (i < days_of_months b (i / 32 + 2))
unfolding estimate_test
month_estimated b i h =
    let t = T-both (leb (days_of_months b (i / 32)) i) (ltb i (days_of_months b (i / 32 + 2))) (estimate_tested b i h) in
    (leb→le _ _ t.0, ltb→lt _ _ t.1)

-- the month behind q whole months, and the one correction of the estimate
month_is : (b : Bool) (i q : ℕ) → q < 12 → days_of_months b q ≤ i → i < days_of_months b (q + 1) → MonthOf b i (q + 1)
month_is b i q h from to =
    let e : pred (q + 1) ≡ q = omega arith in
    record { low = omega arith; high = omega arith; from = rw e from; to = to }

module _ (b : Bool) (i : ℕ) (h : i < days_of_months b 12) where
  pub last_month : i / 32 + 1 ≡ 12 → MonthOf b i 12
  last_month e =
      let q : i / 32 ≡ 11 = omega arith in
      month_is b i 11 (omega arith) (rw q at (month_estimated b i h).0) h

  pub this_month : i / 32 + 1 < 12 → i < days_of_months b (pred (i / 32 + 1 + 1)) → MonthOf b i (i / 32 + 1)
  this_month l g =
      let e : pred (i / 32 + 1 + 1) ≡ i / 32 + 1 = omega arith in
      month_is b i (i / 32) (omega arith) (month_estimated b i h).0 (rw e at g)

  pub next_month : i / 32 + 1 < 12 → days_of_months b (pred (i / 32 + 1 + 1)) ≤ i → MonthOf b i (i / 32 + 1 + 1)
  next_month l g =
      let e : pred (i / 32 + 1 + 1) ≡ i / 32 + 1 = omega arith in
      let two : i / 32 + 2 ≡ i / 32 + 1 + 1 = omega arith in
      month_is b i (i / 32 + 1) l (rw e at g) (rw two at (month_estimated b i h).1)

-- what finds the month of a day
pub ruleset month_found = (months_small, last_month, this_month, next_month)
