-- The first weekday on a side of a day, in closed form.
use mathlib.Core.Bool.{true, false}
use mathlib.Core.Path.{◌≡◌, ◌∙◌, ap}
use Prim.Native.Nat.{ℕ, suc, pred, ◌+◌, ◌-◌, ◌*◌, ◌%◌, ◌≤◌, ◌<◌}
use native.Mathlib.Omega.{arith}
use borrow.Author.Tests.{eq-eqb, ne_eqb}
use Rattle.calendar.proofs.Searches.{found_later, found_earlier, none_later, none_earlier}
use Rattle.calendar.proofs.range.Laws.{range, in_range}
use Rattle.calendar.specs.Steps.{latest_of_seven}
use Rattle.calendar.specs.Weekday.{weekday, falls_on, search_from, least_away, first_weekday}
use Rattle.calendar.specs.declared.weekday.Side.TheVariants.{After, Before}
use Rattle.calendar.specs.declared.weekday.Side.{Side}
use Rattle.calendar.specs.declared.weekday.Start.TheVariants.{Counted, Uncounted}
use Rattle.calendar.specs.declared.weekday.Start.{Start}

falls : (w n : ℕ) → weekday n ≡ w → falls_on w n ≡ true
falls w n e = eq-eqb (weekday n) w e

misses : (w n : ℕ) → (weekday n ≡ w → ⊥) → falls_on w n ≡ false
misses w n e = ne_eqb (weekday n) w e

-- how far the latest of seven days, with 7 added, lies behind the one that falls on w
abbrev pub back_to : ℕ → ℕ → ℕ
back_to w latest = (latest + 8 - w) % 7 + 7

sevens : (n k : ℕ) → (n + 7 * k) % 7 ≡ n % 7
sevens n k = omega arith

-- the same without a difference
pub back_closed : (w latest : ℕ) → 1 ≤ w → w ≤ 7 → (latest + 1 + 6 * w) % 7 + 7 ≡ back_to w latest
back_closed w latest low high =
    let e : latest + 1 + 6 * w ≡ latest + 8 - w + 7 * (w - 1) = omega arith in
    ap (λ (r : ℕ). r + 7) (ap (λ (n : ℕ). n % 7) e ∙ sevens (latest + 8 - w) (w - 1))

-- the search goes from the day n or from the next
later_from : (c : Start) (n : ℕ) → latest_of_seven c After n ≡ search_from c After n + 13
later_from Counted n = omega arith
later_from Uncounted n = let next : suc n ≡ n + 1 = omega arith in rw next (omega arith)

earlier_from : (c : Start) (n : ℕ) → search_from c Before n ≡ latest_of_seven c Before n - 7
earlier_from Counted n = omega arith
earlier_from Uncounted n = let next : pred n ≡ n - 1 = omega arith in rw next (omega arith)

-- no day falls on a number that is no weekday
pub no_weekday : (c : Start) (x : Side) (w n : ℕ) → (1 ≤ w → w ≤ 7 → ⊥) → first_weekday c x w n ≡ 0
unfolding first_weekday
no_weekday c After w n h = none_later (falls_on w) 7 (search_from c After n) (λ i l. misses w i (λ q. h (omega arith) (omega arith)))
no_weekday c Before w n h = none_earlier (falls_on w) 7 (search_from c Before n) (λ i l g. misses w i (λ q. h (omega arith) (omega arith)))

-- the first days have not every weekday before them
pub too_early : (c : Start) (x : Side) (w n : ℕ) → 1 ≤ w → w ≤ 7 → latest_of_seven c x n < back_to w (latest_of_seven c x n) → first_weekday c x w n ≡ 0
unfolding first_weekday
too_early c After w n low high early = absurd (omega (arith, later_from c n))
too_early c Before w n low high early =
    let from = earlier_from c n in
    none_earlier (falls_on w) 7 (search_from c Before n) (λ i l g. misses w i (λ q. omega arith))

-- and the closed form
pub closed : (c : Start) (x : Side) (w n : ℕ) → 1 ≤ w → w ≤ 7 → back_to w (latest_of_seven c x n) ≤ latest_of_seven c x n
    → first_weekday c x w n ≡ latest_of_seven c x n - back_to w (latest_of_seven c x n)
unfolding first_weekday
closed c After w n low high h =
    let from = later_from c n in
    let d = latest_of_seven c After n - back_to w (latest_of_seven c After n) in
    found_later (falls_on w) 7 (search_from c After n) d (omega arith) (omega arith) (λ i l g. misses w i (λ q. omega arith)) (falls w d (omega arith))
closed c Before w n low high h =
    let from = earlier_from c n in
    let d = latest_of_seven c Before n - back_to w (latest_of_seven c Before n) in
    found_earlier (falls_on w) 7 (search_from c Before n) d (omega arith) (omega arith) (λ i l g. misses w i (λ q. omega arith)) (falls w d (omega arith))

-- what is found falls on that weekday, and lies within a week
pub is_later : (c : Start) (w n : ℕ) → 1 ≤ w → w ≤ 7
    → let d = first_weekday c After w n in
    (n + least_away c ≤ d) × (d ≤ n + least_away c + 6) × (weekday d ≡ w)
is_later Counted w n low high = rw (closed Counted After w n low high (omega arith)) (omega arith)
is_later Uncounted w n low high = rw (closed Uncounted After w n low high (omega arith)) (omega arith)

pub is_earlier : (c : Start) (w n : ℕ) → 1 ≤ w → w ≤ 7 → 7 ≤ n
    → let d = first_weekday c Before w n in
    (d + least_away c ≤ n) × (n ≤ d + least_away c + 6) × (weekday d ≡ w)
is_earlier Counted w n low high late = rw (closed Counted Before w n low high (omega arith)) (omega arith)
is_earlier Uncounted w n low high late = rw (closed Uncounted Before w n low high (omega arith)) (omega arith)

-- what finds the first weekday on a side of a day
pub ruleset first_found = (range, in_range, no_weekday, too_early, closed)
