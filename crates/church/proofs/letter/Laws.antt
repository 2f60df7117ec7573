-- Sunday letters: the letter of a year's Sundays in closed form, and that it is the only one.
use mathlib.Core.Bool.{Bool, true, false, ◌&&◌, ◌||◌, cond, and-true, and-false, and-eq-true_iff}
use mathlib.Core.Logic.{◌↔◌}
use mathlib.Core.Path.{◌≡◌, refl, sym, ◌∙◌}
use Prim.Native.Nat.{ℕ, pred, ◌+◌, ◌-◌, ◌%◌, ◌≤◌}
use native.Mathlib.Omega.{arith}
use lib.Dec.{eqb}
use mir.Val.{bool_byte}
use borrow.Author.Tests.{leb-true, eqb-true, le-leb, lt-ltb, le-ltb}
use Rattle.calendar.proofs.date.Dates.{date_bounds}
use Rattle.calendar.proofs.date.Months.{leap_day}
use Rattle.church.proofs.easter.Laws.{march_21}
use Rattle.calendar.specs.Date.{days_of_months, is_date, day_number}
use Rattle.calendar.specs.Range.{between}
use Rattle.calendar.specs.Weekday.{weekday, sunday}
use Rattle.calendar.specs.Year.{leap, new_year}
use Rattle.church.specs.Easter.{march}
use Rattle.church.specs.Letter.{letter_after, letter_of, Part, first, second, in_part, SundayLetter}
use Rattle.calendar.specs.declared.style.Calendar.{Calendar}

-- the leap day lies before the second part, and makes the first letter one later
before : Part → Bool → ℕ
before first b = 0
before second b = cond b 1 0

abbrev pub ahead : Part → Bool → ℕ
ahead first b = bool_byte b
ahead second b = 0

leap_split : (p : Part) (b : Bool) → (ahead p b ≤ 1) × (before p b + ahead p b ≡ cond b 1 0)
unfolding before
leap_split first true = omega arith
leap_split first false = omega arith
leap_split second true = omega arith
leap_split second false = omega arith

early_month : (m : ℕ) (a b c : Bool) → eqb m 1 ≡ a → eqb m 2 ≡ b → a || b && c ≡ true → m ≤ 2
early_month m true b c e f h = omega (arith, eqb-true)
early_month m false b c e f h = omega (arith, eqb-true m 2 (f ∙ ((and-eq-true_iff b c).0 h).0))

-- days are counted as in a common year, but for a leap day before them
counted : (p : Part) (b : Bool) (m d : ℕ) → 1 ≤ m → m ≤ 12 → in_part p m d ≡ true
    → days_of_months b (pred m) ≡ days_of_months false (pred m) + before p b
unfolding before
counted first b m d low high h =
    let early = early_month m _ _ _ refl refl h in
    rw and-false at (leap_day b false (pred m) (omega arith) (le-ltb 1 (pred m) (omega arith)))
counted second b m d low high h =
    let late = leb-true 3 m h in
    rw and-true at (leap_day b true (pred m) (omega arith) (lt-ltb 1 (pred m) (omega arith)))

-- how far a date and 21 March are apart, told by the date's place in a common year
placed : (c : Calendar) (y : ℕ) (p : Part) (m d : ℕ) → is_date c y m d ≡ true → in_part p m d ≡ true
    → day_number c y m d + 79 + ahead p (leap c y) ≡ march c y 21 + (days_of_months false (pred m) + pred d)
unfolding day_number march
placed c y p m d h g =
    let b = date_bounds c y m d h in
    omega (arith, leap_split p (leap c y), march_21 (leap c y), counted p (leap c y) m d b.month_low b.month_high g)

-- the letter of the Sundays, with e for 21 March
abbrev pub closed : Part → Bool → ℕ → ℕ
closed p b e = letter_after (8 + ahead p b - e % 7)

-- the Sundays of each part of a year bear its letter, and no other day does
pub borne : (c : Calendar) (y : ℕ) (p : Part) (m d : ℕ) → is_date c y m d ≡ true → in_part p m d ≡ true
    → (weekday (day_number c y m d) ≡ sunday) ↔ (letter_of m d ≡ closed p (leap c y) (march c y 21))
borne c y p m d h g =
    let e = placed c y p m d h g in
    let x = leap_split p (leap c y) in
    (λ w. omega arith, λ l. omega arith)

pub sundays : (c : Calendar) (y : ℕ) (p : Part) → SundayLetter c y p (closed p (leap c y) (march c y 21))
sundays c y p m d h g w = (borne c y p m d h g).0 w

-- a month of each part with 31 days
month : Part → ℕ
month first = 1
month second = 3

in_month : (c : Calendar) (y : ℕ) (p : Part) (d : ℕ) → 1 ≤ d → d ≤ 7 → (is_date c y (month p) d ≡ true) × (in_part p (month p) d ≡ true)
unfolding month is_date between
in_month c y first d low high = (rw (le-leb 1 d low, le-leb d 31 (omega arith)), refl)
in_month c y second d low high = (rw (le-leb 1 d low, le-leb d 31 (omega arith)), refl)

one_letter_at : (c : Calendar) (y : ℕ) (p : Part) (l d : ℕ) → 1 ≤ d → d ≤ 7 → weekday (day_number c y (month p) d) ≡ sunday → SundayLetter c y p l
    → l ≡ closed p (leap c y) (march c y 21)
one_letter_at c y p l d low high w h =
    let i = in_month c y p d low high in
    sym (h (month p) d i.0 i.1 w) ∙ sundays c y p (month p) d i.0 i.1 w

-- each part of a year has a Sunday, so its letter is the only one
pub one_letter : (c : Calendar) (y : ℕ) (p : Part) (l : ℕ) → SundayLetter c y p l → l ≡ closed p (leap c y) (march c y 21)
unfolding day_number
one_letter c y p l h =
    let n = new_year c y + days_of_months (leap c y) (pred (month p)) in
    one_letter_at c y p l (7 - n % 7) (omega arith) (omega arith) (omega arith) h
