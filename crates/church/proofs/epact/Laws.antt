-- Golden numbers and epacts.
use mathlib.Core.Bool.{Bool, true, false, cond}
use mathlib.Core.Path.{◌≡◌, refl, ◌∙◌, ap}
use Prim.Native.Nat.{ℕ, zero, suc, ◌+◌, ◌-◌, ◌*◌, ◌/◌, ◌%◌, ◌≤◌}
use native.Mathlib.Omega.{arith}
use lib.Dec.{ltb}
use lib.IntN.{ℤ, pos, negsuc, sub_ℕ, ◌+ℤ◌, ◌-ℤ◌, ◌*ℤ◌}
use borrow.Author.Tests.{lt-ltb, ltb-true, ltb-false}
use Rattle.church.specs.Epact.{golden, hundreds, by30, gregorian_sum, epact}
use Rattle.calendar.specs.declared.style.Calendar.TheVariants.{Julian, Gregorian}
use Rattle.calendar.specs.declared.style.Calendar.{Calendar}

pub golden_range : (y : ℕ) → (1 ≤ golden y) × (golden y ≤ 19)
unfolding golden
golden_range y = omega arith

-- adding 30 times what is taken away leaves the remainder by 30
less_case : (x y : ℕ) (t : Bool) → ltb x y ≡ t → by30 (cond t (negsuc (y - suc x)) (pos (x - y))) ≡ (x + 30 * y - y) % 30
less_case x y true e = omega (arith, ltb-true)
less_case x y false e = omega (arith, ltb-false)

pub less : (x y : ℕ) → by30 (sub_ℕ x y) ≡ (x + 30 * y - y) % 30
less x y = less_case x y _ refl

sum_case : (a b c : ℕ) (t : Bool) → ltb a c ≡ t → by30 (cond t (negsuc (c - suc a)) (pos (a - c)) +ℤ pos b) ≡ (a + 30 * c - c + b) % 30
sum_case a b c true e =
    let whole : a + 30 * c - c + b ≡ b + 30 * suc (c - suc a) - suc (c - suc a) + 30 * a = omega (arith, ltb-true) in
    rw whole (less b (suc (c - suc a)) ∙ omega arith)
sum_case a b c false e = omega (arith, ltb-false)

sum : (a b c : ℕ) → by30 (pos a -ℤ pos c +ℤ pos b) ≡ (a + 30 * c - c + b) % 30
sum a b zero = omega arith
sum a b (suc c) = sum_case a b (suc c) _ refl

pub sum_closed : (g c : ℕ) → by30 (gregorian_sum g c) ≡ (11 * (g - 1) + 8 + (c / 4 + 30 * c - c) + (8 * c + 13) / 25) % 30
sum_closed g c =
    let same : 11 * (g - 1) + 8 + c / 4 + 30 * c - c + (8 * c + 13) / 25 ≡ 11 * (g - 1) + 8 + (c / 4 + 30 * c - c) + (8 * c + 13) / 25 = omega arith in
    rw (← same) (sum (11 * (g - 1) + 8 + c / 4) ((8 * c + 13) / 25) c)

-- by30 is the remainder by 30: the number is that and a multiple of 30
pub by30_rest : (z : ℤ) → (q : ℤ) × (pos 30 *ℤ q +ℤ pos (by30 z) ≡ z)
by30_rest (pos n) = (pos (n / 30), ap pos (omega arith))
by30_rest (negsuc n) =
    let k = 29 + 30 * (n / 30) in
    let whole : 30 * suc (n / 30) ≡ suc k = omega arith in
    (negsuc (n / 30), rw (whole, lt-ltb (29 - n % 30) (suc k) (omega arith)) (ap negsuc (omega arith)))

pub by30_small : (z : ℤ) → by30 z ≤ 29
by30_small (pos n) = omega arith
by30_small (negsuc n) = omega arith

pub epact_small : (c : Calendar) (y : ℕ) → epact c y ≤ 29
unfolding epact
epact_small Julian y = omega arith
epact_small Gregorian y = by30_small (gregorian_sum (golden y) (hundreds y))
