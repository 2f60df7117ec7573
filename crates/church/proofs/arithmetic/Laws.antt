-- The limit by arithmetic, and that the month column gives the same.
use mathlib.Core.Bool.{Bool, true, false, ◌&&◌, cond}
use mathlib.Core.Path.{◌≡◌, refl, sym, ◌∙◌, ap}
use Prim.Native.Nat.{ℕ, zero, suc, ◌+◌, ◌-◌, ◌*◌, ◌/◌, ◌%◌, ◌≤◌, ◌<◌}
use native.Mathlib.Omega.{arith}
use lib.Dec.{T, leb, ltb, eqb, eqb→eq}
use lib.IntN.{ℤ, pos, ◌+ℤ◌, ◌-ℤ◌, ◌*ℤ◌, +ℤ_assoc, -ℤ-+ℤ_cancel}
use borrow.Author.Tests.{le-ltb, leb-true, leb-false}
use Rattle.calendar.proofs.Each.{each, below, from_1}
use Rattle.church.proofs.epact.Laws.{golden_range, less, sum_closed, by30_rest, by30_small, epact_small}
use Rattle.calendar.specs.Range.{between}
use Rattle.calendar.specs.Search.{first_of}
use Rattle.church.specs.Arithmetic.{b_of, z_of, brought, settled, gregorian_limit, julian_limit, arithmetic_limit}
use Rattle.church.specs.Column.{stands, walk, luna}
use Rattle.church.specs.Easter.{limit}
use Rattle.church.specs.Epact.{golden, hundreds, by30, gregorian_sum, epact, arabic}
use Rattle.calendar.specs.declared.style.Calendar.TheVariants.{Julian, Gregorian}
use Rattle.calendar.specs.declared.style.Calendar.{Calendar}

-- a difference that is not negative
minus : (x y : ℕ) → y ≤ x → pos x -ℤ pos y ≡ pos (x - y)
minus x zero h = ap pos (omega arith)
minus x (suc y) h = rw (le-ltb x (suc y) h)

-- Z, which is never negative
abbrev pub z : ℕ → ℕ
z c = 3 + c - c / 4 - (8 * c + 13) / 25

pub z_closed : (c : ℕ) → z_of c ≡ pos (z c)
z_closed c = rw (minus (3 + c) (c / 4) (omega arith), minus (3 + c - c / 4) ((8 * c + 13) / 25) (omega arith))

-- What is brought into 21 to 50 by thirties lies there, and differs by a multiple of 30.
pub brought_by_thirties : (n : ℤ) → (21 ≤ brought n) × (brought n ≤ 50) × ((q : ℤ) × (pos 30 *ℤ q +ℤ pos (brought n) ≡ n))
brought_by_thirties n =
    let m = n -ℤ pos 21 in
    let small = by30_small m in
    let rest = by30_rest m in
    let sum = sym (+ℤ_assoc (pos 30 *ℤ rest.0) (pos (by30 m)) (pos 21)) in
    (omega arith, omega arith, (rest.0, sum ∙ ap (λ k. k +ℤ pos 21) rest.1 ∙ -ℤ-+ℤ_cancel n (pos 21)))

-- brought with no negative number on the way
brought_closed : (n : ℕ) → brought (pos n) ≡ 21 + (n + 9) % 30
brought_closed n = rw (less n 21) (omega arith)

pub gregorian_closed : (g c b : ℕ) → b ≤ 29 → gregorian_limit g (z_of c) b ≡ settled g (21 + (44 + z c - b + 9) % 30)
gregorian_closed g c b h = rw (z_closed c, minus (44 + z c) b (omega arith), brought_closed (44 + z c - b))

-- the Gregorian limit as the epact tells it, before its exceptions
abbrev from_epact : ℕ → ℕ
from_epact e = cond (leb e 23) (44 - e) (74 - e)

less_by_30 : (n m k : ℕ) → k ≤ n + 30 * m → (n + 30 * m - k) % 30 ≡ (n + 30 - k % 30) % 30
less_by_30 n m k h = omega arith

-- the epact is b less Z, by thirties
pub epact_sum : (g c : ℕ) → 1 ≤ g → by30 (gregorian_sum g c) ≡ (11 * g + 30 - z c % 30) % 30
epact_sum g c h = rw (sum_closed g c) (ap (λ n. n % 30) (omega arith) ∙ less_by_30 (11 * g) c (z c) (omega arith))

by_epact : (n k : ℕ) (t : Bool) → leb ((n + 30 - k % 30) % 30) 23 ≡ t
    → 21 + (44 + k - n % 30 + 9) % 30 ≡ cond t (44 - (n + 30 - k % 30) % 30) (74 - (n + 30 - k % 30) % 30)
by_epact n k true e = omega (arith, leb-true)
by_epact n k false e = omega (arith, leb-false)

from_epact_lem : (g c : ℕ) → 1 ≤ g → 21 + (44 + z c - b_of g + 9) % 30 ≡ from_epact (by30 (gregorian_sum g c))
from_epact_lem g c h = rw (epact_sum g c h) (by_epact (11 * g) (z c) _ refl)

-- its exceptions, for each epact and golden number
settled_test : ℕ → ℕ → Bool
settled_test e g = eqb (settled g (from_epact e)) (walk Gregorian e (eqb e 25 && ltb 11 g) + 13)

settled_tested : (e g : ℕ) → e < 30 → (1 ≤ g) × (g ≤ 19) → T (settled_test e g)
unfolding settled_test first_of stands between
settled_tested e g h r = from_1 (settled_test e) 19 (below (λ e. each (λ i. settled_test e (i + 1)) 19) 30 tt e h) g r

julian_test : ℕ → Bool
julian_test g = eqb (julian_limit (b_of g)) (walk Julian (11 * g % 30) false + 13)

julian_tested : (g : ℕ) → (1 ≤ g) × (g ≤ 19) → T (julian_test g)
unfolding julian_test first_of stands between
julian_tested g r = from_1 julian_test 19 tt g r

-- The arithmetic and the month column give one limit.
pub one_limit : (c : Calendar) (y : ℕ) → arithmetic_limit c y ≡ limit c y
unfolding arithmetic_limit limit luna epact arabic settled_test julian_test
one_limit Julian y = eqb→eq _ _ (julian_tested (golden y) (golden_range y))
one_limit Gregorian y =
    let g = golden y in
    let c = hundreds y in
    rw (gregorian_closed g c (b_of g) (omega arith), from_epact_lem g c (golden_range y).0)
    (eqb→eq _ _ (settled_tested (by30 (gregorian_sum g c)) g (omega (arith, epact_small Gregorian y)) (golden_range y)))
