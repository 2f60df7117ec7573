-- From 500 on the Easter by the J rule never comes before the Easter by the G rule of the same year.
use mathlib.Core.Bool.{Bool, true, false, ◌&&◌, cond, and-eq-true_iff}
use mathlib.Core.Path.{◌≡◌, refl}
use Prim.Native.Nat.{ℕ, ◌+◌, ◌-◌, ◌*◌, ◌/◌, ◌%◌, ◌≤◌}
use native.Mathlib.Omega.{arith}
use lib.Dec.{eqb, ltb}
use borrow.Author.Tests.{ltb-true, ltb-false, eqb-true}
use Rattle.calendar.proofs.year.Laws.{fourth_hundreds}
use Rattle.church.proofs.arithmetic.Laws.{z, gregorian_closed, one_limit}
use Rattle.church.proofs.easter.Laws.{lag, equinoxes_apart, limit_range, march_from, easter_facts}
use Rattle.church.specs.Arithmetic.{b_of, settled, arithmetic_limit}
use Rattle.church.specs.Easter.{limit, march, easter}
use Rattle.church.specs.Epact.{golden, hundreds}
use Rattle.calendar.specs.declared.style.Calendar.TheVariants.{Julian, Gregorian}

-- the exceptions make a limit earlier only
settled_low : (g n : ℕ) → settled g n ≤ n
settled_low g n = go _ _ refl refl
  where
    go : (a b : Bool) → eqb n 49 && ltb 11 g ≡ a → eqb n 50 ≡ b → cond a 48 (cond b 49 n) ≤ n
    go true b e f = omega (arith, eqb-true n 49 ((and-eq-true_iff (eqb n 49) (ltb 11 g)).0 e).0)
    go false true e f = omega (arith, eqb-true n 50 f)
    go false false e f = omega arith

-- before the exceptions the G limit of a golden number's b is no later than the J one, counted in G's March
by_thirties : (n : ℕ) → (n % 30 ≤ n) × (30 ≤ n → n % 30 + 30 ≤ n)
by_thirties n = (omega arith, λ h. omega arith)

parts : (c : ℕ) → 5 ≤ c → (z c + c / 4 + (8 * c + 13) / 25 ≡ 3 + c) × (3 ≤ z c) × (2 ≤ (8 * c + 13) / 25)
parts c late = (omega arith, omega arith, omega arith)

brought_low : (c b : ℕ) (t : Bool) → 5 ≤ c → b ≤ 29 → ltb 26 b ≡ t → 21 + (44 + z c - b + 9) % 30 ≤ cond t (77 - b) (47 - b) + (c - c / 4 - 2)
brought_low c b t late small = go (z c) (c / 4) ((8 * c + 13) / 25) t (parts c late)
  where
    go : (n q m : ℕ) (t : Bool) → (n + q + m ≡ 3 + c) × (3 ≤ n) × (2 ≤ m) → ltb 26 b ≡ t
        → 21 + (44 + n - b + 9) % 30 ≤ cond t (77 - b) (47 - b) + (c - q - 2)
    go n q m true p e = let r = by_thirties (44 + n - b + 9) in omega (arith, ltb-true, r.0)
    go n q m false p e = let r = (by_thirties (44 + n - b + 9)).1 (omega (arith, ltb-false)) in omega (arith, ltb-false, r)

limit_order : (y : ℕ) → 500 ≤ y → limit Gregorian y ≤ limit Julian y + lag y
unfolding arithmetic_limit
limit_order y late =
    let g = golden y in
    let c = hundreds y in
    let b = b_of g in
    let low = settled_low g (21 + (44 + z c - b + 9) % 30) in
    rw (← one_limit Gregorian y, ← one_limit Julian y, gregorian_closed g c b (omega arith), ← fourth_hundreds y)
    (omega (arith, low, brought_low c b _ (omega arith) (omega arith) refl))

-- From 500 on the Easter by the J rule is never before that by the G rule.
pub easter_order : (y : ℕ) → 500 ≤ y → easter Gregorian y ≤ easter Julian y
easter_order y late =
    let new = march_from Gregorian y (limit Gregorian y) (limit_range Gregorian y).0 in
    let old = march_from Julian y (limit Julian y) (limit_range Julian y).0 in
    let order : march Gregorian y (limit Gregorian y) ≤ march Julian y (limit Julian y) =
    omega (arith, new, old, limit_order y late, equinoxes_apart y (omega arith), limit_range Gregorian y) in
    omega (arith, order, easter_facts Gregorian y, easter_facts Julian y)
