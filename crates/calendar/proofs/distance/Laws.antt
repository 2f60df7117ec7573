-- The distance of two days: its size, and when it is 0.
use mathlib.Core.Bool.{Bool, true, false, cond}
use mathlib.Core.Path.{◌≡◌, refl, ◌∙◌, ap}
use Prim.Native.Nat.{ℕ, zero, suc, ◌+◌, ◌-◌, ◌≤◌}
use native.Mathlib.Omega.{arith}
use lib.Dec.{ltb}
use lib.IntN.{ℤ, pos, negsuc, nat_abs, -ℤ-+ℤ_cancel, +ℤ_idl, +ℤ_invr}
use borrow.Author.Tests.{ltb-true}
use Rattle.calendar.specs.Distance.{distance, distance_of_days}
use Rattle.std.specs.Prelude.{Result, Ok, Err}
use Rattle.calendar.specs.declared.refusal.Refusal.{Refusal}

size : (a b k : ℕ) (t : Bool) → ltb b a ≡ t → a ≤ b + k → b ≤ a + k → nat_abs (cond t (negsuc (a - suc b)) (pos (b - a))) ≤ k
size a b k true e h g = omega (arith, ltb-true)
size a b k false e h g = omega arith

-- days no further apart than k, whichever is first
pub distance_size : (a b k : ℕ) → a ≤ b + k → b ≤ a + k → nat_abs (distance a b) ≤ k
distance_size zero b k h g = omega arith
distance_size (suc a) b k h g = size (suc a) b k (ltb b (suc a)) refl h g

-- a distance has two days
pub both_days : (p q : Result ℕ Refusal) (z : ℤ) → distance_of_days p q ≡ Ok z
    → (a : ℕ) × (b : ℕ) × (p ≡ Ok a) × (q ≡ Ok b) × (distance a b ≡ z)
both_days (Ok a) (Ok b) z e = (a, b, refl, refl, cc)
both_days (Ok a) (Err x) z e = let o : ◌≡◌ {A = ℕ} 0 1 = cc in absurd (omega arith)
both_days (Err x) q z e = let o : ◌≡◌ {A = ℕ} 0 1 = cc in absurd (omega arith)

pub zero_same_day : (p q : Result ℕ Refusal) → distance_of_days p q ≡ Ok (pos 0) → (n : ℕ) × (p ≡ Ok n) × (q ≡ Ok n)
zero_same_day p q e =
    let r = both_days p q (pos 0) e in
    let same : pos r.1 ≡ pos r.0 = rw (← -ℤ-+ℤ_cancel (pos r.1) (pos r.0), r.4) (+ℤ_idl (pos r.0)) in
    let same_day : r.1 ≡ r.0 = cc in
    (r.0, r.2, r.3 ∙ ap Ok same_day)

pub same_day_zero : (n : ℕ) → distance_of_days (Ok n) (Ok n) ≡ Ok (pos 0)
same_day_zero n = ap Ok (+ℤ_invr (pos n))
