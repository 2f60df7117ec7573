-- A test that antt computes at each number below a bound, and what it says at one of them; and a number that is none of the first ones.
use mathlib.Core.Bool.{Bool, true, false, ◌&&◌}
use mathlib.Core.Path.{◌≡◌, refl, subst}
use Prim.Native.Nat.{ℕ, zero, suc, ◌+◌, ◌-◌, ◌<◌, ◌≤◌}
use native.Mathlib.Decide.{dec_lt}
use native.Mathlib.Omega.{arith}
use lib.Dec.{T}

abbrev pub each : (ℕ → Bool) → ℕ → Bool
each f zero = true
each f (suc n) = f n && each f n

pub T-both : (a b : Bool) → T (a && b) → T a × T b
T-both true b t = (tt, t)
T-both false b t = absurd t

pub is_true : (b : Bool) → T b → b ≡ true
is_true true t = refl
is_true false t = absurd t

pub below : (f : ℕ → Bool) (n : ℕ) → T (each f n) → (k : ℕ) → k < n → T (f k)
below f zero t k h = absurd (omega arith)
below f (suc n) t k h =
    elim (dec_lt k n) [
      | yes g ↦ below f n (T-both (f n) (each f n) t).1 k g
      | no g ↦ subst (λ (j : ℕ). T (f j)) (omega arith) (T-both (f n) (each f n) t).0
    ]

-- the same for the numbers from 1 to n
pub from_1 : (f : ℕ → Bool) (n : ℕ) → T (each (λ i. f (i + 1)) n) → (k : ℕ) → (1 ≤ k) × (k ≤ n) → T (f k)
from_1 f n t k r =
    let number : k - 1 + 1 ≡ k = omega (arith, r) in
    rw number at (below (λ i. f (i + 1)) n t (k - 1) (omega (arith, r)))

-- and for a test that a truth value takes part in
pub of_both : (f : Bool → ℕ → Bool) (n : ℕ) → T (each (λ k. f true k && f false k) n) → (b : Bool) (k : ℕ) → k < n → T (f b k)
of_both f n t true k h = (T-both (f true k) (f false k) (below (λ k. f true k && f false k) n t k h)).0
of_both f n t false k h = (T-both (f true k) (f false k) (below (λ k. f true k && f false k) n t k h)).1
