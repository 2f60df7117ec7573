-- What holds of any count that never falls, as that of the days before a year or a month.
use mathlib.Core.Path.{◌≡◌}
use Prim.Native.Nat.{ℕ, zero, suc, ◌+◌, ◌-◌, ◌≤◌, ◌<◌}
use native.Mathlib.Decide.{dec_lt}
use native.Mathlib.Nat.{le_refl, zero-add, suc-add}
use native.Mathlib.Omega.{arith}

module _ (f : ℕ → ℕ) (grows : (n : ℕ) → f n ≤ f (suc n)) where
  further : (m k : ℕ) → f m ≤ f (k + m)
  further m zero = rw zero-add (le_refl _)
  further m (suc k) = rw suc-add (omega (arith, further m k, grows (k + m)))

  pub rises : (m n : ℕ) → m ≤ n → f m ≤ f n
  rises m n h =
      let e : n - m + m ≡ n = omega arith in
      rw e at (further m (n - m))

  -- what is reached by k is not past what begins after it
  pub not_after : (m n k : ℕ) → f m ≤ k → k < f (suc n) → m ≤ n
  not_after m n k from to =
      elim (dec_lt n m) [
        | yes h ↦ absurd (omega (arith, rises (suc n) m h))
        | no h ↦ omega arith
      ]

  -- a number lies between two neighbours at one place only
  pub one_place : (m n k : ℕ) → f m ≤ k → k < f (suc m) → f n ≤ k → k < f (suc n) → m ≡ n
  one_place m n k from₁ to₁ from₂ to₂ = omega (arith, not_after m n k from₁ to₂, not_after n m k from₂ to₁)
