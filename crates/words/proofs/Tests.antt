-- Several tests that antt computes at each number up to a bound, and what one of them says at one number.
use mathlib.Core.Bool.{Bool, true, false, ◌&&◌, cond}
use mathlib.Core.List.{List, [], ◌∷◌}
use mathlib.Core.Path.{◌≡◌, refl, subst}
use Prim.Native.Nat.{ℕ, zero, suc, ◌-◌, ◌≤◌}
use native.Mathlib.Decide.{dec_lt}
use native.Mathlib.Omega.{arith}
use lib.Dec.{T}
use lib.ListN.{get_or}
use Rattle.calendar.proofs.Each.{each, below, is_true, T-both}

abbrev pub every : List Bool → Bool
every [] = true
every (b ∷ bs) = b && every bs

one_of : (bs : List Bool) → T (every bs) → (i : ℕ) → get_or bs i true ≡ true
one_of [] t i = refl
one_of (b ∷ bs) t zero = is_true b (T-both b (every bs) t).0
one_of (b ∷ bs) t (suc i) = one_of bs (T-both b (every bs) t).1 i

-- the numbers go from 1 to n
pub tested : (tests : ℕ → List Bool) (n : ℕ) → T (each (λ k. every (tests (suc k))) n)
    → (k : ℕ) → 1 ≤ k → k ≤ n → (i : ℕ) → get_or (tests k) i true ≡ true
tested tests n t k low high i =
    let number : suc (k - 1) ≡ k = omega arith in
    rw number at (one_of (tests (suc (k - 1))) (below (λ k. every (tests (suc k))) n t (k - 1) (omega arith)) i)

-- what holds at each of the numbers from 1 to n holds at one of them
abbrev pub Each : (ℕ → Type 0) → ℕ → Type 0
Each P zero = Unit
Each P (suc n) = P (suc n) × Each P n

pub each_at : (P : ℕ → Type 0) (n : ℕ) → Each P n → (k : ℕ) → (1 ≤ k) × (k ≤ n) → P k
each_at P zero e k good = absurd (omega arith)
each_at P (suc n) e k good =
    elim (dec_lt n k) [
      | yes h ↦ subst P (omega arith) e.0
      | no h ↦ each_at P n e.1 k (good.0, omega arith)
    ]

-- what holds of both results of a test, as it comes out, holds of what is chosen by it
pub by_test : {A : Type 0} (P : A → Type 0) (b : Bool) {x y : A} → (b ≡ true → P x) → (b ≡ false → P y) → P (cond b x y)
by_test P true t f = t refl
by_test P false t f = f refl
