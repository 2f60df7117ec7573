-- What a search from day to day finds.
use mathlib.Core.Bool.{Bool, true, false, cond}
use mathlib.Core.Path.{◌≡◌, refl}
use Prim.Native.Nat.{ℕ, zero, suc, pred, ◌+◌, ◌≤◌, ◌<◌}
use native.Mathlib.Decide.{dec_lt}
use native.Mathlib.Omega.{arith}
use Rattle.calendar.specs.Search.{first_of}

either_way : (b : Bool) (n : ℕ) → n ≡ 0 → cond b 0 n ≡ 0
either_way true n e = refl
either_way false n e = e

module _ (test : ℕ → Bool) where
  -- a day that passes, and none on the way to it
  pub found_later : (k n d : ℕ) → n ≤ d → d < n + k
      → ((i : ℕ) → n ≤ i → i < d → test i ≡ false) → test d ≡ true → first_of suc test k n ≡ d
  unfolding first_of
  found_later zero n d from to none passes = absurd (omega arith)
  found_later (suc k) n d from to none passes =
      elim (dec_lt n d) [
        | yes h ↦ rw (none n (omega arith) h) (found_later k (suc n) d h (omega arith) (λ i l g. none i (omega arith) g) passes)
        | no h ↦ let here : n ≡ d = omega arith in rw (here, passes)
      ]

  pub found_earlier : (k n d : ℕ) → d ≤ n → n < d + k
      → ((i : ℕ) → d < i → i ≤ n → test i ≡ false) → test d ≡ true → first_of pred test k n ≡ d
  unfolding first_of
  found_earlier zero n d from to none passes = absurd (omega arith)
  found_earlier (suc k) n d from to none passes =
      elim (dec_lt d n) [
        | yes h ↦ rw (none n h (omega arith)) (found_earlier k (pred n) d (omega arith) (omega arith) (λ i l g. none i l (omega arith)) passes)
        | no h ↦ let here : n ≡ d = omega arith in rw (here, passes)
      ]

  -- no day passes
  pub none_later : (k n : ℕ) → ((i : ℕ) → n ≤ i → test i ≡ false) → first_of suc test k n ≡ 0
  unfolding first_of
  none_later zero n none = refl
  none_later (suc k) n none = rw (none n (omega arith)) (none_later k (suc n) (λ i h. none i (omega arith)))

  -- the day 0 is found or not
  pub none_earlier : (k n : ℕ) → ((i : ℕ) → 0 < i → i ≤ n → test i ≡ false) → first_of pred test k n ≡ 0
  unfolding first_of
  none_earlier zero n none = refl
  none_earlier (suc k) zero none = either_way (test 0) _ (none_earlier k 0 none)
  none_earlier (suc k) (suc n) none = rw (none (suc n) (omega arith) (omega arith)) (none_earlier k n (λ i l h. none i l (omega arith)))
