-- Searches that go from day to day.
use Rattle.std.specs.Prelude.{Bool, cond, ℕ, zero, suc}

-- the first of the k days n, next n, next (next n), .. that passes the test; 0 where none does
unfoldable pub first_of : (ℕ → ℕ) → (ℕ → Bool) → ℕ → ℕ → ℕ
first_of next test zero n = 0
first_of next test (suc k) n = cond (test n) n (first_of next test k (next n))
