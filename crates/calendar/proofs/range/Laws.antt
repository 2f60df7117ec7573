-- The test that a number lies in a range, as facts and back.
use mathlib.Core.Bool.{true, and-eq-true_iff}
use mathlib.Core.Path.{◌≡◌}
use Prim.Native.Nat.{ℕ, ◌≤◌}
use lib.Dec.{leb}
use borrow.Author.Tests.{leb-true, le-leb}
use Rattle.calendar.specs.Range.{between}

pub range : (a n b : ℕ) → between a n b ≡ true → (a ≤ n) × (n ≤ b)
unfolding between
range a n b e =
    let both = (and-eq-true_iff (leb a n) (leb n b)).0 e in
    (leb-true a n both.0, leb-true n b both.1)

pub in_range : (a n b : ℕ) → a ≤ n → n ≤ b → between a n b ≡ true
unfolding between
in_range a n b l h = rw (le-leb a n l, le-leb n b h)
