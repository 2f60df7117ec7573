-- How much of the input is taken.
use Rattle.std.specs.Prelude.{ℕ, ◌≤◌, Result, Ok, Err}

-- r is no more than a buffer of so many bytes has
abbrev pub TakenInside : {E : Type 0} → ℕ → Result ℕ E → Type 0
TakenInside size (Ok n) = n ≤ size
TakenInside size (Err e) = Unit
