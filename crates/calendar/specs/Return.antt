-- How far what the years have repeats, for all years from 1 on.
use Rattle.std.specs.Prelude.{◌≡◌, ℕ, ◌+◌, ◌≤◌}
use Rattle.calendar.specs.declared.style.Calendar.TheVariants.{Julian, Gregorian}
use Rattle.calendar.specs.declared.style.Calendar.{Calendar}

module _ {A : Type 0} where
  -- what each year has returns after k years: every year from 1 on has what the year k years later has
  abbrev pub ReturnsAfter : ℕ → (ℕ → A) → Type 0
  ReturnsAfter k has = (y : ℕ) → 1 ≤ y → has (y + k) ≡ has y

  -- it does not return after k years throughout: there is a year in which it differs
  abbrev pub DiffersAfter : ℕ → (ℕ → A) → Type 0
  DiffersAfter k has = (y : ℕ) × (1 ≤ y) × (has (y + k) ≡ has y → ⊥)

-- the years after which leap years and the weekdays of dates return; source document 000 gives them for the Sunday letters, 28 years and 4 centuries
abbrev pub weekday_period : Calendar → ℕ
weekday_period Julian = 28
weekday_period Gregorian = 400
