-- The days that a style may name, by the calendar that its dates go by.
use Rattle.std.specs.Prelude.{Bool, List, [], ◌∷◌, ℕ}
use Rattle.calendar.specs.Range.{between}
use Rattle.calendar.specs.Refusal.{Test, ◌unless◌, checked}
use Rattle.calendar.specs.declared.refusal.Refusal.TheVariants.{Span}
use Rattle.calendar.specs.declared.style.Calendar.TheVariants.{Julian, Gregorian}
use Rattle.calendar.specs.declared.style.Calendar.{Calendar}
use Rattle.std.specs.Prelude.{Result, Ok, Err}
use Rattle.calendar.specs.declared.refusal.Refusal.{Refusal}

-- "First day" of the span
abbrev pub first_day : Calendar → ℕ
first_day Julian = 1721424
first_day Gregorian = 2299161

-- "Last day (31 December 9999)" of the span
abbrev pub last_day : Calendar → ℕ
last_day Julian = 5373557
last_day Gregorian = 5373484

-- "no day is below 1721424"
abbrev pub earliest : ℕ
earliest = first_day Julian

-- and none is above the last day of J
abbrev pub latest : ℕ
latest = last_day Julian

-- "These are the style's span."
unfoldable pub in_span : Calendar → ℕ → Bool
in_span c n = between (first_day c) n (last_day c)

-- refusal 6: "a day outside the style's span"
abbrev pub span_tests : Calendar → ℕ → List Test
span_tests c n = Span unless in_span c n ∷ []

-- the day n where the span has it, and else the refusal
unfoldable pub within : Calendar → ℕ → Result ℕ Refusal
within c n = checked Err (Ok n) (span_tests c n)
