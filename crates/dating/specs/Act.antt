-- How each wrapper moves a day.
use Rattle.std.specs.Prelude.{ℕ, ◌+◌, ◌-◌}
use Rattle.calendar.specs.Span.{within}
use Rattle.calendar.specs.Weekday.{first_weekday}
use Rattle.calendar.specs.declared.style.Calendar.{Calendar}
use Rattle.words.specs.declared.wrapper.Wrapper.TheVariants.{Eve, Morrow, Octave, First}
use Rattle.words.specs.declared.wrapper.Wrapper.{Wrapper}
use Rattle.std.specs.Prelude.{Result, Ok, Err}
use Rattle.calendar.specs.declared.refusal.Refusal.{Refusal}

-- "eve is one day earlier, morrow one later, octave seven later; "after" is the first such weekday strictly later, "before" strictly earlier.", and "on or
-- after" and "on or before" are so with the starting day counted: "a feast on that weekday answers itself"
abbrev pub moved : Wrapper → ℕ → ℕ
moved Eve n = n - 1
moved Morrow n = n + 1
moved Octave n = n + 7
moved (First c x w) n = first_weekday c x w n

-- "Callers take the answer apart and hand the refusal on with its number."
abbrev pub and_then : Result ℕ Refusal → (ℕ → Result ℕ Refusal) → Result ℕ Refusal
and_then (Ok n) next = next n
and_then (Err x) next = Err x

-- a wrapper acts on what stands behind it: "Every day on the way must lie in the span."
abbrev pub acted : Calendar → Wrapper → Result ℕ Refusal → Result ℕ Refusal
acted c w r = and_then r (λ n. within c (moved w n))
