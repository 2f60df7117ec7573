-- Days of a style's span.
use Rattle.std.specs.Prelude.{false, ◌≡◌, ℕ, Result, Ok, Err}
use Rattle.calendar.specs.Span.{in_span}
use Rattle.calendar.specs.Style.{dates_by}
use Rattle.calendar.specs.declared.span.SpanDay.{SpanDay}
use Rattle.calendar.specs.declared.refusal.Refusal.TheVariants.{Span}
use Rattle.calendar.specs.declared.refusal.Refusal.{Refusal}
use Rattle.calendar.specs.declared.style.Style.{Style}

-- r is the day n of the span of the style s, or refused by 6 where that has none
abbrev pub IsDayIn : Style → ℕ → Result SpanDay Refusal → Type 0
IsDayIn s n (Ok d) = (d.style ≡ s) × (d.number ≡ n)
IsDayIn s n (Err x) = (x ≡ Span) × (in_span (dates_by s) n ≡ false)
