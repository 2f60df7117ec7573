-- Days of a style's span: the style and the number make the day.
use mathlib.Core.Bool.{true, Bool-set, true≢false}
use mathlib.Core.HLevel.{is_prop→PathP}
use mathlib.Core.Path.{◌≡◌, sym, ◌∙◌, ap}
use Prim.Native.Nat.{ℕ}
use Rattle.calendar.specs.Day.{IsDayIn}
use Rattle.calendar.specs.Span.{in_span}
use Rattle.calendar.specs.Style.{dates_by}
use Rattle.calendar.specs.declared.refusal.Refusal.{Refusal}
use Rattle.calendar.specs.declared.span.SpanDay.{SpanDay}
use Rattle.calendar.specs.declared.style.Style.{Style}
use Rattle.std.specs.Prelude.{Result, Ok, Err}

same_day : (d e : SpanDay) → d.style ≡ e.style → d.number ≡ e.number → d ≡ e
same_day d e style number =
    λ i.
    record {
      style = style i;
      number = number i;
      in_span = is_prop→PathP (λ j. in_span (dates_by (style j)) (number j) ≡ true) (λ j. Bool-set (in_span (dates_by (style j)) (number j)) true) d.in_span e.in_span i;
    }

-- Any two answers that SpanDay::new may give are equal.
pub one_day_in : (s : Style) (n : ℕ) (r q : Result SpanDay Refusal) → IsDayIn s n r → IsDayIn s n q → r ≡ q
one_day_in s n (Ok d) (Ok e) h k = ap Ok (same_day d e (h.0 ∙ sym k.0) (h.1 ∙ sym k.1))
one_day_in s n (Ok d) (Err x) h k = absurd (true≢false (sym (rw (h.0, h.1) at d.in_span) ∙ k.1))
one_day_in s n (Err x) (Ok e) h k = absurd (true≢false (sym (rw (k.0, k.1) at e.in_span) ∙ h.1))
one_day_in s n (Err x) (Err y) h k = ap Err (h.0 ∙ sym k.0)
