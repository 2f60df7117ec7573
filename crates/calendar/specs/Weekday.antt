-- Weekdays.
use Rattle.std.specs.Prelude.{Bool, ℕ, suc, pred, ◌+◌, ◌%◌, eqb}
use Rattle.calendar.specs.Refusal.{checked}
use Rattle.calendar.specs.Search.{first_of}
use Rattle.calendar.specs.Span.{span_tests}
use Rattle.calendar.specs.Style.{dates_by, style_of, in_style}
use Rattle.calendar.specs.declared.style.Style.{Style}
use Rattle.calendar.specs.declared.weekday.Side.TheVariants.{After, Before}
use Rattle.calendar.specs.declared.weekday.Side.{Side}
use Rattle.calendar.specs.declared.weekday.Start.TheVariants.{Counted, Uncounted}
use Rattle.calendar.specs.declared.weekday.Start.{Start}
use Rattle.std.specs.Prelude.{Result, Ok, Err}
use Rattle.calendar.specs.declared.refusal.Refusal.{Refusal}

-- "1 Monday to 7 Sunday, as in ISO 8601: the day number's remainder by 7, plus 1"
abbrev pub weekday : ℕ → ℕ
weekday n = n % 7 + 1

abbrev pub sunday : ℕ
sunday = 7

-- "The call takes a style and a day of that style's span.": refused by 6
abbrev pub weekday_in_style : Style → ℕ → Result ℕ Refusal
weekday_in_style s n = checked Err (Ok (weekday n)) (span_tests (dates_by s) n)

-- weekday in the style with the number k: refused by 1, and else as in the style
abbrev pub weekday_of_day : ℕ → ℕ → Result ℕ Refusal
weekday_of_day k n = in_style Err (λ s. weekday_in_style s n) (style_of k)

-- the next day on a side; before the day 0 it is 0 again
abbrev pub neighbour : Side → ℕ → ℕ
neighbour After n = suc n
neighbour Before n = pred n

-- the day n falls on the weekday w
abbrev pub falls_on : ℕ → ℕ → Bool
falls_on w n = eqb (weekday n) w

-- the day from which a search on a side of n goes: n itself where it counts, and else the next
abbrev pub search_from : Start → Side → ℕ → ℕ
search_from Counted x n = n
search_from Uncounted x n = neighbour x n

-- "the first such weekday strictly later, .. strictly earlier", or, where the starting day counts, "on or after" and "on or before": the first of seven
-- days on that side of n that falls on w
unfoldable pub first_weekday : Start → Side → ℕ → ℕ → ℕ
first_weekday c x w n = first_of (neighbour x) (falls_on w) 7 (search_from c x n)

-- how many days from n the first day that is looked at lies
abbrev pub least_away : Start → ℕ
least_away Counted = 0
least_away Uncounted = 1
