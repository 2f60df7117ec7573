-- Dates of a calendar and the days of its span.
use mathlib.Core.Bool.{Bool, true, false}
use mathlib.Core.List.{[], ◌∷◌}
use mathlib.Core.Path.{◌≡◌, refl, sym, ◌∙◌, ap}
use Prim.Native.Nat.{ℕ, suc, pred, ◌+◌, ◌≤◌}
use native.Mathlib.Omega.{arith}
use Rattle.calendar.proofs.date.Dates.{in_year, found, date_bounds, bounds_date, Dated, DatedOn, year_of, one_date, next_dated, every_day}
use Rattle.calendar.proofs.date.Months.{month_small}
use Rattle.calendar.proofs.refusal.Laws.{both_checked, no_day, passed}
use Rattle.calendar.proofs.span.Laws.{its_year, span_small, served_small, year_served_lem, after_start}
use Rattle.calendar.specs.Date.{is_date, day_number, date_tests, day_in_calendar, day_in_year, day_of_date, IsDateOf, IsDateInCalendar, next_date}
use Rattle.calendar.specs.Refusal.{◌unless◌, checked}
use Rattle.calendar.specs.Span.{earliest, latest, in_span, span_tests}
use Rattle.calendar.specs.Style.{dates_by, style_of, in_style}
use Rattle.calendar.specs.Year.{named, leap, served}
use Rattle.calendar.specs.declared.refusal.Refusal.TheVariants.{Year, Span}
use Rattle.calendar.specs.declared.style.Calendar.{Calendar}
use Rattle.calendar.specs.declared.style.Style.{Style}
use Rattle.std.specs.Prelude.{Result, Ok, Err}
use Rattle.calendar.specs.declared.refusal.Refusal.{Refusal}
use Rattle.calendar.specs.declared.date.CalendarDate.{CalendarDate}
use Rattle.calendar.specs.Date.{date}

-- a date that is answered with a day is the date of that day, which lies in the span
pub dated : (c : Calendar) (n y m d : ℕ) → day_in_calendar c y m d ≡ Ok n → (in_span c n ≡ true) × Dated c n y m d
unfolding day_in_calendar
dated c n y m d e =
    let p = passed (date_tests c y m d) (day_number c y m d) n e in
    let number = p.1 in (
      rw number at p.0.1.1.0,
      record { year = (served_small c y p.0.0).0; date = date_bounds c y m d p.0.1.0; number = number },
    )

-- its numbers are small
pub date_small : (c : Calendar) (n y m d : ℕ) → day_in_calendar c y m d ≡ Ok n
    → ((1 ≤ d) × (d ≤ 31)) × ((1 ≤ m) × (m ≤ 12)) × ((1 ≤ y) × (y ≤ 9999))
unfolding day_in_calendar
date_small c n y m d e =
    let p = passed (date_tests c y m d) (day_number c y m d) n e in
    let b = date_bounds c y m d p.0.1.0 in
    let k : suc (pred m) ≡ m = omega (arith, b.month_low) in
    let most = rw k at (month_small (leap c y) (pred m) (omega (arith, b.month_low, b.month_high))) in
    ((b.day_low, omega (arith, b.day_high)), (b.month_low, b.month_high), served_small c y p.0.0)

-- and the date of a day of the span is answered with it: its year is served
pub has_day : (c : Calendar) (n y m d : ℕ) → in_span c n ≡ true → Dated c n y m d → day_in_calendar c y m d ≡ Ok n
unfolding day_in_calendar
has_day c n y m d i h = rw (year_served_lem c n y i (year_of c n y m d h), bounds_date c y m d h.date, h.number, i)

-- so that date is what day to date answers, and no other
pub day_date : (c : Calendar) (n y m d : ℕ) → day_in_calendar c y m d ≡ Ok n → IsDateInCalendar c n (Ok (date y m d))
day_date c n y m d e = rw (dated c n y m d e).0 e

one_of : (c : Calendar) (n : ℕ) (a b : Result CalendarDate Refusal) → IsDateOf c n a → IsDateOf c n b → a ≡ b
one_of c n (Ok t) (Ok t') p q =
    ap Ok (one_date c n t.year t.month t.day t'.year t'.month t'.day (dated c n t.year t.month t.day p).1 (dated c n t'.year t'.month t'.day q).1)
one_of c n (Ok t) (Err x) p q = absurd q
one_of c n (Err x) b p q = absurd p

-- Any two answers that day to date may give are equal, in a calendar.
pub one_answer_in_calendar : (c : Calendar) (n : ℕ) (a b : Result CalendarDate Refusal) → IsDateInCalendar c n a → IsDateInCalendar c n b → a ≡ b
one_answer_in_calendar c n a b h g = both_checked (span_tests c n) (λ x (p : a ≡ Err x) (q : b ≡ Err x). p ∙ sym q) (one_of c n a b) h g

-- every day of the span has a date
pub has_date : (c : Calendar) (n : ℕ) → in_span c n ≡ true → (y : ℕ) × (m : ℕ) × (d : ℕ) × (day_in_calendar c y m d ≡ Ok n)
has_date c n i =
    let h = every_day c n (after_start c n i) in
    (h.0, h.1, h.2, has_day c n h.0 h.1 h.2 i h.3)

of_span : (c : Calendar) (n : ℕ) (a : Result CalendarDate Refusal) → in_span c n ≡ true → DatedOn c n a → IsDateInCalendar c n a
of_span c n (Ok t) i h = day_date c n t.year t.month t.day (has_day c n t.year t.month t.day i h)
of_span c n (Err x) i h = absurd h

-- the date of the next day is the next date
pub next_date_lem : (c : Calendar) (n y m d : ℕ) → IsDateInCalendar c n (Ok (date y m d)) → in_span c (n + 1) ≡ true → IsDateInCalendar c (n + 1) (next_date c y m d)
next_date_lem c n y m d h i = of_span c (n + 1) (next_date c y m d) i (next_dated c n y m d (dated c n y m d (go (in_span c n) h)).1)
  where
    go : (b : Bool) → checked (λ x. Ok (date y m d) ≡ Err x) (day_in_calendar c y m d ≡ Ok n) (Span unless b ∷ [])
        → day_in_calendar c y m d ≡ Ok n
    go true h = h
    go false h = let z : ◌≡◌ {A = ℕ} 0 1 = cc in absurd (omega arith)

-- a style's number that is answered with a day names a style
known_in : (t : Result Style Refusal) (n y m d : ℕ) → in_style Err (λ s. day_in_year (named s y) m d) t ≡ Ok n
    → (s : Style) × (t ≡ Ok s) × (day_in_year (named s y) m d ≡ Ok n)
known_in (Ok s) n y m d e = (s, refl, e)
known_in (Err x) n y m d e = no_day x n e

pub known_style : (k n y m d : ℕ) → day_of_date k y m d ≡ Ok n → (s : Style) × (style_of k ≡ Ok s) × (day_in_year (named s y) m d ≡ Ok n)
known_style k n y m d e = known_in (style_of k) n y m d e

pub day_range : (k n y m d : ℕ) → day_of_date k y m d ≡ Ok n → (earliest ≤ n) × (n ≤ latest)
day_range k n y m d e =
    let h = known_style k n y m d e in
    span_small (dates_by h.0) n (dated (dates_by h.0) n y m d h.2).0

answered_case : (c : Calendar) (y m d : ℕ) (t : Bool) → served c y ≡ t → is_date c y m d ≡ true → (t ≡ true → in_span c (day_number c y m d) ≡ true)
    → day_in_calendar c y m d ≡ checked Err (Ok (day_number c y m d)) (Year unless t ∷ [])
unfolding day_in_calendar
answered_case c y m d true e h i = rw (e, h, i refl)
answered_case c y m d false e h i = rw e

-- a date that lies in the span in each served year is refused by 4 alone
pub answered : (c : Calendar) (y m d : ℕ) → is_date c y m d ≡ true → (served c y ≡ true → in_span c (day_number c y m d) ≡ true)
    → day_in_calendar c y m d ≡ checked Err (Ok (day_number c y m d)) (Year unless served c y ∷ [])
answered c y m d h i = answered_case c y m d _ refl h i

-- what finds the date of a day of the span
pub ruleset date_found = (in_year, found, has_day, its_year)
