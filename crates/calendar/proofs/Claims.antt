-- What holds beyond the contracts; of the public calls as a user makes them, by a style's number.
use mathlib.Core.Bool.{Bool, true, false, cond}
use mathlib.Core.List.{[], ◌∷◌}
use mathlib.Core.Logic.{◌↔◌, ◌⊎◌, inl, inr}
use mathlib.Core.Path.{◌≡◌, refl, sym, ◌∙◌, ap}
use Prim.Native.Nat.{ℕ, pred, ◌+◌, ◌≤◌, ◌<◌}
use native.Mathlib.Omega.{arith}
use lib.Dec.{eqb}
use lib.IntN.{ℤ, pos, nat_abs}
use borrow.Author.Tests.{le-leb, lt-leb, eqb-true, eqb-false}
use Rattle.calendar.proofs.date.Laws as laws
pub use Rattle.calendar.proofs.date.Laws.{day_range}
use Rattle.calendar.proofs.distance.Laws.{both_days, distance_size, zero_same_day, same_day_zero}
pub use Rattle.calendar.proofs.span.Day.{one_day_in}
use Rattle.calendar.proofs.span.Laws.{span_small}
use Rattle.calendar.proofs.style.Laws.{by_number_lem, both_in, given_by_number, given_of_any}
use Rattle.calendar.proofs.weekday.Laws.{is_later, is_earlier}
use Rattle.calendar.proofs.year.Laws.{new_year_returns}
pub use Rattle.calendar.proofs.year.Laws.{leap_years_return}
use Rattle.calendar.specs.Date.{days_of_months, is_date, day_number, date_tests, day_in_calendar, day_of_date, next_date}
use Rattle.calendar.specs.Date.{IsDateOf, IsDateInStyle, IsDateOfDay, date_numbers}
use Rattle.calendar.specs.Distance.{distance_of_days}
use Rattle.calendar.specs.Range.{between}
use Rattle.calendar.specs.Refusal.{Holds, Lowest, refusal_or_zero, number_or_refusal}
use Rattle.calendar.specs.Return.{ReturnsAfter, weekday_period}
use Rattle.calendar.specs.Span.{first_day, last_day, earliest, in_span, span_tests}
use Rattle.calendar.specs.Style.{style_number, dates_by, style_of, style_or_zero, by_number}
use Rattle.calendar.specs.Weekday.{weekday, weekday_of_day, first_weekday, least_away}
use Rattle.calendar.specs.Year.{days_of_years, new_year, served}
use Rattle.calendar.specs.declared.refusal.Refusal.TheVariants.{Name, Span}
use Rattle.calendar.specs.declared.style.Calendar.TheVariants.{Julian, Gregorian}
use Rattle.calendar.specs.declared.style.Calendar.{Calendar}
use Rattle.calendar.specs.declared.style.Style.TheVariants.{J, G, O}
use Rattle.calendar.specs.declared.style.Style.{Style}
use Rattle.calendar.specs.declared.weekday.Side.TheVariants.{After, Before}
use Rattle.calendar.specs.declared.weekday.Start.TheVariants.{Counted, Uncounted}
use Rattle.calendar.specs.declared.weekday.Start.{Start}
use Rattle.std.specs.Prelude.{Result, Ok, Err}
use Rattle.calendar.specs.declared.refusal.Refusal.{Refusal}
use Rattle.calendar.specs.declared.date.CalendarDate.{CalendarDate}
use Rattle.calendar.specs.Date.{date}

-- Any two answers that day to date may give are equal, in a style and by its number.
pub one_answer_in_style : (s : Style) (n : ℕ) (r r' : Result CalendarDate Refusal) → IsDateInStyle s n r → IsDateInStyle s n r' → r ≡ r'
one_answer_in_style s = laws.one_answer_in_calendar (dates_by s)

pub one_answer : (k n : ℕ) (r r' : Result CalendarDate Refusal) → IsDateOfDay k n r → IsDateOfDay k n r' → r ≡ r'
one_answer k n r r' h h' = both_in (style_of k) (λ s. one_answer_in_style s n r r') (λ x p q. p ∙ sym q) h h'

-- A number names the style that has it, and is refused by 1 where no style has it.
pub style_numbers : (k : ℕ)
    → ((refusal_or_zero (style_of k) ≡ 0) × (style_or_zero (style_of k) ≡ k))
    ⊎ ((refusal_or_zero (style_of k) ≡ 1) × ((s : Style) → style_number s ≡ k → ⊥))
unfolding style_of
style_numbers k = go _ _ _ refl refl refl
  where
    none : (s : Style) → eqb k 1 ≡ false → eqb k 2 ≡ false → eqb k 3 ≡ false → style_number s ≡ k → ⊥
    none J p q r e = eqb-false k 1 p (sym e)
    none G p q r e = eqb-false k 2 q (sym e)
    none O p q r e = eqb-false k 3 r (sym e)

    go : (a b c : Bool) → eqb k 1 ≡ a → eqb k 2 ≡ b → eqb k 3 ≡ c
        → let t = cond a (Ok J) (cond b (Ok G) (cond c (Ok O) (Err Name))) in
        ((refusal_or_zero t ≡ 0) × (style_or_zero t ≡ k)) ⊎ ((refusal_or_zero t ≡ 1) × ((s : Style) → style_number s ≡ k → ⊥))
    go true b c p q r = inl (refl, sym (eqb-true k 1 p))
    go false true c p q r = inl (refl, sym (eqb-true k 2 q))
    go false false true p q r = inl (refl, sym (eqb-true k 3 r))
    go false false false p q r = inr (refl, λ s e. none s p q r e)

-- "The lowest number that holds is given, and none otherwise": date to day, the weekday and day to date are refused by n exactly when it is that.
pub date_to_day_refused : (k y m d n : ℕ) → n < earliest
    → (number_or_refusal (day_of_date k y m d) ≡ n) ↔ Lowest (Holds (by_number (λ s. date_tests (dates_by s) y m d) k)) n
unfolding day_in_calendar
date_to_day_refused k y m d n low =
    given_by_number number_or_refusal Err (λ x. refl) n (λ s. Ok (day_number (dates_by s) y m d)) (λ s. date_tests (dates_by s) y m d) (λ s. tt)
    (λ s all e. omega (arith, span_small (dates_by s) (day_number (dates_by s) y m d) all.1.1.0)) k

pub weekday_refused : (k d n : ℕ) → 1 ≤ n → (refusal_or_zero (weekday_of_day k d) ≡ n) ↔ Lowest (Holds (by_number (λ s. span_tests (dates_by s) d) k)) n
weekday_refused k d n some =
    given_by_number refusal_or_zero Err (λ x. refl) n (λ s. Ok (weekday d)) (λ s. span_tests (dates_by s) d) (λ s. tt) (λ s all e. omega arith) k

pub day_to_date_refused : (k d n : ℕ) (r : Result CalendarDate Refusal) → 1 ≤ n → IsDateOfDay k d r
    → (refusal_or_zero r ≡ n) ↔ Lowest (Holds (by_number (λ s. span_tests (dates_by s) d) k)) n
day_to_date_refused k d n r some h =
    given_of_any (λ x. r ≡ Err x) (λ s. IsDateOf (dates_by s) d r) (refusal_or_zero r) (λ x. ap refusal_or_zero) n (λ s. span_tests (dates_by s) d) (λ s. tt)
    (λ s. is_date_lem (dates_by s) r) k h
  where
    is_date_lem : (c : Calendar) (r : Result CalendarDate Refusal) → IsDateOf c d r → refusal_or_zero r ≡ n → ⊥
    is_date_lem c (Ok t) h e = omega arith
    is_date_lem c (Err x) h e = h

-- Day to date answers the day of a date with that date.
pub date_of_its_day : (k n y m d : ℕ) (r : Result CalendarDate Refusal) → day_of_date k y m d ≡ Ok n → IsDateOfDay k n r → r ≡ Ok (date y m d)
date_of_its_day k n y m d r e h =
    let g = laws.known_style k n y m d e in
    one_answer k n r (Ok (date y m d)) h (rw g.1 (laws.day_date (dates_by g.0) n y m d g.2))

-- Every day of the span has a date.
pub has_date : (s : Style) (n : ℕ) → in_span (dates_by s) n ≡ true → (y : ℕ) × (m : ℕ) × (d : ℕ) × (day_of_date (style_number s) y m d ≡ Ok n)
has_date s n i = rw by_number_lem (laws.has_date (dates_by s) n i)

-- Day to date answers every day of the span with the numbers of a date, whose day is that day.
pub day_of_its_date : (s : Style) (n : ℕ) (r : Result CalendarDate Refusal) → in_span (dates_by s) n ≡ true → IsDateOfDay (style_number s) n r
    → (y : ℕ) × (m : ℕ) × (d : ℕ) × (date_numbers r ≡ y ∷ m ∷ d ∷ []) × (day_of_date (style_number s) y m d ≡ Ok n)
day_of_its_date s n r i h =
    let g = has_date s n i in
    (g.0, g.1, g.2, ap date_numbers (date_of_its_day (style_number s) n g.0 g.1 g.2 r g.3 h), g.3)

-- No two dates of a style have one day.
pub one_date : (k n y m d y' m' d' : ℕ) → day_of_date k y m d ≡ Ok n → day_of_date k y' m' d' ≡ Ok n
    → (y ≡ y') × (m ≡ m') × (d ≡ d')
one_date k n y m d y' m' d' e e' =
    let g = laws.known_style k n y m d e in
    let same = date_of_its_day k n y' m' d' (Ok (date y m d)) e' (rw g.1 (laws.day_date (dates_by g.0) n y m d g.2)) in
    let same_date : date y m d ≡ date y' m' d' = cc in
    (ap (λ t. t.year) same_date, ap (λ t. t.month) same_date, ap (λ t. t.day) same_date)

-- The date of the next day is the next date of the calendar.
pub next_date_lem : (s : Style) (n y m d : ℕ) (r : Result CalendarDate Refusal) → IsDateOfDay (style_number s) n (Ok (date y m d)) → in_span (dates_by s) (n + 1) ≡ true
    → IsDateOfDay (style_number s) (n + 1) r → r ≡ next_date (dates_by s) y m d
next_date_lem s n y m d r h i h' =
    one_answer_in_style s (n + 1) r (next_date (dates_by s) y m d) (rw by_number_lem at h') (laws.next_date_lem (dates_by s) n y m d (rw by_number_lem at h) i)

-- The span begins on 1 January 1 in J and on 15 October 1582 in G, and ends on 31 December 9999 in both.
pub span_ends : (day_number Julian 1 1 1 ≡ first_day Julian)
    × ((day_number Gregorian 1582 10 15 ≡ first_day Gregorian) × ((c : Calendar) → day_number c 9999 12 31 ≡ last_day c))
unfolding day_number days_of_months new_year days_of_years
span_ends = (refl, (refl, λ c. last c))
  where
    last : (c : Calendar) → day_number c 9999 12 31 ≡ last_day c
    last Julian = refl
    last Gregorian = refl

-- Styles whose dates go by one calendar have the same day for every date, and the same date for every day, as G and O do.
pub same_dates : (s s' : Style) (y m d : ℕ) → dates_by s ≡ dates_by s' → day_of_date (style_number s) y m d ≡ day_of_date (style_number s') y m d
same_dates s s' y m d e = rw (by_number_lem s, by_number_lem s', e)

pub same_date_of_day : (s s' : Style) (n : ℕ) (r : Result CalendarDate Refusal) → dates_by s ≡ dates_by s'
    → IsDateOfDay (style_number s) n r → IsDateOfDay (style_number s') n r
same_date_of_day s s' n r e h = rw (by_number_lem s', ← e) (rw (by_number_lem s) at h)

-- Styles of both calendars may name the same day: 5 October 1582 J is 15 October 1582 G, the day 2299161.
pub same_day : (day_of_date (style_number J) 1582 10 5 ≡ Ok 2299161) × (day_of_date (style_number G) 1582 10 15 ≡ Ok 2299161)
unfolding style_of day_in_calendar served is_date in_span between day_number days_of_months new_year days_of_years
same_day = (refl, refl)

-- Where dates go by G, a year below 1582 is refused by 4, whatever the month and the day.
pub early_year : (s : Style) (y m d : ℕ) → dates_by s ≡ Gregorian → y < 1582 → number_or_refusal (day_of_date (style_number s) y m d) ≡ 4
unfolding day_in_calendar served between
early_year s y m d e h = rw (by_number_lem s, e, lt-leb 1582 y h)

-- "5 to 14 October 1582 G are dates, but outside the span.", and so they are in O.
lost_in_g : (d : ℕ) → 5 ≤ d → d ≤ 14 → (is_date Gregorian 1582 10 d ≡ true) × (day_in_calendar Gregorian 1582 10 d ≡ Err Span)
unfolding day_in_calendar served is_date in_span between day_number days_of_months new_year days_of_years
lost_in_g d low high = (
  rw (le-leb 1 d (omega arith), le-leb d 31 (omega arith)),
  rw (le-leb 1 d (omega arith), le-leb d 31 (omega arith), lt-leb 2299161 (2299147 + pred d) (omega arith)),
)

pub lost_days : (s : Style) (d : ℕ) → dates_by s ≡ Gregorian → 5 ≤ d → d ≤ 14
    → (is_date (dates_by s) 1582 10 d ≡ true) × (number_or_refusal (day_of_date (style_number s) 1582 10 d) ≡ 6)
lost_days s d e low high =
    let lost = lost_in_g d low high in
    (rw e lost.0, rw (by_number_lem s, e, lost.1))

-- A distance lies from -3652133 to 3652133.
pub distance_range : (k y m d k' y' m' d' : ℕ) (z : ℤ) → distance_of_days (day_of_date k y m d) (day_of_date k' y' m' d') ≡ Ok z
    → nat_abs z ≤ 3652133
distance_range k y m d k' y' m' d' z h =
    let r = both_days (day_of_date k y m d) (day_of_date k' y' m' d') z h in
    let p = day_range k r.0 y m d r.2 in
    let q = day_range k' r.1 y' m' d' r.3 in
    rw (sym r.4) (distance_size r.0 r.1 3652133 (omega arith) (omega arith))

-- A distance is 0 exactly when both dates have the same day.
pub zero_distance : (p q : Result ℕ Refusal) → (distance_of_days p q ≡ Ok (pos 0)) ↔ ((n : ℕ) × (p ≡ Ok n) × (q ≡ Ok n))
zero_distance p q = (zero_same_day p q, λ h. rw (h.1, h.2) (same_day_zero h.0))

-- The first such weekday after a day, or on or after it, falls on that weekday, is from one to seven days away, or at most six where the day itself counts, and
-- no such day lies between.
pub first_after : (c : Start) (w n : ℕ) → 1 ≤ w → w ≤ 7
    → let d = first_weekday c After w n in
    (weekday d ≡ w) × (n + least_away c ≤ d) × (d ≤ n + least_away c + 6) × ((m : ℕ) → n + least_away c ≤ m → weekday m ≡ w → d ≤ m)
first_after c w n low high =
    let f = is_later c w n low high in
    (f.2, f.0, f.1, λ m later falls. omega (arith, f))

-- The same of the first before a day from 7 on, or on or before it.
pub first_before : (c : Start) (w n : ℕ) → 1 ≤ w → w ≤ 7 → 7 ≤ n
    → let d = first_weekday c Before w n in
    (weekday d ≡ w) × (d + least_away c ≤ n) × (n ≤ d + least_away c + 6) × ((m : ℕ) → m + least_away c ≤ n → weekday m ≡ w → m ≤ d)
first_before c w n low high late =
    let f = is_earlier c w n low high late in
    (f.2, f.0, f.1, λ m earlier falls. omega (arith, f))

-- A day that falls on that weekday is answered by itself where it counts, and by the day a week away where it does not; for any other day both are one.
pub after_differ : (w n : ℕ) → 1 ≤ w → w ≤ 7
    → let counted = first_weekday Counted After w n in
    let uncounted = first_weekday Uncounted After w n in
    (weekday n ≡ w → (counted ≡ n) × (uncounted ≡ n + 7)) × ((weekday n ≡ w → ⊥) → counted ≡ uncounted)
after_differ w n low high =
    let f = is_later Counted w n low high in
    let g = is_later Uncounted w n low high in
    (λ e. (omega arith, omega arith), λ other. omega arith)

pub before_differ : (w n : ℕ) → 1 ≤ w → w ≤ 7 → 7 ≤ n
    → let counted = first_weekday Counted Before w n in
    let uncounted = first_weekday Uncounted Before w n in
    (weekday n ≡ w → (counted ≡ n) × (uncounted + 7 ≡ n)) × ((weekday n ≡ w → ⊥) → counted ≡ uncounted)
before_differ w n low high late =
    let f = is_earlier Counted w n low high late in
    let g = is_earlier Uncounted w n low high late in
    (λ e. (omega arith, omega arith), λ other. omega arith)

-- After 28 years in J, and after 400 in G, leap years return (`leap_years_return`), and each date falls on the same weekday.
pub weekdays_return : (c : Calendar) (m d : ℕ) → ReturnsAfter (weekday_period c) (λ y. weekday (day_number c y m d))
unfolding day_number
weekdays_return c m d y h = rw (leap_years_return c y h, new_year_returns c y h) (omega arith)
