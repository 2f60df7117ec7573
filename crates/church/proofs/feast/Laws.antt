-- The code's tables of feasts, and advent.
use mathlib.Core.Bool.{Bool, true, false, ◌&&◌, not, cond}
use mathlib.Core.List.{List, [], ◌∷◌, ◌++◌, map}
use mathlib.Core.Path.{◌≡◌, refl, sym, ◌∙◌, ap}
use Prim.Native.Nat.{ℕ, pred, ◌+◌, ◌-◌, ◌≤◌, ◌<◌}
use native.Mathlib.Nat.{add-zero}
use native.Mathlib.Omega.{arith}
use mir.Val.{to_z, of_z, bool_byte}
use mir.Syntax.{w8, w64}
use Rattle.std.proofs.lemmas.Int.{ints}
use Rattle.calendar.proofs.refusal.Laws.{passed_day, refused_by}
use lib.Dec.{T, leb, eqb, leb→le, eqb→eq}
use lib.IntN.{ℤ, pos, negsuc, ◌+ℤ◌}
use lib.ListN.{get_or}
use Rattle.std.proofs.Math.ListN.{get_or-map, get_or-append}
use Rattle.std.proofs.lemmas.List as list_laws
use Rattle.calendar.proofs.Each.{each, below, from_1, is_true}
use Rattle.calendar.proofs.date.Dates.{date_bounds, year_of}
use Rattle.calendar.proofs.date.Laws.{answered}
use Rattle.calendar.proofs.range.Laws.{range, in_range}
use Rattle.calendar.proofs.span.Laws.{served_small, served_range, span_start, in_span_from}
use Rattle.calendar.proofs.weekday.Laws.{is_later}
use Rattle.calendar.specs.Date.{month_length, days_of_months, is_date, day_number, day_in_calendar, day_in_year}
use Rattle.calendar.specs.Range.{between}
use Rattle.calendar.specs.Refusal.{◌unless◌, checked}
use Rattle.calendar.specs.Span.{first_day, latest, in_span, within}
use Rattle.calendar.specs.Style.{dates_by, easter_by}
use Rattle.calendar.specs.Weekday.{weekday, sunday, first_weekday}
use Rattle.calendar.specs.declared.weekday.Side.TheVariants.{After}
use Rattle.calendar.specs.Year.{named, leap, new_year, YearOf, first_year, served}
use Rattle.church.proofs.easter.Laws.{easter_served, has_year, year_in_span, KeyFits, key_fits, near, hung_in_year}
use Rattle.church.specs.Easter.{has_easter, easter_of_year}
use Rattle.church.specs.declared.feast.TheConstants.{FROM_EASTER, FIXED_DATES}
use Rattle.church.specs.Feast.{Rule, hung, on, on_or_in_leap_years, advent, ◌is◌, rule_of, feasts, rule, advent_sunday, days_from, served_for, date_exists}
use Rattle.church.specs.Feast.{rule_number, rule_day, feast_in_year}
use Rattle.calendar.specs.declared.refusal.Refusal.TheVariants.{Year}
use Rattle.calendar.specs.declared.style.Calendar.TheVariants.{Julian, Gregorian}
use Rattle.calendar.specs.declared.style.Calendar.{Calendar}
use Rattle.calendar.specs.declared.style.Style.{Style}
use Rattle.calendar.specs.declared.weekday.Start.TheVariants.{Counted}
use Rattle.calendar.specs.declared.year.NamedYear.{NamedYear}
use Rattle.std.specs.Prelude.{Ok, Err}
use Rattle.calendar.specs.declared.refusal.Refusal.{Refusal}

-- a row of the code's table of dates, day and month and whether the feast moves in leap years, as a rule
abbrev pub Dated : Type 0
Dated = ℕ × ℕ × Bool

abbrev pub kept : Dated → Rule
kept t = cond t.2 (on_or_in_leap_years t.0 t.1 (t.0 + 1) t.1) (on t.0 t.1)

-- the code's tables hold the rules of the feasts
abbrev hung_rules : List Rule
hung_rules = map (λ z. hung z) FROM_EASTER

abbrev fixed_rules : List Rule
fixed_rules = map kept FIXED_DATES

tables : map rule_of feasts ≡ hung_rules ++ (fixed_rules ++ (advent ∷ []))
tables = refl

rule_at : (f : ℕ) → rule f ≡ get_or (hung_rules ++ (fixed_rules ++ (advent ∷ []))) (pred f) (on 0 0)
rule_at f = sym (get_or-map rule_of feasts (pred f) ("" is on 0 0))

abbrev pub offset : ℕ → ℤ
offset f = get_or FROM_EASTER (f - 1) (pos 0)

pub hung_rule : (f : ℕ) → (1 ≤ f) × (f ≤ 23) → rule f ≡ hung (offset f)
hung_rule f h =
    let place : pred f ≡ f - 1 = omega arith in
    rule_at f
    ∙ get_or-append hung_rules (fixed_rules ++ (advent ∷ [])) (on 0 0) (pred f) (omega arith)
    ∙ rw place (list_laws.get_or-map (λ z. hung z) FROM_EASTER (f - 1) (pos 0) (on 0 0) (omega arith))

pub hung_near : (f : ℕ) → (1 ≤ f) × (f ≤ 23) → T (near (offset f))
hung_near f h = below (λ i. near (get_or FROM_EASTER i (pos 0))) 23 tt (f - 1) (omega arith)

abbrev pub fixed : ℕ → Dated
fixed f = get_or FIXED_DATES (f - 24) (0, 0, false)

pub fixed_rule : (f : ℕ) → (24 ≤ f) × (f ≤ 47) → rule f ≡ kept (fixed f)
fixed_rule f h =
    let place : pred f - 23 ≡ f - 24 = omega arith in
    let small : f - 24 < 24 = omega arith in
    rule_at f
    ∙ list_laws.get_or-append_right hung_rules (fixed_rules ++ (advent ∷ [])) 23 (pred f) (on 0 0) refl (omega arith)
    ∙ rw place (get_or-append fixed_rules (advent ∷ []) (on 0 0) (f - 24) small)
    ∙ list_laws.get_or-map kept FIXED_DATES (f - 24) (0, 0, false) (on 0 0) small

small_date : ℕ → Bool
small_date i = leb (get_or FIXED_DATES i (0, 0, false)).0 31

pub fixed_small : (f : ℕ) → (24 ≤ f) × (f ≤ 47) → (fixed f).0 ≤ 31
unfolding small_date
fixed_small f h = leb→le _ 31 (below small_date 24 tt (f - 24) (omega arith))

pub from_63 : (z : ℤ) (n : ℕ) → T (near z) → days_from z n ≡ n + days_from z 63 - 63
from_63 (pos k) n h = omega arith
from_63 (negsuc k) n h = omega (arith, leb→le k 62 h)

-- what is said of the one of two dates that counts is said of its month and day
pub of_date : {A : Type 0} (f : ℕ → ℕ → A) (b : Bool) (d m d' m' : ℕ) → cond b (f m' d') (f m d) ≡ f (cond b m' m) (cond b d' d)
of_date f true d m d' m' = refl
of_date f false d m d' m' = refl

of_leap : (t : NamedYear) (d m d' m' : ℕ)
    → let l = leap (dates_by t.style) t.year in
    rule_day t (on_or_in_leap_years d m d' m') ≡ rule_day t (on (cond l d' d) (cond l m' m))
of_leap t d m d' m' =
    let c = dates_by t.style in
    let l = leap c t.year in
    rw (of_date (is_date c t.year) l d m d' m', of_date (day_number c t.year) l d m d' m')

-- a row's feast is kept on its day, or a day later
later_day : (b : Bool) (d m : ℕ) → (cond b (d + 1) d ≡ d + bool_byte b) × (cond b m m ≡ m)
later_day true d m = (refl, refl)
later_day false d m = (omega arith, refl)

pub kept_day : (t : NamedYear) (r : Dated)
    → rule_day t (kept r) ≡ day_in_year t r.1 (r.0 + bool_byte (r.2 && leap (dates_by t.style) t.year))
unfolding day_in_calendar
kept_day t r = go r.2
  where
    go : (b : Bool) → rule_day t (cond b (on_or_in_leap_years r.0 r.1 (r.0 + 1) r.1) (on r.0 r.1))
        ≡ day_in_year t r.1 (r.0 + bool_byte (b && leap (dates_by t.style) t.year))
    go true =
        let l = later_day (leap (dates_by t.style) t.year) r.0 r.1 in
        rw (of_leap t r.0 r.1 (r.0 + 1) r.1, l.0, l.1)
    go false = rw add-zero

-- a feast that hangs on Easter is refused as Easter is, and else lies so many days from it
pub hung_refused : (t : NamedYear) (z : ℤ) (x : Refusal) → easter_of_year t ≡ Err x → rule_day t (hung z) ≡ Err x
hung_refused t z x e = let r = refused_by (has_easter (dates_by t.style) t.year) _ _ _ e in rw r.0 (ap Err (sym r.1))

pub hung_told : (t : NamedYear) (z : ℤ) (n : ℕ) → easter_of_year t ≡ Ok n → rule_day t (hung z) ≡ within (dates_by t.style) (days_from z n)
unfolding within
hung_told t z n e = let d = passed_day (has_easter (dates_by t.style) t.year) _ _ _ e in rw (d.0, d.1)

-- as the code's signed numbers have it
pub signed_day : (z : ℤ) (n : ℕ) (a b : ℤ) → T (near z) → 63 ≤ n → n ≤ latest → a ≡ pos n → b ≡ to_z w8 (of_z w8 z)
    → to_z w64 (of_z w64 (to_z w64 (of_z w64 a) +ℤ to_z w64 (of_z w64 b))) ≡ pos (days_from z n)
signed_day (pos k) n a b h low high e g = omega (arith, ints, leb→le k 60 h)
signed_day (negsuc k) n a b h low high e g = omega (arith, ints, leb→le k 62 h)

-- a feast of the table is kept by its rule
pub in_table : (t : NamedYear) (f : ℕ) → between 1 f 48 ≡ true → feast_in_year t f ≡ rule_day t (rule f)
unfolding feast_in_year
in_table t f e = rw e

-- a date lies in its year
dated_in_year : (c : Calendar) (y m d : ℕ) → 1 ≤ y → is_date c y m d ≡ true → YearOf c (day_number c y m d) y
dated_in_year c y m d one e = year_of c (day_number c y m d) y m d (record { year = one; date = date_bounds c y m d e; number = refl })

-- 27 November lies in the span in every served year
november_27 : (c : Calendar) (y : ℕ) → new_year c y + 330 ≤ day_number c y 11 27
unfolding day_number days_of_months
november_27 c y = go (leap c y)
  where
    go : (b : Bool) → new_year c y + 330 ≤ new_year c y + days_of_months b 10 + 26
    go true = omega arith
    go false = omega arith

first_november : (c : Calendar) → first_day c ≤ new_year c (first_year c) + 330
first_november Julian = omega (arith, span_start Julian)
first_november Gregorian = omega (arith, span_start Gregorian)

november_in_span : (c : Calendar) (y : ℕ) → served c y ≡ true → in_span c (day_number c y 11 27) ≡ true
unfolding is_date between
november_in_span c y r =
    let e = served_range c y r in
    let in_year = dated_in_year c y 11 27 (served_small c y r).0 refl in
    in_span_from c (first_year c) y 330 (day_number c y 11 27) e.0 e.1 (first_november c) (november_27 c y) in_year.to

november_answer : (c : Calendar) (y : ℕ)
    → day_in_calendar c y 11 27 ≡ checked Err (Ok (day_number c y 11 27)) (Year unless served c y ∷ [])
unfolding is_date between
november_answer c y = answered c y 11 27 refl (november_in_span c y)

-- advent is refused as 27 November is, and else lies in the week from it
pub advent_refused : (t : NamedYear) (x : Refusal) → day_in_year t 11 27 ≡ Err x → rule_day t advent ≡ Err x
advent_refused t x e =
    let r = refused_by (served (dates_by t.style) t.year) _ _ _ (sym (november_answer (dates_by t.style) t.year) ∙ e) in
    rw r.0 (ap Err (sym r.1))

pub advent_told : (t : NamedYear) (n : ℕ) → day_in_year t 11 27 ≡ Ok n
    → rule_day t advent ≡ within (dates_by t.style) (first_weekday Counted After sunday n)
unfolding within advent_sunday
advent_told t n e =
    let d = passed_day (served (dates_by t.style) t.year) _ _ _ (sym (november_answer (dates_by t.style) t.year) ∙ e) in
    rw (d.0, d.1)

-- the week from 27 November to 3 December
november : (b : Bool) → days_of_months b 11 ≡ days_of_months b 10 + 30
unfolding days_of_months
november b = refl

pub week_long : (c : Calendar) (y : ℕ) → day_number c y 12 3 ≡ day_number c y 11 27 + 6
unfolding day_number
week_long c y = omega (arith, november (leap c y))

pub advent_week : (c : Calendar) (y : ℕ)
    → (weekday (advent_sunday c y) ≡ sunday) × (day_number c y 11 27 ≤ advent_sunday c y) × (advent_sunday c y ≤ day_number c y 12 3)
unfolding advent_sunday
advent_week c y =
    let f = is_later Counted sunday (day_number c y 11 27) (omega arith) (omega arith) in
    let w = week_long c y in
    (f.2, omega arith, omega arith)

-- Matthias lies five days before 1 March, whether or not the year is leap
pub matthias_before_march : (s : Style) (y : ℕ) → rule_number (rule 27) s y + 5 ≡ day_number (dates_by s) y 3 1
unfolding day_number days_of_months
matthias_before_march s y = go (new_year (dates_by s) y) (leap (dates_by s) y)
  where
    go : (n : ℕ) (b : Bool) → cond b (n + days_of_months b 1 + 24) (n + days_of_months b 1 + 23) + 5 ≡ n + days_of_months b 2 + 0
    go n true = omega arith
    go n false = omega arith

-- a test that antt computes at each feast's number, and what it says at one of them
of_number : (p : ℕ → Bool) → T (each (λ i. p (i + 1)) 48) → (f : ℕ) → between 1 f 48 ≡ true → T (p f)
of_number p t f e = from_1 p 48 t f (range 1 f 48 e)

-- a rule with a date of its own for leap years is Matthias's
none_but_matthias : Rule → ℕ → Bool
none_but_matthias (hung z) f = true
none_but_matthias (on d m) f = true
none_but_matthias (on_or_in_leap_years d m d' m') f = eqb f 27
none_but_matthias advent f = true

pub only_matthias : (f d m d' m' : ℕ) → between 1 f 48 ≡ true → rule f ≡ on_or_in_leap_years d m d' m' → f ≡ 27
unfolding none_but_matthias
only_matthias f d m d' m' e k = eqb→eq f 27 (rw k at (of_number (λ f. none_but_matthias (rule f) f) tt f e))

-- what the table's rules keep to: days near Easter, and dates that there are in a leap or in a common year
unfoldable pub good : Bool → Rule → Bool
good b (hung z) = near z
good b (on d m) = between 1 m 12 && between 1 d (month_length b m)
good b (on_or_in_leap_years d m d' m') = between 1 (cond b m' m) 12 && between 1 (cond b d' d) (month_length b (cond b m' m))
good b advent = true

pub rule_good : (b : Bool) (f : ℕ) → between 1 f 48 ≡ true → T (good b (rule f))
unfolding good between
rule_good true f e = of_number (λ f. good true (rule f)) tt f e
rule_good false f e = of_number (λ f. good false (rule f)) tt f e

date_exists_lem : (r : Rule) (c : Calendar) (y : ℕ) → T (good (leap c y) r) → date_exists r c y ≡ true
unfolding good is_date
date_exists_lem (hung z) c y g = refl
date_exists_lem (on d m) c y g = is_true (between 1 m 12 && between 1 d (month_length (leap c y) m)) g
date_exists_lem (on_or_in_leap_years d m d' m') c y g = of_date (is_date c y) (leap c y) d m d' m' ∙ is_true _ g
date_exists_lem advent c y g = refl

-- Every feast has a date in every year, so that none is refused by 5.
pub feast_date_exists : (c : Calendar) (y f : ℕ) → between 1 f 48 ≡ true → date_exists (rule f) c y ≡ true
feast_date_exists c y f e = date_exists_lem (rule f) c y (rule_good (leap c y) f e)

-- the feasts 1 to 23 hang on Easter, and no others do
hangs : Rule → Bool
hangs (hung z) = true
hangs (on d m) = false
hangs (on_or_in_leap_years d m d' m') = false
hangs advent = false

first_hang : (f : ℕ) → between 1 f 23 ≡ true → T (hangs (rule f))
unfolding hangs
first_hang f e = from_1 (λ f. hangs (rule f)) 23 tt f (range 1 f 23 e)

last_free : (f : ℕ) → between 24 f 48 ≡ true → T (not (hangs (rule f)))
unfolding hangs
last_free f e =
    let r = range 24 f 48 e in
    let place : f - 24 + 24 ≡ f = omega arith in
    rw place at (below (λ i. not (hangs (rule (i + 24)))) 25 tt (f - 24) (omega arith))

-- what hangs on Easter goes by the one side of a style, and what does not by the other
same_hung : (r : Rule) (s s' : Style) (y : ℕ) → T (hangs r) → easter_by s ≡ easter_by s' → rule_number r s y ≡ rule_number r s' y
unfolding hangs
same_hung (hung z) s s' y h e = rw e
same_hung (on d m) s s' y h e = absurd h
same_hung (on_or_in_leap_years d m d' m') s s' y h e = absurd h
same_hung advent s s' y h e = absurd h

same_free : (r : Rule) (s s' : Style) (y : ℕ) → T (not (hangs r)) → dates_by s ≡ dates_by s' → rule_day (named s y) r ≡ rule_day (named s' y) r
unfolding hangs
same_free (hung z) s s' y h e = absurd h
same_free (on d m) s s' y h e = rw e
same_free (on_or_in_leap_years d m d' m') s s' y h e = rw e
same_free advent s s' y h e = rw e

-- in a year that has an Easter every rule is served
rule_served : (r : Rule) (c : Calendar) (y : ℕ) → has_easter c y ≡ true → served_for r c y ≡ true
rule_served (hung z) c y h = h
rule_served (on d m) c y h = easter_served c y h
rule_served (on_or_in_leap_years d m d' m') c y h = easter_served c y h
rule_served advent c y h = easter_served c y h

-- a rule's day lies in its year
advent_in_year : (c : Calendar) (y : ℕ) → 1 ≤ y → YearOf c (advent_sunday c y) y
unfolding is_date between
advent_in_year c y one =
    let w = advent_week c y in
    record { one = one; from = omega (arith, w, dated_in_year c y 11 27 one refl); to = omega (arith, w, dated_in_year c y 12 3 one refl) }

rule_in_year : (r : Rule) (s : Style) (y : ℕ) → 1 ≤ y → KeyFits s y → T (good (leap (dates_by s) y) r) → YearOf (dates_by s) (rule_number r s y) y
unfolding good is_date
rule_in_year (hung z) s y one fits g = hung_in_year s y z one fits g
rule_in_year (on d m) s y one fits g = dated_in_year (dates_by s) y m d one (date_exists_lem (on d m) (dates_by s) y g)
rule_in_year (on_or_in_leap_years d m d' m') s y one fits g =
    let c = dates_by s in
    let l = leap c y in
    rw (of_date (day_number c y) l d m d' m') (dated_in_year c y (cond l m' m) (cond l d' d) one (is_true _ g))
rule_in_year advent s y one fits g = advent_in_year (dates_by s) y one

-- Every feast lies in its year, where the key lies from 1 to 108.
pub feast_in_year_lem : (s : Style) (y f : ℕ) → 1 ≤ y → KeyFits s y → between 1 f 48 ≡ true → YearOf (dates_by s) (rule_number (rule f) s y) y
feast_in_year_lem s y f one fits e = rule_in_year (rule f) s y one fits (rule_good (leap (dates_by s) y) f e)

pub feast_answered : (s : Style) (y f : ℕ) → has_easter (dates_by s) y ≡ true → between 1 f 48 ≡ true
    → feast_in_year (named s y) f ≡ Ok (rule_number (rule f) s y)
unfolding feast_in_year
feast_answered s y f h e =
    let c = dates_by s in
    let day = rule_number (rule f) s y in
    let in_span = year_in_span c y day h (feast_in_year_lem s y f (has_year c y h) (key_fits s y h) e) in
    rw (e, rule_served (rule f) c y h, feast_date_exists c y f e, in_span)

in_whole_table : (f first last : ℕ) → 1 ≤ first → last ≤ 48 → between first f last ≡ true → between 1 f 48 ≡ true
in_whole_table f first last low high e = let r = range first f last e in in_range 1 f 48 (omega arith) (omega arith)

-- Styles whose Easter goes by one calendar keep what hangs on Easter on the same days, in the years that have an Easter in both.
pub same_easter : (s s' : Style) (y f : ℕ) → easter_by s ≡ easter_by s' → has_easter (dates_by s) y ≡ true → has_easter (dates_by s') y ≡ true
    → between 1 f 23 ≡ true → feast_in_year (named s y) f ≡ feast_in_year (named s' y) f
same_easter s s' y f e h h' i =
    let listed = in_whole_table f 1 23 (omega arith) (omega arith) i in
    feast_answered s y f h listed ∙ ap Ok (same_hung (rule f) s s' y (first_hang f i) e) ∙ sym (feast_answered s' y f h' listed)

-- Styles whose dates go by one calendar keep every other feast on the same day, or refuse it alike.
pub same_others : (s s' : Style) (y f : ℕ) → dates_by s ≡ dates_by s' → between 24 f 48 ≡ true → feast_in_year (named s y) f ≡ feast_in_year (named s' y) f
same_others s s' y f e i =
    let listed = in_whole_table f 24 48 (omega arith) (omega arith) i in
    in_table (named s y) f listed ∙ same_free (rule f) s s' y (last_free f i) e ∙ sym (in_table (named s' y) f listed)
