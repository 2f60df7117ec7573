-- The scope's cases that are to be proved, in its order: rows of one table, under one claim.
use mathlib.Core.Bool.{Bool, true, false}
use mathlib.Core.List.{List, [], ◌∷◌, ◌++◌}
use mathlib.Core.Path.{◌≡◌, refl}
use Prim.Native.Char.{code}
use Prim.Native.Nat.{ℕ}
use Prim.Native.String.{String}
use native.Mathlib.Omega.{arith}
use lib.ListN.{length}
use Rattle.calendar.proofs.Table.{All, none, ◌also◌}
use Rattle.church.proofs.letter.Laws.{sundays}
use Rattle.calendar.specs.Date.{days_of_months, is_date, day_number}
use Rattle.calendar.specs.Range.{between}
use Rattle.calendar.specs.Refusal.{checked, number_or_refusal}
use Rattle.calendar.specs.Search.{first_of}
use Rattle.calendar.specs.Span.{in_span}
use Rattle.calendar.specs.Weekday.{weekday, first_weekday}
use Rattle.calendar.specs.Year.{named, days_of_years, new_year, served}
use Rattle.church.specs.Column.{stands, luna}
use Rattle.church.specs.Easter.{limit, march, easter, key}
use Rattle.church.specs.Epact.{golden, epact, arabic}
use Rattle.church.specs.Letter.{Part, first, second, SundayLetter}
use Rattle.words.specs.Numeral.{decimal}
use Rattle.words.specs.Text.{bytes}
use Rattle.words.specs.Told.{produced}
use Rattle.dating.specs.Anchor.{date, spell_anchor, GoodAnchor}
use Rattle.dating.specs.Line.{ending, GoodYear, spell_line, line_day, fit, IsNumberOfLine}
use Rattle.dating.specs.Phrase.{Phrase, plain, wrapped, spell_phrase, GoodPhrase, anchor_of, comes_to, stays_in, start_day, phrase_tests, phrase_day}
use Rattle.calendar.specs.declared.style.Calendar.TheVariants.{Julian, Gregorian}
use Rattle.calendar.specs.declared.style.Calendar.{Calendar}
use Rattle.calendar.specs.declared.style.Style.TheVariants.{J, G}
use Rattle.calendar.specs.declared.style.Style.{Style}
use Rattle.calendar.specs.declared.year.NamedYear.{NamedYear}
use Rattle.words.specs.declared.wrapper.Wrapper.TheVariants.{Eve, Morrow}
use Rattle.std.specs.Prelude.{Ok, Err}

-- what is said of a year, of a line, which is answered by a day or a refusal, and of a day
pub data Row : Type 0 where
  golden_number : (year : ℕ) → ℕ → Row
  year_epact : (year : ℕ) → Calendar → ℕ → Row
  is_arabic : (year : ℕ) → Calendar → Bool → Row
  sunday_letter : (year : ℕ) → Calendar → Part → ℕ → Row
  limit_on : (year : ℕ) → Calendar → (day month : ℕ) → Row
  limit_falls : (year : ℕ) → Calendar → (on_weekday : ℕ) → Row
  easter_on : (year : ℕ) → Calendar → (day month : ℕ) → Row
  easter_key : (year : ℕ) → Style → ℕ → Row
  tells : (line : String) → (number : ℕ) → Row
  falls : (day on_weekday : ℕ) → Row

abbrev pub Holds : Row → Type 0
Holds (golden_number y g) = golden y ≡ g
Holds (year_epact y c e) = epact c y ≡ e
Holds (is_arabic y c a) = arabic c y ≡ a
Holds (sunday_letter y c p l) = SundayLetter c y p l
Holds (limit_on y c d m) = march c y (limit c y) ≡ day_number c y m d
Holds (limit_falls y c w) = weekday (march c y (limit c y)) ≡ w
Holds (easter_on y c d m) = easter c y ≡ day_number c y m d
Holds (easter_key y s k) = key s y ≡ k
Holds (tells line n) = IsNumberOfLine (bytes line) n
Holds (falls n w) = weekday n ≡ w

abbrev pub line_rows : List Row
line_rows =
    tells "29.2 1900 J" 2415092
    ∷ falls 2415092 2
    ∷ tells "15.10 1582 G" 2299161
    ∷ tells "14.10 1582 G" 6
    ∷ tells "29.2 1582 G" 5
    ∷ tells "morrow of eve of 1.1 1 J" 6
    ∷ []

abbrev pub table : List Row
table =
    year_epact 2025 Gregorian 0
    ∷ limit_on 2025 Gregorian 13 4
    ∷ limit_falls 2025 Gregorian 7
    ∷ easter_on 2025 Gregorian 20 4
    ∷ golden_number 1954 17
    ∷ year_epact 1954 Gregorian 25
    ∷ is_arabic 1954 Gregorian true
    ∷ limit_on 1954 Gregorian 17 4
    ∷ easter_on 1954 Gregorian 18 4
    ∷ golden_number 1810 6
    ∷ year_epact 1810 Gregorian 25
    ∷ is_arabic 1810 Gregorian false
    ∷ limit_on 1810 Gregorian 18 4
    ∷ easter_on 1810 Gregorian 22 4
    ∷ year_epact 1981 Gregorian 24
    ∷ limit_on 1981 Gregorian 18 4
    ∷ easter_on 1981 Gregorian 19 4
    ∷ easter_key 1818 G 1
    ∷ easter_key 1943 G 35
    ∷ golden_number 1225 10
    ∷ sunday_letter 1225 Julian first (code "E")
    ∷ sunday_letter 1225 Julian second (code "E")
    ∷ limit_on 1225 Julian 27 3
    ∷ easter_on 1225 Julian 30 3
    ∷ line_rows

-- a line holds by its tree, the phrase p in the named year t
read : {w : List ℕ} {n : ℕ} (p : Phrase) (t : NamedYear) → between 1 (length w) 120 ≡ true → GoodPhrase p → GoodYear t
    → spell_phrase p ++ ending t ≡ w → n ≡ number_or_refusal (checked Err (Ok (comes_to p (start_day t p))) (phrase_tests t p)) → IsNumberOfLine w n
unfolding spell_line line_day phrase_day
read p t fits good year spelled told = fit fits (produced (record { phrase = p; named = t }) (record { phrase = good; year = year }) spelled told)

lines_known : All Holds line_rows
unfolding spell_phrase spell_anchor decimal GoodPhrase GoodAnchor comes_to stays_in anchor_of served is_date in_span between
    day_number days_of_months new_year days_of_years
lines_known =
    read (plain (date 29 2)) (named J 1900) refl (omega arith) (omega arith) refl refl
    also refl
    also read (plain (date 15 10)) (named G 1582) refl (omega arith) (omega arith) refl refl
    also read (plain (date 14 10)) (named G 1582) refl (omega arith) (omega arith) refl refl
    also read (plain (date 29 2)) (named G 1582) refl (omega arith) (omega arith) refl refl
    also read (wrapped Morrow (wrapped Eve (plain (date 1 1)))) (named J 1) refl (tt, (tt, omega arith)) (omega arith) refl refl
    also none

-- Each row of the table holds, those of years by computation.
pub known : All Holds table
unfolding golden epact arabic stands luna limit march easter key first_weekday first_of between day_number days_of_months new_year days_of_years
known =
    refl also refl also refl also refl
    also refl also refl also refl also refl also refl
    also refl also refl also refl also refl also refl
    also refl also refl also refl
    also refl also refl
    also refl also sundays Julian 1225 first also sundays Julian 1225 second also refl also refl
    also lines_known
