-- The dating line: a phrase, a year and a style letter.
use Rattle.std.specs.Prelude.{Bool, true, false, List, [], ◌∷◌, ◌++◌, ◌⊎◌, ◌≡◌, ℕ, ◌≤◌, length}
use Rattle.calendar.specs.Range.{between}
use Rattle.calendar.specs.Refusal.{refusal_number, Holds, number_or_refusal}
use Rattle.calendar.specs.Style.{style_letter}
use Rattle.words.specs.Numeral.{numeral}
use Rattle.words.specs.Text.{space}
use Rattle.words.specs.Told.{Grammar, Told}
use Rattle.dating.specs.Phrase.{Phrase, spell_phrase, GoodPhrase, phrase_tests, phrase_day}
use Rattle.calendar.specs.declared.refusal.Refusal.TheVariants.{Length, Form}
use Rattle.calendar.specs.declared.refusal.Refusal.{Refusal}
use Rattle.calendar.specs.declared.year.NamedYear.{NamedYear}
use Rattle.std.specs.Prelude.{Result, Err}

-- a phrase in a named year
pub record Line : Type 0 where
  pub phrase : Phrase
  pub named : NamedYear

-- what stands behind the phrase: "a space, a year, a space, and J or G", or O: "O is .. a line's letter"
abbrev pub ending : NamedYear → List ℕ
ending t = space ∷ (numeral t.year ++ space ∷ style_letter t.style ∷ [])

-- "A year is 1 to 4 digits, the first not 0."
abbrev pub GoodYear : NamedYear → Type 0
GoodYear t = (1 ≤ t.year) × (t.year ≤ 9999)

-- "A line is a phrase, a space, a year, a space, and J or G.", or O
unfoldable pub spell_line : Line → List ℕ
spell_line l = spell_phrase l.phrase ++ ending l.named

pub record GoodLine (l : Line) : Type 0 where
  pub phrase : GoodPhrase l.phrase
  pub year : GoodYear l.named

abbrev pub lines : Grammar
lines = record { Tree = Line; Good = GoodLine; spell = spell_line }

unfoldable pub line_day : Line → Result ℕ Refusal
line_day l = phrase_day l.named l.phrase

-- s has 1 to 120 bytes; else refusal 2: "a dating line has 0 or more than 120 bytes"
abbrev pub length_fits : List ℕ → Bool
length_fits s = between 1 (length s) 120

-- r is what the bytes s tell: refused by 2 where s "has 0 or more than 120 bytes", and else the meaning of the line that is spelled s,
-- or refused by 3 where "the grammar doesn't produce the line"
pub data LineTold {R : Type 0} (meaning : Line → R) (refused : Refusal → R) (s : List ℕ) (r : R) : Type 0 where
  unfit : length_fits s ≡ false → r ≡ refused Length → LineTold meaning refused s r
  fit : length_fits s ≡ true → Told lines meaning (refused Form) s r → LineTold meaning refused s r

-- r is the day of the line s, or the refusal
abbrev pub IsDayOfLine : List ℕ → Result ℕ Refusal → Type 0
IsDayOfLine = LineTold line_day Err

-- the refusal x holds of the line s: by its length, by its form, or by the tests of the line that is spelled so
abbrev pub LineHolds : List ℕ → Refusal → Type 0
LineHolds s x =
    ((Length ≡ x) × (length_fits s ≡ false))
    ⊎ (((Form ≡ x) × ((l : Line) → GoodLine l → spell_line l ≡ s → ⊥))
    ⊎ ((l : Line) × (GoodLine l × ((spell_line l ≡ s) × Holds (phrase_tests l.named l.phrase) x))))

-- n is the one number of the answer to the line s
abbrev pub IsNumberOfLine : List ℕ → ℕ → Type 0
IsNumberOfLine = LineTold (λ l. number_or_refusal (line_day l)) refusal_number
