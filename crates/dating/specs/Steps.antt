-- What the private functions of the reader and the writer answer. No public promise is stated by these.
use Rattle.std.specs.Prelude.{true, cond, List, ◌++◌, ◌≡◌, ℕ, ◌+◌, eqb, length}
use Rattle.std.proofs.lemmas.List.Edits.{sets}
use Rattle.calendar.specs.Style.{style_letter}
use Rattle.church.specs.Feast.{rule_day}
use Rattle.words.specs.Told.{Grammar}
use Rattle.dating.specs.Anchor.{Anchor, spell_anchor, GoodAnchor, anchor_rule}
use Rattle.dating.specs.Answer.{DatedText}
use Rattle.dating.specs.Line.{Line, ending, GoodYear, spell_line, GoodLine, line_day, length_fits, IsDayOfLine}
use Rattle.dating.specs.Phrase.{Phrase, spell_phrase, GoodPhrase}
use Rattle.dating.specs.Writer.{IsDateText}
use Rattle.calendar.specs.declared.style.Style.TheVariants.{J, G, O}
use Rattle.calendar.specs.declared.style.Style.{Style}
use Rattle.calendar.specs.declared.year.NamedYear.{NamedYear}
use Rattle.dating.specs.declared.line.Ending.{Ending}
use Rattle.dating.specs.declared.line.Reading.{Reading}
use Rattle.std.specs.Prelude.{Option, Some, None, Result, Ok, Err}
use Rattle.calendar.specs.declared.refusal.Refusal.{Refusal}

abbrev pub anchors : Grammar
anchors = record { Tree = Anchor; Good = GoodAnchor; spell = spell_anchor }

-- the day of a feast word or date in the named year t
unfoldable pub anchor_day : NamedYear → Anchor → Result ℕ Refusal
anchor_day t a = rule_day t (anchor_rule a)

abbrev pub phrases : Grammar
phrases = record { Tree = Phrase; Good = GoodPhrase; spell = spell_phrase }

-- the style whose letter the byte is
abbrev pub style_of_letter : ℕ → Option Style
style_of_letter x =
    cond (eqb x (style_letter G)) (Some G)
    (cond (eqb x (style_letter J)) (Some J)
    (cond (eqb x (style_letter O)) (Some O)
    None))

-- any bytes before a year and a style letter
pub record Ended : Type 0 where
  pub front : List ℕ
  pub named : NamedYear

abbrev pub endings : Grammar
endings = record { Tree = Ended; Good = λ x. GoodYear x.named; spell = λ x. x.front ++ ending x.named }

-- how many bytes stand before the ending, and the year that it names
abbrev pub end_at : Ended → Ending
end_at x = record { phrase = length x.front; named = x.named }

-- the line that the day n is read from, of the style y and with a phrase of k bytes
pub record ReadFrom (s : List ℕ) (y : Style) (n k : ℕ) : Type 0 where
  pub fits : length_fits s ≡ true
  pub line : Line
  pub good : GoodLine line
  pub spelled : spell_line line ≡ s
  pub day : line_day line ≡ Ok n
  pub style : line.named.style ≡ y
  pub phrase : length (spell_phrase line.phrase) ≡ k

-- r is the reading of the line s
abbrev pub IsReading : List ℕ → Result Reading Refusal → Type 0
IsReading s (Ok r) = ReadFrom s r.day.style r.day.number r.phrase
IsReading s (Err x) = IsDayOfLine s (Err x)

-- the bytes w are put at the place i of a buffer, and r is the place behind them
pub record Put (before : List ℕ) (i : ℕ) (w after : List ℕ) (r : ℕ) : Type 0 where
  pub behind : r ≡ i + length w
  pub bytes : after ≡ sets before i w

-- the date of the day n is put at the place i of a buffer
abbrev pub PutsDate : Style → ℕ → ℕ → (before after : List ℕ) → ℕ → Type 0
PutsDate s n i before after r = (w : List ℕ) × (IsDateText s n w × Put before i w after r)

-- the answer that tells the day n is put at the place i of a buffer
abbrev pub PutsDated : Style → ℕ → ℕ → (before after : List ℕ) → ℕ → Type 0
PutsDated s n i before after r = (t : List ℕ) × (DatedText s n t × Put before i t after r)
