-- The answer to a dating line, as one line of text.
use Rattle.std.specs.Prelude.{cond, List, [], ◌∷◌, ◌++◌, ◌≡◌, ℕ, ◌+◌, leb, length}
use Prim.Native.Char.{code}
use Rattle.std.proofs.lemmas.List.Edits.{sets}
use Rattle.calendar.specs.Refusal.{refusal_number}
use Rattle.calendar.specs.Weekday.{weekday}
use Rattle.words.specs.Numeral.{field}
use Rattle.words.specs.Text.{space}
use Rattle.dating.specs.Line.{Line, GoodLine, spell_line, IsDayOfLine}
use Rattle.dating.specs.Writer.{IsDateText}
use Rattle.calendar.specs.declared.refusal.Refusal.{Refusal}
use Rattle.calendar.specs.declared.style.Style.{Style}
use Rattle.std.specs.Prelude.{Ok, Err}

abbrev pub line_feed : ℕ
line_feed = code "\n"

-- what stands before the date for the day n: "0, day number, weekday"
abbrev pub day_fields : ℕ → List ℕ
day_fields n = field 0 space ++ field n space ++ field (weekday n) space

-- t tells the day n of the style s: "0, day number, weekday, date as the writer gives it in the line's style",
-- "with one space between fields and a line feed at the end"
abbrev pub DatedText : Style → ℕ → List ℕ → Type 0
DatedText s n t = (w : List ℕ) × (IsDateText s n w × (t ≡ day_fields n ++ w ++ line_feed ∷ []))

-- "or the refusal number alone"
abbrev pub refused_text : Refusal → List ℕ
refused_text x = field (refusal_number x) line_feed

-- s is a line of the style y
abbrev pub IsOfStyle : List ℕ → Style → Type 0
IsOfStyle s y = (l : Line) × (GoodLine l × ((spell_line l ≡ s) × (l.named.style ≡ y)))

-- t is the answer to the line s
pub data IsAnswer (s t : List ℕ) : Type 0 where
  dated : (y : Style) (n : ℕ) → IsDayOfLine s (Ok n) → IsOfStyle s y → DatedText y n t → IsAnswer s t
  refused : (x : Refusal) → IsDayOfLine s (Err x) → t ≡ refused_text x → IsAnswer s t

-- the text t is put at the place i of a buffer, and r is its length
abbrev pub PutsText : ℕ → (before after : List ℕ) → ℕ → List ℕ → Type 0
PutsText i before after r t = (r ≡ length t) × (after ≡ sets before i t)

-- the number n and the byte c behind it are put at the place i of a buffer; where fewer bytes stand there than the longest number and the byte
-- have, which are 21, nothing is put, and 0 is answered
abbrev pub PutsField : (n c i : ℕ) → (before after : List ℕ) → ℕ → Type 0
PutsField n c i before after r = cond (leb (i + 21) (length before)) (PutsText i before after r (field n c)) ((r ≡ 0) × (after ≡ before))

-- the answer to the line s is put at the place i of a buffer; where fewer bytes stand there than the longest answer has,
-- which are 25, nothing is put, and 0 is answered
abbrev pub PutsAnswer : List ℕ → ℕ → (before after : List ℕ) → ℕ → Type 0
PutsAnswer s i before after r =
    cond (leb (i + 25) (length before))
    ((t : List ℕ) × (IsAnswer s t × PutsText i before after r t))
    ((r ≡ 0) × (after ≡ before))
