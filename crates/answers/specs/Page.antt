-- A page of lines: the day or refusal of each in a place of its own.
use Rattle.std.specs.Prelude.{List, [], ◌∷◌, ◌≡◌, ℕ, ◌*◌, ◌/◌, leb, length, take, drop}
use Rattle.calendar.specs.Refusal.{Test, ◌unless◌, checked}
use Rattle.words.specs.Text.{over}
use Rattle.dating.specs.Line.{IsNumberOfLine}
use Rattle.places.specs.Number.{number_bytes, number_of}
use Rattle.places.specs.Turn.{InTurn}
use Rattle.answers.specs.Lines.{lines_of}
use Rattle.calendar.specs.declared.refusal.Refusal.TheVariants.{Length}
use Rattle.std.specs.Prelude.{Result, Ok, Err}
use Rattle.calendar.specs.declared.refusal.Refusal.{Refusal}

-- the tests of the page s where size bytes of places are lent, "a place is four bytes": "2 if there are more lines than places or more than 65,536 bytes"
abbrev pub page_tests : List ℕ → (size : ℕ) → List Test
page_tests s size = Length unless leb (length s) 65536 ∷ Length unless leb (length (lines_of s)) (size / 4) ∷ []

-- what the call answers: "the number of lines", or the refusal
abbrev pub page_answer : List ℕ → (size : ℕ) → Result ℕ Refusal
page_answer s size = checked Err (Ok (length (lines_of s))) (page_tests s size)

-- t are the bytes in the place of the line l: "the day, or the refusal number", "low byte first"
abbrev pub IsPlace : (l t : List ℕ) → Type 0
IsPlace l t = (n : ℕ) × (IsNumberOfLine l n × (t ≡ number_bytes n))

-- the bytes after are those before with "one 32-bit number per line", "in order", at their start; "numbers past the last line keep their values"
abbrev pub Filled : (s before after : List ℕ) → Type 0
Filled s before after = (t : List ℕ) × (InTurn IsPlace (lines_of s) t × (after ≡ over t before))

-- the call is lent the bytes before as places and leaves the bytes after: filled, or as they were where it refuses "before anything is written"
abbrev pub FillsPage : (s before after : List ℕ) → Type 0
FillsPage s before after = checked (λ x. after ≡ before) (Filled s before after) (page_tests s (length before))

-- the number in the place i of the bytes s, where the first place is 0
abbrev pub number_at : ℕ → List ℕ → ℕ
number_at i s = number_of (take 4 (drop (4 * i) s))
