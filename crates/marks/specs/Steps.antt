-- What the private functions answer, and what the fields of the iterator keep. No public promise is stated by these.
use Rattle.std.specs.Prelude.{List, ◌≡◌, ℕ, ◌+◌, ◌*◌, ◌≤◌, length}
use Prim.Native.Char.{code}
use Rattle.std.proofs.lemmas.List.Edits.{sets}
use Rattle.marks.specs.Mark.{two, opening, closing, IsMark, AreMarks}
use Rattle.marks.specs.Transcript.{place_bytes, Found, Checked, conditions}
use Rattle.marks.specs.Utf8.{IsUtf8}
use Rattle.marks.specs.declared.mark.Mark.{Mark}
use Rattle.marks.specs.declared.transcript.NextMark.{NextMark}
use Rattle.std.specs.Prelude.{Result, Ok, Err}
use Rattle.calendar.specs.declared.refusal.Refusal.{Refusal}

-- ---- marks
-- no pair just before has taken the byte at the place i
pub record Clear (s : List ℕ) (i : ℕ) : Type 0 where
  pub opens : opening s i ≡ two (code "[") s i
  pub closes : closing s i ≡ two (code "]") s i

-- no pair and no mark of s reaches over the place i
pub record Between (s : List ℕ) (i : ℕ) : Type 0 where
  pub inside : i ≤ length s
  pub clear : Clear s i
  pub beyond : (m : Mark) → IsMark s m → i ≤ m.end → i + 2 ≤ m.start

abbrev pub CountsMarks : List ℕ → ℕ → Type 0
CountsMarks s n = (ms : List Mark) × (AreMarks s ms × (n ≡ length ms))

-- ---- places
-- the five numbers of a mark are put from the byte i on
abbrev pub with_place : List ℕ → ℕ → (start end start_character end_character number : ℕ) → List ℕ
with_place s i a e f p n = sets s i (place_bytes a e f p n)

-- no number of the mark m is above the length of the longest transcript
pub record Few (m : NextMark) : Type 0 where
  pub start_few : m.start ≤ 65536
  pub end_few : m.end ≤ 65536
  pub start_character_few : m.start_character ≤ 65536
  pub end_character_few : m.end_character ≤ 65536

-- the transcript s is UTF-8, and its marks have their places
pub record Fillable (s : List ℕ) (size : ℕ) : Type 0 where
  pub short : length s ≤ 65536
  pub utf8 : IsUtf8 s
  pub marks : List Mark
  pub are_marks : AreMarks s marks
  pub room : length marks * 20 ≤ size

abbrev pub FillsPlaces : (s before after : List ℕ) → Type 0
FillsPlaces s before after = (n : ℕ) × Found s before after n

-- r is the number of marks of the transcript s, or the refusal, where places of so many bytes are lent
abbrev pub CountsInSize : List ℕ → ℕ → Result ℕ Refusal → Type 0
CountsInSize s size r = Checked (λ x. r ≡ Err x) ((n : ℕ) × (CountsMarks s n × (r ≡ Ok n))) (conditions s size)
