-- The places of a transcript's marks, and the refusals.
use Rattle.std.specs.Prelude.{List, [], ◌∷◌, ◌++◌, ◌⊎◌, ◌≡◌, ℕ, ◌/◌, ◌≤◌, length, take, drop, Option, Some, None}
use Rattle.std.proofs.Math.Seq.{slice}
use Rattle.calendar.specs.Refusal.{refusal_number}
use Rattle.dating.specs.Line.{IsNumberOfLine}
use Rattle.places.specs.Number.{number_bytes}
use Rattle.places.specs.Turn.{InTurn}
use Rattle.marks.specs.Mark.{AreMarks, IsFirstMark}
use Rattle.marks.specs.Utf8.{Spells, IsUtf8, characters_before, starts}
use Rattle.calendar.specs.declared.refusal.Refusal.TheVariants.{Length, Encoding}
use Rattle.calendar.specs.declared.refusal.Refusal.{Refusal}
use Rattle.marks.specs.declared.mark.Mark.{Mark}
use Rattle.marks.specs.declared.transcript.NextMark.{NextMark}

-- where a mark begins and ends
abbrev pub mark_of : NextMark → Mark
mark_of m = record { start = m.start; end = m.end }

-- the mark m of s has the characters that begin before its start and before its end
abbrev pub Counted : List ℕ → NextMark → Type 0
Counted s m = (m.start_character ≡ starts (take m.start s)) × (m.end_character ≡ starts (take m.end s))

-- r is the first mark of s by its place, with its characters; or there is none
abbrev pub IsNextMark : List ℕ → Option NextMark → Type 0
IsNextMark s (Some m) = IsFirstMark s (Some (mark_of m)) × Counted s m
IsNextMark s None = IsFirstMark s None

-- the bytes of five numbers
abbrev pub place_bytes : (start end start_character end_character number : ℕ) → List ℕ
place_bytes a e f p n = number_bytes a ++ number_bytes e ++ number_bytes f ++ number_bytes p ++ number_bytes n

-- the bytes t tell the mark m of the transcript s with the characters cs: "its start and end in bytes and in characters, and its day or refusal"
abbrev pub IsPlace : (s cs : List ℕ) → Mark → List ℕ → Type 0
IsPlace s cs m t = (n : ℕ) × (
    IsNumberOfLine (slice m.start m.end s) n
    × (t ≡ place_bytes m.start m.end (characters_before m.start cs) (characters_before m.end cs) n))

-- the bytes t tell the marks, one behind the other
abbrev pub Places : (s cs : List ℕ) → List Mark → List ℕ → Type 0
Places s cs = InTurn (IsPlace s cs)

-- the n marks of the transcript s stand in the places, which held the bytes before: "their number is answered; later places stay"
pub record Found (s before after : List ℕ) (n : ℕ) : Type 0 where
  pub characters : List ℕ
  pub spells : Spells characters s
  pub marks : List Mark
  pub are_marks : AreMarks s marks
  pub count : n ≡ length marks
  pub text : List ℕ
  pub places : Places s characters marks text
  pub bytes : after ≡ text ++ drop (length text) before

-- a refusal, and what has to hold or else it is given
infix 68 ◌unless◌
pub data Condition : Type 1 where
  ◌unless◌ : Refusal → Type 0 → Condition

-- a call looks at its conditions in order: the first that does not hold refuses, and after all of them comes the answer
module _ (refused : Refusal → Type 0) (answered : Type 0) where
  abbrev pub Checked : List Condition → Type 0
  Checked [] = answered
  Checked (x unless holds ∷ cs) = ((holds → ⊥) × refused x) ⊎ (holds × Checked cs)

-- there are at least as many places of 20 bytes as marks
abbrev pub HasPlaces : List ℕ → ℕ → Type 0
HasPlaces s size = (ms : List Mark) × (AreMarks s ms × (length ms ≤ size / 20))

-- "2 for a longer transcript ..; 9, encoding, for bytes that aren't UTF-8, after length and before the marks are counted"
abbrev pub readable : List ℕ → List Condition
readable s = Length unless (length s ≤ 65536) ∷ Encoding unless IsUtf8 s ∷ []

-- and behind these "2 for .. too few places", which is looked at last though 2 is below 9
abbrev pub conditions : List ℕ → ℕ → List Condition
conditions s size = readable s ++ Length unless HasPlaces s size ∷ []

-- the call is lent places that hold the bytes before, answers r, and leaves them with the bytes after
abbrev pub FindsMarks : {R : Type 0} → (ℕ → R) → (Refusal → R) → (s before after : List ℕ) → R → Type 0
FindsMarks told refused s before after r =
    Checked (λ x. (r ≡ refused x) × (after ≡ before)) ((n : ℕ) × (Found s before after n × (r ≡ told n))) (conditions s (length before))

-- r is the number of the refusal where places of so many bytes are lent, or 0 where the marks are not refused
abbrev pub TellsRefusal : List ℕ → ℕ → ℕ → Type 0
TellsRefusal s size r = Checked (λ x. r ≡ refusal_number x) (r ≡ 0) (conditions s size)
