-- What is told of the marks of a transcript, one behind the other, in blocks.
use Rattle.std.specs.Prelude.{List, [], ◌∷◌, ◌++◌, ◌≡◌, ℕ, suc, ◌+◌, ◌-◌, ◌<◌, ◌≤◌, length, take, drop}
use Rattle.std.proofs.Math.Seq.{slice}
use Rattle.words.specs.Numeral.{field}
use Rattle.words.specs.Text.{space, over}
use Rattle.dating.specs.Answer.{refused_text, IsAnswer}
use Rattle.marks.specs.Mark.{AreMarks}
use Rattle.places.specs.Turn.{InTurn}
use Rattle.marks.specs.Transcript.{Checked, readable}
use Rattle.marks.specs.Utf8.{Spells, characters_before}
use Rattle.calendar.specs.declared.refusal.Refusal.{Refusal}
use Rattle.marks.specs.declared.mark.Mark.{Mark}
use Rattle.mark_answers.specs.declared.transcript.Told.{Told}

-- what stands before the answer to a mark's text: "its start and end in bytes and in characters"
abbrev pub mark_fields : (start end start_character end_character : ℕ) → List ℕ
mark_fields a e f p = field a space ++ field e space ++ field f space ++ field p space

-- t tells the mark m of the transcript s with the characters cs
abbrev pub TellsMark : (s cs : List ℕ) → Mark → List ℕ → Type 0
TellsMark s cs m t = (a : List ℕ) × (
    IsAnswer (slice m.start m.end s) a
    × (t ≡ mark_fields m.start m.end (characters_before m.start cs) (characters_before m.end cs) ++ a))

-- t tells the marks, one behind the other
abbrev pub TellsMarks : (s cs : List ℕ) → List Mark → List ℕ → Type 0
TellsMarks s cs = InTurn (TellsMark s cs)

-- ---- a call
-- the text t tells the first k of the marks, as many as have room: 49 bytes, the most that is told of a mark, are free for each
pub data TellsFitting (s cs : List ℕ) : (room : ℕ) → List Mark → (t : List ℕ) → (k : ℕ) → Type 0 where
  all_told : {room : ℕ} → TellsFitting s cs room [] [] 0
  full : {room : ℕ} {m : Mark} {ms : List Mark} → room < 49 → TellsFitting s cs room (m ∷ ms) [] 0
  next : {room : ℕ} {m : Mark} {ms : List Mark} {a u : List ℕ} {k : ℕ} → 49 ≤ room → TellsMark s cs m a
      → TellsFitting s cs (room - length a) ms u k → TellsFitting s cs room (m ∷ ms) (a ++ u) (suc k)

-- r tells the marks of the transcript s behind the first so many, written at the start of a buffer, as many as have room there
pub record TellsFrom (s : List ℕ) (skip : ℕ) (before after : List ℕ) (r : Told) : Type 0 where
  pub characters : List ℕ
  pub spells : Spells characters s
  pub marks : List Mark
  pub are_marks : AreMarks s marks
  pub text : List ℕ
  pub fits : TellsFitting s characters (length before) (drop skip marks) text r.marks
  pub room : length text ≤ length before
  pub count : r.written ≡ length text
  pub bytes : after ≡ over text before

-- r tells no mark, and the refusal's number is written at the start of a buffer
pub record TellsNone (x : Refusal) (before after : List ℕ) (r : Told) : Type 0 where
  pub none : r.marks ≡ 0
  pub room : length (refused_text x) ≤ length before
  pub count : r.written ≡ length (refused_text x)
  pub bytes : after ≡ over (refused_text x) before

-- the call answers r for the transcript s behind the first so many marks, and leaves the buffer with the bytes after
abbrev pub AnswersMarks : (s : List ℕ) (skip : ℕ) (before after : List ℕ) → Told → Type 0
AnswersMarks s skip before after r = Checked (λ x. TellsNone x before after r) (TellsFrom s skip before after r) (readable s)

-- ---- all calls for a transcript
-- t tells all marks of the transcript s
pub record Tells (s t : List ℕ) : Type 0 where
  pub characters : List ℕ
  pub spells : Spells characters s
  pub marks : List Mark
  pub are_marks : AreMarks s marks
  pub texts : TellsMarks s characters marks t

-- t is the output for the transcript s: where it is refused, the refusal's number alone
abbrev pub IsTranscriptOutput : List ℕ → List ℕ → Type 0
IsTranscriptOutput s t = Checked (λ x. t ≡ refused_text x) (Tells s t) (readable s)

-- the program writes t for the transcript s, where so many marks are told before: each call's bytes, with a buffer of so many, each behind the marks
-- that the calls before it told, up to a call that tells none
pub data Run (s : List ℕ) (size : ℕ) : (skip : ℕ) → (t : List ℕ) → Type 0 where
  ends : {skip : ℕ} {before after : List ℕ} {r : Told} → length before ≡ size → AnswersMarks s skip before after r → r.marks ≡ 0
      → Run s size skip (take r.written after)
  goes_on : {skip : ℕ} {before after u : List ℕ} {r : Told} → length before ≡ size → AnswersMarks s skip before after r → (r.marks ≡ 0 → ⊥)
      → Run s size (skip + r.marks) u → Run s size skip (take r.written after ++ u)
