-- What the private functions answer. No public promise is stated by these.
use Rattle.std.specs.Prelude.{List, ◌++◌, ◌≡◌, ℕ, ◌+◌, ◌≤◌, length}
use Rattle.std.proofs.lemmas.List.Edits.{sets}
use Rattle.dating.specs.Answer.{IsAnswer}
use Rattle.marks.specs.Utf8.{IsUtf8}
use Rattle.mark_answers.specs.Transcript.{mark_fields}
use Rattle.marks.specs.declared.transcript.NextMark.{NextMark}

-- what is told of the mark m with the text s is put at the place i of a buffer, and r is the place after it
pub record PutsMark (s : List ℕ) (m : NextMark) (i : ℕ) (before after : List ℕ) (r : ℕ) : Type 0 where
  pub answer : List ℕ
  pub is_answer : IsAnswer s answer
  pub behind : r ≡ i + length (mark_fields m.start m.end m.start_character m.end_character ++ answer)
  pub bytes : after ≡ sets before i (mark_fields m.start m.end m.start_character m.end_character ++ answer)
  pub short : r ≤ i + 49

-- the transcript s is not refused
pub record Tellable (s : List ℕ) : Type 0 where
  pub short : length s ≤ 65536
  pub utf8 : IsUtf8 s
