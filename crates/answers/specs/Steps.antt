-- What the private functions of the blocks and the pages answer. No public promise is stated by these.
use Rattle.std.specs.Prelude.{false, cond, List, [], ◌∷◌, ◌≡◌, ℕ, ◌+◌, ◌-◌, ◌*◌, ◌<◌, ◌≤◌, eqb, length, take, drop, get_or}
use Rattle.std.specs.Prelude.{Option, position}
use Rattle.words.specs.Text.{has}
use Rattle.dating.specs.Answer.{line_feed}
use Rattle.answers.specs.Block.{Written}
use Rattle.answers.specs.Lines.{ended_lines, open_line, Answers}
use Rattle.answers.specs.declared.block.Ended.{Ended}

-- the lines that end in the bytes s are answered, and the open line begins where r says
pub record AnswersEnded (s before after : List ℕ) (r : Ended) : Type 0 where
  pub output : Written (Answers (ended_lines [] s)) before after r.written
  pub inside : r.start ≤ length s
  pub left : drop r.start s ≡ open_line [] s

-- how many line feeds there are
unfoldable pub feeds : List ℕ → ℕ
feeds [] = 0
feeds (c ∷ s) = cond (eqb c line_feed) 1 0 + feeds s

-- the bytes as digits of a number, the first the lowest: 128 for a line feed, and 0 for any other
unfoldable pub feed_bits : List ℕ → ℕ
feed_bits [] = 0
feed_bits (c ∷ s) = feed_bits s * 256 + cond (eqb c line_feed) 128 0

-- the place of the first line feed, where there is one
abbrev pub first_feed : List ℕ → Option ℕ
first_feed s = position (λ c. eqb c line_feed) s

-- the bytes of s from the place i up to the place j
abbrev pub between : List ℕ → (i j : ℕ) → List ℕ
between s i j = take (j - i) (drop i s)

-- j is a place of s from i on, up to which there is no line feed
pub record Quiet (s : List ℕ) (i j : ℕ) : Type 0 where
  pub from : i ≤ j
  pub inside : j ≤ length s
  pub lacks : has line_feed (between s i j) ≡ false

-- the line of s that begins at the place i ends at the place j
pub record EndsAt (s : List ℕ) (i j : ℕ) : Type 0 where
  pub quiet : Quiet s i j
  pub feed : j < length s → get_or s j 0 ≡ line_feed
