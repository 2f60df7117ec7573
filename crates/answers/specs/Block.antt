-- An input that comes in blocks.
use Rattle.std.specs.Prelude.{List, [], ◌∷◌, ◌++◌, ◌≡◌, ℕ, ◌≤◌, length, take}
use Rattle.words.specs.Text.{over}
use Rattle.answers.specs.Lines.{ended_lines, open_line, last_line, Answers}
use Rattle.answers.specs.declared.block.Progress.{Progress}

-- what is kept of a line that is still open: enough to tell that it "has .. more than 120 bytes"
abbrev pub kept : List ℕ → List ℕ
kept s = take 121 s

-- a text that is such an output is written at the start of a buffer that has room for it, and n is how many bytes it has
pub record Written (output : List ℕ → Type 0) (before after : List ℕ) (n : ℕ) : Type 0 where
  pub text : List ℕ
  pub answers : output text
  pub room : length text ≤ length before
  pub count : n ≡ length text
  pub bytes : after ≡ over text before

-- the lines that end in the bytes s of a buffer are answered, and what is kept of the open line stands at the buffer's start
pub record AnswersBlock (s buffer_before buffer_after output_before output_after : List ℕ) (r : Progress) : Type 0 where
  pub output : Written (Answers (ended_lines [] s)) output_before output_after r.written
  pub keeps : r.kept ≡ length (kept (open_line [] s))
  pub buffer : buffer_after ≡ over (kept (open_line [] s)) buffer_before

-- the line s that no line feed ended, if there is one, is answered
abbrev pub AnswersLast : List ℕ → (before after : List ℕ) → ℕ → Type 0
AnswersLast s before after n = Written (Answers (last_line s)) before after n

-- the bytes of all blocks, one behind the other
abbrev pub joined : List (List ℕ) → List ℕ
joined [] = []
joined (b ∷ bs) = b ++ joined bs

-- the program writes t for the blocks that it reads, where the bytes k of an open line are kept: for each block the answers to
-- the lines that end in what is kept and the block, and at the end of the input the last line's
abbrev pub Run : List ℕ → List (List ℕ) → List ℕ → Type 0
Run k [] t = Answers (last_line k) t
Run k (b ∷ bs) t =
    (a : List ℕ) × ((u : List ℕ) × (Answers (ended_lines [] (k ++ b)) a × (Run (kept (open_line [] (k ++ b))) bs u × (t ≡ a ++ u))))
