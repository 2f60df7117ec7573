-- The lines of an input or a page, and the output that answers them.
use Rattle.std.specs.Prelude.{false, cond, List, [], ◌∷◌, ◌++◌, ◌⊎◌, ◌≡◌, ℕ, eqb}
use Rattle.words.specs.Text.{has}
use Rattle.dating.specs.Answer.{line_feed, IsAnswer}
use Rattle.places.specs.Turn.{InTurn}

-- the lines that the line feeds in s end; p are the bytes of the first that stand before s
unfoldable pub ended_lines : List ℕ → List ℕ → List (List ℕ)
ended_lines p [] = []
ended_lines p (c ∷ s) = cond (eqb c line_feed) (p ∷ ended_lines [] s) (ended_lines (p ++ c ∷ []) s)

-- the bytes behind the last line feed, or all of p and s where there is none
unfoldable pub open_line : List ℕ → List ℕ → List ℕ
open_line p [] = p
open_line p (c ∷ s) = cond (eqb c line_feed) (open_line [] s) (open_line (p ++ c ∷ []) s)

-- "the last may lack it": bytes behind the last line feed are a line, and none are not
abbrev pub last_line : List ℕ → List (List ℕ)
last_line [] = []
last_line (c ∷ s) = (c ∷ s) ∷ []

-- of an input, "dating lines ended by a line feed (the last may lack it)"; of a page, "A last line feed ends a line and opens none"
abbrev pub lines_of : List ℕ → List (List ℕ)
lines_of s = ended_lines [] s ++ last_line (open_line [] s)

-- s has no bytes or ends in a line feed, so that no line is still open
abbrev pub AllEnded : List ℕ → Type 0
AllEnded s = (s ≡ []) ⊎ ((u : List ℕ) × (s ≡ u ++ line_feed ∷ []))

-- the bytes of lines, each with a line feed behind it
abbrev pub each_ended : List (List ℕ) → List ℕ
each_ended [] = []
each_ended (l ∷ ls) = l ++ line_feed ∷ each_ended ls

-- no line has a line feed in it
abbrev pub AllLack : List (List ℕ) → Type 0
AllLack [] = Unit {0}
AllLack (l ∷ ls) = (has line_feed l ≡ false) × AllLack ls

-- ls are the lines of s by their shape: none has a line feed in it, each is ended by one, and only a last line that is not empty may lack it
pub data HasLines : List ℕ → List (List ℕ) → Type 0 where
  none : HasLines [] []
  ended : {l s : List ℕ} {ls : List (List ℕ)} → has line_feed l ≡ false → HasLines s ls → HasLines (l ++ line_feed ∷ s) (l ∷ ls)
  unended : {c : ℕ} {l : List ℕ} → has line_feed (c ∷ l) ≡ false → HasLines (c ∷ l) ((c ∷ l) ∷ [])

-- t is the answers to the lines, one behind the other
abbrev pub Answers : List (List ℕ) → List ℕ → Type 0
Answers = InTurn IsAnswer

-- t is the output for the input s
abbrev pub IsOutput : List ℕ → List ℕ → Type 0
IsOutput s t = Answers (lines_of s) t
