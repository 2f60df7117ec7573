-- Wrappers: their words, and the phrases that begin with them.
use Rattle.std.specs.Prelude.{List, [], ◌∷◌, ◌++◌, ℕ, pred, ◌≤◌, length, get_or}
use Prim.Native.String.{String}
use Rattle.words.specs.Text.{bytes}
use Rattle.words.specs.Told.{Grammar}
use Rattle.calendar.specs.declared.weekday.Side.TheVariants.{After, Before}
use Rattle.calendar.specs.declared.weekday.Side.{Side}
use Rattle.calendar.specs.declared.weekday.Start.TheVariants.{Counted, Uncounted}
use Rattle.calendar.specs.declared.weekday.Start.{Start}
use Rattle.words.specs.declared.wrapper.Lead.{Lead}
use Rattle.words.specs.declared.wrapper.Wrapper.TheVariants.{Eve, Morrow, Octave, First}
use Rattle.words.specs.declared.wrapper.Wrapper.{Wrapper}

-- "Weekdays: mon, tue, wed, thu, fri, sat, sun."
abbrev pub weekday_words : List String
weekday_words = "mon" ∷ "tue" ∷ "wed" ∷ "thu" ∷ "fri" ∷ "sat" ∷ "sun" ∷ []

-- the word of the weekday w from 1 to 7
abbrev pub weekday_word : ℕ → List ℕ
weekday_word w = bytes (get_or weekday_words (pred w) "")

-- behind a weekday, where the starting day counts: "on or"
abbrev pub start_words : Start → List ℕ
start_words Counted = bytes " on or"
start_words Uncounted = []

abbrev pub side_word : Side → List ℕ
side_word After = bytes " after "
side_word Before = bytes " before "

-- the words of a wrapper, with the space behind them; First c x w is the weekday w "after" or "before", or "on or after" or "on or before"
abbrev pub wrapper_words : Wrapper → List ℕ
wrapper_words Eve = bytes "eve of "
wrapper_words Morrow = bytes "morrow of "
wrapper_words Octave = bytes "octave of "
wrapper_words (First c x w) = weekday_word w ++ (start_words c ++ side_word x)

-- a weekday's number lies from 1 to 7
abbrev pub GoodWrapper : Wrapper → Type 0
GoodWrapper Eve = Unit
GoodWrapper Morrow = Unit
GoodWrapper Octave = Unit
GoodWrapper (First c x w) = (1 ≤ w) × (w ≤ 7)

-- a wrapper's words before any bytes
pub record Leading : Type 0 where
  pub wrapper : Wrapper
  pub rest : List ℕ

abbrev pub leadings : Grammar
leadings = record { Tree = Leading; Good = λ x. GoodWrapper x.wrapper; spell = λ x. wrapper_words x.wrapper ++ x.rest }

-- the wrapper, and how many bytes its words take
abbrev pub lead : Leading → Lead
lead x = record { wrapper = x.wrapper; length = length (wrapper_words x.wrapper) }
