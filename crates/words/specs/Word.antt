-- Feast words.
use Rattle.std.specs.Prelude.{List, ℕ}
use Prim.Native.String.{String}
use Rattle.church.specs.Feast.{Feast, ◌is◌, feast_of}
use Rattle.words.specs.Numeral.{numbers}
use Rattle.words.specs.Text.{bytes}
use Rattle.words.specs.Told.{Grammar}

abbrev pub word_of : Feast → String
word_of (word is r) = word

-- the word of the feast with the number f from 1 to 48
abbrev pub feast_word : ℕ → List ℕ
feast_word f = bytes (word_of (feast_of f))

abbrev pub feast_words : Grammar
feast_words = numbers 48 feast_word
