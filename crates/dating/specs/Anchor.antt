-- Feast words and dates, on which the wrappers act.
use Rattle.std.specs.Prelude.{List, ◌∷◌, ◌++◌, ℕ, ◌≤◌}
use Rattle.church.specs.Feast.{Rule, on, rule}
use Rattle.words.specs.Numeral.{numeral}
use Rattle.words.specs.Text.{point}
use Rattle.words.specs.Word.{feast_word}

-- "A phrase is a feast word, or a date": a feast by its number, a date by its day and month
pub data Anchor : Type 0 where
  feast : ℕ → Anchor
  date : (day month : ℕ) → Anchor

-- "A date is a day .., a point, a month .., without leading zeros."
unfoldable pub spell_anchor : Anchor → List ℕ
spell_anchor (feast f) = feast_word f
spell_anchor (date d m) = numeral d ++ point ∷ numeral m

-- "a day 1 to 31, .. a month 1 to 12"
unfoldable pub GoodAnchor : Anchor → Type 0
GoodAnchor (feast f) = (1 ≤ f) × (f ≤ 48)
GoodAnchor (date d m) = ((1 ≤ d) × (d ≤ 31)) × ((1 ≤ m) × (m ≤ 12))

-- when it is kept: by the feast's rule, or on the date
abbrev pub anchor_rule : Anchor → Rule
anchor_rule (feast f) = rule f
anchor_rule (date d m) = on d m
