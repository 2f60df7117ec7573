-- Phrases: wrappers before a feast word or date.
use Rattle.std.specs.Prelude.{Bool, ◌&&◌, List, [], ◌∷◌, ◌++◌, ℕ}
use Rattle.calendar.specs.Refusal.{Test, ◌unless◌, checked}
use Rattle.calendar.specs.Span.{in_span}
use Rattle.calendar.specs.Style.{dates_by}
use Rattle.church.specs.Feast.{served_for, date_exists, rule_number}
use Rattle.words.specs.Wrapper.{wrapper_words, GoodWrapper}
use Rattle.dating.specs.Act.{moved}
use Rattle.dating.specs.Anchor.{Anchor, spell_anchor, GoodAnchor, anchor_rule}
use Rattle.calendar.specs.declared.refusal.Refusal.TheVariants.{Year, Date, Span}
use Rattle.calendar.specs.declared.style.Calendar.{Calendar}
use Rattle.calendar.specs.declared.year.NamedYear.{NamedYear}
use Rattle.words.specs.declared.wrapper.Wrapper.{Wrapper}
use Rattle.std.specs.Prelude.{Result, Ok, Err}
use Rattle.calendar.specs.declared.refusal.Refusal.{Refusal}

-- "A phrase is a feast word, or a date, or one of these before a phrase"
pub data Phrase : Type 0 where
  plain : Anchor → Phrase
  wrapped : Wrapper → Phrase → Phrase

unfoldable pub spell_phrase : Phrase → List ℕ
spell_phrase (plain a) = spell_anchor a
spell_phrase (wrapped w p) = wrapper_words w ++ spell_phrase p

unfoldable pub GoodPhrase : Phrase → Type 0
GoodPhrase (plain a) = GoodAnchor a
GoodPhrase (wrapped w p) = GoodWrapper w × GoodPhrase p

-- the feast word or date behind all wrappers
unfoldable pub anchor_of : Phrase → Anchor
anchor_of (plain a) = a
anchor_of (wrapped w p) = anchor_of p

-- the day that a phrase comes to from the day n of its feast or date: "each wrapper acts, the innermost first"
unfoldable pub comes_to : Phrase → ℕ → ℕ
comes_to (plain a) n = n
comes_to (wrapped w p) n = moved w (comes_to p n)

-- "Every day on the way must lie in the span."
unfoldable pub stays_in : Calendar → Phrase → ℕ → Bool
stays_in c (plain a) n = in_span c n
stays_in c (wrapped w p) n = stays_in c p n && in_span c (comes_to (wrapped w p) n)

-- a phrase in the named year t
module _ (t : NamedYear) (p : Phrase) where
  -- "The feast or date is taken in the named year.": its year is served, it is a date of that year, and its day number
  abbrev pub year_served : Bool
  year_served = served_for (anchor_rule (anchor_of p)) (dates_by t.style) t.year

  abbrev pub date_there : Bool
  date_there = date_exists (anchor_rule (anchor_of p)) (dates_by t.style) t.year

  abbrev pub start_day : ℕ
  start_day = rule_number (anchor_rule (anchor_of p)) t.style t.year

  -- the tests of the phrase
  abbrev pub phrase_tests : List Test
  phrase_tests = Year unless year_served ∷ Date unless date_there ∷ Span unless stays_in (dates_by t.style) p start_day ∷ []

  -- its day, refused by 4, 5 or 6
  unfoldable pub phrase_day : Result ℕ Refusal
  phrase_day = checked Err (Ok (comes_to p start_day)) phrase_tests
