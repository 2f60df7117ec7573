-- The part of the line that is the feast word or date.
use Rattle.std.specs.Prelude.{List, [], ◌≡◌, ℕ, ◌+◌, length}
use Rattle.std.specs.Borrow.{Bor}
use Rattle.words.specs.Wrapper.{wrapper_words}
use Rattle.dating.specs.Anchor.{spell_anchor}
use Rattle.dating.specs.Line.{Line, line_day, LineTold}
use Rattle.dating.specs.Phrase.{Phrase, plain, wrapped, anchor_of}
use Rattle.dating.specs.declared.part.Place.{Place}
use Rattle.std.specs.Prelude.{Result, Ok, Err}
use Rattle.calendar.specs.declared.refusal.Refusal.{Refusal}

-- a part of a line: where it begins, and its bytes
pub record Part : Type 0 where
  pub start : ℕ
  pub text : List ℕ

-- how many bytes stand before the feast word or date
unfoldable pub bytes_before : Phrase → ℕ
bytes_before (plain a) = 0
bytes_before (wrapped w p) = length (wrapper_words w) + bytes_before p

-- "the part of the caller's line that is the feast word or date"
abbrev pub anchor_part : Phrase → Part
anchor_part p = record { start = bytes_before p; text = spell_anchor (anchor_of p) }

-- "the empty part at the line's start"
abbrev pub empty_part : Part
empty_part = record { start = 0; text = [] }

-- a part for an accepted line; "for a refused line it is the empty part"
abbrev pub if_accepted : Result ℕ Refusal → Part → Part
if_accepted (Ok n) p = p
if_accepted (Err x) p = empty_part

unfoldable pub line_part : Line → Part
line_part l = if_accepted (line_day l) (anchor_part l.phrase)

-- p is the part of the line s
abbrev pub IsPart : List ℕ → Part → Type 0
IsPart = LineTold line_part (λ x. empty_part)

-- where a part begins and where it ends
abbrev pub place_of : Part → Place
place_of p = record { start = p.start; end = p.start + length p.text }

-- r is the place of the part of the line s
abbrev pub IsPlace : List ℕ → Place → Type 0
IsPlace = LineTold (λ l. place_of (line_part l)) (λ x. place_of empty_part)

-- n is where the part of the line s begins; 0 for a refused line
abbrev pub IsPartStart : List ℕ → ℕ → Type 0
IsPartStart = LineTold (λ l. (line_part l).start) (λ x. 0)

-- n is how many bytes the part of the line s has; 0 for a refused line
abbrev pub IsPartLength : List ℕ → ℕ → Type 0
IsPartLength = LineTold (λ l. length (line_part l).text) (λ x. 0)

-- r is the part of the lent line x: it has the part's bytes, and lies in x's block as far behind x's start as the part in the line
pub record PartOf (x r : Bor (List ℕ)) : Type 0 where
  pub part : Part
  pub is_part : IsPart x.now part
  pub contents : r.now ≡ part.text
  pub block : r.ref_ptr.0 ≡ x.ref_ptr.0
  pub offset : r.ref_ptr.1 ≡ part.start + x.ref_ptr.1
