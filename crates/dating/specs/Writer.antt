-- The writer: the day of a style as a date.
use Rattle.std.specs.Prelude.{List, [], ◌∷◌, ◌++◌, ◌≡◌, ℕ, leb, length}
use Rattle.calendar.specs.Date.{day_in_year}
use Rattle.calendar.specs.Refusal.{Test, ◌unless◌, checked}
use Rattle.calendar.specs.Span.{in_span}
use Rattle.calendar.specs.Style.{style_letter, dates_by, style_of, in_style}
use Rattle.calendar.specs.Year.{named}
use Rattle.words.specs.Numeral.{field}
use Rattle.words.specs.Text.{space, point, over}
use Rattle.calendar.specs.declared.refusal.Refusal.{Refusal}
use Rattle.calendar.specs.declared.refusal.Refusal.TheVariants.{Length, Span}
use Rattle.calendar.specs.declared.style.Style.{Style}
use Rattle.calendar.specs.declared.year.NamedYear.{NamedYear}
use Rattle.std.specs.Prelude.{Result, Ok, Err}

-- "day.month, space, year, space, style letter .., numbers without leading zeros"
abbrev pub date_text : NamedYear → (month day : ℕ) → List ℕ
date_text t m d = field d point ++ field m space ++ field t.year space ++ style_letter t.style ∷ []

-- w is the date whose day is n, as it is written in the style s
pub record IsDateText (s : Style) (n : ℕ) (w : List ℕ) : Type 0 where
  pub year : ℕ
  pub month : ℕ
  pub day : ℕ
  pub is_date : day_in_year (named s year) month day ≡ Ok n
  pub text : w ≡ date_text (named s year) month day

-- the writer's tests, with so much room: refused by 2, "the writer's buffer has fewer than 12", or 6
abbrev pub write_tests : (room : ℕ) → Style → ℕ → List Test
write_tests room s n = Length unless leb 12 room ∷ Span unless in_span (dates_by s) n ∷ []

-- a call that is lent a buffer answers r and leaves the buffer, which held the bytes before, with the bytes after
module _ (before after : List ℕ) (r : Result ℕ Refusal) where
  -- "A refused call answers its number alone .. and changes no lent byte."
  abbrev pub Refuses : Refusal → Type 0
  Refuses x = (r ≡ Err x) × (after ≡ before)

  -- the bytes w "at the buffer's start, .. and answers the number of bytes; later bytes stay"
  abbrev pub Puts : List ℕ → Type 0
  Puts w = (r ≡ Ok (length w)) × (after ≡ over w before)

  -- the writer in a style
  abbrev pub WritesInStyle : Style → ℕ → Type 0
  WritesInStyle s n = checked Refuses ((w : List ℕ) × (IsDateText s n w × Puts w)) (write_tests (length before) s n)

  -- the writer in the style with the number k: refused by 1, and else as in the style
  abbrev pub Writes : ℕ → ℕ → Type 0
  Writes k n = in_style Refuses (λ s. WritesInStyle s n) (style_of k)
