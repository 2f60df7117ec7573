-- The styles, each with two sides: the calendar that its dates go by, and the calendar that its Easter goes by.
use Rattle.std.specs.Prelude.{false, cond, List, [], ◌∷◌, ℕ, eqb}
use Prim.Native.Char.{code}
use Rattle.calendar.specs.Refusal.{Test, ◌unless◌}
use Rattle.calendar.specs.declared.refusal.Refusal.TheVariants.{Name}
use Rattle.calendar.specs.declared.refusal.Refusal.{Refusal}
use Rattle.calendar.specs.declared.style.Calendar.TheVariants.{Julian, Gregorian}
use Rattle.calendar.specs.declared.style.Calendar.{Calendar}
use Rattle.calendar.specs.declared.style.Style.TheVariants.{J, G, O}
use Rattle.calendar.specs.declared.style.Style.{Style}
use Rattle.std.specs.Prelude.{Result, Ok, Err}

-- "J (Julian, number 1) and G (Gregorian, number 2)"; "O is style number 3 and a line's letter"
abbrev pub style_number : Style → ℕ
style_number J = 1
style_number G = 2
style_number O = 3

-- the byte of the style's letter
abbrev pub style_letter : Style → ℕ
style_letter J = code "J"
style_letter G = code "G"
style_letter O = code "O"

-- the calendar that the style's dates go by; in O "dates, span and leap years of G"
abbrev pub dates_by : Style → Calendar
dates_by J = Julian
dates_by G = Gregorian
dates_by O = Gregorian

-- the calendar that its Easter goes by; in O "Easter the same day as the J rule gives for that year"
abbrev pub easter_by : Style → Calendar
easter_by J = Julian
easter_by G = Gregorian
easter_by O = Julian

-- the style that goes wholly by one calendar
abbrev pub wholly : Calendar → Style
wholly Julian = J
wholly Gregorian = G

-- refusal 1: "a style .. number given to a public call is not in its list"
unfoldable pub style_of : ℕ → Result Style Refusal
style_of n =
    cond (eqb n (style_number J)) (Ok J)
    (cond (eqb n (style_number G)) (Ok G)
    (cond (eqb n (style_number O)) (Ok O)
    (Err Name)))

-- the style's number, or 0 where it is refused
abbrev pub style_or_zero : Result Style Refusal → ℕ
style_or_zero (Ok s) = style_number s
style_or_zero (Err x) = 0

-- a call that is given a style's number: refused where that names no style, and else the call in the style
module _ {ℓ} {A : Type ℓ} where
  abbrev pub in_style : (Refusal → A) → (Style → A) → Result Style Refusal → A
  in_style refused call (Ok s) = call s
  in_style refused call (Err x) = refused x

-- the tests of a call that is given a style's number: where that names no style, it is not passed and is the only one
abbrev pub by_number : (Style → List Test) → ℕ → List Test
by_number tests k = in_style (λ x. x unless false ∷ []) tests (style_of k)
