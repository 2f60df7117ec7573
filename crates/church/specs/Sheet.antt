-- Year sheets.
use Rattle.std.specs.Prelude.{Bool, cond, List, [], ◌∷◌, ◌≡◌, ℕ}
use Rattle.calendar.specs.Refusal.{checked}
use Rattle.calendar.specs.Style.{dates_by, easter_by, style_of, in_style}
use Rattle.calendar.specs.Year.{named, leap}
use Rattle.church.specs.Easter.{limit, easter, key, easter_tests}
use Rattle.church.specs.Epact.{golden, epact, arabic}
use Rattle.church.specs.Letter.{first, second, SundayLetter}
use Rattle.calendar.specs.declared.style.Style.{Style}
use Rattle.calendar.specs.declared.year.NamedYear.{NamedYear}
use Rattle.church.specs.declared.sheet.YearSheet.{YearSheet}
use Rattle.std.specs.Prelude.{Result, Ok, Err}
use Rattle.calendar.specs.declared.refusal.Refusal.{Refusal}

-- "It holds: leap or not, golden number, epact, whether it is the Arabic 25 .., two Sunday letters .., the limit .., Easter as key and as day number."
-- of O: "Its sheet shows golden number, epact and limit of J, Sunday letters of G."
pub record IsSheet (s : Style) (y : ℕ) (r : YearSheet) : Type 0 where
  pub its_leap : r.leap ≡ leap (dates_by s) y
  pub its_golden : r.golden ≡ golden y
  pub its_epact : r.epact ≡ epact (easter_by s) y
  pub its_arabic : r.arabic ≡ arabic (easter_by s) y
  pub its_first : SundayLetter (dates_by s) y first r.letters.first
  pub its_second : SundayLetter (dates_by s) y second r.letters.second
  pub its_limit : r.limit ≡ limit (easter_by s) y
  pub its_key : r.key ≡ key s y
  pub its_easter : r.easter ≡ easter (easter_by s) y

-- the sheet of the named year t
abbrev pub IsSheetOf : NamedYear → Result YearSheet Refusal → Type 0
IsSheetOf t (Ok r) = IsSheet t.style t.year r
IsSheetOf t (Err x) = ⊥

-- what the sheet of the named year t may be: refused by 4, and else the year's sheet
abbrev pub IsSheetInYear : NamedYear → Result YearSheet Refusal → Type 0
IsSheetInYear t r = checked (λ x. r ≡ Err x) (IsSheetOf t r) (easter_tests (dates_by t.style) t.year)

-- 1 for yes and 0 for no
abbrev pub yes : Bool → ℕ
yes b = cond b 1 0

-- what a sheet holds, in the scope's order, letters as bytes; none where it is refused
abbrev pub sheet_numbers : Result YearSheet Refusal → List ℕ
sheet_numbers (Ok r) =
    yes r.leap ∷ r.golden ∷ r.epact ∷ yes r.arabic ∷ r.letters.first ∷ r.letters.second ∷ r.limit ∷ r.key ∷ r.easter ∷ []
sheet_numbers (Err x) = []

-- year sheet in the style with the number k: refused by 1, and else as in the style
abbrev pub IsSheetOfYear : ℕ → ℕ → Result YearSheet Refusal → Type 0
IsSheetOfYear k y r = in_style (λ x. r ≡ Err x) (λ s. IsSheetInYear (named s y) r) (style_of k)
