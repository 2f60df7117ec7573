-- Two sheets that a contract allows are equal.
use mathlib.Core.Bool.{Bool, true, false}
use mathlib.Core.List.{[], ◌∷◌}
use mathlib.Core.Path.{◌≡◌, sym, ◌∙◌, ap}
use Prim.Native.Nat.{ℕ}
use native.Mathlib.Omega.{arith}
use Rattle.calendar.proofs.refusal.Laws.{both_checked}
use Rattle.church.proofs.letter.Laws.{one_letter}
use Rattle.calendar.specs.Refusal.{◌unless◌, checked}
use Rattle.calendar.specs.declared.refusal.Refusal.TheVariants.{Year}
use Rattle.church.specs.Easter.{has_easter, easter_tests}
use Rattle.church.specs.Letter.{first, second}
use Rattle.church.specs.Sheet.{IsSheet, IsSheetOf, IsSheetInYear}
use Rattle.calendar.specs.Style.{dates_by}
use Rattle.calendar.specs.declared.style.Style.{Style}
use Rattle.calendar.specs.declared.year.NamedYear.{NamedYear}
use Rattle.church.specs.declared.sheet.YearSheet.{YearSheet}
use Rattle.std.specs.Prelude.{Result, Ok, Err}
use Rattle.calendar.specs.declared.refusal.Refusal.{Refusal}

one_sheet : (s : Style) (y : ℕ) (r r' : YearSheet) → IsSheet s y r → IsSheet s y r' → r ≡ r'
one_sheet s y r r' h h' =
    λ i. record {
      leap = (h.its_leap ∙ sym h'.its_leap) i;
      golden = (h.its_golden ∙ sym h'.its_golden) i;
      epact = (h.its_epact ∙ sym h'.its_epact) i;
      arabic = (h.its_arabic ∙ sym h'.its_arabic) i;
      letters =
          record {
            first = (one_letter (dates_by s) y first _ h.its_first ∙ sym (one_letter (dates_by s) y first _ h'.its_first)) i;
            second = (one_letter (dates_by s) y second _ h.its_second ∙ sym (one_letter (dates_by s) y second _ h'.its_second)) i;
          };
      limit = (h.its_limit ∙ sym h'.its_limit) i;
      key = (h.its_key ∙ sym h'.its_key) i;
      easter = (h.its_easter ∙ sym h'.its_easter) i;
    }

one_of : (t : NamedYear) (a b : Result YearSheet Refusal) → IsSheetOf t a → IsSheetOf t b → a ≡ b
one_of t (Ok r) (Ok r') h h' = ap Ok (one_sheet t.style t.year r r' h h')
one_of t (Ok r) (Err x) h h' = absurd h'
one_of t (Err x) b h h' = absurd h

-- Any two answers that the year sheet may give are equal, in a style.
pub one_answer_in_year : (t : NamedYear) (r r' : Result YearSheet Refusal) → IsSheetInYear t r → IsSheetInYear t r' → r ≡ r'
one_answer_in_year t r r' h h' =
    both_checked (easter_tests (dates_by t.style) t.year) (λ x (p : r ≡ Err x) (q : r' ≡ Err x). p ∙ sym q) (one_of t r r') h h'

-- A sheet that is answered is its year's.
pub answered_sheet : (t : NamedYear) (r : YearSheet) → IsSheetInYear t (Ok r) → IsSheet t.style t.year r
answered_sheet t r h = go (has_easter (dates_by t.style) t.year) h
  where
    go : (has : Bool) → checked (λ x. Ok r ≡ Err x) (IsSheet t.style t.year r) (Year unless has ∷ []) → IsSheet t.style t.year r
    go true h = h
    go false h = let z : ◌≡◌ {A = ℕ} 0 1 = cc in absurd (omega arith)
