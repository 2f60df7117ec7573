-- Styles, their numbers, and calls that are given one.
use mathlib.Core.Bool.{Bool, true, false, cond, true≢false}
use mathlib.Core.List.{List, [], ◌∷◌}
use mathlib.Core.Logic.{◌↔◌}
use mathlib.Core.Path.{◌≡◌, refl, sym}
use Prim.Native.Nat.{ℕ}
use lib.Dec.{T, eqb}
use Rattle.calendar.proofs.refusal.Laws.{AllPass, rising, given, given_of}
use Rattle.calendar.specs.Refusal.{refusal_number, Test, ◌unless◌, checked, Holds, Lowest}
use Rattle.calendar.specs.Style.{style_number, dates_by, wholly, style_of, in_style, by_number}
use Rattle.calendar.specs.declared.refusal.Refusal.TheVariants.{Name}
use Rattle.calendar.specs.declared.refusal.Refusal.{Refusal}
use Rattle.calendar.specs.declared.style.Calendar.TheVariants.{Julian, Gregorian}
use Rattle.calendar.specs.declared.style.Calendar.{Calendar}
use Rattle.calendar.specs.declared.style.Style.TheVariants.{J, G, O}
use Rattle.calendar.specs.declared.style.Style.{Style}
use Rattle.std.specs.Prelude.{Result, Ok, Err}

-- a call by the number of a style is the call in that style
pub by_number_lem : (s : Style) → style_of (style_number s) ≡ Ok s
unfolding style_of
by_number_lem J = refl
by_number_lem G = refl
by_number_lem O = refl

-- both sides of a style that goes wholly by one calendar
pub whole_dates : (c : Calendar) → dates_by (wholly c) ≡ c
whole_dates Julian = refl
whole_dates Gregorian = refl

-- what holds in each style, and where there is none, holds whatever the number
pub by_cases {ℓ} : (P : Result Style Refusal → Type ℓ) → ((s : Style) → P (Ok s)) → P (Err Name) → (k : ℕ) → P (style_of k)
unfolding style_of
by_cases P known none k = go (eqb k 1) (eqb k 2) (eqb k 3)
  where
    go : (a b c : Bool) → P (cond a (Ok J) (cond b (Ok G) (cond c (Ok O) (Err Name))))
    go true b c = known J
    go false true c = known G
    go false false true = known O
    go false false false = none

-- two results of one call, by what follows of them in each style and where they are refused
pub both_in : {C : Type 0} {refused refused' : Refusal → Type 0} {call call' : Style → Type 0} (t : Result Style Refusal)
    → ((s : Style) → call s → call' s → C) → ((x : Refusal) → refused x → refused' x → C)
    → in_style refused call t → in_style refused' call' t → C
both_in (Ok s) known none h h' = known s h h'
both_in (Err x) known none h h' = none x h h'

-- the lowest number that holds is given, by a style's number too
module _ {A : Type 0} (number : A → ℕ) (refused : Refusal → A) (told : (x : Refusal) → number (refused x) ≡ refusal_number x) (n : ℕ) where
  pub given_by_number : (answer : Style → A) (tests : Style → List Test) → ((s : Style) → T (rising 0 (tests s)))
      → ((s : Style) → AllPass (tests s) → number (answer s) ≡ n → ⊥) → (k : ℕ)
      → (number (in_style refused (λ s. checked refused (answer s) (tests s)) (style_of k)) ≡ n) ↔ Lowest (Holds (by_number tests k)) n
  given_by_number answer tests rises other k =
      by_cases
      (λ t. (number (in_style refused (λ s. checked refused (answer s) (tests s)) t) ≡ n)
      ↔ Lowest (Holds (in_style (λ x. x unless false ∷ []) tests t)) n)
      (λ s. given number refused told n (answer s) 0 (tests s) (rises s) (other s))
      (given number refused told n (refused Name) 0 (Name unless false ∷ []) tt (λ all e. true≢false (sym all.0)))
      k

-- and of a result with the number m, where what a call may answer is a relation
module _ (no : Refusal → Type 0) (yes : Style → Type 0) (m : ℕ) (told : (x : Refusal) → no x → m ≡ refusal_number x) where
  pub given_of_any : (n : ℕ) (tests : Style → List Test) → ((s : Style) → T (rising 0 (tests s))) → ((s : Style) → yes s → m ≡ n → ⊥)
      → (k : ℕ) → in_style no (λ s. checked no (yes s) (tests s)) (style_of k) → (m ≡ n) ↔ Lowest (Holds (by_number tests k)) n
  given_of_any n tests rises other k h =
      by_cases
      (λ t. in_style no (λ s. checked no (yes s) (tests s)) t → (m ≡ n) ↔ Lowest (Holds (in_style (λ x. x unless false ∷ []) tests t)) n)
      (λ s. given_of no (yes s) m told n (tests s) (rises s) (other s))
      (given_of no ⊥ m told n (Name unless false ∷ []) tt (λ none. absurd none))
      k h
