-- Refusals, their numbers, and the tests that they are given by.
use Rattle.std.specs.Prelude.{Bool, true, false, List, [], ◌∷◌, ◌⊎◌, ◌≡◌, ℕ, ◌≤◌, T, leb, Result, Ok, Err}
use Rattle.calendar.specs.declared.refusal.Refusal.TheVariants.{Name, Length, Form, Year, Date, Span, Encoding}
use Rattle.calendar.specs.declared.refusal.Refusal.{Refusal}

-- "Refusal numbers, in the order of checking", each of one digit; a transcript is checked for 9 between its length and its places, both 2
abbrev pub numbered : Refusal → (n : ℕ) × T (leb n 9)
numbered Name = (1, tt)
numbered Length = (2, tt)
numbered Form = (3, tt)
numbered Year = (4, tt)
numbered Date = (5, tt)
numbered Span = (6, tt)
numbered Encoding = (9, tt)

abbrev pub refusal_number : Refusal → ℕ
refusal_number x = (numbered x).0

-- a refusal, and the test that has to be passed or else it holds
infix 68 ◌unless◌
pub data Test : Type 0 where
  ◌unless◌ : Refusal → Bool → Test

-- a call makes its tests in order: the first that is not passed refuses, and after all of them comes the answer
module _ {ℓ} {A : Type ℓ} (refused : Refusal → A) (answer : A) where
  abbrev pub checked : List Test → A
  checked [] = answer
  checked (x unless true ∷ ts) = checked ts
  checked (x unless false ∷ ts) = refused x

-- the refusal x holds by one of the tests
abbrev pub Holds : List Test → Refusal → Type 0
Holds [] x = ⊥
Holds (y unless passed ∷ ts) x = ((y ≡ x) × (passed ≡ false)) ⊎ Holds ts x

-- "The lowest number that holds": n is the number of a refusal that holds, and no other that holds has a lower one
pub record Lowest (holding : Refusal → Type 0) (n : ℕ) : Type 0 where
  pub refusal : Refusal
  pub holds : holding refusal
  pub number : refusal_number refusal ≡ n
  pub lowest : (x : Refusal) → holding x → n ≤ refusal_number x

-- "one answers the refusal, or 0 if there is none"
module _ {A : Type 0} where
  abbrev pub refusal_or_zero : Result A Refusal → ℕ
  refusal_or_zero (Ok a) = 0
  refusal_or_zero (Err x) = refusal_number x

-- "a call for a day answers one number, the day or the refusal"
abbrev pub number_or_refusal : Result ℕ Refusal → ℕ
number_or_refusal (Ok n) = n
number_or_refusal (Err x) = refusal_number x
