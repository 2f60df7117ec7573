-- What tests in a row come to, said once for every call.
use mathlib.Core.Bool.{Bool, true, false, ◌&&◌, true≢false}
use mathlib.Core.List.{List, [], ◌∷◌}
use mathlib.Core.Logic.{◌↔◌, inl, inr}
use mathlib.Core.Path.{◌≡◌, refl, sym, ◌∙◌}
use Prim.Native.Nat.{ℕ, ◌≤◌, ◌<◌}
use native.Mathlib.Nat.{le_refl}
use native.Mathlib.Omega.{arith}
use lib.Dec.{T, leb, ltb, leb→le, ltb→lt}
use Rattle.calendar.proofs.Each.{T-both}
use Rattle.calendar.specs.Refusal.{numbered, refusal_number, Test, ◌unless◌, checked, Holds, Lowest}
use Rattle.calendar.specs.declared.refusal.Refusal.{Refusal}
use Rattle.std.specs.Prelude.{Ok, Err}

pub refusal_digit : (x : Refusal) → refusal_number x ≤ 9
refusal_digit x = leb→le (refusal_number x) 9 (numbered x).1

-- ---- the lowest number that holds is given
abbrev pub AllPass : List Test → Type 0
AllPass [] = Unit {0}
AllPass (x unless passed ∷ ts) = (passed ≡ true) × AllPass ts

-- the numbers of tests rise, from above n on
abbrev pub rising : ℕ → List Test → Bool
rising n [] = true
rising n (x unless passed ∷ ts) = ltb n (refusal_number x) && rising (refusal_number x) ts

later : (n : ℕ) (x : Refusal) (ts : List Test) → T (ltb n (refusal_number x) && rising (refusal_number x) ts)
    → (n < refusal_number x) × T (rising (refusal_number x) ts)
later n x ts rises =
    let both = T-both (ltb n (refusal_number x)) (rising (refusal_number x) ts) rises in
    (ltb→lt n (refusal_number x) both.0, both.1)

pub above : (n : ℕ) (ts : List Test) (x : Refusal) → T (rising n ts) → Holds ts x → n < refusal_number x
above n [] x rises h = absurd h
above n (y unless passed ∷ ts) x rises (inl e) = rw (← e.0) (later n y ts rises).0
above n (y unless passed ∷ ts) x rises (inr h) =
    let more = above (refusal_number y) ts x (later n y ts rises).1 h in
    omega (arith, (later n y ts rises).0)

-- no number of a test is above n
abbrev pub up_to : ℕ → List Test → Bool
up_to n [] = true
up_to n (x unless passed ∷ ts) = leb (refusal_number x) n && up_to n ts

pub at_most : (n : ℕ) (ts : List Test) (x : Refusal) → T (up_to n ts) → Holds ts x → refusal_number x ≤ n
at_most n [] x small h = absurd h
at_most n (y unless passed ∷ ts) x small (inl e) = rw (← e.0) (leb→le (refusal_number y) n (T-both (leb (refusal_number y) n) (up_to n ts) small).0)
at_most n (y unless passed ∷ ts) x small (inr h) = at_most n ts x (T-both (leb (refusal_number y) n) (up_to n ts) small).1 h

behind : (x : Refusal) (ts : List Test) (y : Refusal) → Holds (x unless true ∷ ts) y → Holds ts y
behind x ts y (inl h) = absurd (true≢false h.1)
behind x ts y (inr h) = h

-- n is given exactly when it is the lowest number that holds, where the answer itself has another number
module _ {A : Type 0} (number : A → ℕ) (refused : Refusal → A) (told : (x : Refusal) → number (refused x) ≡ refusal_number x) (n : ℕ)
    (answer : A) where
  pub given : (k : ℕ) (ts : List Test) → T (rising k ts) → (AllPass ts → number answer ≡ n → ⊥)
      → (number (checked refused answer ts) ≡ n) ↔ Lowest (Holds ts) n
  given k [] rises other = (λ e. absurd (other tt e), λ l. absurd l.holds)
  given k (x unless true ∷ ts) rises other =
      let g = given (refusal_number x) ts (later k x ts rises).1 (λ all. other (refl, all)) in
      (λ e. more (g.0 e), λ l. g.1 (fewer l))
    where
      fewer : Lowest (Holds (x unless true ∷ ts)) n → Lowest (Holds ts) n
      fewer l = record { refusal = l.refusal; holds = behind x ts l.refusal l.holds; number = l.number; lowest = λ y h. l.lowest y (inr h) }

      more : Lowest (Holds ts) n → Lowest (Holds (x unless true ∷ ts)) n
      more l = record { refusal = l.refusal; holds = inr l.holds; number = l.number; lowest = λ y h. l.lowest y (behind x ts y h) }
  given k (x unless false ∷ ts) rises other = (λ e. here (sym (told x) ∙ e), λ l. told x ∙ same l)
    where
      first : (y : Refusal) → Holds (x unless false ∷ ts) y → refusal_number x ≤ refusal_number y
      first y (inl e) = rw e.0 (le_refl (refusal_number y))
      first y (inr h) = let more = above (refusal_number x) ts y (later k x ts rises).1 h in omega arith

      here : refusal_number x ≡ n → Lowest (Holds (x unless false ∷ ts)) n
      here e = record { refusal = x; holds = inl (refl, refl); number = e; lowest = λ y h. rw (← e) (first y h) }

      same : Lowest (Holds (x unless false ∷ ts)) n → refusal_number x ≡ n
      same l = omega (arith, l.lowest x (inl (refl, refl)), first l.refusal l.holds, l.number)

-- a result with the number m, in a relation that tests in a row make
module _ (no : Refusal → Type 0) (yes : Type 0) (m : ℕ) (told : (x : Refusal) → no x → m ≡ refusal_number x) where
  answered : (ts : List Test) → AllPass ts → checked no yes ts → yes
  answered [] all h = h
  answered (x unless true ∷ ts) all h = answered ts all.1 h
  answered (x unless false ∷ ts) all h = absurd (true≢false (sym all.0))

  first_number : (ts : List Test) → checked no yes ts → m ≡ checked refusal_number m ts
  first_number [] h = refl
  first_number (x unless true ∷ ts) h = first_number ts h
  first_number (x unless false ∷ ts) h = told x h

  pub given_of : (n : ℕ) (ts : List Test) → T (rising 0 ts) → (yes → m ≡ n → ⊥) → checked no yes ts → (m ≡ n) ↔ Lowest (Holds ts) n
  given_of n ts rises other h =
      rw (first_number ts h) (given (λ j. j) refusal_number (λ x. refl) n m 0 ts rises (λ all. other (answered ts all h)))

-- two results of one call, by what follows of them where they are refused and where they are answered
pub both_checked : {C : Type 0} {refused refused' : Refusal → Type 0} {answer answer' : Type 0} (ts : List Test)
    → ((x : Refusal) → refused x → refused' x → C) → (answer → answer' → C)
    → checked refused answer ts → checked refused' answer' ts → C
both_checked [] if_refused if_answered h g = if_answered h g
both_checked (x unless true ∷ ts) if_refused if_answered h g = both_checked ts if_refused if_answered h g
both_checked (x unless false ∷ ts) if_refused if_answered h g = if_refused x h g

-- ---- days and refusals
pub no_day : {A : Type 0} (x : Refusal) (n : ℕ) → Err x ≡ Ok n → A
no_day x n e = let z : ◌≡◌ {A = ℕ} 0 1 = cc in absurd (omega arith)

-- a day is answered where all tests are passed
pub passed : (ts : List Test) (m n : ℕ) → checked Err (Ok m) ts ≡ Ok n → AllPass ts × (m ≡ n)
passed [] m n e = (tt, cc)
passed (x unless true ∷ ts) m n e = let p = passed ts m n e in ((refl, p.0), p.1)
passed (x unless false ∷ ts) m n e = no_day x n e

pub passed_day : (t : Bool) (x : Refusal) (m n : ℕ) → checked Err (Ok m) (x unless t ∷ []) ≡ Ok n → (t ≡ true) × (m ≡ n)
passed_day t x m n e = let p = passed (x unless t ∷ []) m n e in (p.0.0, p.1)

-- and refused by a test that is not passed
pub refused_by : (t : Bool) (x y : Refusal) (m : ℕ) → checked Err (Ok m) (x unless t ∷ []) ≡ Err y → (t ≡ false) × (y ≡ x)
refused_by true x y m e = no_day y m (sym e)
refused_by false x y m e = (refl, cc)
