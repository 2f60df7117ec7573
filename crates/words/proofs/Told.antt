-- What bytes tell by any grammar.
use mathlib.Core.List.{List}
use mathlib.Core.Path.{◌≡◌, sym, ◌∙◌, ap}
use Prim.Native.Nat.{ℕ, ◌≤◌}
use Rattle.std.specs.Prelude.{Some, None}
use Rattle.words.specs.Numeral.{numbers}
use Rattle.words.specs.Told.{Grammar, Told, produced, unproduced}

-- no bytes are spelled by two good trees
abbrev pub OneReading : Grammar → Type 0
OneReading g = (x y : g.Tree) → g.Good x → g.Good y → g.spell x ≡ g.spell y → x ≡ y

module _ {g : Grammar} {R : Type 0} {meaning : g.Tree → R} {other : R} {s : List ℕ} where
  -- so they tell one thing
  pub one_told : OneReading g → (r q : R) → Told g meaning other s r → Told g meaning other s q → r ≡ q
  one_told one r q (produced x gx ex mx) (produced y gy ey my) = mx ∙ ap meaning (one x y gx gy (ex ∙ sym ey)) ∙ sym my
  one_told one r q (produced x gx ex mx) (unproduced n m) = absurd (n x gx ex)
  one_told one r q (unproduced n m) (produced y gy ey my) = absurd (n y gy ey)
  one_told one r q (unproduced n m) (unproduced k l) = m ∙ sym l

  -- what is made of the answer is told by the meaning that is made so
  pub told_map : {Q : Type 0} (f : R → Q) (r : R) → Told g meaning other s r → Told g (λ x. f (meaning x)) (f other) s (f r)
  told_map f r (produced x gx ex mx) = produced x gx ex (ap f mx)
  told_map f r (unproduced n m) = unproduced n (ap f m)

module _ {high : ℕ} {spelled : ℕ → List ℕ} {s : List ℕ} where
  pub number_told : (r : ℕ) → Told (numbers high spelled) Some None s (Some r) → ((1 ≤ r) × (r ≤ high)) × (spelled r ≡ s)
  number_told r (produced n g e m) = let same : r ≡ n = cc in rw same (g, e)
  number_told r (unproduced n m) = absurd (cc)

  pub number_untold : Told (numbers high spelled) Some None s None → (n : ℕ) → 1 ≤ n → n ≤ high → spelled n ≡ s → ⊥
  number_untold (produced n g e m) k low h f = cc
  number_untold (unproduced n m) k low h e = n k (low, h) e
