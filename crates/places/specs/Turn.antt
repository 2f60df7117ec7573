-- The bytes that tell several things, one behind the other.
use Rattle.std.specs.Prelude.{List, [], ◌∷◌, ◌++◌, ◌≡◌, ℕ}

-- t is the bytes that tell each thing, one behind the other, and no others
module _ {A : Type 0} (tells : A → List ℕ → Type 0) where
  abbrev pub InTurn : List A → List ℕ → Type 0
  InTurn [] t = t ≡ []
  InTurn (x ∷ xs) t = (a : List ℕ) × ((u : List ℕ) × (tells x a × (InTurn xs u × (t ≡ a ++ u))))
