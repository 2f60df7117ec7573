-- A table of facts under one claim.
use mathlib.Core.List.{List, [], ◌∷◌}

-- each row of the table holds
infixr 67 ◌also◌
pub data All {Row : Type 0} (Holds : Row → Type 0) : List Row → Type 0 where
  none : All Holds []
  ◌also◌ : {r : Row} {rows : List Row} → Holds r → All Holds rows → All Holds (r ∷ rows)
