-- Pairs of brackets, and the marks between them.
use Rattle.std.specs.Prelude.{Bool, true, false, ◌&&◌, not, List, [], ◌∷◌, ◌↔◌, ◌⊎◌, ◌≡◌, ℕ, zero, suc, ◌+◌, ◌-◌, ◌≤◌, eqb, get_or, Option, Some, None}
use Prim.Native.Char.{code}
use Rattle.marks.specs.declared.mark.Mark.{Mark}

-- two bytes b stand at the place i
abbrev pub two : ℕ → List ℕ → ℕ → Bool
two b s i = eqb (get_or s i 0) b && eqb (get_or s (suc i) 0) b

-- a pair stands at the place i, "taken from left to right without overlap": two bytes b, the first of which no pair just before has taken
unfoldable pub pair : ℕ → List ℕ → ℕ → Bool
pair b s zero = two b s zero
pair b s (suc i) = two b s (suc i) && not (pair b s i)

-- [[ and ]]
abbrev pub opening : List ℕ → ℕ → Bool
opening = pair (code "[")

abbrev pub closing : List ℕ → ℕ → Bool
closing = pair (code "]")

-- "A mark is what stands between a [[ and the nearest ]] after it with neither pair between": "Start is the first place of that text
-- and end the place just past it, both counted from 0"
pub record IsMark (s : List ℕ) (m : Mark) : Type 0 where
  pub behind : 2 ≤ m.start
  pub opened : opening s (m.start - 2) ≡ true
  pub closed : closing s m.end ≡ true
  pub forward : m.start ≤ m.end
  pub between : (i : ℕ) → m.start ≤ i → i + 2 ≤ m.end → (opening s i ≡ false) × (closing s i ≡ false)

abbrev pub In : Mark → List Mark → Type 0
In m [] = ⊥
In m (x ∷ ms) = (m ≡ x) ⊎ In m ms

-- the marks begin at i or later, each later than the one before it
abbrev pub RiseFrom : ℕ → List Mark → Type 0
RiseFrom i [] = Unit
RiseFrom i (m ∷ ms) = (i ≤ m.start) × RiseFrom (suc m.start) ms

-- "All marks are given, once each, by place"
pub record AreMarks (s : List ℕ) (ms : List Mark) : Type 0 where
  pub each : (m : Mark) → In m ms ↔ IsMark s m
  pub rise : RiseFrom 0 ms

-- r is the first mark of s by its place, or there is none
abbrev pub IsFirstMark : List ℕ → Option Mark → Type 0
IsFirstMark s (Some m) = IsMark s m × ((o : Mark) → IsMark s o → m.start ≤ o.start)
IsFirstMark s None = (o : Mark) → IsMark s o → ⊥
