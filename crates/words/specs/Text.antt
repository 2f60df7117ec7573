-- Texts as bytes, where they are cut, and where they are put.
use Rattle.std.specs.Prelude.{Bool, false, ◌||◌, List, [] as nil, ◌∷◌ as cons, ◌++◌, ◌≡◌, ℕ, ◌-◌, ◌<◌, ◌≤◌, eqb, length, drop, get_or}
use Prim.Native.Char.{code}
use Prim.Native.String.{String, [], ◌∷◌}

-- the bytes of an ASCII text
abbrev pub bytes : String → List ℕ
bytes [] = nil
bytes (c ∷ s) = cons (code c) (bytes s)

abbrev pub space : ℕ
space = code " "

abbrev pub point : ℕ
point = code "."

-- the byte c stands in s
unfoldable pub has : ℕ → List ℕ → Bool
has c nil = false
has c (cons x s) = eqb x c || has c s

-- i is the place behind the last c of s, or the start where there is none
pub record BehindLast (c : ℕ) (s : List ℕ) (i : ℕ) : Type 0 where
  pub inside : i ≤ length s
  pub behind : has c (drop i s) ≡ false
  pub last : 0 < i → get_or s (i - 1) 0 ≡ c

-- the bytes w over the first of s; the later ones stay
abbrev pub over : List ℕ → List ℕ → List ℕ
over w s = w ++ drop (length w) s
