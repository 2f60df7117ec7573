-- UTF-8, as RFC 3629 has it.
use Rattle.std.specs.Prelude.{Bool, cond, List, [], ◌∷◌, ◌++◌, ◌⊎◌, ◌≡◌, ℕ, suc, ◌+◌, ◌-◌, ◌/◌, ◌%◌, ◌<◌, ◌≤◌, leb, ltb, eqb, length}

-- "A character is a Unicode code point": 0 to 0x10FFFF without 0xD800 to 0xDFFF
abbrev pub CodePoint : ℕ → Type 0
CodePoint c = ((c < 0xD800) ⊎ (0xDFFF < c)) × (c ≤ 0x10FFFF)

-- a byte behind the first of a character: 0b10 and the lowest six bits of n
abbrev pub tail : ℕ → ℕ
tail n = 0x80 + n % 0x40

-- the bytes of a code point, in the shortest form that has it
unfoldable pub encoded : ℕ → List ℕ
encoded c =
    cond (ltb c 0x80) (c ∷ [])
    (cond (ltb c 0x800) ((0xC0 + c / 0x40) ∷ tail c ∷ [])
    (cond (ltb c 0x10000) ((0xE0 + c / 0x1000) ∷ tail (c / 0x40) ∷ tail c ∷ [])
    ((0xF0 + c / 0x40000) ∷ tail (c / 0x1000) ∷ tail (c / 0x40) ∷ tail c ∷ [])))

-- the bytes of code points, one behind the other
unfoldable pub spelled : List ℕ → List ℕ
spelled [] = []
spelled (c ∷ cs) = encoded c ++ spelled cs

abbrev pub CodePoints : List ℕ → Type 0
CodePoints [] = Unit
CodePoints (c ∷ cs) = CodePoint c × CodePoints cs

-- the code points cs are spelled with the bytes s
pub record Spells (cs s : List ℕ) : Type 0 where
  pub points : CodePoints cs
  pub bytes : spelled cs ≡ s

-- "UTF-8": some list of code points is spelled with the bytes s
abbrev pub IsUtf8 : List ℕ → Type 0
IsUtf8 s = (cs : List ℕ) × Spells cs s

-- r tells whether the bytes s are UTF-8
abbrev pub TellsUtf8 : List ℕ → Bool → Type 0
TellsUtf8 s r = cond r (IsUtf8 s) (IsUtf8 s → ⊥)

-- how many of the code points are spelled before the byte place i
unfoldable pub characters_before : ℕ → List ℕ → ℕ
characters_before i [] = 0
characters_before i (c ∷ cs) = cond (leb (length (encoded c)) i) (suc (characters_before (i - length (encoded c)) cs)) 0

-- how many bytes do not begin with the bits 0b10; in UTF-8 these are the first bytes of the characters
unfoldable pub starts : List ℕ → ℕ
starts [] = 0
starts (b ∷ s) = cond (eqb (b / 0x40) 0b10) (starts s) (suc (starts s))
