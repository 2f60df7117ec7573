-- Numerals.
use Rattle.std.specs.Prelude.{cond, List, [], ◌∷◌, ◌++◌, ◌≡◌, ℕ, zero, suc, ◌+◌, ◌/◌, ◌%◌, ◌<◌, ◌≤◌, min, ltb, length, get_or}
use Prim.Native.Char.{code}
use Rattle.words.specs.Told.{Grammar}

-- the byte of a digit from 0 to 9
abbrev pub digit : ℕ → ℕ
digit n = code "0" + n

-- a number in decimal "without leading zeros", where suc k digits suffice
unfoldable pub decimal : ℕ → ℕ → List ℕ
decimal zero n = digit n ∷ []
decimal (suc k) n = cond (ltb n 10) (digit n ∷ []) (decimal k (n / 10) ++ digit (n % 10) ∷ [])

-- the numeral of a number of at most twenty digits, as 64-bit numbers are
abbrev pub numeral : ℕ → List ℕ
numeral n = decimal 19 n

-- "1 to 4 digits, the first not 0"
pub record YearDigits (s : List ℕ) : Type 0 where
  pub some : 1 ≤ length s
  pub few : length s ≤ 4
  pub digits : (i : ℕ) → i < length s → (code "0" ≤ get_or s i 0) × (get_or s i 0 ≤ code "9")
  pub first : get_or s 0 0 ≡ code "0" → ⊥

-- a numeral and the byte c behind it
abbrev pub field : ℕ → ℕ → List ℕ
field n c = numeral n ++ c ∷ []

-- the numbers from 1 to high, spelled in some way
abbrev pub numbers : ℕ → (ℕ → List ℕ) → Grammar
numbers high spelled = record { Tree = ℕ; Good = λ n. (1 ≤ n) × (n ≤ high); spell = spelled }

-- the numerals of the numbers from 1 to high, or to 9999 where high is greater
abbrev pub numerals : ℕ → Grammar
numerals high = numbers (min high 9999) numeral
