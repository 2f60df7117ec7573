-- A 32-bit number as four bytes, low byte first.
use Rattle.std.specs.Prelude.{cond, List, [], ◌∷◌, ℕ, ◌+◌, ◌*◌, ◌/◌, ◌%◌, leb, length}
use Rattle.std.proofs.lemmas.List.Edits.{sets}

-- the bytes of a number, low byte first
unfoldable pub number_bytes : ℕ → List ℕ
number_bytes n = n % 256 ∷ n / 256 % 256 ∷ n / 256 / 256 % 256 ∷ n / 256 / 256 / 256 % 256 ∷ []

-- the number that bytes are, low byte first
abbrev pub number_of : List ℕ → ℕ
number_of [] = 0
number_of (b ∷ s) = b + 256 * number_of s

-- the number n is put from the byte i of s on; where fewer than four bytes stand there, they stay
unfoldable pub with_number : List ℕ → ℕ → ℕ → List ℕ
with_number s i n = cond (leb (i + 4) (length s)) (sets s i (number_bytes n)) s
