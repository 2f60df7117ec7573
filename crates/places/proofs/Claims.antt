-- What holds of numbers in lent bytes beyond the contract of the call.
use mathlib.Core.Path.{◌≡◌, sym, ◌∙◌, ap}
use Prim.Native.Nat.{ℕ, ◌<◌}
use native.Mathlib.Omega.{arith}
use Rattle.places.specs.Number.{number_bytes, number_of}

-- A 32-bit number is read back from its bytes.
pub reads_back : (n : ℕ) → n < 4294967296 → number_of (number_bytes n) ≡ n
unfolding number_bytes
reads_back n small = omega arith

-- So no two have the same bytes.
pub one_number : (n m : ℕ) → n < 4294967296 → m < 4294967296 → number_bytes n ≡ number_bytes m → n ≡ m
one_number n m h k e = sym (reads_back n h) ∙ ap number_of e ∙ reads_back m k
