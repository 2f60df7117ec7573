-- The bytes of a number, put behind others.
use mathlib.Core.List.{List, ◌++◌}
use mathlib.Core.Path.{◌≡◌, refl}
use Prim.Native.Nat.{ℕ, ◌+◌, ◌≤◌}
use native.Mathlib.Omega.{arith}
use lib.ListN.{length}
use lib.Seq.{sets, length-sets}
use borrow.Author.Tests.{le-leb}
use Rattle.places.proofs.Bytes.{sets_both}
use Rattle.places.specs.Number.{number_bytes, with_number}

pub number_length : (n : ℕ) → length (number_bytes n) ≡ 4
unfolding number_bytes
number_length n = refl

-- a number is put behind the bytes w, which were put at the place i
pub number_behind : (w s : List ℕ) (i k n : ℕ) → k ≡ i + length w → k + 4 ≤ length s
    → with_number (sets s i w) k n ≡ sets s i (w ++ number_bytes n)
unfolding with_number
number_behind w s i k n e room =
    let same = length-sets s i w in
    rw (le-leb (k + 4) (length (sets s i w)) (omega arith), e) (sets_both w (number_bytes n) s i)

-- and so is the first, behind none
pub number_first : (s : List ℕ) (i n : ℕ) → i + 4 ≤ length s → with_number s i n ≡ sets s i (number_bytes n)
unfolding with_number
number_first s i n room = rw (le-leb (i + 4) (length s) room)
