-- Bytes put at a place of a buffer.
use mathlib.Core.List.{List, [], ◌∷◌, ◌++◌}
use mathlib.Core.Path.{◌≡◌, ◌∙◌}
use Prim.Native.Nat.{ℕ, suc, ◌+◌, ◌≤◌}
use native.Mathlib.Omega.{arith}
use lib.ListN.{length, drop, set}
use lib.Seq.{sets, sets-eq}

-- bytes put one behind the other are put at once
pub sets_both : (v w s : List ℕ) (i : ℕ) → sets (sets s i v) (i + length v) w ≡ sets s i (v ++ w)
sets_both [] w s i = let e : i + 0 ≡ i = omega arith in rw e
sets_both (x ∷ v) w s i =
    let e : i + suc (length v) ≡ suc i + length v = omega arith in
    rw e (sets_both v w (set s i x) (suc i))

-- bytes put at the start stand before the rest
pub sets_start : (w s : List ℕ) → length w ≤ length s → sets s 0 w ≡ w ++ drop (length w) s
sets_start w s h = let e : 0 + length w ≡ length w = omega arith in sets-eq w s 0 (omega arith) ∙ rw e
