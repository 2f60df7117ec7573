-- UTF-8 by the library's words is UTF-8 as it is defined here.
use mathlib.Core.Bool.{Bool, true}
use mathlib.Core.List.{List, [], ◌∷◌, ◌++◌}
use mathlib.Core.Logic.{inl, inr, ⊎_elim}
use mathlib.Core.Path.{◌≡◌, refl, sym, ◌∙◌, ap₂}
use Prim.Native.Nat.{ℕ}
use native.Mathlib.Omega.{arith}
use lib.Utf8.{scalar, scalars, scalar_cases, encode, encodes}
use borrow.Author.Tests.{lt-ltb, le-ltb, le-leb}
use Rattle.std.proofs.Common.{Result, Ok, Err}
use Rattle.std.proofs.lemmas.Bool.{and_parts}
use Rattle.std.specs.Result.{is_ok, MatchResult}
use Rattle.std.specs.Str.{IsUtf8 as IsLibraryUtf8}
use Rattle.marks.specs.Utf8.{CodePoint, encoded, spelled, CodePoints, IsUtf8, TellsUtf8}

-- a code point has the same bytes
same_bytes : (c : ℕ) → encode c ≡ encoded c
unfolding encode encoded
same_bytes c = refl

pub same_spelling : (cs : List ℕ) → encodes cs ≡ spelled cs
unfolding spelled
same_spelling [] = refl
same_spelling (c ∷ cs) = ap₂ (λ (s t : List ℕ). s ++ t) (same_bytes c) (same_spelling cs)

-- the library's scalar values are the code points
point : (c : ℕ) → scalar c ≡ true → CodePoint c
point c h = ⊎_elim (λ k. (inl k, omega arith)) (λ k. (inr (omega arith), omega arith)) (scalar_cases c h)

is_scalar : (c : ℕ) → CodePoint c → scalar c ≡ true
is_scalar c (inl low, most) = rw (lt-ltb c 0xD800 low)
is_scalar c (inr high, most) = rw (le-ltb c 0xD800 (omega arith), le-leb 0xE000 c (omega arith), lt-ltb c 0x110000 (omega arith))

points : (cs : List ℕ) → scalars cs ≡ true → CodePoints cs
points [] h = tt
points (c ∷ cs) h = let k = and_parts (scalar c) (scalars cs) h in (point c k.0, points cs k.1)

are_scalars : (cs : List ℕ) → CodePoints cs → scalars cs ≡ true
are_scalars [] p = refl
are_scalars (c ∷ cs) p = rw (is_scalar c p.0, are_scalars cs p.1)

from_library : (s : List ℕ) → IsLibraryUtf8 s → IsUtf8 s
from_library s (cs, (h, e)) = (cs, record { points = points cs h; bytes = sym (same_spelling cs) ∙ e })

to_library : (s : List ℕ) → IsUtf8 s → IsLibraryUtf8 s
to_library s (cs, k) = (cs, (are_scalars cs k.points, same_spelling cs ∙ k.bytes))

-- what the library tells of bytes is whether they are UTF-8
pub told : {A E : Type 0} (P : A → Type 0) (Q : E → Type 0) (s : List ℕ) (r : Result A E) (b : Bool) → b ≡ is_ok r
    → MatchResult r (λ x. P x × IsLibraryUtf8 s) (λ e. (IsLibraryUtf8 s → ⊥) × Q e) → TellsUtf8 s b
told P Q s (Ok x) b e h = rw e (from_library s h.1)
told P Q s (Err x) b e h = rw e (λ u. h.0 (to_library s u))
