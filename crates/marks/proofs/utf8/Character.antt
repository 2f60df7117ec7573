-- The bytes of one character: one below 0x80, or one of 0xC0 or more and others that begin with the bits 0b10.
use mathlib.Core.Bool.{cond}
use mathlib.Core.List.{List, [], ◌∷◌}
use mathlib.Core.Path.{◌≡◌}
use Prim.Native.Nat.{ℕ, ◌/◌, ◌<◌, ◌≤◌}
use native.Mathlib.Decide.{dec_lt}
use native.Mathlib.Omega.{arith}
use lib.Dec.{ltb}
use borrow.Author.Tests.{lt-ltb, le-ltb}
use Rattle.marks.specs.Utf8.{encoded}

abbrev pub Tails : List ℕ → Type 0
Tails [] = Unit
Tails (b ∷ s) = (b / 64 ≡ 2) × Tails s

-- s are the bytes of the number c
pub data Character (c : ℕ) : (s : List ℕ) → Type 0 where
  one : c < 0x80 → Character c (c ∷ [])
  longer : (a b : ℕ) (s : List ℕ) → 0x80 ≤ c → 0xC0 ≤ a → Tails (b ∷ s) → Character c (a ∷ b ∷ s)

-- an ASCII character is one byte
pub ascii_byte : (c : ℕ) → c < 0x80 → encoded c ≡ c ∷ []
unfolding encoded
ascii_byte c h = rw (lt-ltb c 0x80 h)

-- what holds of each pick where the test makes it holds of what is picked
picked_below : {A : Type 0} (P : A → Type 0) {x y : A} (a k : ℕ) → (a < k → P x) → (k ≤ a → P y) → P (cond (ltb a k) x y)
picked_below P a k f g =
    elim (dec_lt a k) [
      | yes h ↦ rw (lt-ltb a k h) (f h)
      | no n ↦ let h : k ≤ a = omega arith in rw (le-ltb a k h) (g h)
    ]

-- every number has such bytes
pub in_bytes : (c : ℕ) → Character c (encoded c)
unfolding encoded
in_bytes c =
    picked_below (Character c) c 0x80 one (λ g.
    picked_below (Character c) c 0x800 (λ h. longer _ _ _ g (omega arith) (omega arith)) (λ h.
    picked_below (Character c) c 0x10000 (λ h. longer _ _ _ g (omega arith) (omega arith)) (λ h.
    longer _ _ _ g (omega arith) (omega arith))))
