-- Line feeds told by the bits of a number: each operation acts on every byte of it apart, so what it does to one byte says what it does to all.
use mathlib.Core.Bool.{Bool, cond}
use mathlib.Core.List.{List, [], ◌∷◌, ◌++◌}
use mathlib.Core.Logic.{inl, inr}
use mathlib.Core.Path.{◌≡◌, refl, sym, ◌∙◌, ap}
use Prim.Native.Nat.{ℕ, zero, suc, ◌+◌, ◌-◌, ◌*◌, ◌/◌, ◌%◌, ◌^◌, ◌<◌, ◌≤◌}
use native.Mathlib.Nat.{mul-one}
use native.Mathlib.Decide.{dec_lt}
use native.Mathlib.Omega.{arith}
use lib.Bits.{bit_and, bit_or, bit_xor, and_block, or_block, xor_block, and_le_l, and_le_r, or_add_and, or_lt, xor_lt, shifted_half, shifted_even}
use lib.Count.{ones, ones_in, count_trailing_zeros, ones_cat}
use lib.Dec.{eqb, ltb}
use lib.ListN.{length, take, drop, get_or, length-drop, take-append-drop, length-append}
use lib.Seq.{length-take-le, take_all, drop-cons}
use borrow.Author.Tests.{eqb-true, lt-ltb}
use Rattle.calendar.proofs.Each.{below, is_true}
use Rattle.words.proofs.text.Laws.{either}
use Rattle.answers.proofs.feed.Laws.{before_feed, before_few, before_append, before_both}
use Rattle.std.specs.Int.{w64, from_le_bytes}
use Rattle.std.specs.Prelude.{Some, None}
use Rattle.std.specs.Simd.{first_chunks}
use Rattle.dating.specs.Answer.{line_feed}
use Rattle.answers.specs.Steps.{feeds, feed_bits, first_feed}

-- bytes as digits of a number, the first the lowest
unfoldable pub packed : List ℕ → ℕ
packed [] = 0
packed (c ∷ s) = packed s * 256 + c

-- n bytes that are all b
unfoldable pub times : ℕ → ℕ → ℕ
times zero b = 0
times (suc n) b = times n b * 256 + b

abbrev AllBytes : List ℕ → Type 0
AllBytes [] = Unit
AllBytes (c ∷ s) = (c < 256) × AllBytes s

pub all_bytes : (s : List ℕ) → ((j : ℕ) → get_or s j 0 < 256) → AllBytes s
all_bytes [] b = tt
all_bytes (c ∷ s) b = (b 0, all_bytes s (λ j. b (suc j)))

-- the n bytes of s from the place k on, written out
abbrev bytes_at : List ℕ → (k n : ℕ) → List ℕ
bytes_at s k zero = []
bytes_at s k (suc n) = get_or s k 0 ∷ bytes_at s (suc k) n

written_out : (s : List ℕ) (k n : ℕ) → k + n ≤ length s → take n (drop k s) ≡ bytes_at s k n
written_out s k zero fits = refl
written_out s k (suc n) fits =
    rw (drop-cons s k 0 (omega arith)) (ap (λ (t : List ℕ). get_or s k 0 ∷ t) (written_out s (suc k) n (omega arith)))

-- as the library packs eight
pub packed_eight : (s : List ℕ) → length s ≡ 8 → from_le_bytes w64 s ≡ packed s
unfolding packed
packed_eight s size =
    let all = sym (take_all 8 s (omega arith)) ∙ written_out s 0 8 (omega arith) in
    let sum : from_le_bytes w64 s ≡ packed (bytes_at s 0 8) = omega arith in
    sum ∙ ap packed (sym all)

-- what the code works out of n bytes that are packed, by the code's names
abbrev differs : ℕ → ℕ → ℕ
differs n x = bit_xor x (times n line_feed)

abbrev low_differs : ℕ → ℕ → ℕ
low_differs n x = bit_and (differs n x) (times n 127) + times n 127

abbrev any_differs : ℕ → ℕ → ℕ
any_differs n x = bit_or (low_differs n x) (differs n x)

abbrev pub bits : ℕ → ℕ → ℕ
bits n x = bit_and (times n 255 - any_differs n x) (times n 128)

-- ---- one byte
abbrev low_of : ℕ → ℕ
low_of c = bit_and (bit_xor c line_feed) 127 + 127

abbrev any_of : ℕ → ℕ
any_of c = bit_or (low_of c) (bit_xor c line_feed)

bit : (c : ℕ) → c < 256 → bit_and (255 - any_of c) 128 ≡ cond (eqb c line_feed) 128 0
bit c h =
    let test : ℕ → Bool = λ c. eqb (bit_and (255 - any_of c) 128) (cond (eqb c line_feed) 128 0) in
    eqb-true (bit_and (255 - any_of c) 128) (cond (eqb c line_feed) 128 0) (is_true (test c) (below test 256 tt c h))

-- ---- one byte more
module _ (n x c : ℕ) (h : c < 256) where
  xor_small : bit_xor c line_feed < 256
  xor_small = xor_lt 8 c line_feed h (omega arith)

  low_small : low_of c < 256
  low_small = omega (arith, and_le_r (bit_xor c line_feed) 127)

  any_small : any_of c < 256
  any_small = or_lt 8 (low_of c) (bit_xor c line_feed) low_small xor_small

  differs_on : differs (suc n) (x * 256 + c) ≡ differs n x * 256 + bit_xor c line_feed
  unfolding times
  differs_on = xor_block 8 x (times n line_feed) c line_feed h (omega arith)

  any_differs_on : any_differs (suc n) (x * 256 + c) ≡ any_differs n x * 256 + any_of c
  unfolding times
  any_differs_on =
      let o = differs n x in
      let k = times n 127 in
      let both = and_block 8 o k (bit_xor c line_feed) 127 xor_small (omega arith) in
      let sum : bit_and o k * 256 + bit_and (bit_xor c line_feed) 127 + (k * 256 + 127) ≡ (bit_and o k + k) * 256 + low_of c = omega arith in
      rw (differs_on, both, sum) (or_block 8 (bit_and o k + k) o (low_of c) (bit_xor c line_feed) low_small xor_small)

  bits_on : any_differs n x ≤ times n 255 → bits (suc n) (x * 256 + c) ≡ bits n x * 256 + cond (eqb c line_feed) 128 0
  unfolding times
  bits_on small =
      let d = any_differs n x in
      let left : times n 255 * 256 + 255 - (d * 256 + any_of c) ≡ (times n 255 - d) * 256 + (255 - any_of c) = omega (arith, any_small) in
      rw (any_differs_on, left, ← bit c h) (and_block 8 (times n 255 - d) (times n 128) (255 - any_of c) 128 (omega arith) (omega arith))

all_small : (s : List ℕ) → AllBytes s → any_differs (length s) (packed s) ≤ times (length s) 255
unfolding packed times
all_small [] b = omega arith
all_small (c ∷ s) b = rw (any_differs_on (length s) (packed s) c b.0) (omega (arith, all_small s b.1, any_small (length s) (packed s) c b.0))

-- so line feeds alone are 128
pub bits_of_bytes : (s : List ℕ) → AllBytes s → bits (length s) (packed s) ≡ feed_bits s
unfolding packed times feed_bits
bits_of_bytes [] b = refl
bits_of_bytes (c ∷ s) b = rw (bits_on (length s) (packed s) c b.0 (all_small s b.1), bits_of_bytes s b.1)

-- ---- how many there are, and where the first is
pub count_bits : (s : List ℕ) → ones (feed_bits s) ≡ feeds s
unfolding feed_bits feeds ones ones_in
count_bits [] = refl
count_bits (c ∷ s) =
    elim (either (eqb c line_feed)) [
      | inl e ↦ rw (e, ones_cat 8 (feed_bits s) 128 (omega arith)) (omega (arith, count_bits s))
      | inr e ↦ rw (e, ones_cat 8 (feed_bits s) 0 (omega arith)) (omega (arith, count_bits s))
    ]

-- the number is 0 just where all bytes stand before a line feed
none_all : (s : List ℕ) → feed_bits s ≡ 0 → before_feed s ≡ length s
unfolding feed_bits
none_all [] z = refl
none_all (c ∷ s) z =
    elim (either (eqb c line_feed)) [
      | inl e ↦ absurd (omega (arith, rw e at z))
      | inr e ↦ rw e (omega (arith, none_all s (omega (arith, rw e at z))))
    ]

all_none : (s : List ℕ) → before_feed s ≡ length s → feed_bits s ≡ 0
unfolding feed_bits
all_none [] h = refl
all_none (c ∷ s) h =
    elim (either (eqb c line_feed)) [
      | inl e ↦ absurd (omega (arith, rw e at h))
      | inr e ↦ rw e (omega (arith, all_none s (omega (arith, rw e at h))))
    ]

or_none : (a b : ℕ) → bit_or a b ≡ 0 → (a ≡ 0) × (b ≡ 0)
or_none a b z = omega (arith, or_add_and a b, and_le_l a b, and_le_r a b)

trailing_shift : (k m a : ℕ) → count_trailing_zeros (k + m) (a * 2 ^ k) ≡ k + count_trailing_zeros m a
unfolding count_trailing_zeros
trailing_shift zero m a = let same : 0 + m ≡ m = omega arith in rw (same, mul-one a) (omega arith)
trailing_shift (suc k) m a =
    let size : suc k + m ≡ suc (k + m) = omega arith in rw (size, shifted_even a k, shifted_half a k, trailing_shift k m a) (omega arith)

first_bit : (s : List ℕ) → count_trailing_zeros (length s * 8) (feed_bits s) / 8 ≡ before_feed s
unfolding feed_bits count_trailing_zeros
first_bit [] = refl
first_bit (c ∷ s) =
    let x = feed_bits s in
    elim (either (eqb c line_feed)) [
      | inl e ↦
          let n : suc (length s) * 8 ≡ 7 + suc (length s * 8) = omega arith in
          let y : x * 256 + 128 ≡ (x * 2 + 1) * 2 ^ 7 = omega arith in
          let odd : (x * 2 + 1) % 2 ≡ 1 = omega arith in
          rw (e, n, y, trailing_shift 7 (suc (length s * 8)) (x * 2 + 1), odd)
      | inr e ↦
          let n : suc (length s) * 8 ≡ 8 + length s * 8 = omega arith in
          let y : x * 256 + 0 ≡ x * 2 ^ 8 = omega arith in
          rw (e, n, y, trailing_shift 8 (length s * 8) x) (omega (arith, first_bit s))
    ]

-- ---- twenty-four bytes
module _ (s : List ℕ) (size : length s ≡ 24) {eights : List (List ℕ)} (cut : eights ≡ first_chunks 8 (length s / 8) s) {x y z : ℕ}
    (a : x ≡ feed_bits (get_or eights 0 [])) (b : y ≡ feed_bits (get_or eights 1 [])) (c : z ≡ feed_bits (get_or eights 2 [])) where
  abbrev first : List ℕ
  first = take 8 s

  abbrev second : List ℕ
  second = take 8 (drop 8 s)

  abbrev third : List ℕ
  third = take 8 (drop 8 (drop 8 s))

  cuts : eights ≡ first ∷ second ∷ third ∷ []
  cuts = let three : length s / 8 ≡ 3 = omega arith in rw three at cut

  rest_size : length (drop 8 (drop 8 s)) ≡ 8
  rest_size = omega (arith, length-drop 8 s, length-drop 8 (drop 8 s))

  sizes : (length first ≡ 8) × (length second ≡ 8) × (length third ≡ 8)
  sizes = (
    length-take-le 8 s (omega arith),
    length-take-le 8 (drop 8 s) (omega (arith, length-drop 8 s)),
    length-take-le 8 (drop 8 (drop 8 s)) (omega (arith, rest_size)),
  )

  whole : s ≡ first ++ (second ++ third)
  whole =
      let last = take_all 8 (drop 8 (drop 8 s)) (omega (arith, rest_size)) in
      sym (ap (λ (t : List ℕ). first ++ (second ++ t)) last ∙ ap (λ (t : List ℕ). first ++ t) (take-append-drop 8 (drop 8 s)) ∙ take-append-drop 8 s)

  before_whole : before_feed s
      ≡ cond (ltb (before_feed first) 8) (before_feed first) (8 + cond (ltb (before_feed second) 8) (before_feed second) (8 + before_feed third))
  before_whole = ap before_feed whole ∙ rw (before_append first (second ++ third), before_append second third, sizes.0, sizes.1)

  bits_first : (x ≡ feed_bits first) × (y ≡ feed_bits second) × (z ≡ feed_bits third)
  bits_first = (rw cuts at a, rw cuts at b, rw cuts at c)

  pub none_first : bit_or (bit_or x y) z ≡ 0 → None ≡ first_feed s
  none_first h =
      let p = or_none (bit_or x y) z h in
      let q = or_none x y p.0 in
      let i = none_all first (sym bits_first.0 ∙ q.0) ∙ sizes.0 in
      let j = none_all second (sym bits_first.1 ∙ q.1) ∙ sizes.1 in
      let k = none_all third (sym bits_first.2 ∙ p.1) ∙ sizes.2 in
      let all = rw (i, j, k) at before_whole in
      rw (all, size)

  full : 24 ≤ before_feed s → bit_or (bit_or x y) z ≡ 0
  full h =
      let few = before_few s in
      let p = before_both first (second ++ third) (ap before_feed (sym whole) ∙ omega (arith, sizes, length-append second third)) in
      let q = before_both second third (p.1 ∙ length-append second third) in
      rw (bits_first.0, bits_first.1, bits_first.2, all_none first p.0, all_none second q.0, all_none third q.1)

  module _ {p q t later r : ℕ} (v : q ≡ count_trailing_zeros 64 y / 8) (w : t ≡ count_trailing_zeros 64 z / 8) (l : later ≡ cond (ltb q 8) q (8 + t))
      (u : p ≡ count_trailing_zeros 64 x / 8) (e : r ≡ cond (ltb p 8) p (8 + later)) where
    before_is : r ≡ before_feed s
    before_is =
        let i = rw sizes.0 at (first_bit first) in
        let j = rw sizes.1 at (first_bit second) in
        let k = rw sizes.2 at (first_bit third) in
        rw (e, l, u, v, w, bits_first.0, bits_first.1, bits_first.2, i, j, k) (sym before_whole)

    pub some_first : (bit_or (bit_or x y) z ≡ 0 → ⊥) → Some r ≡ first_feed s
    some_first some =
        elim (dec_lt (before_feed s) 24) [
          | yes few ↦ let inside = lt-ltb (before_feed s) 24 few in rw (before_is, size, inside)
          | no all ↦ absurd (some (full (omega arith)))
        ]
