-- Words of 4 to 12 bytes by their slots: what a slot holds tells the one word that may have it, byte by byte.
use mathlib.Core.Bool.{Bool, true, false, ◌&&◌, cond, and-eq-true_iff}
use mathlib.Core.List.{List, [], ◌∷◌, ◌++◌}
use mathlib.Core.Logic.{◌⊎◌, inl, inr}
use mathlib.Core.Path.{◌≡◌, refl, sym, ◌∙◌, ap}
use Prim.Native.Nat.{ℕ, zero, suc, ◌+◌, ◌-◌, ◌*◌, ◌/◌, ◌%◌, ◌<◌, ◌≤◌}
use native.Mathlib.Decide.{dec_lt}
use native.Mathlib.Omega.{arith}
use lib.Dec.{T, eqb}
use lib.ListN.{length, take, drop, get_or, take-append-drop, get_or-append, get_or-eq_default}
use lib.Seq.{length-take-le, get_or-take, ext_get_or}
use borrow.Author.Tests.{eqb-true, eq-eqb, ne_eqb}
use Rattle.calendar.proofs.Each.{each, is_true, T-both}
use Rattle.calendar.proofs.Tested.{held as passed}
use Rattle.calendar.proofs.range.Laws.{range}
use Rattle.words.proofs.Tests.{every, tested}
use Rattle.words.proofs.text.Laws.{no_false, within, within_at}
use Rattle.calendar.specs.Range.{between}
use Rattle.words.specs.Steps.{four, outer_of, inner_of, held, outer_for, inner_for, outer_in, inner_in}
use Rattle.words.specs.Text.{has}

-- ---- four bytes packed into a number tell the bytes
abbrev pub Bytes : List ℕ → Type 0
Bytes s = (i : ℕ) → get_or s i 0 < 256

pub within_bytes : (low : ℕ) (s : List ℕ) → within low 122 s ≡ true → Bytes s
within_bytes low s e i =
    elim (dec_lt i (length s)) [
      | yes h ↦ omega (arith, within_at low 122 s e i h)
      | no h ↦ rw (get_or-eq_default s 0 {n = i} (omega arith)) (omega arith)
    ]

pub small_four : (s : List ℕ) → Bytes s → (p : ℕ) → four s p < 4294967296
unfolding four
small_four s b p = omega (arith, b p, b (p + 1), b (p + 2), b (p + 3))

pub four_append : (w t : List ℕ) (p : ℕ) → p + 4 ≤ length w → four (w ++ t) p ≡ four w p
unfolding four
four_append w t p h =
    let at = get_or-append w t 0 in
    omega (arith, at p (omega arith), at (p + 1) (omega arith), at (p + 2) (omega arith), at (p + 3) (omega arith))

-- from a on the fours at these places cover all bytes below n
abbrev pub Covers : ℕ → List ℕ → ℕ → Type 0
Covers a [] n = n ≤ a
Covers a (p ∷ ps) n = (p ≤ a) × Covers (p + 4) ps n

-- the fours of two lists at places
abbrev pub SameFours : (s w : List ℕ) → List ℕ → Type 0
SameFours s w [] = Unit
SameFours s w (p ∷ ps) = (four s p ≡ four w p) × SameFours s w ps

module _ (s w : List ℕ) (bs : Bytes s) (bw : Bytes w) where
  same_four : (p : ℕ) → four s p ≡ four w p → (i : ℕ) → p ≤ i → i < p + 4 → get_or s i 0 ≡ get_or w i 0
  unfolding four
  same_four p e i low high = at (i - p) (omega arith) (omega arith)
    where
      each_one : (get_or s p 0 ≡ get_or w p 0) × (get_or s (p + 1) 0 ≡ get_or w (p + 1) 0)
          × (get_or s (p + 2) 0 ≡ get_or w (p + 2) 0) × (get_or s (p + 3) 0 ≡ get_or w (p + 3) 0)
      each_one = omega (arith, bs p, bs (p + 1), bs (p + 2), bs (p + 3), bw p, bw (p + 1), bw (p + 2), bw (p + 3))

      at : (d : ℕ) → d < 4 → i ≡ p + d → get_or s i 0 ≡ get_or w i 0
      at zero l z = let q : i ≡ p = omega arith in rw q each_one.0
      at (suc zero) l z = rw z each_one.1
      at (suc (suc zero)) l z = rw z each_one.2
      at (suc (suc (suc zero))) l z = rw z each_one.3
      at (suc (suc (suc (suc d)))) l z = absurd (omega arith)

  same_bytes : (ps : List ℕ) → SameFours s w ps → {a n : ℕ} → Covers a ps n → (i : ℕ) → a ≤ i → i < n → get_or s i 0 ≡ get_or w i 0
  same_bytes [] e c i low high = absurd (omega arith)
  same_bytes (p ∷ ps) e c i low high =
      elim (dec_lt i (p + 4)) [
        | yes h ↦ same_four p e.0 i (omega (arith, c.0)) h
        | no h ↦ same_bytes ps e.1 c.1 i (omega arith) high
      ]

  -- a word stands at the start where fours that cover it agree
  pub same_word : (ps : List ℕ) → SameFours s w ps → Covers 0 ps (length w) → length w ≤ length s → w ++ drop (length w) s ≡ s
  same_word ps e c fits =
      let at : (i : ℕ) → i < length w → get_or w i 0 ≡ get_or (take (length w) s) i 0 =
      λ i h. sym (get_or-take (length w) s i 0 h ∙ same_bytes ps e c i (omega arith) h) in
      let same = ext_get_or 0 w (take (length w) s) (sym (length-take-le (length w) s fits)) at in
      ap (λ (l : List ℕ). l ++ drop (length w) s) same ∙ take-append-drop (length w) s

-- two fours in one number
pub both_fours : (s w : List ℕ) → Bytes s → Bytes w → (a b c d : ℕ) → four s a + 4294967296 * four s b ≡ four w c + 4294967296 * four w d
    → (four s a ≡ four w c) × (four s b ≡ four w d)
both_fours s w bs bw a b c d e = omega (arith, small_four s bs a, small_four w bw c)

-- ---- a slot is empty in all that it holds, or one number's
abbrev pub Holds : ℕ → ((ℕ → ℕ) → ℕ) → Type 0
Holds n h = ((m : ℕ) × (((1 ≤ m) × (m ≤ n)) × ((f : ℕ → ℕ) → h f ≡ f m))) ⊎ ((f : ℕ → ℕ) → h f ≡ 0)

pub holds : (slot : ℕ → ℕ) (n i : ℕ) → Holds n (λ f. held slot f n i)
unfolding held
holds slot zero i = inr (λ f. refl)
holds slot (suc n) i = go (eqb (slot (suc n)) i) (holds slot n i)
  where
    go : (b : Bool) → Holds n (λ f. held slot f n i) → Holds (suc n) (λ f. cond b (f (suc n)) (held slot f n i))
    go true h = inl (suc n, ((omega arith, omega arith), λ f. refl))
    go false (inl k) = inl (k.0, ((k.1.0.0, omega (arith, k.1.0)), k.1.1))
    go false (inr z) = inr z

-- i is none of the keys of a match, of which the last comes first
abbrev pub Others : List ℕ → ℕ → Type 0
Others [] i = Unit
Others (k ∷ ks) i = Others ks i × (i ≡ k → ⊥)

others : (ks : List ℕ) (i : ℕ) → Others ks i → has i ks ≡ false
unfolding has
others [] i o = refl
others (k ∷ ks) i o = rw (ne_eqb k i (λ e. o.1 (sym e))) (others ks i o.0)

-- the slots of the numbers from 1 to n are keys, so what is no key is no slot of theirs
pub no_slot : (slot f : ℕ → ℕ) (n : ℕ) (ks : List ℕ) → T (each (λ k. has (slot (suc k)) ks) n) → (i : ℕ) → Others ks i → 0 ≡ held slot f n i
unfolding held
no_slot slot f zero ks t i o = refl
no_slot slot f (suc n) ks t i o =
    let b = T-both (has (slot (suc n)) ks) (each (λ k. has (slot (suc k)) ks) n) t in
    let differs = ne_eqb (slot (suc n)) i (λ e. no_false (sym (is_true _ b.0) ∙ ap (λ (k : ℕ). has k ks) e ∙ others ks i o)) in
    rw differs (no_slot slot f n ks b.1 i o)

-- ---- the words of the numbers from 1 to n
-- each has its slot alone, is long enough and not too long, and of bytes from low on
unfoldable pub worded : (List ℕ → ℕ) → (ℕ → List ℕ) → (n low k : ℕ) → List Bool
worded slot_of spelled n low k =
    let w = spelled k in
    eqb (held (λ k. slot_of (spelled k)) (λ k. k) n (slot_of w)) k ∷ between 4 (length w) 12 ∷ within low 122 w ∷ []

module _ (slot_of : List ℕ → ℕ) (spelled : ℕ → List ℕ) (n low : ℕ) (t : T (each (λ k. every (worded slot_of spelled n low (suc k))) n)) where
  module _ (x : ℕ) (good : (1 ≤ x) × (x ≤ n)) where
    its_slot : held (λ k. slot_of (spelled k)) (λ k. k) n (slot_of (spelled x)) ≡ x
    unfolding worded
    its_slot = eqb-true _ x (tested (worded slot_of spelled n low) n t x good.0 good.1 0)

    pub sized : (4 ≤ length (spelled x)) × (length (spelled x) ≤ 12)
    unfolding worded
    sized = range 4 (length (spelled x)) 12 (tested (worded slot_of spelled n low) n t x good.0 good.1 1)

    pub letters : within low 122 (spelled x) ≡ true
    unfolding worded
    letters = tested (worded slot_of spelled n low) n t x good.0 good.1 2

    pub its_bytes : Bytes (spelled x)
    its_bytes = within_bytes low (spelled x) letters

    pub holds_it : (f : ℕ → ℕ) → held (λ k. slot_of (spelled k)) f n (slot_of (spelled x)) ≡ f x
    holds_it f =
        elim (holds (λ k. slot_of (spelled k)) n (slot_of (spelled x))) [
          | inl h ↦ h.1.1 f ∙ ap f (sym (h.1.1 (λ k. k)) ∙ its_slot)
          | inr z ↦ absurd (omega (arith, z (λ k. k), its_slot))
        ]

  -- words of one slot are one word
  pub one_slot : (x y : ℕ) → (1 ≤ x) × (x ≤ n) → (1 ≤ y) × (y ≤ n) → slot_of (spelled x) ≡ slot_of (spelled y) → x ≡ y
  one_slot x y gx gy e = sym (its_slot x gx) ∙ ap (λ (i : ℕ). held (λ k. slot_of (spelled k)) (λ k. k) n i) e ∙ its_slot y gy

  module _ {s : List ℕ} (bytes : Bytes s) (i : ℕ) {k o m : ℕ} (inside : (4 ≤ k) × (k ≤ 12) × (k ≤ length s))
      (ho : o ≡ outer_in slot_of spelled n i) (hm : m ≡ inner_in slot_of spelled n i)
      {r : Bool} (test : r ≡ (eqb (outer_of s k) o && eqb (inner_of s k) (m % 1099511627776))) where
    -- a word that passes the comparison stands at the start
    pub is_it : r ≡ true
        → ((1 ≤ m / 1099511627776) × (m / 1099511627776 ≤ n)) × (k ≡ length (spelled (m / 1099511627776)))
        × (spelled (m / 1099511627776) ++ drop k s ≡ s)
    is_it p =
        let b = (and-eq-true_iff (eqb (outer_of s k) o) (eqb (inner_of s k) (m % 1099511627776))).0 (passed test p) in
        let eo : outer_of s k ≡ o = eqb-true _ _ b.0 in
        let em : inner_of s k ≡ m % 1099511627776 = eqb-true _ _ b.1 in
        elim (holds (λ k. slot_of (spelled k)) n i) [
          | inl h ↦
              let w = spelled h.0 in
              let bw = its_bytes h.0 h.1.0 in
              let long = sized h.0 h.1.0 in
              let w_small = small_four w bw ((length w - 4) / 2) in
              let s_small = small_four s bytes ((k - 4) / 2) in
              let is_m = hm ∙ h.1.1 (inner_for spelled) in
              let q : m / 1099511627776 ≡ h.0 = omega arith in
              let l : k ≡ length w = omega arith in
              let same_o : outer_of s k ≡ outer_of w (length w) = eo ∙ ho ∙ h.1.1 (outer_for spelled) in
              let ends = both_fours s w bytes bw 0 (length w - 4) 0 (length w - 4) (rw l at same_o) in
              let same_m : four s ((k - 4) / 2) ≡ four w ((length w - 4) / 2) = omega arith in
              let all = same_word s w bytes bw (0 ∷ ((length w - 4) / 2) ∷ (length w - 4) ∷ []) (ends.0, (rw l at same_m, (ends.1, tt))) (omega arith) in
              rw q (h.1.0, l, rw l (all (omega arith)))
          | inr z ↦ absurd (omega (arith, z (inner_for spelled)))
        ]

    -- and one that fails does not
    pub not_it : r ≡ false → (x : ℕ) → (1 ≤ x) × (x ≤ n) → i ≡ slot_of (spelled x) → k ≡ length (spelled x)
        → (t : List ℕ) → spelled x ++ t ≡ s → ⊥
    not_it p x good ei ek t e =
        let w = spelled x in
        let long = sized x good in
        let same : (j : ℕ) → j + 4 ≤ length w → four s j ≡ four w j = λ j h. rw e at (four_append w t j h) in
        let w_small = small_four w (its_bytes x good) ((length w - 4) / 2) in
        let is_m = hm ∙ ap (inner_in slot_of spelled n) ei ∙ holds_it x good (inner_for spelled) in
        let is_o = ho ∙ ap (outer_in slot_of spelled n) ei ∙ holds_it x good (outer_for spelled) in
        let eo : outer_of s k ≡ o = rw ek (omega (arith, same 0 (omega arith), same (length w - 4) (omega arith))) in
        let em : inner_of s k ≡ m % 1099511627776 = rw ek (omega (arith, same ((length w - 4) / 2) (omega arith))) in
        no_false (sym (test ∙ rw (eq-eqb _ _ eo, eq-eqb _ _ em)) ∙ p)
