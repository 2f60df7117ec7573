-- Bytes within bounds, and bytes cut behind the last of a kind.
use mathlib.Core.Bool.{Bool, true, false, ◌&&◌, ◌||◌, or-true, and-eq-true_iff}
use mathlib.Core.List.{List, [], ◌∷◌, ◌++◌}
use mathlib.Core.Logic.{◌⊎◌, inl, inr}
use mathlib.Core.Path.{◌≡◌, refl, sym, ◌∙◌, ap, ap₂}
use Prim.Native.Nat.{ℕ, zero, suc, ◌+◌, ◌-◌, ◌<◌, ◌≤◌}
use native.Mathlib.Decide.{dec_lt}
use native.Mathlib.Omega.{arith}
use lib.Dec.{eqb}
use lib.ListN.{length, take, drop, get_or, length-drop}
use lib.Seq.{split_at, take_all}
use borrow.Author.Tests.{eq-eqb, ne_eqb}
use Rattle.calendar.proofs.range.Laws.{range}
use Rattle.std.proofs.lemmas.List.{get_or-drop}
use Rattle.std.specs.Prelude.{Option, Some, None, MatchOption}
use Rattle.calendar.specs.Range.{between}
use Rattle.words.specs.Text.{has, BehindLast}

pub no_false : {A : Type 0} → true ≡ false → A
no_false e = let z : ◌≡◌ {A = ℕ} 0 1 = cc in absurd (omega arith)

pub either : (b : Bool) → (b ≡ true) ⊎ (b ≡ false)
either true = inl refl
either false = inr refl

pub neither : (a : Bool) {b : Bool} → (a || b) ≡ false → (a ≡ false) × (b ≡ false)
neither true h = no_false h
neither false h = (refl, h)

-- ---- bytes within bounds
unfoldable pub within : ℕ → ℕ → List ℕ → Bool
within low high [] = true
within low high (x ∷ s) = between low x high && within low high s

module _ (low high : ℕ) where
  pub within_at : (s : List ℕ) → within low high s ≡ true → (i : ℕ) → i < length s → (low ≤ get_or s i 0) × (get_or s i 0 ≤ high)
  unfolding within
  within_at [] e i h = absurd (omega arith)
  within_at (x ∷ s) e zero h = range low x high ((and-eq-true_iff (between low x high) (within low high s)).0 e).0
  within_at (x ∷ s) e (suc i) h = within_at s ((and-eq-true_iff (between low x high) (within low high s)).0 e).1 i (omega arith)

  pub within_lacks : (c : ℕ) (s : List ℕ) → c < low → within low high s ≡ true → has c s ≡ false
  unfolding has within
  within_lacks c [] h e = refl
  within_lacks c (x ∷ s) h e =
      let b = (and-eq-true_iff (between low x high) (within low high s)).0 e in
      let d = range low x high b.0 in
      rw (ne_eqb x c (omega arith)) (within_lacks c s h b.1)

-- ---- what a byte does not stand in
pub has_append : (c : ℕ) (a b : List ℕ) → has c a ≡ false → has c b ≡ false → has c (a ++ b) ≡ false
unfolding has
has_append c [] b ha hb = hb
has_append c (x ∷ a) b ha hb = let no = neither (eqb x c) ha in rw no.0 (has_append c a b no.1 hb)

pub has_here : (c : ℕ) (a b : List ℕ) → has c (a ++ c ∷ b) ≡ true
unfolding has
has_here c [] b = rw (eq-eqb c c refl)
has_here c (x ∷ a) b = rw (has_here c a b) (or-true (eqb x c))

-- bytes are cut behind the last c in one way
pub one_cut : (c : ℕ) (a b u v : List ℕ) → has c u ≡ false → has c v ≡ false → a ++ c ∷ u ≡ b ++ c ∷ v → (a ≡ b) × (u ≡ v)
one_cut c [] [] u v hu hv e = (refl, cc)
one_cut c [] (y ∷ b) u v hu hv e =
    let f : u ≡ b ++ c ∷ v = cc in
    no_false (sym (ap (has c) f ∙ has_here c b v) ∙ hu)
one_cut c (x ∷ a) [] u v hu hv e =
    let f : v ≡ a ++ c ∷ u = cc in
    no_false (sym (ap (has c) f ∙ has_here c a u) ∙ hv)
one_cut c (x ∷ a) (y ∷ b) u v hu hv e =
    let f : a ++ c ∷ u ≡ b ++ c ∷ v = cc in
    let h : x ≡ y = cc in
    let r = one_cut c a b u v hu hv f in
    (ap₂ (λ (z : ℕ) (l : List ℕ). z ∷ l) h r.0, r.1)

lacks : (c : ℕ) (s : List ℕ) → ((k : ℕ) → k < length s → get_or s k 0 ≡ c → ⊥) → has c s ≡ false
unfolding has
lacks c [] none = refl
lacks c (x ∷ s) none = rw (ne_eqb x c (none 0 (omega arith))) (lacks c s (λ k h. none (suc k) (omega arith)))

-- no byte of s from the place i on is c
abbrev pub NoneFrom : ℕ → List ℕ → ℕ → Type 0
NoneFrom c s i = (k : ℕ) → i ≤ k → k < length s → get_or s k 0 ≡ c → ⊥

lacks_from : (c : ℕ) (s : List ℕ) (i : ℕ) → NoneFrom c s i → has c (drop i s) ≡ false
lacks_from c s i none =
    let l = length-drop i s in
    lacks c (drop i s) (λ k h e. none (i + k) (omega arith) (omega arith) (sym (get_or-drop i s k 0) ∙ e))

-- where a search from the end has found r, and n is the place after it or the start
pub found_last : (c : ℕ) (s : List ℕ) (r : Option ℕ) {n : ℕ} → MatchOption r (n ≡ 0) (λ i. n ≡ i + 1)
    → MatchOption r (NoneFrom c s 0) (λ i. (i < length s) × (get_or s i 0 ≡ c) × NoneFrom c s (i + 1)) → BehindLast c s n
found_last c s None z none = rw z (record { inside = omega arith; behind = lacks_from c s 0 none; last = λ low. absurd (omega arith) })
found_last c s (Some i) {n} next found =
    let at : i ≡ n - 1 = omega arith in
    record { inside = omega (arith, found.0); behind = rw next (lacks_from c s (i + 1) found.2); last = λ low. rw at at found.1 }

module _ (c : ℕ) (s : List ℕ) (i : ℕ) (b : BehindLast c s i) where
  -- the bytes around the last c
  pub cut : 0 < i → take (i - 1) s ++ c ∷ drop i s ≡ s
  cut low =
      let inside = b.inside in
      let k : suc (i - 1) ≡ i = omega arith in
      sym (rw (k, b.last low) at (split_at s (i - 1) 0 (omega arith)))

  -- where the bytes are a c between others, of which those behind have none
  pub known_cut : (a u : List ℕ) → has c u ≡ false → a ++ c ∷ u ≡ s → (0 < i) × (a ≡ take (i - 1) s) × (u ≡ drop i s)
  known_cut a u h e =
      elim (dec_lt 0 i) [
        | yes low ↦
            let k = one_cut c a (take (i - 1) s) u (drop i s) h b.behind (e ∙ sym (cut low)) in
            (low, k.0, k.1)
        | no at_start ↦
            let z : i ≡ 0 = omega arith in
            no_false (sym (has_here c a u) ∙ ap (has c) e ∙ rw z at b.behind)
      ]

pub not_later : (c : ℕ) (s : List ℕ) (i j : ℕ) → BehindLast c s i → BehindLast c s j → i ≤ j
not_later c s i j b d =
    elim (dec_lt 0 i) [
      | yes low ↦
          let k = known_cut c s j d (take (i - 1) s) (drop i s) b.behind (cut c s i b low) in
          let count = sym (length-drop i s) ∙ ap length k.2 ∙ length-drop j s in
          omega (arith, b.inside, d.inside)
      | no at_start ↦ omega arith
    ]

-- ---- parts of bytes
-- what a slice from q on holds
pub rest : (q : ℕ) (s : List ℕ) → take (length s - q) (drop q s) ≡ drop q s
rest q s =
    let all = length-drop q s in
    take_all (length s - q) (drop q s) (omega arith)
