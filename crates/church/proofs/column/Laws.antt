-- The column: the one day at which a year's epact stands.
use mathlib.Core.Bool.{Bool, true, false, ◌&&◌, ◌||◌, not, or-true, and-eq-true_iff}
use mathlib.Core.Path.{◌≡◌, refl, sym, subst}
use Prim.Native.Nat.{ℕ, ◌+◌, ◌-◌, ◌*◌, ◌%◌, ◌≤◌, ◌<◌}
use native.Mathlib.Omega.{arith}
use lib.Dec.{T, ltb, eqb, eqb→eq}
use borrow.Author.Tests.{eqb-true}
use Rattle.calendar.proofs.Each.{each, below, from_1, of_both, T-both, is_true}
use Rattle.calendar.proofs.range.Laws.{range}
use Rattle.church.proofs.epact.Laws.{golden_range, epact_small}
use Rattle.calendar.specs.Range.{between}
use Rattle.calendar.specs.Search.{first_of}
use Rattle.church.specs.Column.{stands, walk, luna}
use Rattle.church.specs.Epact.{golden, epact, arabic}
use Rattle.calendar.specs.declared.style.Calendar.TheVariants.{Julian, Gregorian}
use Rattle.calendar.specs.declared.style.Calendar.{Calendar}

-- a day at which one of the column's rules puts an epact
either : {A : Type 0} (a b : Bool) → (a ≡ true → A) → (b ≡ true → A) → a || b ≡ true → A
either true b f g h = f refl
either false b f g h = g h

placed : (a : Bool) (d k : ℕ) → a && eqb d k ≡ true → (a ≡ true) × (d ≡ k)
placed a d k h =
    let both = (and-eq-true_iff a (eqb d k)).0 h in
    (both.0, eqb-true d k both.1)

in_row : (e d first last k : ℕ) → 8 + last ≤ k → k ≤ 36 + first → between first e last && eqb d (k - e) ≡ true → (8 ≤ d) × (d ≤ 36)
in_row e d first last k low high h =
    let b = placed (between first e last) d (k - e) h in
    let r = range first e last b.0 in
    omega (arith, b.1)

-- an epact stands at days of the column only
in_column : (c : Calendar) (e : ℕ) (a : Bool) (d : ℕ) → stands c e a d ≡ true → (8 ≤ d) × (d ≤ 36)
unfolding stands
in_column Julian e a d =
    either _ _
    (in_row e d 1 26 34 (omega arith) (omega arith))
    (in_row e d 28 29 64 (omega arith) (omega arith))
in_column Gregorian e a d =
    either _ _
    (either _ _
    (either _ _
    (either _ _
    (in_row e d 0 23 31 (omega arith) (omega arith))
    (in_row e d 26 29 61 (omega arith) (omega arith)))
    (λ h. omega (arith, (placed (eqb e 25 && not a) d 36 h).1)))
    (λ h. omega (arith, (placed (eqb e 24) d 36 h).1)))
    (λ h. omega (arith, (placed (eqb e 25 && a) d 35 h).1))

-- the epacts, below 30, that a year can have
can_have : Calendar → ℕ → Bool → Bool
can_have Julian e a = between 1 e 26 || between 28 e 29
can_have Gregorian e a = not a || eqb e 25

only_25 : (a b : Bool) → not (a && b) || a ≡ true
only_25 true b = or-true (not b)
only_25 false b = refl

year_has : (c : Calendar) (y : ℕ) → T (can_have c (epact c y) (arabic c y))
unfolding can_have epact arabic between
year_has Julian y = from_1 (λ g. can_have Julian (11 * g % 30) false) 19 tt (golden y) (golden_range y)
year_has Gregorian y = subst T (sym (only_25 (eqb (epact Gregorian y) 25) (ltb 11 (golden y)))) tt

implies : Bool → Bool → Bool
implies a b = not a || b

follows : (a b : Bool) → T (implies a b) → T a → T b
unfolding implies
follows true b t h = t
follows false b t h = absurd h

-- the walk ends at a day of the column at which the epact stands, and it stands at no other
walk_test : Calendar → Bool → ℕ → Bool
walk_test c a e =
    implies (can_have c e a)
    (between 8 (walk c e a) 36 && (stands c e a (walk c e a) && each (λ i. implies (stands c e a (8 + i)) (eqb (8 + i) (walk c e a))) 29))

walk_tested : (c : Calendar) (a : Bool) (e : ℕ) → e < 30 → T (walk_test c a e)
unfolding walk_test implies can_have first_of stands between
walk_tested Julian a e h = of_both (walk_test Julian) 30 tt a e h
walk_tested Gregorian a e h = of_both (walk_test Gregorian) 30 tt a e h

pub record Walked (c : Calendar) (e : ℕ) (a : Bool) : Type 0 where
  pub low : 8 ≤ walk c e a
  pub high : walk c e a ≤ 36
  pub there : stands c e a (walk c e a) ≡ true
  pub once : (d : ℕ) → stands c e a d ≡ true → d ≡ walk c e a

pub walked : (c : Calendar) (y : ℕ) → Walked c (epact c y) (arabic c y)
unfolding walk_test
walked c y =
    let e = epact c y in
    let a = arabic c y in
    let p = walk c e a in
    let only : ℕ → Bool = λ i. implies (stands c e a (8 + i)) (eqb (8 + i) p) in
    let t = follows (can_have c e a) _ (walk_tested c a e (omega (arith, epact_small c y))) (year_has c y) in
    let t₁ = T-both (between 8 p 36) _ t in
    let t₂ = T-both (stands c e a p) (each only 29) t₁.1 in
    let r = range 8 p 36 (is_true _ t₁.0) in
    record {
      low = r.0;
      high = r.1;
      there = is_true _ t₂.0;
      once =
          λ d h.
          let column = in_column c e a d h in
          let day : 8 + (d - 8) ≡ d = omega arith in
          let g = below only 29 t₂.1 (d - 8) (omega arith) in
          eqb→eq d p (follows (stands c e a d) (eqb d p) (rw day at g) (rw h tt));
    }

pub luna_range : (c : Calendar) (y : ℕ) → (8 ≤ luna c y) × (luna c y ≤ 36)
unfolding luna
luna_range c y = ((walked c y).low, (walked c y).high)
