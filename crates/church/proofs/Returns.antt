-- After how many years what the years have returns: after multiples, and after no others than those of the least such number.
use mathlib.Core.List.{List, [], ◌∷◌}
use mathlib.Core.Path.{◌≡◌, sym, ◌∙◌, ap}
use Prim.Native.Nat.{ℕ, zero, suc, ◌+◌, ◌*◌, ◌/◌, ◌%◌, ◌^◌, ◌≤◌, ◌∣◌}
use native.Mathlib.Nat.{add-zero, zero-mul, one-mul, div-add-mod', mod-lt, mul-div_cancel}
use native.Mathlib.Nat.{dvd_refl, dvd-zero, dvd_trans, dvd-mul_right, dvd-mod_iff, div-mul_cancel}
use native.Mathlib.Decide.{dec_lt}
use native.Mathlib.Omega.{arith}
use lib.Dec.{T}
use Rattle.calendar.proofs.Each.{T-both}
use Rattle.calendar.proofs.Table.{All, none, ◌also◌}
use Rattle.church.proofs.Primes.{prime, primes, product, prime_above_0, Foreign, foreign_one}
use Rattle.calendar.specs.Return.{ReturnsAfter, DiffersAfter}

-- a number by each of several
abbrev pub quotients : ℕ → List ℕ → List ℕ
quotients t [] = []
quotients t (p ∷ ps) = t / p ∷ quotients t ps

-- t by a divisor of t / g
by_divisor : (t g p : ℕ) → T (prime p) → g ∣ t → p ∣ t / g → t / p ≡ t / g / p * g
by_divisor t g p t_prime d e =
    let parts : t / g / p * p * g ≡ t / g / p * g * p = omega arith in
    let whole = ap (λ (n : ℕ). n * g) (div-mul_cancel p e) ∙ div-mul_cancel g d in
    ap (λ (n : ℕ). n / p) (sym whole ∙ parts) ∙ mul-div_cancel (t / g / p * g) (prime_above_0 p t_prime)

module _ {A : Type 0} (has : ℕ → A) where
  pub multiple : (k m : ℕ) → ReturnsAfter k has → ReturnsAfter (m * k) has
  multiple k zero r y h = rw (zero-mul, add-zero)
  multiple k (suc m) r y h =
      let e : y + suc m * k ≡ y + m * k + k = omega arith in
      rw e (r (y + m * k) (omega arith) ∙ multiple k m r y h)

  remainder : (a b : ℕ) → ReturnsAfter a has → ReturnsAfter b has → ReturnsAfter (a % b) has
  remainder a b r r' y h =
      let e : y + a % b + a / b * b ≡ y + a = omega (arith, div-add-mod' a b) in
      sym (multiple b (a / b) r' (y + a % b) (omega arith)) ∙ ap has e ∙ r y h

  -- it returns after a common divisor of two such numbers, which Euclid's remainders find
  record Common (a b : ℕ) : Type 0 where
    years : ℕ
    of_first : years ∣ a
    of_second : years ∣ b
    returns : ReturnsAfter years has

  common : (n a b : ℕ) → b ≤ n → ReturnsAfter a has → ReturnsAfter b has → Common a b
  common zero a b h r r' =
      let nothing : b ≡ 0 = omega arith in
      record { years = a; of_first = dvd_refl a; of_second = rw nothing (dvd-zero a); returns = r }
  common (suc n) a b h r r' =
      elim (dec_lt 0 b) [
        | yes some ↦
            let c = common n b (a % b) (omega (arith, mod-lt a some)) r' (remainder a b r r') in
            let of_a = (dvd-mod_iff c.years c.of_first).0 c.of_second in
            record { years = c.years; of_first = of_a; of_second = c.of_first; returns = c.returns }
        | no nothing ↦ common n a b (omega arith) r r'
      ]

  -- where it returns after g, a divisor of t, and not after t by one of some primes, none of these divides t / g
  foreign : (ps : List ℕ) (t g : ℕ) → T (primes ps) → g ∣ t → ReturnsAfter g has → All (λ k. DiffersAfter k has) (quotients t ps)
      → All (Foreign (t / g)) ps
  foreign [] t g tested d r none = none
  foreign (p ∷ ps) t g tested d r (differs also others) =
      let tests = T-both (prime p) (primes ps) tested in
      let again = multiple g (t / g / p) r differs.0 differs.1 in
      (tests.0, λ e. differs.2 (rw (by_divisor t g p tests.0 d e) again)) also foreign ps t g tests.1 d r others

  -- so where these are all primes of t, t divides every number of years after which it returns
  pub least : (ps : List ℕ) (n t : ℕ) → T (primes ps) → t ∣ product ps ^ n → ReturnsAfter t has → All (λ k. DiffersAfter k has) (quotients t ps)
      → (k : ℕ) → ReturnsAfter k has → t ∣ k
  least ps n t tested power r differs k r' =
      let c = common t k t (omega arith) r' r in
      let g = c.years in
      let whole : t / g * g ≡ t = div-mul_cancel g c.of_second in
      let of_power = dvd_trans (t / g) (rw whole at (dvd-mul_right (t / g) g)) power in
      let one = foreign_one (t / g) ps n (foreign ps t g tested c.of_second c.returns differs) of_power in
      rw (sym (one-mul g) ∙ ap (λ (n : ℕ). n * g) (sym one) ∙ whole) at c.of_first
