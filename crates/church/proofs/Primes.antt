-- Prime numbers, and what divides a power of a product of some and is divided by none of them.
use mathlib.Core.Bool.{Bool, true, ◌&&◌, ◌||◌}
use mathlib.Core.List.{List, [], ◌∷◌}
use mathlib.Core.Path.{◌≡◌, sym, ◌∙◌, ap}
use Prim.Native.Nat.{ℕ, zero, suc, ◌+◌, ◌*◌, ◌/◌, ◌%◌, ◌^◌, ◌<◌, ◌∣◌}
use native.Mathlib.Nat.{one-mul, mul_comm, mul_assoc, mul_left_comm, pow-zero, pow-succ', eq_of_mul-eq-mul_left, div-add-mod', mod-lt, mul-add-mod_self_right}
use native.Mathlib.Nat.{dvd-mul_right, mul-div_cancel', mod-eq-zero_of_dvd, dvd_of_mod-eq-zero, eq-one_of_dvd-one}
use native.Mathlib.Omega.{arith}
use lib.Dec.{T, ltb, eqb, ltb→lt, eqb→eq}
use borrow.Author.Tests.{ne_eqb}
use Rattle.calendar.proofs.Each.{each, below, T-both}
use Rattle.calendar.proofs.Table.{All, none, ◌also◌}

-- of two remainders by p whose product p divides one is 0
divides_one : ℕ → ℕ → ℕ → Bool
divides_one p a b = eqb a 0 || (ltb 0 (a * b % p) || eqb b 0)

-- a prime number by what it is used for: above 1, and dividing no product but where it divides a factor
unfoldable pub prime : ℕ → Bool
unfolding divides_one
prime p = ltb 1 p && each (λ a. each (divides_one p a) p) p

abbrev pub primes : List ℕ → Bool
primes [] = true
primes (p ∷ ps) = prime p && primes ps

abbrev pub product : List ℕ → ℕ
product [] = 1
product (p ∷ ps) = p * product ps

pub prime_above_0 : (p : ℕ) → T (prime p) → 0 < p
unfolding prime
prime_above_0 p t = omega (arith, ltb→lt 1 p (T-both (ltb 1 p) _ t).0)

-- a product's remainder is that of its factors' remainders
half_reduced : (a b p : ℕ) → a * b % p ≡ a % p * b % p
half_reduced a b p =
    let split : (a / p * p + a % p) * b ≡ a / p * b * p + a % p * b = omega arith in
    ap (λ (n : ℕ). n * b % p) (sym (div-add-mod' a p)) ∙ ap (λ (n : ℕ). n % p) split ∙ mul-add-mod_self_right (a / p * b) p (a % p * b)

reduced : (a b p : ℕ) → a * b % p ≡ a % p * (b % p) % p
reduced a b p = rw (half_reduced a b p, mul_comm (a % p) b, half_reduced b (a % p) p, mul_comm (b % p) (a % p))

-- a prime that divides a product, and not the one factor, divides the other
divides_other : (p a b : ℕ) → T (prime p) → (p ∣ a → ⊥) → p ∣ a * b → p ∣ b
unfolding prime divides_one
divides_other p a b t not_a d =
    let positive = prime_above_0 p t in
    let row = below (λ a. each (divides_one p a) p) p (T-both (ltb 1 p) _ t).1 (a % p) (mod-lt a positive) in
    let cell = below (divides_one p (a % p)) p row (b % p) (mod-lt b positive) in
    let not_0 = ne_eqb (a % p) 0 (λ e. not_a (dvd_of_mod-eq-zero p e)) in
    dvd_of_mod-eq-zero p (eqb→eq (b % p) 0 (rw (not_0, ← reduced a b p, mod-eq-zero_of_dvd p d) at cell))

-- a prime that does not divide q
abbrev pub Foreign : ℕ → ℕ → Type 0
Foreign q p = T (prime p) × (p ∣ q → ⊥)

module _ (q : ℕ) where
  without_prime : (p r : ℕ) → Foreign q p → q ∣ p * r → q ∣ r
  without_prime p r f d =
      let s = p * r / q in
      let whole : q * s ≡ p * r = mul-div_cancel' q d in
      let other = divides_other p q s f.0 f.1 (rw whole (dvd-mul_right p r)) in
      let parts : p * (q * (s / p)) ≡ p * r = mul_left_comm p q (s / p) ∙ ap (λ (n : ℕ). q * n) (mul-div_cancel' p other) ∙ whole in
      rw (eq_of_mul-eq-mul_left p (prime_above_0 p f.0) (q * (s / p)) r parts) at (dvd-mul_right q (s / p))

  without_primes : (ps : List ℕ) (r : ℕ) → All (Foreign q) ps → q ∣ product ps * r → q ∣ r
  without_primes [] r none d = rw one-mul at d
  without_primes (p ∷ ps) r (f also fs) d = without_primes ps r fs (without_prime p (product ps * r) f (rw mul_assoc at d))

  pub foreign_one : (ps : List ℕ) (n : ℕ) → All (Foreign q) ps → q ∣ product ps ^ n → q ≡ 1
  foreign_one ps zero fs d = eq-one_of_dvd-one (rw pow-zero at d)
  foreign_one ps (suc n) fs d = foreign_one ps n fs (without_primes ps (product ps ^ n) fs (rw pow-succ' at d))
