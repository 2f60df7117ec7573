-- Numerals: what they are made of, by tests that antt computes at each number, and how one grows by a digit.
use mathlib.Core.Bool.{Bool, true, false, ◌||◌, cond}
use mathlib.Core.List.{List, [], ◌∷◌, ◌++◌}
use mathlib.Core.Path.{◌≡◌, refl, sym, ◌∙◌, ap, subst}
use Prim.Native.Nat.{ℕ, zero, suc, ◌+◌, ◌-◌, ◌*◌, ◌/◌, ◌%◌, ◌<◌, ◌≤◌, min}
use native.Mathlib.Decide.{dec_lt}
use native.Mathlib.Numerals.{add-one}
use native.Mathlib.Omega.{arith}
use lib.Dec.{eqb, ltb, leb}
use lib.ListN.{length, take, drop, get_or, length-append}
use lib.Seq.{length-take-le, take_all, take-suc}
use borrow.Author.Tests.{eqb-true, ltb-true, lt-ltb, le-ltb}
use Rattle.words.proofs.Tests.{tested}
use Rattle.words.proofs.Told.{OneReading}
use Rattle.std.proofs.lemmas.Bool.{le-leb, lt-leb}
use Rattle.std.proofs.lemmas.Grind.{get_or_after_one}
use Rattle.words.proofs.text.Laws.{within, within_at, within_lacks, rest}
use Rattle.std.specs.Bool.{then_some}
use Rattle.std.specs.Prelude.{Some, None}
use Rattle.calendar.specs.Range.{between}
use Rattle.words.specs.Numeral.{digit, decimal, numeral, YearDigits, numerals}
use Rattle.words.specs.Text.{has}
use Rattle.words.specs.Told.{Told, produced, unproduced}

-- the number that a numeral stands for
value : ℕ → List ℕ → ℕ
value v [] = v
value v (x ∷ s) = value (10 * v + (x - 48)) s

-- what a numeral is made of: digits, the first no 0, three of them only up to 999, and it stands for its number
made : ℕ → List Bool
made n =
    let s = numeral n in
    within 48 57 s ∷ ltb 48 (get_or s 0 0) ∷ (ltb n 1000 || ltb 3 (length s)) ∷ eqb (value 0 s) n ∷ []

module _ (n : ℕ) (low : 1 ≤ n) (high : n ≤ 9999) where
  all_made : (i : ℕ) → get_or (made n) i true ≡ true
  unfolding made within value decimal between
  all_made i = tested made 9999 tt n low high i

  all_digits : within 48 57 (numeral n) ≡ true
  unfolding made
  all_digits = all_made 0

  stands_for : value 0 (numeral n) ≡ n
  unfolding made
  stands_for = eqb-true (value 0 (numeral n)) n (all_made 3)

  -- a numeral of at most three digits is of a number below 1000
  three_digits : length (numeral n) ≤ 3 → n ≤ 999
  unfolding made
  three_digits h =
      elim (dec_lt n 1000) [
        | yes l ↦ omega arith
        | no l ↦ absurd (omega (arith, ltb-true 3 (length (numeral n)) (rw (le-ltb n 1000 (omega arith)) at (all_made 2))))
      ]

pub one_number : (n m : ℕ) → 1 ≤ n → n ≤ 9999 → 1 ≤ m → m ≤ 9999 → numeral n ≡ numeral m → n ≡ m
one_number n m ln hn lm hm e = sym (stands_for n ln hn) ∙ ap (value 0) e ∙ stands_for m lm hm

pub one_numeral : (high : ℕ) → OneReading (numerals high)
one_numeral high n m g h e = one_number n m g.0 (omega (arith, g)) h.0 (omega (arith, h)) e

-- ---- a numeral grows by a digit
-- the numbers of up to suc k digits lie below it
tens : ℕ → ℕ
tens zero = 10
tens (suc k) = 10 * tens k

enough : (k n : ℕ) → n < tens k → decimal (suc k) n ≡ decimal k n
unfolding decimal tens
enough zero n h = rw (lt-ltb n 10 h)
enough (suc k) n h = rw (enough k (n / 10) (omega arith))

pub one_digit : (n : ℕ) → n ≤ 9 → numeral n ≡ digit n ∷ []
unfolding decimal
one_digit n h = rw (lt-ltb n 10 (omega arith))

pub more_digits : (n : ℕ) → 10 ≤ n → n ≤ 18446744073709551616 → numeral n ≡ numeral (n / 10) ++ digit (n % 10) ∷ []
unfolding decimal tens
more_digits n low high = rw (le-ltb n 10 low, ← enough 18 (n / 10) (omega arith))

grown : (n d : ℕ) → 1 ≤ n → n ≤ 999 → d ≤ 9 → numeral (10 * n + d) ≡ numeral n ++ digit d ∷ []
grown n d low high h =
    let q : (10 * n + d) / 10 ≡ n = omega arith in
    let r : (10 * n + d) % 10 ≡ d = omega arith in
    rw (q, r) at (more_digits (10 * n + d) (omega arith) (omega arith))

-- ---- how many digits a numeral has
-- 1 to suc k bytes
abbrev Counted : ℕ → List ℕ → Type 0
Counted k s = (1 ≤ length s) × (length s ≤ suc k)

decimal_length : (k n : ℕ) → Counted k (decimal k n)
unfolding decimal
decimal_length zero n = (omega arith, omega arith)
decimal_length (suc k) n = go (ltb n 10) (decimal_length k (n / 10))
  where
    go : (b : Bool) → Counted k (decimal k (n / 10)) → Counted (suc k) (cond b (digit n ∷ []) (decimal k (n / 10) ++ digit (n % 10) ∷ []))
    go true h = (omega arith, omega arith)
    go false h = let l = length-append (decimal k (n / 10)) (digit (n % 10) ∷ []) in (omega (arith, h), omega (arith, h))

pub numeral_length : (n : ℕ) → (1 ≤ length (numeral n)) × (length (numeral n) ≤ 20)
numeral_length n = decimal_length 19 n

pub more_length : (n : ℕ) → 10 ≤ n → n ≤ 18446744073709551616 → length (numeral n) ≡ length (numeral (n / 10)) + 1
more_length n low high = ap length (more_digits n low high) ∙ length-append (numeral (n / 10)) (digit (n % 10) ∷ [])

few_digits : (k n : ℕ) → n < tens k → n ≤ 18446744073709551616 → length (numeral n) ≤ suc k
unfolding tens
few_digits zero n h high = rw (one_digit n (omega arith)) (omega arith)
few_digits (suc k) n h high =
    elim (dec_lt n 10) [
      | yes l ↦ rw (one_digit n (omega arith)) (omega arith)
      | no l ↦
          let more = more_length n (omega arith) high in
          let less = few_digits k (n / 10) (omega arith) (omega arith) in
          omega arith
    ]

pub two_digits : (n : ℕ) → n ≤ 99 → length (numeral n) ≤ 2
unfolding tens
two_digits n h = few_digits 1 n (omega arith) (omega arith)

pub four_digits : (n : ℕ) → n ≤ 9999 → length (numeral n) ≤ 4
unfolding tens
four_digits n h = few_digits 3 n (omega arith) (omega arith)

pub five_digits : (n : ℕ) → n ≤ 99999 → length (numeral n) ≤ 5
unfolding tens
five_digits n h = few_digits 4 n (omega arith) (omega arith)

pub seven_digits : (n : ℕ) → n ≤ 9999999 → length (numeral n) ≤ 7
unfolding tens
seven_digits n h = few_digits 6 n (omega arith) (omega arith)

-- ---- reading, digit by digit
pub numeral_digits : (n : ℕ) → 1 ≤ n → n ≤ 9999 → YearDigits (numeral n)
unfolding made
numeral_digits n low high =
    let f = ltb-true 48 (get_or (numeral n) 0 0) (all_made n low high 1) in
    record { some = (numeral_length n).0; few = four_digits n high; digits = within_at 48 57 (numeral n) (all_digits n low high); first = λ e. omega arith }

pub no_numeral : (high : ℕ) (s : List ℕ) → (YearDigits s → ⊥) → Told (numerals high) Some None s None
no_numeral high s bad = unproduced (λ n g e. bad (subst YearDigits e (numeral_digits n g.0 (omega (arith, g))))) refl

-- a digit, from the one given on
abbrev pub Digit : ℕ → ℕ → Type 0
Digit least x = (digit least ≤ x) × (x ≤ digit 9)

pub first_digit : {s : List ℕ} → YearDigits s → Digit 1 (get_or s 0 0)
first_digit d = (omega (arith, d.first, d.digits 0 d.some), omega (arith, d.digits 0 d.some))

-- the first i of at most four bytes s are the numeral of n
pub record Sofar (s : List ℕ) (n i : ℕ) : Type 0 where
  pub few : length s ≤ 4
  pub inside : i ≤ length s
  pub low : 1 ≤ n
  pub high : n ≤ 9999
  pub is : numeral n ≡ take i s

-- and its value
abbrev pub Valued : ℕ → ℕ → ℕ → Type 0
Valued least x d = Digit least x × (d ≡ x - digit 0)

pub begun : (s : List ℕ) {d : ℕ} → 1 ≤ length s → length s ≤ 4 → Valued 1 (get_or s 0 0) d → Sofar s d 1
begun [] some few v = absurd (omega arith)
begun (x ∷ s) {d} some few v =
    let e : digit d ≡ x = omega arith in
    record { few = few; inside = some; low = omega arith; high = omega arith; is = one_digit d (omega arith) ∙ rw e }

module _ {s : List ℕ} {n i : ℕ} (p : Sofar s n i) where
  pub longer : {d : ℕ} → i < length s → Valued 0 (get_or s i 0) d → Sofar s (10 * n + d) (i + 1)
  longer {d} h v =
      let small = three_digits n p.low p.high (rw (p.is, length-take-le i s p.inside) (omega (arith, p.few))) in
      let e : digit d ≡ get_or s i 0 = omega arith in
      record {
        few = p.few;
        inside = omega arith;
        low = omega (arith, p.low);
        high = omega arith;
        is = grown n d p.low small (omega arith) ∙ rw (e, p.is, add-one, take-suc s i 0 h);
      }

  module _ (all : length s ≤ i) where
    pub whole : numeral n ≡ s
    whole = p.is ∙ take_all i s all

    read : (top : ℕ) → n ≤ top → Told (numerals top) Some None s (Some n)
    read top h = produced n (p.low, omega (arith, p.high)) whole refl

    above : (top : ℕ) → top < n → Told (numerals top) Some None s None
    above top h =
        unproduced (λ k g f. let same = one_number k n g.0 (omega (arith, g)) p.low p.high (f ∙ sym whole) in omega (arith, g)) refl

    -- the number is compared with a bound
    pub up_to : (high top : ℕ) → top ≤ high → (n ≤ high → n ≤ top) → Told (numerals top) Some None s (then_some (leb n high) n)
    up_to high top below fits =
        elim (dec_lt high n) [
          | yes h ↦ rw (lt-leb n high h) (above top (omega arith))
          | no h ↦ rw (le-leb n high (omega arith)) (read top (fits (omega arith)))
        ]

    pub short : {m : ℕ} → m ≡ n → n ≤ 99 → (high : ℕ) → Told (numerals (min high 99)) Some None s (then_some (leb m high) m)
    short e h high = rw e (up_to high (min high 99) (omega arith) (λ k. omega arith))

pub too_many : (high : ℕ) (s : List ℕ) → 2 < length s → Told (numerals (min high 99)) Some None s None
too_many high s h = unproduced (λ n g e. omega (arith, two_digits n (omega (arith, g)), ap length e)) refl

-- what a slice from the second byte on holds
pub after_first : (s : List ℕ) (i : ℕ) → get_or (take (length s - 1) (drop 1 s)) i 0 ≡ get_or s (i + 1) 0
after_first s i = rw (rest 1 s, get_or_after_one) (ap (λ (k : ℕ). get_or s k 0) (omega arith))

-- four digits, the first not 0
module _ (w x y z : ℕ) where
  pub no_four : (Digit 1 w × Digit 0 x × Digit 0 y × Digit 0 z → ⊥) → Told (numerals 9999) Some None (w ∷ x ∷ y ∷ z ∷ []) None
  no_four bad =
      no_numeral 9999 (w ∷ x ∷ y ∷ z ∷ []) (λ l. bad (first_digit l, l.digits 1 (omega arith), l.digits 2 (omega arith), l.digits 3 (omega arith)))

  pub four_read : {i j k l : ℕ} → Valued 1 w i → Valued 0 x j → Valued 0 y k → Valued 0 z l
      → Told (numerals 9999) Some None (w ∷ x ∷ y ∷ z ∷ []) (Some (1000 * i + 100 * j + 10 * k + l))
  four_read {i} {j} {k} {l} a b c d =
      let two = longer (begun (w ∷ x ∷ y ∷ z ∷ []) (omega arith) (omega arith) a) (omega arith) b in
      let all = longer (longer two (omega arith) c) (omega arith) d in
      let same : 1000 * i + 100 * j + 10 * k + l ≡ 10 * (10 * (10 * i + j) + k) + l = omega arith in
      rw same (read all (omega arith) 9999 all.high)

-- the first suc i of a year's digits are a numeral
pub digits_read : {s : List ℕ} → YearDigits s → (i : ℕ) → i < length s → (n : ℕ) × Sofar s n (i + 1)
digits_read {s} d zero h = (get_or s 0 0 - 48, begun s h d.few (first_digit d, refl))
digits_read {s} d (suc i) h =
    let k = digits_read d i (omega arith) in
    (10 * k.0 + (get_or s (suc i) 0 - 48), longer (rw add-one at k.1) h (d.digits (suc i) h, refl))

-- ---- what stands in no numeral
pub numeral_lacks : (c n : ℕ) → c < 48 → 1 ≤ n → n ≤ 9999 → has c (numeral n) ≡ false
numeral_lacks c n h low high = within_lacks 48 57 c (numeral n) h (all_digits n low high)
