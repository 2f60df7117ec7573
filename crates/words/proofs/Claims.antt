-- What holds of the words and numerals beyond the contracts of their calls.
use mathlib.Core.List.{List, ◌++◌}
use mathlib.Core.Logic.{◌↔◌}
use mathlib.Core.Path.{◌≡◌, refl, subst}
use Prim.Native.Nat.{ℕ, ◌-◌, ◌≤◌}
use native.Mathlib.Omega.{arith}
use lib.ListN.{length, drop}
use lib.Seq.{drop-append_seam}
use Rattle.words.proofs.Told.{one_told}
use Rattle.words.proofs.numeral.Laws.{one_numeral, numeral_digits, digits_read, whole}
use Rattle.words.proofs.text.Laws.{not_later}
use Rattle.words.proofs.word.Laws as word_laws
use Rattle.words.proofs.wrapper.Laws.{one_leading}
use Rattle.std.specs.Prelude.{Option, Some, None}
use Rattle.words.specs.Numeral.{numeral, YearDigits, numerals}
use Rattle.words.specs.Text.{BehindLast}
use Rattle.words.specs.Told.{Told, produced, unproduced}
use Rattle.words.specs.Word.{feast_words}
use Rattle.words.specs.Wrapper.{wrapper_words, GoodWrapper, leadings, lead}
use Rattle.words.specs.declared.wrapper.Lead.{Lead}
use Rattle.words.specs.declared.wrapper.Wrapper.{Wrapper}

-- Bytes are 1 to 4 digits, the first not 0, exactly when they are the numeral of a number from 1 to 9999.
pub year_digits : (s : List ℕ) → YearDigits s ↔ ((n : ℕ) × (((1 ≤ n) × (n ≤ 9999)) × (numeral n ≡ s)))
year_digits s = (
  λ d.
      let k = digits_read d (length s - 1) (omega (arith, d.some)) in
      (k.0, ((k.1.low, k.1.high), whole k.1 (omega arith))),
  λ k. subst YearDigits k.1.1 (numeral_digits k.0 k.1.0.0 k.1.0.1),
)

-- Bytes are the numeral of at most one number.
pub one_number : (high : ℕ) (s : List ℕ) (r q : Option ℕ) → Told (numerals high) Some None s r → Told (numerals high) Some None s q → r ≡ q
one_number high s r q h k = one_told (one_numeral high) r q h k

-- Bytes are the word of at most one feast.
pub one_feast : (s : List ℕ) (r q : Option ℕ) → Told feast_words Some None s r → Told feast_words Some None s q → r ≡ q
one_feast s r q h k = one_told word_laws.one_feast r q h k

-- A phrase begins with the words of at most one wrapper.
pub one_lead : (s : List ℕ) (r q : Option Lead) → Told leadings (λ x. Some (lead x)) None s r → Told leadings (λ x. Some (lead x)) None s q → r ≡ q
one_lead s r q h k = one_told one_leading r q h k

-- The words of the wrapper that a phrase is told to begin with stand at its start, and their number of bytes is told.
pub lead_stands : (s : List ℕ) (r : Lead) → Told leadings (λ x. Some (lead x)) None s (Some r)
    → (wrapper_words r.wrapper ++ drop r.length s ≡ s) × (r.length ≡ length (wrapper_words r.wrapper))
lead_stands s r (produced x g e m) =
    let same : r ≡ lead x = cc in
    rw (same, ← e) (rw (drop-append_seam (wrapper_words x.wrapper) x.rest), refl)
lead_stands s r (unproduced n m) = absurd (cc)

-- No wrapper is told exactly when no wrapper's words stand there.
pub lead_none : (s : List ℕ) (r : Option Lead) → Told leadings (λ x. Some (lead x)) None s r
    → (r ≡ None) ↔ ((w : Wrapper) (t : List ℕ) → GoodWrapper w → wrapper_words w ++ t ≡ s → ⊥)
lead_none s r (produced x g e m) = (λ z. absurd (cc), λ none. absurd (none x.wrapper x.rest g e))
lead_none s r (unproduced n m) = (λ z w t. n (record { wrapper = w; rest = t }), λ none. m)

-- Bytes have one place behind the last of a kind.
pub one_place : (c : ℕ) (s : List ℕ) (i j : ℕ) → BehindLast c s i → BehindLast c s j → i ≡ j
one_place c s i j h k = omega (arith, not_later c s i j h k, not_later c s j i k h)
