-- Feast words: each is of letters and has its slot alone.
use mathlib.Core.Bool.{Bool, true, false, ◌&&◌}
use mathlib.Core.List.{List, [], ◌∷◌, append-nil}
use mathlib.Core.Path.{◌≡◌, refl, sym, ◌∙◌, ap}
use Prim.Native.Nat.{ℕ, suc, ◌/◌, ◌%◌, ◌<◌, ◌≤◌}
use native.Mathlib.Omega.{arith}
use lib.Dec.{T, eqb}
use lib.ListN.{length, get_or}
use lib.Seq.{drop-length}
use Rattle.calendar.proofs.Each.{each}
use Rattle.words.proofs.Slots.{Bytes, Others, no_slot, worded, sized, letters, one_slot, is_it, not_it}
use Rattle.words.proofs.Tests.{every}
use Rattle.words.proofs.Told.{OneReading}
use Rattle.words.proofs.text.Laws.{within, within_at, within_lacks}
use Rattle.std.specs.Bool.{then_some}
use Rattle.std.specs.Prelude.{Some, None}
use Rattle.calendar.specs.Range.{between}
use Rattle.words.specs.Steps.{outer_of, inner_of, held, outer_in, inner_in, feast_slot}
use Rattle.words.specs.Text.{space, point, has}
use Rattle.words.specs.Told.{Told, produced, unproduced}
use Rattle.words.specs.Word.{feast_word, feast_words}

all_worded : T (each (λ k. every (worded feast_slot feast_word 48 97 (suc k))) 48)
unfolding worded held within between
all_worded = tt

-- the slots of the words, the last first
abbrev feast_keys : List ℕ
feast_keys =
    125 ∷ 124 ∷ 121 ∷ 111 ∷ 105 ∷ 104 ∷ 102 ∷ 101 ∷ 97 ∷ 95 ∷ 93 ∷ 89 ∷ 88 ∷ 87 ∷ 86 ∷ 84 ∷ 82 ∷ 79 ∷ 77 ∷ 75 ∷ 74 ∷ 70 ∷ 69 ∷ 63 ∷ 61
    ∷ 59 ∷ 54 ∷ 53 ∷ 51 ∷ 50 ∷ 49 ∷ 45 ∷ 44 ∷ 40 ∷ 38 ∷ 37 ∷ 35 ∷ 27 ∷ 21 ∷ 18 ∷ 16 ∷ 15 ∷ 13 ∷ 11 ∷ 10 ∷ 9 ∷ 8 ∷ 7 ∷ []

pub no_feast : (f : ℕ → ℕ) (i : ℕ) → Others feast_keys i → 0 ≡ held (λ k. feast_slot (feast_word k)) f 48 i
unfolding has
no_feast f i o = no_slot (λ k. feast_slot (feast_word k)) f 48 feast_keys tt i o

module _ (f : ℕ) (low : 1 ≤ f) (high : f ≤ 48) where
  pub feast_length : (4 ≤ length (feast_word f)) × (length (feast_word f) ≤ 12)
  feast_length = sized feast_slot feast_word 48 97 all_worded f (low, high)

  of_letters : within 97 122 (feast_word f) ≡ true
  of_letters = letters feast_slot feast_word 48 97 all_worded f (low, high)

  pub feast_first : 97 ≤ get_or (feast_word f) 0 0
  feast_first = (within_at 97 122 (feast_word f) of_letters 0 (omega (arith, feast_length))).0

pub feast_lacks : (c f : ℕ) → c < 97 → 1 ≤ f → f ≤ 48 → has c (feast_word f) ≡ false
feast_lacks c f h low high = within_lacks 97 122 c (feast_word f) h (of_letters f low high)

pub feast_lacks_space : (f : ℕ) → 1 ≤ f → f ≤ 48 → has space (feast_word f) ≡ false
feast_lacks_space f = feast_lacks space f (omega arith)

pub feast_lacks_point : (f : ℕ) → 1 ≤ f → f ≤ 48 → has point (feast_word f) ≡ false
feast_lacks_point f = feast_lacks point f (omega arith)

pub no_length : (s : List ℕ) → ((4 ≤ length s) × (length s ≤ 12) → ⊥) → Told feast_words Some None s None
no_length s h = unproduced (λ n g e. h (rw e at (feast_length n g.0 g.1))) refl

module _ (s : List ℕ) (bytes : Bytes s) (long : (4 ≤ length s) × (length s ≤ 12)) {o m : ℕ}
    (ho : o ≡ outer_in feast_slot feast_word 48 (feast_slot s)) (hm : m ≡ inner_in feast_slot feast_word 48 (feast_slot s))
    {r : Bool} (test : r ≡ (eqb (outer_of s (length s)) o && eqb (inner_of s (length s)) (m % 1099511627776))) where
  pub told_word : Told feast_words Some None s (then_some r (m / 1099511627776))
  told_word = go r refl
    where
      go : (b : Bool) → r ≡ b → Told feast_words Some None s (then_some b (m / 1099511627776))
      go true p =
          let k = is_it feast_slot feast_word 48 97 all_worded bytes (feast_slot s) (long.0, long.1, omega arith) ho hm test p in
          produced (m / 1099511627776) k.0 (rw (drop-length s, append-nil) at k.2) refl
      go false p =
          unproduced (λ n g e.
          not_it feast_slot feast_word 48 97 all_worded bytes (feast_slot s) (long.0, long.1, omega arith) ho hm test p n g
          (ap feast_slot (sym e)) (ap length (sym e)) [] (append-nil (feast_word n) ∙ e)) refl

pub one_feast : OneReading feast_words
one_feast n m g h e = one_slot feast_slot feast_word 48 97 all_worded n m g h (ap feast_slot e)
