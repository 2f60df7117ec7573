-- Feast words and dates: each is told apart from all others, and neither has a space.
use mathlib.Core.Bool.{false}
use mathlib.Core.List.{List, ◌∷◌, ◌++◌}
use mathlib.Core.Logic.{◌⊎◌, ⊎_elim}
use mathlib.Core.Path.{◌≡◌, refl, sym, ◌∙◌, ap, ap₂}
use Prim.Native.Nat.{ℕ, ◌+◌, ◌<◌, ◌≤◌}
use native.Mathlib.Decide.{dec_lt}
use native.Mathlib.Numerals.{add-one}
use native.Mathlib.Omega.{arith}
use lib.ListN.{length, take, drop, get_or, length-append, get_or-append}
use lib.Seq.{drop-cons, drop_at, take_at, split_at, get_or-append_seam}
use Rattle.calendar.proofs.range.Laws.{in_range}
use Rattle.words.proofs.Told.{OneReading, number_told, number_untold}
use Rattle.words.proofs.numeral.Laws.{one_number, numeral_lacks, numeral_length, numeral_digits, two_digits}
use Rattle.words.proofs.text.Laws.{no_false, has_append, has_here, one_cut}
use Rattle.words.proofs.word.Laws.{feast_length, feast_first, feast_lacks_space, feast_lacks_point, one_feast}
use Rattle.calendar.specs.Date.{day_in_calendar, day_in_year}
use Rattle.church.specs.Feast.{feast_in_year}
use Rattle.words.specs.Numeral.{numeral, numerals}
use Rattle.words.specs.Text.{space, point, has}
use Rattle.words.specs.Told.{Told, produced, unproduced}
use Rattle.words.specs.Word.{feast_word, feast_words}
use Rattle.dating.specs.Anchor.{Anchor, feast, date, spell_anchor, GoodAnchor}
use Rattle.dating.specs.Steps.{anchors, anchor_day}
use Rattle.calendar.specs.declared.refusal.Refusal.TheVariants.{Form}
use Rattle.calendar.specs.declared.year.NamedYear.{NamedYear}
use Rattle.std.specs.Prelude.{Some, None, Result, Err}
use Rattle.calendar.specs.declared.refusal.Refusal.{Refusal}

-- ---- what stands in neither
pub lacks_space : (a : Anchor) → GoodAnchor a → has space (spell_anchor a) ≡ false
unfolding spell_anchor GoodAnchor has
lacks_space (feast f) g = feast_lacks_space f g.0 g.1
lacks_space (date d m) g =
    has_append space (numeral d) (point ∷ numeral m) (numeral_lacks space d (omega arith) g.0.0 (omega (arith, g)))
    (numeral_lacks space m (omega arith) g.1.0 (omega (arith, g)))

pub three_bytes : (a : Anchor) → GoodAnchor a → 3 ≤ length (spell_anchor a)
unfolding spell_anchor GoodAnchor
three_bytes (feast f) g = omega (arith, feast_length f g.0 g.1)
three_bytes (date d m) g =
    let all = length-append (numeral d) (point ∷ numeral m) in
    let day = (numeral_length d).0 in
    let month = (numeral_length m).0 in
    omega arith

-- ---- one reading
no_date : {A : Type 0} (f d m : ℕ) → 1 ≤ f → f ≤ 48 → feast_word f ≡ numeral d ++ point ∷ numeral m → A
no_date f d m low high e = no_false (sym (has_here point (numeral d) (numeral m)) ∙ sym (ap (has point) e) ∙ feast_lacks_point f low high)

pub one_anchor : OneReading anchors
unfolding spell_anchor GoodAnchor
one_anchor (feast f) (feast f') g g' e = ap feast (one_feast f f' g g' e)
one_anchor (feast f) (date d m) g g' e = no_date f d m g.0 g.1 e
one_anchor (date d m) (feast f) g g' e = no_date f d m g'.0 g'.1 (sym e)
one_anchor (date d m) (date d' m') g g' e =
    let k =
    one_cut point (numeral d) (numeral d') (numeral m) (numeral m') (numeral_lacks point m (omega arith) g.1.0 (omega (arith, g)))
    (numeral_lacks point m' (omega arith) g'.1.0 (omega (arith, g'))) e in
    ap₂ date (one_number d d' g.0.0 (omega (arith, g)) g'.0.0 (omega (arith, g')) k.0)
    (one_number m m' g.1.0 (omega (arith, g)) g'.1.0 (omega (arith, g')) k.1)

-- ---- what a feast word or date tells
-- the bytes s may be a date, with the point behind its day at the place e
pub record MayDate (s : List ℕ) (e : ℕ) : Type 0 where
  pub long : 3 ≤ length s
  pub low : get_or s 0 0 ≤ 57
  pub early : e < 3
  pub place : ((get_or s 1 0 ≡ point) × (e ≡ 1)) ⊎ ((get_or s 1 0 ≡ point → ⊥) × (e ≡ 2))

module _ (t : NamedYear) (s : List ℕ) where
  abbrev pub Tells : Result ℕ Refusal → Type 0
  Tells r = Told anchors (anchor_day t) (Err Form) s r

  -- a date is spelled s
  abbrev Dates : ℕ → ℕ → Type 0
  Dates d m = ((1 ≤ d) × (d ≤ 31)) × ((1 ≤ m) × (m ≤ 12)) × (numeral d ++ point ∷ numeral m ≡ s)

  no_anchor : ((f : ℕ) → 1 ≤ f → f ≤ 48 → feast_word f ≡ s → ⊥) → ((d m : ℕ) → Dates d m → ⊥) → Tells (Err Form)
  unfolding spell_anchor GoodAnchor
  no_anchor no_feast no_date = unproduced (λ a g e. neither a g e) refl
    where
      neither : (a : Anchor) → GoodAnchor a → spell_anchor a ≡ s → ⊥
      neither (feast f) g e = no_feast f g.0 g.1 e
      neither (date d m) g e = no_date d m (g.0, g.1, e)

  pub too_short : length s < 3 → Tells (Err Form)
  too_short h = unproduced (λ a g e. omega (arith, rw e at (three_bytes a g))) refl

  day_byte : (d m i : ℕ) → Dates d m → i < length (numeral d) → (48 ≤ get_or s i 0) × (get_or s i 0 ≤ 57)
  day_byte d m i k h =
      rw (← k.2, get_or-append (numeral d) (point ∷ numeral m) 0 i h) ((numeral_digits d k.0.0 (omega (arith, k.0))).digits i h)

  -- a first byte above the digits is a feast word's
  pub no_feast : Told feast_words Some None s None → 57 < get_or s 0 0 → Tells (Err Form)
  no_feast told high = no_anchor (number_untold told) (λ d m k. omega (arith, day_byte d m 0 k (numeral_length d).0))

  pub feast_told : (f : ℕ) → Told feast_words Some None s (Some f) → Tells (feast_in_year t f)
  unfolding spell_anchor GoodAnchor anchor_day feast_in_year
  feast_told f told =
      let n = number_told f told in
      produced (feast f) n.0 n.1 (rw (in_range 1 f 48 n.0.0 n.0.1))

  -- and any other a date's
  module _ (e : ℕ) (may : MayDate s e) where
    day_ends : (d m : ℕ) → Dates d m → length (numeral d) ≡ e
    day_ends d m k =
        let some = (numeral_length d).0 in
        let few = two_digits d (omega (arith, k.0)) in
        elim (dec_lt 1 (length (numeral d))) [
          | yes two ↦ ⊎_elim (λ p. omega (arith, p, day_byte d m 1 k two)) (λ p. omega (arith, p)) may.place
          | no one ↦
              let size : length (numeral d) ≡ 1 = omega arith in
              ⊎_elim (λ p. size ∙ sym p.1) (λ p. absurd (p.0 (rw (size, k.2) at (get_or-append_seam (numeral d) point (numeral m) 0)))) may.place
        ]

    date_cut : (d m : ℕ) → Dates d m → (numeral d ≡ take e s) × (get_or s e 0 ≡ point) × (numeral m ≡ drop (e + 1) s)
    date_cut d m k =
        let size = day_ends d m k in
        let behind : point ∷ numeral m ≡ get_or s e 0 ∷ drop (e + 1) s =
        sym (drop_at (numeral d) (point ∷ numeral m) e size) ∙ rw (k.2, add-one) (drop-cons s e 0 (omega arith)) in
        (sym (take_at (numeral d) (point ∷ numeral m) e size) ∙ rw k.2, cc, cc)

    undated : ((d m : ℕ) → Dates d m → ⊥) → Tells (Err Form)
    undated none = no_anchor (λ f least most q. omega (arith, rw q at (feast_first f least most))) none

    pub no_point : (get_or s e 0 ≡ point → ⊥) → Tells (Err Form)
    no_point n = undated (λ d m k. n (date_cut d m k).1)

    pub no_day : Told (numerals 31) Some None (take e s) None → Tells (Err Form)
    no_day told = undated (λ n m k. number_untold told n k.0.0 k.0.1 (date_cut n m k).0)

    pub no_month : Told (numerals 12) Some None (drop (e + 1) s) None → Tells (Err Form)
    no_month told = undated (λ d n k. number_untold told n k.1.0 k.1.1 (date_cut d n k).2)

    pub date_told : (d m : ℕ) → get_or s e 0 ≡ point → Told (numerals 31) Some None (take e s) (Some d)
        → Told (numerals 12) Some None (drop (e + 1) s) (Some m) → Tells (day_in_year t m d)
    unfolding spell_anchor GoodAnchor anchor_day day_in_calendar
    date_told d m p td tm =
        let nd = number_told d td in
        let nm = number_told m tm in
        let whole = rw p at (split_at s e 0 (omega arith)) in
        produced (date d m) (nd.0, nm.0) (rw (nd.1, nm.1, add-one) (sym whole)) refl
