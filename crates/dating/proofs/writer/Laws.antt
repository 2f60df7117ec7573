-- Bytes put into a buffer one behind the other, and what dates are made of.
use mathlib.Core.Bool.{true, false}
use mathlib.Core.List.{List, [], ◌∷◌, ◌++◌, append_assoc}
use mathlib.Core.Path.{◌≡◌, refl, sym, ◌∙◌, ap}
use Prim.Native.Nat.{ℕ, suc, ◌+◌, ◌-◌, ◌/◌, ◌%◌, ◌<◌, ◌≤◌}
use native.Mathlib.Decide.{dec_lt}
use native.Mathlib.Omega.{arith}
use lib.ListN.{length, set, length-append}
use lib.Seq.{sets, length-sets, set_comm, set-set}
use borrow.Author.Tests.{le-leb}
use Rattle.places.proofs.Bytes.{sets_both, sets_start}
use Rattle.calendar.proofs.date.Laws.{date_small, day_date, one_answer_in_calendar}
use Rattle.calendar.proofs.range.Laws.{in_range}
use Rattle.calendar.proofs.refusal.Laws.{both_checked}
use Rattle.words.proofs.numeral.Laws.{numeral_length, one_digit, more_digits, more_length, two_digits, four_digits}
use Rattle.dating.proofs.line.Laws.{line_length}
use Rattle.calendar.specs.Date.{day_in_calendar, day_in_year}
use Rattle.calendar.specs.Span.{in_span}
use Rattle.calendar.specs.Style.{style_letter, dates_by}
use Rattle.calendar.specs.Year.{named}
use Rattle.words.specs.Numeral.{digit, numeral, field}
use Rattle.words.specs.Text.{space, point, over}
use Rattle.words.specs.Told.{produced}
use Rattle.dating.specs.Anchor.{date, spell_anchor, GoodAnchor}
use Rattle.dating.specs.Line.{Line, ending, spell_line, GoodLine, line_day, fit, IsDayOfLine}
use Rattle.dating.specs.Phrase.{plain, spell_phrase, GoodPhrase, anchor_of, comes_to, stays_in, phrase_day}
use Rattle.dating.specs.Steps.{Put, PutsDate}
use Rattle.dating.specs.Writer.{date_text, IsDateText, write_tests, Refuses, Puts, WritesInStyle}
use Rattle.calendar.specs.declared.refusal.Refusal.{Refusal}
use Rattle.calendar.specs.declared.refusal.Refusal.TheVariants.{Span}
use Rattle.calendar.specs.declared.style.Style.{Style}
use Rattle.calendar.specs.declared.year.NamedYear.{NamedYear}
use Rattle.std.specs.Prelude.{Result, Ok, Err}
use Rattle.calendar.specs.declared.date.CalendarDate.{CalendarDate}
use Rattle.calendar.specs.Date as calendar

-- ---- bytes put at a place
-- the last byte may be put first
pub sets_last : (w s : List ℕ) (i c : ℕ) → sets (set s (i + length w) c) i w ≡ sets s i (w ++ c ∷ [])
sets_last [] s i c = let e : i + 0 ≡ i = omega arith in rw e
sets_last (x ∷ w) s i c =
    let e : i + suc (length w) ≡ suc i + length w = omega arith in
    let other : (suc i + length w ≡ i) → ⊥ = λ h. omega arith in
    rw (e, set_comm s (suc i + length w) i c x other) (sets_last w (set s i x) (suc i) c)

-- ---- a numeral, put from its last digit on
module _ (s : List ℕ) (at n : ℕ) where
  pub last_digit : 10 ≤ n → n ≤ 18446744073709551616
      → sets (set s (at + length (numeral n) - 1) (digit (n % 10))) at (numeral (n / 10)) ≡ sets s at (numeral n)
  last_digit low high =
      let more = more_length n low high in
      let e : at + length (numeral n) - 1 ≡ at + length (numeral (n / 10)) = omega arith in
      rw (e, more_digits n low high) (sets_last (numeral (n / 10)) s at (digit (n % 10)))

  pub first_digit : n ≤ 9 → set s at (digit n) ≡ sets s at (numeral n)
  first_digit h = rw (one_digit n h)

-- whether digits are left, by how many there are
pub digits_left : (n : ℕ) → 2 ≤ length (numeral n) → 10 ≤ n
digits_left n some =
    elim (dec_lt 9 n) [ yes large ↦ omega arith | no small ↦ let one = ap length (one_digit n (omega arith)) in absurd (omega arith) ]

pub digit_left : (n : ℕ) → n ≤ 18446744073709551616 → length (numeral n) ≤ 1 → n ≤ 9
digit_left n high few =
    elim (dec_lt 9 n) [
      | yes large ↦ let more = more_length n (omega arith) high in let rest = (numeral_length (n / 10)).0 in absurd (omega arith)
      | no small ↦ omega arith
    ]

-- ---- what is put step by step
module _ {s : List ℕ} {i : ℕ} {v b : List ℕ} {r : ℕ} (p : Put s i v b r) where
  pub put_on : {w d : List ℕ} {q : ℕ} → Put b r w d q → Put s i (v ++ w) d q
  put_on {w} {d} {q} n =
      let l = length-append v w in
      record {
        behind = omega (arith, p.behind, n.behind);
        bytes = n.bytes ∙ rw (p.bytes, p.behind) (sets_both v w s i);
      }

  pub put_length : length b ≡ length s
  put_length = ap length p.bytes ∙ length-sets s i v

pub put_byte : (s : List ℕ) (i c : ℕ) → Put s i (c ∷ []) (set s i c) (i + 1)
put_byte s i c = record { behind = refl; bytes = refl }

-- a number below 100, whose last digit is put over the tens where it is the only one
module _ (s : List ℕ) (i n c : ℕ) where
  pub one_digit_put : n < 10 → Put s i (field n c) (set (set (set s i (digit (n / 10))) i (digit (n % 10))) (i + 1) c) (i + 2)
  one_digit_put h =
      let d : n % 10 ≡ n = omega arith in let r : i + 2 ≡ i + 1 + 1 = omega arith in
      rw (set-set s i (digit (n / 10)) (digit (n % 10)), d, r, one_digit n (omega arith)) (put_on (put_byte s i _) (put_byte _ (i + 1) c))

  pub two_digits_put : 10 ≤ n → n ≤ 99 → Put s i (field n c) (set (set (set s i (digit (n / 10))) (i + 1) (digit (n % 10))) (i + 1 + 1) c) (i + 1 + 2)
  two_digits_put low high =
      let r : i + 1 + 2 ≡ i + 1 + 1 + 1 = omega arith in
      rw (r, more_digits n low (omega arith), one_digit (n / 10) (omega arith)) (put_on (put_on (put_byte s i _) (put_byte _ (i + 1) _)) (put_byte _ _ c))

-- ---- dates
module _ (t : NamedYear) (m d : ℕ) where
  abbrev letter : List ℕ
  letter = style_letter t.style ∷ []

  pub date_length : length (date_text t m d) ≡ length (field d point) + length (field m space) + length (field t.year space) + 1
  date_length =
      let a = length-append (field d point ++ field m space ++ field t.year space) letter in
      let b = length-append (field d point ++ field m space) (field t.year space) in
      let c = length-append (field d point) (field m space) in
      omega arith

  module _ {s a b c : List ℕ} {i j k l : ℕ} (p : Put s i (field d point) a j) (q : Put a j (field m space) b k)
      (r : Put b k (field t.year space) c l) where
    pub date_put : (x : ℕ) → x ≡ style_letter t.style → Put s i (date_text t m d) (set c l x) (l + 1)
    date_put x e = rw (← e) (put_on (put_on (put_on p q) r) (put_byte c l x))

pub field_length : (n c : ℕ) → length (field n c) ≡ length (numeral n) + 1
field_length n c = length-append (numeral n) (c ∷ [])

-- a date of the calendar has at most 12 bytes
pub twelve_bytes : (s : Style) (n y m d : ℕ) → day_in_year (named s y) m d ≡ Ok n → length (date_text (named s y) m d) ≤ 12
twelve_bytes s n y m d e =
    let small = date_small (dates_by s) n y m d e in
    let all = date_length (named s y) m d in
    let a = two_digits d (omega (arith, small.0)) in
    let b = two_digits m (omega (arith, small.1)) in
    let c = four_digits y small.2.1 in
    let fd = field_length d point in
    let fm = field_length m space in
    let fy = field_length y space in
    omega arith

pub text_length : (s : Style) (n : ℕ) (w : List ℕ) → IsDateText s n w → length w ≤ 12
text_length s n w t = rw t.text (twelve_bytes s n t.year t.month t.day t.is_date)

-- ---- the date of a day, put or refused
pub day_put : (s : Style) (n y m d : ℕ) {i r : ℕ} {before after : List ℕ} → day_in_year (named s y) m d ≡ Ok n
    → Put before i (date_text (named s y) m d) after r → PutsDate s n i before after r
day_put s n y m d e p = (date_text (named s y) m d, (record { year = y; month = m; day = d; is_date = e; text = refl }, p))

module _ (s : Style) (n : ℕ) (before : List ℕ) where
  module _ (room : 12 ≤ length before) where
    pub outside : (x : Refusal) → x ≡ Span → in_span (dates_by s) n ≡ false → WritesInStyle before before (Err x) s n
    outside x e out = rw (le-leb 12 (length before) room, out) (ap Err e, refl)

    pub written : (after : List ℕ) (r : ℕ) → in_span (dates_by s) n ≡ true → PutsDate s n 0 before after r → WritesInStyle before after (Ok r) s n
    written after r i h =
        let w = h.0 in
        let few = text_length s n w h.1.0 in
        rw (le-leb 12 (length before) room, i) (
          w,
          (h.1.0, (ap Ok (omega (arith, h.1.1.behind)), h.1.1.bytes ∙ sets_start w before (omega arith))),
        )

-- ---- one text for each day, which reads back as the day
pub one_text : (s : Style) (n : ℕ) (v w : List ℕ) → IsDateText s n v → IsDateText s n w → v ≡ w
one_text s n v w p q =
    let c = dates_by s in
    let same = one_answer_in_calendar c n (on p) (on q) (day_date c n _ _ _ p.is_date) (day_date c n _ _ _ q.is_date) in
    p.text ∙ ap text same ∙ sym q.text
  where
    on : {w : List ℕ} → IsDateText s n w → Result CalendarDate Refusal
    on t = Ok (calendar.date t.year t.month t.day)

    text : Result CalendarDate Refusal → List ℕ
    text (Ok t) = date_text (named s t.year) t.month t.day
    text (Err x) = []

-- the line of the grammar that a written date is
date_spelled : (t : NamedYear) (m d : ℕ) → numeral d ++ point ∷ numeral m ++ ending t ≡ date_text t m d
date_spelled t m d = simp (append_assoc {A = ℕ})

date_line : (s : Style) (n : ℕ) (w : List ℕ) → IsDateText s n w → (l : Line) × (GoodLine l × ((spell_line l ≡ w) × (line_day l ≡ Ok n)))
unfolding spell_line spell_phrase spell_anchor GoodPhrase GoodAnchor line_day phrase_day comes_to stays_in anchor_of day_in_calendar
date_line s n w t =
    let small = date_small (dates_by s) n t.year t.month t.day t.is_date in (
      record { phrase = plain (date t.day t.month); named = named s t.year },
      (record { phrase = (small.0, small.1); year = small.2 }, (date_spelled (named s t.year) t.month t.day ∙ sym t.text, t.is_date)),
    )

pub seven_bytes : (s : Style) (n : ℕ) (w : List ℕ) → IsDateText s n w → 7 ≤ length w
seven_bytes s n w t = let l = date_line s n w t in rw l.1.1.0 at (line_length l.0 l.1.0)

pub reads_back : (s : Style) (n : ℕ) (w : List ℕ) → IsDateText s n w → IsDayOfLine w (Ok n)
reads_back s n w t =
    let few = text_length s n w t in
    let some = seven_bytes s n w t in
    let l = date_line s n w t in
    fit (in_range 1 (length w) 120 (omega arith) (omega arith)) (produced l.0 l.1.0 l.1.1.0 (sym l.1.1.1))

-- ---- one result for each call
module _ (before a b : List ℕ) (r q : Result ℕ Refusal) where
  pub one_refusal : (x : Refusal) → Refuses before a r x → Refuses before b q x → (r ≡ q) × (a ≡ b)
  one_refusal x h g = (h.0 ∙ sym g.0, h.1 ∙ sym g.1)

  one_put : (s : Style) (n : ℕ) (v w : List ℕ) → IsDateText s n v → IsDateText s n w
      → Puts before a r v → Puts before b q w → (r ≡ q) × (a ≡ b)
  one_put s n v w p k h g =
      let same = one_text s n v w p k in
      (h.0 ∙ ap (λ (w : List ℕ). Ok (length w)) same ∙ sym g.0, h.1 ∙ ap (λ (w : List ℕ). over w before) same ∙ sym g.1)

  -- Any two results of the writer are one, in a style.
  pub one_writing_in_style : (s : Style) (n : ℕ) → WritesInStyle before a r s n → WritesInStyle before b q s n → (r ≡ q) × (a ≡ b)
  one_writing_in_style s n h g =
      both_checked (write_tests (length before) s n) one_refusal (λ p k. one_put s n p.0 k.0 p.1.0 k.1.0 p.1.1 k.1.1) h g
