-- The texts that tell readings of a line.
use mathlib.Core.Bool.{true}
use mathlib.Core.List.{List, [], ◌∷◌, ◌++◌}
use mathlib.Core.Path.{◌≡◌, refl, sym, ◌∙◌, ap}
use Prim.Native.Nat.{ℕ, ◌+◌, ◌-◌, ◌*◌, ◌<◌, ◌≤◌}
use native.Mathlib.Omega.{arith}
use lib.ListN.{length, set, length-append}
use borrow.Author.Tests.{le-leb}
use Rattle.calendar.proofs.date.Laws.{dated as Span-of}
use Rattle.calendar.proofs.refusal.Laws.{refusal_digit, no_day}
use Rattle.calendar.proofs.span.Laws.{span_small}
use Rattle.words.proofs.numeral.Laws.{one_digit, seven_digits}
use Rattle.dating.proofs.line.Laws.{one_answer, line_length, too_many, day_read}
use Rattle.dating.proofs.writer.Laws as writer_laws
use Rattle.dating.proofs.writer.Laws.{put_on, put_length, put_byte, field_length}
use Rattle.calendar.specs.Refusal.{refusal_number}
use Rattle.calendar.specs.Span.{in_span}
use Rattle.calendar.specs.Style.{dates_by}
use Rattle.calendar.specs.Weekday.{weekday}
use Rattle.words.specs.Numeral.{field}
use Rattle.words.specs.Text.{space}
use Rattle.dating.specs.Answer.{line_feed, day_fields, DatedText, refused_text, IsAnswer, dated, refused, PutsAnswer}
use Rattle.dating.specs.Steps.{Put, PutsDate, PutsDated, ReadFrom}
use Rattle.calendar.specs.declared.refusal.Refusal.TheVariants.{Length}
use Rattle.calendar.specs.declared.refusal.Refusal.{Refusal}
use Rattle.calendar.specs.declared.style.Calendar.{Calendar}
use Rattle.calendar.specs.declared.style.Style.{Style}
use Rattle.std.specs.Prelude.{Ok, Err}

-- ---- texts
digit_field : (n c : ℕ) → n ≤ 9 → length (field n c) ≡ 2
digit_field n c h = field_length n c ∙ rw (one_digit n h)

pub refused_length : (x : Refusal) → length (refused_text x) ≡ 2
refused_length x = digit_field (refusal_number x) line_feed (omega (arith, refusal_digit x))

-- ---- the text of a day
-- room for the fields before the date
module _ (c : Calendar) (n : ℕ) (h : in_span c n ≡ true) where
  pub fields_length : (length (field 0 space) + length (field n space) + length (field (weekday n) space) ≤ 12)
      × ((2 ≤ length (day_fields n)) × (length (day_fields n) ≤ 12))
  fields_length =
      let all = length-append (field 0 space ++ field n space) (field (weekday n) space) in
      let both = length-append (field 0 space) (field n space) in
      let zero = digit_field 0 space (omega arith) in
      let day = field_length n space in
      let seven = seven_digits n (omega (arith, span_small c n h)) in
      let on_weekday = digit_field (weekday n) space (omega arith) in
      (omega arith, (omega arith, omega arith))

module _ (s : Style) (n : ℕ) {before c d : List ℕ} {i j k : ℕ} (p : Put before i (day_fields n) c j) (q : PutsDate s n j c d k) where
  pub dated_put : PutsDated s n i before (set d k line_feed) (k + 1)
  dated_put =
      let w = q.0 in
      (day_fields n ++ w ++ line_feed ∷ [], ((w, (q.1.0, refl)), put_on (put_on p q.1.1) (put_byte d k line_feed)))

  -- room for the line feed
  pub feed_room : in_span (dates_by s) n ≡ true → i + 25 ≤ length before → k < length d
  feed_room h room =
      let head = (fields_length (dates_by s) n h).1 in
      let date = writer_laws.text_length s n q.0 q.1.0 in
      let same = put_length q.1.1 ∙ put_length p in
      omega (arith, p.behind, q.1.1.behind)

-- ---- the answer put where there is room for the longest
pub answered : (s : List ℕ) (i : ℕ) (before : List ℕ) {after : List ℕ} {r : ℕ} (t : List ℕ)
    → i + 25 ≤ length before → IsAnswer s t → Put before i t after r → PutsAnswer s i before after (r - i)
answered s i before t room answer p = rw (le-leb (i + 25) (length before) room) (t, (answer, (omega (arith, p.behind), p.bytes)))

-- the answer that tells the day of a line
pub dated_answer : (s t : List ℕ) (y : Style) (n k : ℕ) → ReadFrom s y n k → DatedText y n t → IsAnswer s t
dated_answer s t y n k r text = dated y n (day_read s y n k r) (r.line, (r.good, (r.spelled, r.style))) text

-- ---- how long an answer is
dated_length : (s : Style) (n : ℕ) (t : List ℕ) → DatedText s n t → (2 ≤ length t) × (length t ≤ 25)
dated_length s n t (w, (date, e)) =
    let all = ap length e in
    let front = length-append (day_fields n ++ w) (line_feed ∷ []) in
    let both = length-append (day_fields n) w in
    let head = (fields_length (dates_by s) n (Span-of (dates_by s) n date.year date.month date.day date.is_date).0).1 in
    let few = writer_laws.text_length s n w date in
    (omega arith, omega arith)

-- An answer has at most 25 bytes, at most four times the bytes of its line with the line feed, and at least 2.
pub answer_length : (s t : List ℕ) → IsAnswer s t → (length t ≤ 25) × (length t ≤ 4 * (length s + 1)) × (2 ≤ length t)
answer_length s t (refused x told text) = let two = ap length text ∙ refused_length x in (omega arith, omega arith, omega arith)
answer_length s t (dated y n told (l, (g, (e, is_style))) text) =
    let size = dated_length y n t text in
    let long = rw e at (line_length l g) in
    (size.1, omega (arith, size), size.0)

-- a line that is too long is answered as any other that is
pub overlong : (s u t : List ℕ) → 120 < length s → 120 < length u → IsAnswer s t → IsAnswer u t
overlong s u t h k (dated y n told of_style text) = no_day Length n (one_answer (Err Length) (Ok n) (too_many s h) told)
overlong s u t h k (refused x told text) =
    let same : Err x ≡ Err Length = one_answer (Err x) (Err Length) told (too_many s h) in
    let its : x ≡ Length = cc in
    refused Length (too_many u k) (text ∙ ap refused_text its)

-- ---- one text for each day
pub one_dated : (s : Style) (n : ℕ) (t u : List ℕ) → DatedText s n t → DatedText s n u → t ≡ u
one_dated s n t u (v, (h, e)) (w, (g, f)) = e ∙ ap (λ (x : List ℕ). day_fields n ++ x ++ line_feed ∷ []) (writer_laws.one_text s n v w h g) ∙ sym f
