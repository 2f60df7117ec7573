-- What holds of the dating line, the writer and the answer as text beyond the contracts of their calls.
use mathlib.Core.Bool.{Bool, true, false, cond}
use mathlib.Core.List.{List}
use mathlib.Core.Logic.{◌↔◌, ◌⊎◌, inl, inr}
use mathlib.Core.Path.{◌≡◌, refl, sym, ap, ◌∙◌, subst}
use Prim.Native.Nat.{ℕ, ◌+◌, ◌<◌, ◌≤◌}
use native.Mathlib.Decide.{dec_lt}
use native.Mathlib.Omega.{arith}
use lib.Dec.{leb}
use lib.ListN.{length, take, drop}
use lib.Seq.{sets, take-append_seam}
use borrow.Author.Tests.{le-leb}
use denote.Ref.{Bor}
use Rattle.calendar.proofs.refusal.Laws.{refusal_digit, above, at_most, given, no_day, passed}
use Rattle.calendar.proofs.span.Laws.{span_small}
use Rattle.calendar.proofs.style.Laws.{by_number_lem, both_in, given_of_any}
use Rattle.church.proofs.feast.Laws.{in_table}
use Rattle.words.proofs.text.Laws.{no_false}
use Rattle.dating.proofs.anchor.Laws.{three_bytes}
use Rattle.dating.proofs.answer.Laws.{one_dated}
pub use Rattle.dating.proofs.answer.Laws.{answer_length}
use Rattle.dating.proofs.line.Laws.{line_map}
pub use Rattle.dating.proofs.line.Laws.{one_reading, one_answer}
use Rattle.dating.proofs.part.Laws.{anchor_good}
pub use Rattle.dating.proofs.part.Laws.{part_stands}
use Rattle.dating.proofs.phrase.Laws.{stays_last}
pub use Rattle.dating.proofs.phrase.Laws.{wrapper_acts}
use Rattle.dating.proofs.writer.Laws.{text_length, seven_bytes, reads_back, one_refusal}
pub use Rattle.dating.proofs.writer.Laws.{one_writing_in_style}
use Rattle.calendar.specs.Date.{day_in_calendar, day_in_year}
use Rattle.calendar.specs.Range.{between}
use Rattle.calendar.specs.Refusal.{refusal_number, Holds, Lowest, number_or_refusal}
use Rattle.calendar.specs.Span.{earliest, latest, in_span}
use Rattle.calendar.specs.Style.{style_number, dates_by, style_of, by_number}
use Rattle.church.specs.Feast.{feast_in_year}
use Rattle.words.specs.Numeral.{field}
use Rattle.words.specs.Told.{produced, unproduced}
use Rattle.dating.specs.Anchor.{feast, date}
use Rattle.dating.specs.Answer.{refused_text, IsAnswer, dated, refused, PutsText, PutsField, PutsAnswer}
use Rattle.dating.specs.Line.{Line, spell_line, GoodLine, line_day, length_fits, unfit, fit, IsDayOfLine, LineHolds, IsNumberOfLine}
use Rattle.dating.specs.Part.{anchor_part, line_part, Part, IsPart, PartOf}
use Rattle.dating.specs.Phrase.{plain, anchor_of, comes_to, stays_in, year_served, date_there, start_day, phrase_tests, phrase_day}
use Rattle.dating.specs.Writer.{IsDateText, write_tests, Refuses, Puts, Writes}
use Rattle.calendar.specs.declared.refusal.Refusal.TheVariants.{Length, Form}
use Rattle.calendar.specs.declared.refusal.Refusal.{Refusal}
use Rattle.calendar.specs.declared.style.Style.{Style}
use Rattle.calendar.specs.declared.year.NamedYear.{NamedYear}
use Rattle.std.specs.Prelude.{Result, Ok, Err}

-- Any two parts that may be handed out are the same bytes at the same place.
pub one_part : (x r q : Bor (List ℕ)) → PartOf x r → PartOf x q → (r.now ≡ q.now) × (r.ref_ptr ≡ q.ref_ptr)
one_part x r q h k =
    let same = one_answer h.part k.part h.is_part k.is_part in
    let offsets = h.offset ∙ ap (λ (p : Part). p.start + x.ref_ptr.1) same ∙ sym k.offset in
    let blocks = h.block ∙ sym k.block in
    (h.contents ∙ ap (λ (p : Part). p.text) same ∙ sym k.contents, λ i. (blocks i, offsets i))

-- The part of an accepted line is not empty.
pub part_some : (s : List ℕ) (n : ℕ) (p : Part) → IsDayOfLine s (Ok n) → IsPart s p → 1 ≤ length p.text
unfolding line_part
part_some s n p (unfit h m) part = no_day Length n (sym m)
part_some s n p (fit h (unproduced none m)) part = no_day Form n (sym m)
part_some s n p (fit h (produced l g e m)) part =
    let same : p ≡ anchor_part l.phrase = one_answer p (anchor_part l.phrase) part (fit h (produced l g e (rw (← m)))) in
    let some = three_bytes (anchor_of l.phrase) (anchor_good l.phrase g.phrase) in
    rw same (omega arith)

-- A phrase without wrappers is answered as the call for its feast, or for date to day.
pub plain_feast : (t : NamedYear) (f : ℕ) → between 1 f 48 ≡ true → phrase_day t (plain (feast f)) ≡ feast_in_year t f
unfolding phrase_day comes_to stays_in anchor_of
plain_feast t f e = sym (in_table t f e)

pub plain_date : (t : NamedYear) (d m : ℕ) → phrase_day t (plain (date d m)) ≡ day_in_year t m d
unfolding phrase_day comes_to stays_in anchor_of day_in_calendar
plain_date t d m = refl

-- The bytes s are a dating line that is accepted with the day n, part by part.
pub record Accepted (s : List ℕ) (n : ℕ) : Type 0 where
  -- they are 1 to 120
  pub fits : length_fits s ≡ true
  -- the grammar produces them
  pub line : Line
  pub good : GoodLine line
  pub spelled : spell_line line ≡ s
  -- the year is served for that feast or date
  pub year : year_served line.named line.phrase ≡ true
  -- the feast or date is a day of that year, and every day on the way lies in the span, its own too
  pub date : date_there line.named line.phrase ≡ true
  pub way : stays_in (dates_by line.named.style) line.phrase (start_day line.named line.phrase) ≡ true
  -- the answer is the day that the phrase comes to
  pub day : comes_to line.phrase (start_day line.named line.phrase) ≡ n

-- A line is answered by a day exactly when it is accepted with it.
pub accepted : (s : List ℕ) (n : ℕ) → IsDayOfLine s (Ok n) ↔ Accepted s n
unfolding line_day phrase_day
accepted s n =
    (forth, λ k. fit k.fits (produced k.line k.good k.spelled (sym (rw (k.year, k.date, k.way, k.day) refl))))
  where
    forth : IsDayOfLine s (Ok n) → Accepted s n
    forth (unfit b m) = no_day Length n (sym m)
    forth (fit b (unproduced none m)) = no_day Form n (sym m)
    forth (fit b (produced l g e m)) =
        let k = passed (phrase_tests l.named l.phrase) _ n (sym m) in
        record { fits = b; line = l; good = g; spelled = e; year = k.0.0; date = k.0.1.0; way = k.0.1.1.0; day = k.1 }

day_number_lem : (a : Result ℕ Refusal) (n : ℕ) → earliest ≤ n → n ≡ number_or_refusal a → Ok n ≡ a
day_number_lem (Ok m) n h e = ap Ok e
day_number_lem (Err x) n h e = absurd (omega (arith, refusal_digit x))

-- A line's one number is a day, which is a number from 1721424 on, exactly when the line is accepted with it.
pub accepted_number : (s : List ℕ) (n : ℕ) → earliest ≤ n → IsNumberOfLine s n ↔ Accepted s n
accepted_number s n h = (λ k. (accepted s n).0 (forth k), λ k. line_map number_or_refusal (Ok n) ((accepted s n).1 k))
  where
    forth : IsNumberOfLine s n → IsDayOfLine s (Ok n)
    forth (unfit b m) = unfit b (day_number_lem (Err Length) n h m)
    forth (fit b (unproduced none m)) = fit b (unproduced none (day_number_lem (Err Form) n h m))
    forth (fit b (produced l g e m)) = fit b (produced l g e (day_number_lem (line_day l) n h m))

-- the number of a line of the grammar, by its tests
by_tests : (l : Line) (n : ℕ) → n < earliest → (number_or_refusal (line_day l) ≡ n) ↔ Lowest (Holds (phrase_tests l.named l.phrase)) n
unfolding line_day phrase_day
by_tests l n low =
    let t = l.named in
    let p = l.phrase in
    given number_or_refusal Err (λ x. refl) n (Ok (comes_to p (start_day t p))) 0 (phrase_tests t p) tt
    (λ all e. omega (arith, span_small (dates_by t.style) _ (stays_last (dates_by t.style) p (start_day t p) all.1.1.0)))

-- the numbers that may hold of a line of the grammar, and of any bytes
later : (l : Line) (x : Refusal) → Holds (phrase_tests l.named l.phrase) x → (3 < refusal_number x) × (refusal_number x ≤ 6)
later l x h = let ts = phrase_tests l.named l.phrase in (above 3 ts x tt h, at_most 6 ts x tt h)

its_numbers : (s : List ℕ) (x : Refusal) → LineHolds s x → (2 ≤ refusal_number x) × (refusal_number x ≤ 6)
its_numbers s x (inl h) = rw (← h.0) (omega arith, omega arith)
its_numbers s x (inr (inl h)) = rw (← h.0) (omega arith, omega arith)
its_numbers s x (inr (inr (l, (g, (e, h))))) = let k = later l x h in (omega arith, k.1)

-- "The lowest number that holds is given, and none otherwise": a line is refused by n exactly when it is that.
pub line_refused : (s : List ℕ) (n : ℕ) → n < earliest → IsNumberOfLine s n ↔ Lowest (LineHolds s) n
line_refused s n low = (forth, λ k. back _ refl k k.refusal k.number k.holds)
  where
    forth : IsNumberOfLine s n → Lowest (LineHolds s) n
    forth (unfit b m) =
        record { refusal = Length; holds = inl (refl, b); number = sym m; lowest = λ x h. omega (arith, m, its_numbers s x h) }
    forth (fit b (unproduced none m)) = record { refusal = Form; holds = inr (inl (refl, none)); number = sym m; lowest = λ x h. first x h }
      where
        first : (x : Refusal) → LineHolds s x → n ≤ refusal_number x
        first x (inl h) = no_false (sym b ∙ h.1)
        first x (inr (inl h)) = rw (m, ← h.0) (omega arith)
        first x (inr (inr h)) = absurd (none h.0 h.1.0 h.1.1.0)
    forth (fit b (produced l g e m)) =
        let k = (by_tests l n low).0 (sym m) in
        record { refusal = k.refusal; holds = inr (inr (l, (g, (e, k.holds)))); number = k.number; lowest = λ x h. first k x h }
      where
        first : Lowest (Holds (phrase_tests l.named l.phrase)) n → (x : Refusal) → LineHolds s x → n ≤ refusal_number x
        first k x (inl h) = no_false (sym b ∙ h.1)
        first k x (inr (inl h)) = absurd (h.1 l g e)
        first k x (inr (inr (l', (g', (e', h))))) = let same = one_reading l' l g' g (e' ∙ sym e) in k.lowest x (rw same at h)

    back : (b : Bool) → length_fits s ≡ b → Lowest (LineHolds s) n → (x : Refusal) → refusal_number x ≡ n → LineHolds s x
        → IsNumberOfLine s n
    back b fits k x e (inl h) = unfit h.1 (rw (← e, ← h.0))
    back false fits k x e (inr (inl h)) = absurd (omega (arith, e, k.lowest Length (inl (refl, fits)), ap refusal_number h.0))
    back true fits k x e (inr (inl h)) = fit fits (unproduced h.1 (rw (← e, ← h.0)))
    back false fits k x e (inr (inr h)) = absurd (omega (arith, e, k.lowest Length (inl (refl, fits)), later h.0 x h.1.1.1))
    back true fits k x e (inr (inr (l, (g, (sp, h))))) =
        let first : Lowest (Holds (phrase_tests l.named l.phrase)) n =
        record { refusal = x; holds = h; number = e; lowest = λ y i. k.lowest y (inr (inr (l, (g, (sp, i))))) } in
        fit fits (produced l g sp (sym ((by_tests l n low).1 first)))

-- A line's number lies from 2 to 6, or is a day of a span.
pub line_numbers : (s : List ℕ) (n : ℕ) → IsNumberOfLine s n → ((2 ≤ n) × (n ≤ 6)) ⊎ ((earliest ≤ n) × (n ≤ latest))
line_numbers s n h =
    elim (dec_lt n earliest) [
      | yes low ↦ let k = (line_refused s n low).0 h in inl (rw k.number at (its_numbers s k.refusal k.holds))
      | no high ↦
          let k = (accepted_number s n (omega arith)).0 h in
          inr (rw k.day at (span_small (dates_by k.line.named.style) _ (stays_last (dates_by k.line.named.style) k.line.phrase _ k.way)))
    ]

-- Any two results of the writer are one: the same answer, and the same bytes in the buffer; in a style `one_writing_in_style`.
pub one_writing : (k n : ℕ) (before a b : List ℕ) (r q : Result ℕ Refusal) → Writes before a r k n → Writes before b q k n → (r ≡ q) × (a ≡ b)
one_writing k n before a b r q h g = both_in (style_of k) (λ s. one_writing_in_style before a b r q s n) (one_refusal before a b r q) h g

-- "The lowest number that holds is given, and none otherwise": the writer is refused by j exactly when it is that.
pub write_refused : (k n j : ℕ) (before after : List ℕ) (r : Result ℕ Refusal) → j < 7 → Writes before after r k n
    → (number_or_refusal r ≡ j) ↔ Lowest (Holds (by_number (λ s. write_tests (length before) s n) k)) j
write_refused k n j before after r small h =
    given_of_any (Refuses before after r) (λ s. (w : List ℕ) × (IsDateText s n w × Puts before after r w)) (number_or_refusal r)
    (λ x h. ap number_or_refusal h.0) j (λ s. write_tests (length before) s n) (λ s. tt)
    (λ s h e. omega (arith, ap number_or_refusal h.1.1.0, seven_bytes s n h.0 h.1.0)) k h

-- A date is written with 7 to 12 bytes, so that the number of bytes is no refusal's.
pub written_bytes : (s : Style) (n : ℕ) (w : List ℕ) → IsDateText s n w → (7 ≤ length w) × (length w ≤ 12)
written_bytes s n w t = (seven_bytes s n w t, text_length s n w t)

-- Every day of a style's span is written where the buffer has 12 bytes, and the bytes written, read as a dating line, give the same day.
pub read_back : (s : Style) (n : ℕ) (before after : List ℕ) (r : Result ℕ Refusal) → 12 ≤ length before → in_span (dates_by s) n ≡ true
    → Writes before after r (style_number s) n → (c : ℕ) × ((r ≡ Ok c) × IsDayOfLine (take c after) (Ok n))
read_back s n before after r room i h = go (rw (by_number_lem s, le-leb 12 (length before) room, i) at h)
  where
    go : (w : List ℕ) × (IsDateText s n w × Puts before after r w) → (c : ℕ) × ((r ≡ Ok c) × IsDayOfLine (take c after) (Ok n))
    go k =
        let written = ap (take (length k.0)) k.1.1.1 ∙ take-append_seam k.0 (drop (length k.0) before) in
        (length k.0, (k.1.1.0, subst (λ (x : List ℕ). IsDayOfLine x (Ok n)) (sym written) (reads_back s n k.0 k.1.0)))

-- A line has no two answers as text.
pub one_text : (s t u : List ℕ) → IsAnswer s t → IsAnswer s u → t ≡ u
one_text s t u (refused x h p) (refused x' h' q) =
    let same = one_answer (Err x) (Err x') h h' in
    let its : x ≡ x' = cc in
    p ∙ ap refused_text its ∙ sym q
one_text s t u (refused x h p) (dated y n h' k q) = no_day x n (one_answer (Err x) (Ok n) h h')
one_text s t u (dated y n h k p) (refused x h' q) = no_day x n (one_answer (Err x) (Ok n) h' h)
one_text s t u (dated y n h (l, (g, (e, st))) p) (dated y' n' h' (l', (g', (e', st'))) q) =
    let same = one_answer (Ok n) (Ok n') h h' in
    let day : n ≡ n' = cc in
    let style : y ≡ y' = sym st ∙ ap (λ (l : Line). l.named.style) (one_reading l l' g g' (e ∙ sym e')) ∙ st' in
    one_dated y' n' t u (rw (style, day) at p) q

-- Any two results of putting a line's answer are one: the same length, and the same bytes in the buffer.
pub one_putting : (s : List ℕ) (i : ℕ) (before a b : List ℕ) (r q : ℕ)
    → PutsAnswer s i before a r → PutsAnswer s i before b q → (r ≡ q) × (a ≡ b)
one_putting s i before a b r q h g = go (leb (i + 25) (length before)) h g
  where
    go : (c : Bool) → cond c ((t : List ℕ) × (IsAnswer s t × PutsText i before a r t)) ((r ≡ 0) × (a ≡ before))
        → cond c ((t : List ℕ) × (IsAnswer s t × PutsText i before b q t)) ((q ≡ 0) × (b ≡ before)) → (r ≡ q) × (a ≡ b)
    go false h g = (h.0 ∙ sym g.0, h.1 ∙ sym g.1)
    go true (t, (p, h)) (u, (k, g)) =
        let same = one_text s t u p k in
        (h.0 ∙ ap length same ∙ sym g.0, h.1 ∙ ap (sets before i) same ∙ sym g.1)

-- Any two results of putting a number and a byte are one: the same length, and the same bytes in the buffer.
pub one_field : (n c i : ℕ) (before after then : List ℕ) (r q : ℕ) → PutsField n c i before after r → PutsField n c i before then q
    → (r ≡ q) × (after ≡ then)
one_field n c i before after then r q h k = go (leb (i + 21) (length before)) h k
  where
    go : (b : Bool) → cond b (PutsText i before after r (field n c)) ((r ≡ 0) × (after ≡ before))
        → cond b (PutsText i before then q (field n c)) ((q ≡ 0) × (then ≡ before)) → (r ≡ q) × (after ≡ then)
    go true h k = (h.0 ∙ sym k.0, h.1 ∙ sym k.1)
    go false h k = (h.0 ∙ sym k.0, h.1 ∙ sym k.1)

-- Putting a line's answer is answered by 0 exactly where fewer than 25 bytes stand at the place.
pub zero_no_room : (s : List ℕ) (i : ℕ) (before after : List ℕ) (r : ℕ) → PutsAnswer s i before after r
    → (r ≡ 0) ↔ (leb (i + 25) (length before) ≡ false)
zero_no_room s i before after r h = go (leb (i + 25) (length before)) h
  where
    go : (c : Bool) → cond c ((t : List ℕ) × (IsAnswer s t × PutsText i before after r t)) ((r ≡ 0) × (after ≡ before))
        → (r ≡ 0) ↔ (c ≡ false)
    go false h = (λ z. refl, λ f. h.0)
    go true (t, (told, put)) =
        let some = (answer_length s t told).2 in
        (λ z. absurd (omega (arith, put.0)), λ f. no_false f)
